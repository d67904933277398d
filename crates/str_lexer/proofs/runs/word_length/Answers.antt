use Rattle.std.proofs.Common.{arith, sym, ◌∙◌, ap, ◌≡◌, true, drop}
use Rattle.str_lexer.specs.Tokens.{goes_on}
use Rattle.str_lexer.proofs.RunLaws.{run_more, whole_rest}
use Rattle.str_lexer.proofs.runs.word_length.Goals as goal

pub loop-index-preserved : goal.loop-index-preserved
loop-index-preserved c =
    let r : c.goes_on.result ≡ true = grind arith in
    let e : goes_on (drop c.loop-index.index c.args.text.now) ≡ true =
    ap goes_on (sym (whole_rest c.args.text.now c.loop-index.index)) ∙ sym c.goes_on.ensures ∙ r in
    run_more goes_on _ _ _ (omega arith) e c.loop-index.invariant
