use Rattle.std.proofs.Common.{arith, sym, ◌∙◌, ap}
use Rattle.std.proofs.lemmas.List.{drop_more}
use Rattle.str_lexer.specs.Tokens.{stays_in_comment}
use Rattle.str_lexer.proofs.RunLaws.{run_more, whole_rest}
use Rattle.str_lexer.proofs.GapLaws.{close_found, close_missing, goes_inside}
use Rattle.str_lexer.proofs.runs.after_comment.Goals as goal

pub loop-index-preserved : goal.loop-index-preserved
loop-index-preserved c =
    let w = whole_rest c.args.text.now c.loop-index.index in
    let k = goes_inside _ _ _ _ (w ∙
    drop_more c.args.text.now c.loop-index.index 0 c.loop-index-test.true) c.in_default.is c.after_close.ensures in
    run_more stays_in_comment _ _ _ c.loop-index-test.true (ap stays_in_comment (sym w) ∙ k) c.loop-index.invariant

pub returns-in-loop-index : goal.returns-in-loop-index
returns-in-loop-index c = close_found _ _ _ c.loop-index.invariant
    (sym (whole_rest c.args.text.now c.loop-index.index) ∙ c.in-Some.ensures)

pub returns : goal.returns
returns c = close_missing _ _ (omega arith) c.loop-index.invariant
