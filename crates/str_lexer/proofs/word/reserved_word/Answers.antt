use Rattle.std.proofs.Common.{◌<◌, arith, ap, ◌∙◌}
use Rattle.str_lexer.specs.Words.{reserved_bytes}
use Rattle.str_lexer.proofs.word.reserved_word.Goals as goal

pub returns : goal.returns
returns c = λ r e.
    let p = c.beginning_with-reserved-items.ensures r _ (e ∙ c.in_ok-first.ensures.cases.0) in
    let h : p.0 < c.loop-reserved.reserved-index = omega (arith, p.1) in
    c.loop-reserved.invariant p.0 h (ap reserved_bytes p.2 ∙ e)
