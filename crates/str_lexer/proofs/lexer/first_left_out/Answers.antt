use Rattle.std.proofs.Common.{sym, ◌∙◌}
use Rattle.str_lexer.proofs.SearchLaws.{held_before, held_last, none_held}
use Rattle.str_lexer.proofs.lexer.first_left_out.Goals as goal

pub returns-in-Some : goal.returns-in-Some
returns-in-Some c = λ ts h. held_before ts _ (rw c.in-Some.is at h)

pub returns-in-None : goal.returns-in-None
returns-in-None c = λ ts h. held_last ts _ (sym c.is_left_out.ensures ∙ c.if-is_left_out.true)

pub returns-in-None-2 : goal.returns-in-None-2
returns-in-None-2 c = λ ts h. none_held ts _ (rw c.in-None-2.is at h) (sym c.is_left_out.ensures ∙
    c.if-is_left_out.false)
