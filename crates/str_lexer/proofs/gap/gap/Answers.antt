use Rattle.std.proofs.Common.{◌∷◌, ◌∙◌, ap, sym}
use Rattle.str_lexer.proofs.RunLaws.{whole_rest}
use Rattle.str_lexer.proofs.GapLaws.{found_blank, found_line, comment_read}
use Rattle.str_lexer.proofs.gap.gap.Goals as goal

pub returns-then-is_blank_byte : goal.returns-then-is_blank_byte
returns-then-is_blank_byte c = found_blank _ _ _ c.in_ok-first.ensures.cases.0 (sym c.is_blank_byte.ensures ∙
    c.if-is_blank_byte.true)

pub returns-then-second-eq47 : goal.returns-then-second-eq47
returns-then-second-eq47 c =
    let e = c.in_ok-first.ensures.cases.0 ∙ ap (λ b. b ∷ c.in_ok-first.others.now) c.if-first-ne47.false ∙
    ap (λ x. 47 ∷ x) (c.in_ok-second.ensures.cases.0 ∙
    ap (λ b. b ∷ c.in_ok-second.inner.now) c.if-second-eq47.true) in
    rw (whole_rest c.in_ok-second.inner.now c.line_length.result) (found_line _ _ _ e c.line_length.ensures.counts)

pub returns : goal.returns
returns c =
    let e = c.in_ok-first.ensures.cases.0 ∙ ap (λ b. b ∷ c.in_ok-first.others.now) c.if-first-ne47.false ∙
    ap (λ x. 47 ∷ x) (c.in_ok-second.ensures.cases.0 ∙
    ap (λ b. b ∷ c.in_ok-second.inner.now) c.if-second-ne42.false) in
    comment_read _ _ _ e c.after_comment.ensures
