use Rattle.std.proofs.Common.{sym, arith, ◌∙◌, ap, ◌∷◌}
use Rattle.str_lexer.proofs.QuotedLaws.{found_octal}
use Rattle.str_lexer.proofs.quoted.octal.Goals as goal

pub returns : goal.returns
returns c =
    let x = c.in_ok-high.ensures.cases.0 ∙
    ap (λ r. c.in_ok-high.high.now ∷ r) (c.in_ok-middle.ensures.cases.0 ∙
    ap (λ r. c.in_ok-middle.middle.now ∷ r) c.in_ok-low.ensures.cases.0) in
    found_octal _ _ _ _ _ x (omega arith) (sym c.is_octal_byte.ensures ∙
    c.if-not-is_octal_byte.false) (sym c.is_octal_byte-2.ensures ∙
    c.if-not-is_octal_byte-2.false) (sym c.is_octal_byte-else-not-is_octal_byte-2.ensures ∙
    c.if-not-is_octal_byte-3.false)
