use Rattle.str_parser.proofs.WayLaws.{syntax_fault}
use Rattle.str_parser.proofs.PhraseLaws.{refused, made, at_made}
use Rattle.str_parser.proofs.TypeLaws.{at_factors, after_arrow, missing_arrow, found_plain}
use Rattle.str_parser.proofs.sorts.sort_type.Goals as goal

pub returns-in_err-parts : goal.returns-in_err-parts
returns-in_err-parts c = refused (at_factors _) _ _ _ c.from_residual.ensures.1 c.in_err-parts.ensures

pub returns-in_err-made : goal.returns-in_err-made
returns-in_err-made c =
    let f = rw c.in-Some.ensures at c.in_ok-parts.ensures in
    refused (at_made (after_arrow f)) _ _ _ c.from_residual-in_err-made.ensures.1 c.in_err-made.ensures

pub returns-in-Some : goal.returns-in-Some
returns-in-Some c =
    let f = rw c.in-Some.ensures at c.in_ok-parts.ensures in
    made (after_arrow f) c.in_ok-made.ensures

pub returns-in_default-sole : goal.returns-in_default-sole
returns-in_default-sole c = syntax_fault _ c.syntax.ensures
    (missing_arrow c.in_ok-parts.ensures c.in_default.ensures c.in_default-sole.ensures)

pub returns : goal.returns
returns c = found_plain c.in_ok-parts.ensures c.in_default.ensures _ c.in-Some-sole.ensures
