use Rattle.std.proofs.Common.{sym}
use Rattle.str_parser.proofs.PhraseLaws.{refused, made, at_made}
use Rattle.str_parser.proofs.DeclarationLaws.{declares}
use Rattle.str_parser.proofs.sorts.declaration.Goals as goal

pub returns-in_err-found : goal.returns-in_err-found
returns-in_err-found c = rw (c.in-Some-first_name.ensures, c.in-Some-after.ensures)
    (refused (at_made (declares _ _ (sym c.if-not-is_constructor.ensures)))
    _ _ _ c.from_residual-in_err-found.ensures.1 c.in_err-found.ensures)

pub returns-in-Plain : goal.returns-in-Plain
returns-in-Plain c =
    let f = rw c.in-Plain.is at c.in_ok-found.ensures in
    rw (c.in_ok-name.ensures, c.in-Some-first_name.ensures, c.in-Some-after.ensures)
    (made (declares _ _ (sym c.if-not-is_constructor.ensures)) f)

pub returns-in-Mapping : goal.returns-in-Mapping
returns-in-Mapping c =
    let f = rw c.in-Mapping.is at c.in_ok-found.ensures in
    rw (c.in_ok-name.ensures, c.in-Some-first_name.ensures, c.in-Some-after.ensures)
    (made (declares _ _ (sym c.if-not-is_constructor.ensures)) f)
