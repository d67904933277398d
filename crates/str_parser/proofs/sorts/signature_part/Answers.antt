use Rattle.str_parser.proofs.PhraseLaws.{refused, at_made}
use Rattle.str_parser.proofs.DeclarationLists.{sorts_part, constructors_part}
use Rattle.str_parser.proofs.sorts.signature_part.Goals as goal

pub returns-in_err-found : goal.returns-in_err-found
returns-in_err-found c =
    rw c.in-Some.ensures (refused (at_made sorts_part) _ _ _ c.from_residual.ensures.1 c.in_err-found.ensures)

pub returns-in_err-found-2 : goal.returns-in_err-found-2
returns-in_err-found-2 c = rw c.in-Some-after_keyword.ensures (refused (at_made constructors_part)
    _ _ _ c.from_residual-in_err-found-2.ensures.1 c.in_err-found-2.ensures)
