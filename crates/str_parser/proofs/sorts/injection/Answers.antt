use Rattle.str_parser.proofs.WayLaws.{syntax_fault}
use Rattle.str_parser.proofs.PhraseLaws.{refused}
use Rattle.str_parser.proofs.DeclarationLaws.{found_injection, missing_plain, at_injection}
use Rattle.str_parser.proofs.sorts.injection.Goals as goal

pub returns-in_err-found : goal.returns-in_err-found
returns-in_err-found c = refused at_injection _ _ _ c.from_residual.ensures.1 c.in_err-found.ensures

pub returns-in-Plain : goal.returns-in-Plain
returns-in-Plain c =
    let f = rw c.in-Plain.is at c.in_ok-found.ensures in
    syntax_fault _ c.syntax.ensures (missing_plain f)

pub returns : goal.returns
returns c = found_injection _ _ (rw c.in-Mapping.is at c.in_ok-found.ensures)
