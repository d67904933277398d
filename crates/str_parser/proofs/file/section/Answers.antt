-- Each way that reading a section can go.
use Rattle.str_parser.proofs.PhraseLaws.{refused, at_made, made_behind}
use Rattle.str_parser.proofs.FileLaws.{signature_section, rules_section, strategies_section}
use Rattle.str_parser.proofs.file.section.Goals as goal

pub returns-in_err-parts : goal.returns-in_err-parts
returns-in_err-parts c =
    rw c.in-Some.ensures (refused (at_made signature_section) _ _ _ c.from_residual.ensures.1 c.in_err-parts.ensures)

pub returns-in-Some : goal.returns-in-Some
returns-in-Some c = rw c.in-Some.ensures (made_behind signature_section c.in_ok-parts.ensures)

pub returns-in_err-definitions : goal.returns-in_err-definitions
returns-in_err-definitions c = rw c.in-Some-after_keyword.ensures (refused (at_made rules_section)
    _ _ _ c.from_residual-in_err-definitions.ensures.1 c.in_err-definitions.ensures)

pub returns-in-Some-after_keyword : goal.returns-in-Some-after_keyword
returns-in-Some-after_keyword c =
    rw c.in-Some-after_keyword.ensures (made_behind rules_section c.in_ok-definitions.ensures)

pub returns-in_err-definitions-2 : goal.returns-in_err-definitions-2
returns-in_err-definitions-2 c = rw c.in-Some-after_keyword-2.ensures (refused (at_made strategies_section)
    _ _ _ c.from_residual-in_err-definitions-2.ensures.1 c.in_err-definitions-2.ensures)
