use Rattle.std.proofs.Common.{sym}
use Rattle.std.proofs.lemmas.List.{map-append}
use Rattle.str_parser.proofs.PhraseLaws.{refused_any}
use Rattle.str_parser.proofs.RunLaws.{partly_none, partly_more, at_next, partly_any}
use Rattle.str_parser.proofs.DeclarationLists.{declarations_row, declaration_lists}
use Rattle.str_parser.proofs.sorts.declarations.Goals as goal

pub declarations-init : goal.declarations-init
declarations-init c = rw c.new-found.ensures.items (partly_none declaration_lists _)

pub returns-in_err-other : goal.returns-in_err-other
returns-in_err-other c =
    refused_any (at_next declarations_row c.declarations.invariant (sym c.declarations-test.ensures))
    _ _ _ c.from_residual.ensures.1 c.in_err-other.ensures

pub declarations-preserved : goal.declarations-preserved
declarations-preserved c = rw (c.in_ok-push.ensures.items, map-append)
    (partly_more declarations_row c.declarations.invariant (sym c.declarations-test.ensures) c.in_ok-other.ensures)

pub returns : goal.returns
returns c = partly_any declarations_row c.declarations.invariant (sym c.declarations-test.ensures)
