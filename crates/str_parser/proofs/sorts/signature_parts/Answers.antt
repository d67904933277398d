use Rattle.std.proofs.Common.{sym}
use Rattle.std.proofs.lemmas.List.{map-append}
use Rattle.str_parser.proofs.PhraseLaws.{refused_any}
use Rattle.str_parser.proofs.RunLaws.{partly_none, partly_more, at_next, partly_any}
use Rattle.str_parser.proofs.DeclarationLists.{parts_row, part_lists}
use Rattle.str_parser.proofs.sorts.signature_parts.Goals as goal

pub parts-init : goal.parts-init
parts-init c = rw c.new-found.ensures.items (partly_none part_lists _)

pub returns-in_err-other : goal.returns-in_err-other
returns-in_err-other c = refused_any (at_next parts_row c.parts.invariant (sym c.parts-test.ensures))
    _ _ _ c.from_residual.ensures.1 c.in_err-other.ensures

pub parts-preserved : goal.parts-preserved
parts-preserved c = rw (c.in_ok-push.ensures.items, map-append)
    (partly_more parts_row c.parts.invariant (sym c.parts-test.ensures) c.in_ok-other.ensures)

pub returns : goal.returns
returns c = partly_any parts_row c.parts.invariant (sym c.parts-test.ensures)
