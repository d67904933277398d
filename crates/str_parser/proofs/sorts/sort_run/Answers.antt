use Rattle.std.proofs.Common.{sym}
use Rattle.std.proofs.lemmas.List.{map-append}
use Rattle.str_parser.proofs.PhraseLaws.{refused_any}
use Rattle.str_parser.proofs.RunLaws.{partly_none, partly_more, at_next, partly_any}
use Rattle.str_parser.proofs.SortLists.{runs_row, run_lists}
use Rattle.str_parser.proofs.sorts.sort_run.Goals as goal

pub sorts-init : goal.sorts-init
sorts-init c = rw c.new-found.ensures.items (partly_none run_lists _)

pub returns-in_err-other : goal.returns-in_err-other
returns-in_err-other c = refused_any (at_next runs_row c.sorts.invariant (sym c.sorts-test.ensures))
    _ _ _ c.from_residual.ensures.1 c.in_err-other.ensures

pub sorts-preserved : goal.sorts-preserved
sorts-preserved c = rw (c.in_ok-push.ensures.items, map-append)
    (partly_more runs_row c.sorts.invariant (sym c.sorts-test.ensures) c.in_ok-other.ensures)

pub returns : goal.returns
returns c = partly_any runs_row c.sorts.invariant (sym c.sorts-test.ensures)
