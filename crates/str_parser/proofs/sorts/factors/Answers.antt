use Rattle.std.proofs.lemmas.List.{map-append}
use Rattle.str_parser.proofs.PhraseLaws.{refused, carries_on, made, at_made, is_behind}
use Rattle.str_parser.proofs.RunLaws.{partly_first, at_row_first, partly_more, at_next, partly_found}
use Rattle.str_parser.proofs.SortLists.{factors_row, factor_lists}
use Rattle.str_parser.proofs.sorts.factors.Goals as goal

pub returns-in_err-first : goal.returns-in_err-first
returns-in_err-first c =
    refused (at_row_first factor_lists factors_row) _ _ _ c.from_residual.ensures.1 c.in_err-first.ensures

pub loop-following-init : goal.loop-following-init
loop-following-init c = rw (c.in_ok-push.ensures.items, c.new-parts.ensures.items)
    (partly_first factor_lists factors_row c.in_ok-first.ensures)

pub returns-in_err-other : goal.returns-in_err-other
returns-in_err-other c =
    refused (carries_on (at_made (is_behind c.in-Some.ensures))
    (at_next factors_row c.loop-following.invariant (_, c.in-Some.ensures)))
    _ _ _ c.from_residual-in_err-other.ensures.1 c.in_err-other.ensures

pub loop-following-preserved : goal.loop-following-preserved
loop-following-preserved c = rw (c.in_ok-push-2.ensures.items, map-append)
    (partly_more factors_row c.loop-following.invariant (_, c.in-Some.ensures)
    (made (is_behind c.in-Some.ensures) c.in_ok-other.ensures))

pub returns : goal.returns
returns c = partly_found factors_row c.loop-following.invariant c.in_default.ensures
