use Rattle.str_parser.proofs.PhraseLaws.{refused, carries_on, at_made, made, is_behind}
use Rattle.str_parser.proofs.RunLaws.{partly_first, at_row_first, partly_more, at_next, partly_found}
use Rattle.str_parser.proofs.NameLaws.{names_row, name_lists}
use Rattle.str_parser.proofs.names.names.Goals as goal

pub returns-in_err-first : goal.returns-in_err-first
returns-in_err-first c =
    refused (at_row_first name_lists names_row) _ _ _ c.from_residual.ensures.1 c.in_err-first.ensures

pub loop-following-init : goal.loop-following-init
loop-following-init c = rw (c.in_ok-push.ensures.items, c.in_ok-found.ensures.items)
    (partly_first name_lists names_row c.in_ok-first.ensures)

pub returns-in_err-other : goal.returns-in_err-other
returns-in_err-other c =
    refused (carries_on (at_made (is_behind c.in-Some.ensures))
    (at_next names_row c.loop-following.invariant (_, c.in-Some.ensures)))
    _ _ _ c.from_residual-in_err-other.ensures.1 c.in_err-other.ensures

pub loop-following-preserved : goal.loop-following-preserved
loop-following-preserved c = rw c.in_ok-push-2.ensures.items
    (partly_more names_row c.loop-following.invariant (_, c.in-Some.ensures)
    (made (is_behind c.in-Some.ensures) c.in_ok-other.ensures))

pub returns : goal.returns
returns c = partly_found names_row c.loop-following.invariant c.in_default.ensures
