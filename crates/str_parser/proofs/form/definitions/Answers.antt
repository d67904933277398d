-- Rules and definitions one after the other.
use Rattle.std.proofs.Common.{sym, ◌∙◌}
use Rattle.std.proofs.lemmas.List.{map-append}
use Rattle.str_parser.proofs.PhraseLaws.{refused_any}
use Rattle.str_parser.proofs.RunLaws.{partly_none, partly_more, at_next, partly_any}
use Rattle.str_parser.proofs.FileLaws.{tops_row, top_lists}
use Rattle.str_parser.proofs.form.definitions.Goals as goal

pub loop-alloc-init : goal.loop-alloc-init
loop-alloc-init c = rw c.new-definitions.ensures.items (partly_none top_lists _)

pub returns-in_err-definition : goal.returns-in_err-definition
returns-in_err-definition c =
    refused_any (at_next tops_row c.loop-alloc.invariant (sym c.begins_name.ensures ∙ c.loop-alloc-test.true))
    _ _ _ c.from_residual.ensures.1 c.in_err-definition.ensures

pub loop-alloc-smaller : goal.loop-alloc-smaller
loop-alloc-smaller c = c.in_ok-definition.ensures.shorter

pub loop-alloc-preserved : goal.loop-alloc-preserved
loop-alloc-preserved c = rw (c.in_ok-push.ensures.items, map-append) (partly_more tops_row c.loop-alloc.invariant
    (sym c.begins_name.ensures ∙ c.loop-alloc-test.true) c.in_ok-definition.ensures)

pub returns : goal.returns
returns c = partly_any tops_row c.loop-alloc.invariant (sym c.begins_name.ensures ∙ c.loop-alloc-test.false)
