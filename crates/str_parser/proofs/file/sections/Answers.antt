-- Sections one after the other, up to the end.
use Rattle.std.proofs.Common.{refl}
use Rattle.std.proofs.lemmas.List.{map-append}
use Rattle.str_parser.proofs.PhraseLaws.{refused_all}
use Rattle.str_parser.proofs.RunLaws.{partly_none, partly_more, at_next, partly_any}
use Rattle.str_parser.proofs.FileLaws.{sections_row, section_lists, not_empty, is_empty}
use Rattle.str_parser.proofs.file.sections.Goals as goal

pub loop-rest-init : goal.loop-rest-init
loop-rest-init c = rw c.new-sections.ensures.items (partly_none section_lists _)

pub returns-in_err-section : goal.returns-in_err-section
returns-in_err-section c =
    refused_all (at_next sections_row c.loop-rest.invariant (not_empty _ _ c.is_empty.ensures c.loop-rest-test.true))
    _ _ _ c.from_residual.ensures.1 c.in_err-section.ensures

pub loop-rest-smaller : goal.loop-rest-smaller
loop-rest-smaller c = c.in_ok-section.ensures.shorter

pub loop-rest-preserved : goal.loop-rest-preserved
loop-rest-preserved c = rw (c.in_ok-push.ensures.items, map-append) (partly_more sections_row c.loop-rest.invariant
    (not_empty _ _ c.is_empty.ensures c.loop-rest-test.true) c.in_ok-section.ensures)

pub returns : goal.returns
returns c =
    let e = is_empty _ _ c.is_empty.ensures c.loop-rest-test.false in
    partly_any sections_row (rw e at c.loop-rest.invariant) refl
