-- Each way that reading a sort can go.
use Rattle.std.proofs.Common.{arith}
use Rattle.std.proofs.lemmas.List.{map-append}
use Rattle.str_syntax.proofs.ReadLaws.{reads_sort, reads_sort_of}
use Rattle.str_parser.specs.Lexemes.{sort_part}
use Rattle.str_parser.specs.Phrases.{sorted}
use Rattle.str_parser.proofs.WayLaws.{syntax_fault}
use Rattle.str_parser.proofs.PhraseLaws.{found_any, refused, carries_on, made, at_made, is_behind, is_inside, no_option, closed_found, at_closed, unclosed, pair}
use Rattle.str_parser.proofs.RunLaws.{partly_first, at_row_first, partly_more, at_next, partly_found}
use Rattle.str_parser.proofs.NameLaws.{name_at}
use Rattle.str_parser.proofs.SortLaws.{missing_sort, deep_sort, sort_pairs, sorts_end, sort_opened}
use Rattle.str_parser.proofs.SortLists.{sorts_row, sort_lists}
use Rattle.str_parser.proofs.sorts.+sort.Goals as goal

pub sort-returns-in_default : goal.sort-returns-in_default
sort-returns-in_default t c = syntax_fault _ c.syntax.ensures (missing_sort _ _ c.in_default.ensures)

pub sort-returns-then-level-gt-MAX_LEVEL : goal.sort-returns-then-level-gt-MAX_LEVEL
sort-returns-then-level-gt-MAX_LEVEL t c = rw c.in-Some.ensures (deep_sort _ _ _ (omega arith))

pub sort-returns-in_default-after : goal.sort-returns-in_default-after
sort-returns-in_default-after t c =
    rw (reads_sort, c.in_ok-name.ensures, c.in-Some.ensures)
    (made (is_inside sort_part c.args.level (sorted c.args.level) (omega arith))
    (pair (sort_pairs c.args.level) name_at (no_option c.in_default-after.ensures)))

pub sort-returns-in_err-parts : goal.sort-returns-in_err-parts
sort-returns-in_err-parts t c =
    rw (c.in-Some.ensures, c.in-Some-after.ensures)
    (refused (carries_on (at_closed _ sorts_end) (at_made (sort_opened c.args.level (omega arith))))
    _ _ _ c.from_residual-in_err-parts.ensures.1 c.in_err-parts.ensures)

pub sort-returns-in_default-after-2 : goal.sort-returns-in_default-after-2
sort-returns-in_default-after-2 t c =
    let m = unclosed _ sorts_end (found_any c.in_ok-parts.ensures) c.in_default-after-2.ensures in
    rw (c.in-Some.ensures, c.in-Some-after.ensures)
    (syntax_fault _ c.syntax-in_default-after-2.ensures ((at_made (sort_opened c.args.level (omega arith))).missing m))

pub sort-returns : goal.sort-returns
sort-returns t c =
    let f = rw c.in-Some-after-2.ensures at c.in_ok-parts.ensures in
    rw (reads_sort_of, c.in_ok-name.ensures, c.in-Some.ensures, c.in-Some-after.ensures)
    (made (sort_opened c.args.level (omega arith)) (closed_found _ sorts_end f))

pub sort_list-returns-in_err-first : goal.sort_list-returns-in_err-first
sort_list-returns-in_err-first t c =
    refused (at_row_first (sort_lists _) (sorts_row _)) _ _ _ c.from_residual.ensures.1 c.in_err-first.ensures

pub sort_list-loop-following-init : goal.sort_list-loop-following-init
sort_list-loop-following-init t c = rw (c.in_ok-push.ensures.items, c.new-parts.ensures.items)
    (partly_first (sort_lists _) (sorts_row _) c.in_ok-first.ensures)

pub sort_list-returns-in_err-other : goal.sort_list-returns-in_err-other
sort_list-returns-in_err-other t c =
    refused (carries_on (at_made (is_behind c.in-Some.ensures))
    (at_next (sorts_row _) c.loop-following.invariant (_, c.in-Some.ensures)))
    _ _ _ c.from_residual-in_err-other.ensures.1 c.in_err-other.ensures

pub sort_list-loop-following-preserved : goal.sort_list-loop-following-preserved
sort_list-loop-following-preserved t c = rw (c.in_ok-push-2.ensures.items, map-append)
    (partly_more (sorts_row _) c.loop-following.invariant (_, c.in-Some.ensures)
    (made (is_behind c.in-Some.ensures) c.in_ok-other.ensures))

pub sort_list-returns : goal.sort_list-returns
sort_list-returns t c = partly_found (sorts_row _) c.loop-following.invariant c.in_default.ensures
