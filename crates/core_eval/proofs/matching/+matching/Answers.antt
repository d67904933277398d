use Rattle.std.proofs.Common.{◌≤◌, ◌<◌, ◌∙◌, ap, sym, subst, map, drop, length, []}
use Rattle.term_model.specs.Term.{trees_of}
use Rattle.term_model.specs.TermParts.{parts_of}
use Rattle.core_lang.specs.Tried.{tried_elements}
use Rattle.core_lang.specs.Resolved.{by_coordinates}
use Rattle.core_lang.specs.Views.{pattern_of, patterns_of, elements_in, rest_of}
use Rattle.core_lang.specs.Program.{annotated}
use Rattle.core_lang.proofs.ReadLaws.{reads_applied, reads_list, reads_annotated}
use Rattle.core_eval.specs.Frame.{environment_of}
use Rattle.core_eval.proofs.MatchingLaws.{other_count, same_symbol_tried, list_tried, too_few, first_lacks, first_goes_on, some_left, annotated_fails, annotated_goes_on}
use Rattle.core_eval.proofs.matching.+matching.Goals as goal

pub all_match-returns-then-patterns-terms : goal.all_match-returns-then-patterns-terms
all_match-returns-then-patterns-terms t c =
    other_count _ c.args.patterns.now c.args.terms.now c.args.places.now.items c.if-patterns-terms.true

pub matches-returns-in_ok-yes-in-Applied : goal.matches-returns-in_ok-yes-in-Applied
matches-returns-in_ok-yes-in-Applied t c =
    let place = by_coordinates.place_of (environment_of c.args.frame.now) in
    let parts = rw (c.as_slice.ensures.value, c.children.ensures) at c.in_ok-yes-in-Applied.ensures in
    rw (same_symbol_tried place (pattern_of c.args.p.now) c.in-Applied.symbol (patterns_of c.in-Applied.parts.items)
    c.args.t.now c.args.places.now.items c.is_application.result
    (ap pattern_of c.in-Applied.is ∙ reads_applied _ _) c.is_application.ensures c.if-not-is_application.false)
    parts

pub first_match-returns-then-terms-patterns : goal.first_match-returns-then-terms-patterns
first_match-returns-then-terms-patterns t c =
    λ r. too_few _ c.args.patterns.now c.args.terms.now c.args.places.now.items r c.if-terms-patterns.true

pub matches-returns-then-not-branch : goal.matches-returns-then-not-branch
matches-returns-then-not-branch t c =
    let place = by_coordinates.place_of (environment_of c.args.frame.now) in
    let ps = c.in-List.elements.items in
    let rest = rest_of c.in-List.rest in
    let e = c.args.places.now.items in
    let firsts = c.as_slice-elements.result.now in
    let parts = c.children-in-List.result.now in
    list_tried place (pattern_of c.args.p.now) (elements_in (map pattern_of ps) rest)
    c.args.t.now e c.is_list.result (ap pattern_of c.in-List.is ∙
    reads_list _ _) c.is_list.ensures c.if-not-is_list.false ∙
    (ap (λ xs. tried_elements place (elements_in (map pattern_of xs) rest) (trees_of (parts_of c.args.t.now)) e)
    (sym c.as_slice-elements.ensures.value) ∙
    (ap (λ us. tried_elements place (elements_in (map pattern_of firsts) rest) (trees_of us) e)
    (sym c.children-in-List.ensures) ∙
    first_lacks place (map pattern_of firsts) (trees_of parts) (trees_of (drop (length firsts) parts))
    e c.first_match.new.places.items (length firsts ≤ length parts)
    c.in_ok-first_match-in-List.field-0 c.in_ok-first_match-in-List.ensures c.if-not-branch.true rest))

pub matches-returns-in_ok-yes-in-List : goal.matches-returns-in_ok-yes-in-List
matches-returns-in_ok-yes-in-List t c =
    let place = by_coordinates.place_of (environment_of c.args.frame.now) in
    let ps = c.in-List.elements.items in
    let rest = rest_of c.in-List.rest in
    let e = c.args.places.now.items in
    let f = c.first_match.new.places.items in
    let firsts = c.as_slice-elements.result.now in
    let parts = c.children-in-List.result.now in
    rw (list_tried place (pattern_of c.args.p.now) (elements_in (map pattern_of ps) rest)
    c.args.t.now e c.is_list.result (ap pattern_of c.in-List.is ∙
    reads_list _ _) c.is_list.ensures c.if-not-is_list.false ∙
    (ap (λ xs. tried_elements place (elements_in (map pattern_of xs) rest) (trees_of (parts_of c.args.t.now)) e)
    (sym c.as_slice-elements.ensures.value) ∙
    (ap (λ us. tried_elements place (elements_in (map pattern_of firsts) rest) (trees_of us) e)
    (sym c.children-in-List.ensures) ∙
    (first_goes_on place (map pattern_of firsts) (trees_of parts) (trees_of (drop (length firsts) parts))
    e f (length firsts ≤ length parts)
    c.in_ok-first_match-in-List.field-0 c.in_ok-first_match-in-List.ensures c.if-not-branch.false rest ∙
    ap (λ us. tried_elements place (elements_in [] rest) (trees_of (drop (length firsts) us)) f)
    c.children-in-List.ensures))))
    c.in_ok-yes-in-List.ensures

pub rest_matches-returns-then-from-children : goal.rest_matches-returns-then-from-children
rest_matches-returns-then-from-children t c =
    let place = by_coordinates.place_of (environment_of c.args.frame.now) in
    let e = c.args.places.now.items in
    let parts = parts_of c.args.t.now in
    ap (λ o. tried_elements place (elements_in [] (rest_of o)) (trees_of (drop c.args.from parts)) e) c.in-None.is ∙
    some_left place parts c.args.from e
    (subst (λ us. c.args.from < length us) c.children.ensures c.if-from-children.true)

pub matches-returns-then-not-branch-2 : goal.matches-returns-then-not-branch-2
matches-returns-then-not-branch-2 t c =
    let qs = patterns_of c.in-Annotated.annotations.items in
    annotated_fails (by_coordinates.place_of (environment_of c.args.frame.now)) (pattern_of c.args.p.now)
    (pattern_of c.deref-in-Annotated.result.now)
    qs c.args.t.now c.in_ok-bare-in-Annotated.bare c.args.places.now.items _ c.in_ok-matches-in-Annotated.field-0
    (ap pattern_of c.in-Annotated.is ∙
    (reads_annotated c.in-Annotated.part c.in-Annotated.annotations ∙
    ap (λ b. annotated (pattern_of b) qs) (sym c.deref-in-Annotated.ensures)))
    c.in_ok-bare-in-Annotated.ensures c.in_ok-matches-in-Annotated.ensures c.if-not-branch-2.true

pub matches-returns-in_ok-yes-in-Annotated : goal.matches-returns-in_ok-yes-in-Annotated
matches-returns-in_ok-yes-in-Annotated t c =
    let qs = patterns_of c.in-Annotated.annotations.items in
    let others = rw (c.as_slice-in-Annotated.ensures.value, c.annos.ensures) at c.in_ok-yes-in-Annotated.ensures in
    annotated_goes_on (by_coordinates.place_of (environment_of c.args.frame.now)) (pattern_of c.args.p.now)
    (pattern_of c.deref-in-Annotated.result.now)
    qs c.args.t.now c.in_ok-bare-in-Annotated.bare c.args.places.now.items _ _ c.in_ok-matches-in-Annotated.field-0
    c.in_ok-yes-in-Annotated.yes
    (ap pattern_of c.in-Annotated.is ∙
    (reads_annotated c.in-Annotated.part c.in-Annotated.annotations ∙
    ap (λ b. annotated (pattern_of b) qs) (sym c.deref-in-Annotated.ensures)))
    c.in_ok-bare-in-Annotated.ensures c.in_ok-matches-in-Annotated.ensures c.if-not-branch-2.false others
