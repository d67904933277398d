use Rattle.strat_patterns.specs.declared.loaded.LoadedPattern.TheViews.{the_lemmas}
use Rattle.std.proofs.Common.{rules, [], ◌≤◌, ◌∙◌, refl, sym, ap, subst, arith, length, map, drop}
use Rattle.std.specs.Prelude.{true, false}
use Rattle.std.proofs.lemmas.List.{length-map}
use Rattle.term_model.specs.Same.{same_head-true}
use Rattle.term_model.specs.Term.{term}
use Rattle.term_model.specs.TermParts.{head_of, parts_of, annos_of}
use Rattle.strat_patterns.specs.Loaded.{loaded_of, rest_loaded_of}
use Rattle.strat_steps.specs.State.{place_at}
use Rattle.strat_steps.proofs.ReferenceLaws.{all_changed}
use Rattle.term_model.proofs.SpaceLaws.{keeps_same, keeps_then}
use Rattle.strat_patterns.proofs.LoadedLaws.{loaded_as_anything, loaded_as_alias, loaded_as_integer, loaded_as_like, loaded_as_applied, loaded_as_list, loaded_same, all_loaded_same, rest_loaded_same, loaded_as_annotated, known_as_applied, known_as_list, known_as_annotated, known_later, all_known_later, rest_known_later, rest_known_some, rest_loaded_some}
use Rattle.strat_patterns.proofs.MatchingLaws.{goes_at_once, goes_as_pattern, match_lacks, match_stops, match_next, known_at, part_was, ref_stands, ref_was, pushed_stand, pushed_goes, first_stand, first_goes, first_enough, alias_goes, integer_tested, applied_none, applied_fails, applied_ends, list_none, list_fails, list_goes, no_rest, rest_goes, annotated_none, annotated_fails, annotated_goes, unseen_goes, bare_goes, applied_leaves, list_leaves, part_leaves}
use Rattle.strat_patterns.proofs.matching.+matching.Goals as goal

pub match_first-loop-i-init : goal.match_first-loop-i-init
match_first-loop-i-init g t c =
    let s = g.S.TermSpace.space in
    (keeps_same s c.args.space.now, refl, omega arith, goes_at_once c.requires.places refl, λ h. refl)

pub match_first-returns-then-i-count-clause-attempt : goal.match_first-returns-then-i-count-clause-attempt
match_first-returns-then-i-count-clause-attempt g t c =
    let s = g.S.TermSpace.space in
    match_lacks (place_at c.args.frames.now c.args.here) (loaded_of (s.symbol_of c.args.space.now)) c.args.patterns.now (parts_of (s.term_of c.args.space.now c.args.at.now)) c.loop-i.i c.args.count c.loop-i-test.true c.requires.count c.if-i-count.true c.loop-i.invariant.3

pub match_first-returns-then-not-branch-clause-keeps : goal.match_first-returns-then-not-branch-clause-keeps
match_first-returns-then-not-branch-clause-keeps g t c = keeps_then c.loop-i.invariant.0 c.in_ok-match_part.ensures.keeps

pub match_first-returns-then-not-branch-clause-attempt : goal.match_first-returns-then-not-branch-clause-attempt
match_first-returns-then-not-branch-clause-attempt g t c =
    match_stops (place_at c.args.frames.now c.args.here) c.args.patterns.now (parts_of (g.S.TermSpace.space.term_of c.args.space.now c.args.at.now)) c.loop-i.i c.index-patterns-i.result (g.S.TermSpace.space.term_of c.loop-i.space c.in_ok-part.part) c.in_ok-match_part.field-0 c.loop-i.places.barrier
    c.requires.known c.loop-i.invariant.0 c.loop-i-test.true c.index-patterns-i.is (part_was parts_of c.args.at.now c.loop-i.i c.loop-i.invariant.0 c.requires.stands c.in_ok-part.ensures.term) c.loop-i.invariant.3 c.in_ok-match_part.ensures.keeps c.loop-i.invariant.1 c.if-not-branch.true c.in_ok-match_part.ensures.attempt

pub match_first-loop-i-preserved : goal.match_first-loop-i-preserved
match_first-loop-i-preserved g t c = (
  keeps_then c.loop-i.invariant.0 c.in_ok-match_part.ensures.keeps,
  c.in_ok-match_part.ensures.barrier ∙ c.loop-i.invariant.1,
  (let below = c.if-i-count.false in omega arith),
  match_next (place_at c.args.frames.now c.args.here) c.args.patterns.now (parts_of (g.S.TermSpace.space.term_of c.args.space.now c.args.at.now)) c.loop-i.i c.index-patterns-i.result (g.S.TermSpace.space.term_of c.loop-i.space c.in_ok-part.part) c.in_ok-match_part.field-0 c.loop-i.places.barrier
      c.requires.known c.loop-i.invariant.0 c.loop-i-test.true c.index-patterns-i.is (part_was parts_of c.args.at.now c.loop-i.i c.loop-i.invariant.0 c.requires.stands c.in_ok-part.ensures.term) c.loop-i.invariant.3 c.in_ok-match_part.ensures.keeps c.loop-i.invariant.1 c.if-not-branch.false c.in_ok-match_part.ensures.attempt,
  λ h.
      let s = g.S.TermSpace.space in
      c.in_ok-match_part.ensures.unchanged
      (part_leaves (s.knows c.args.space.now) (s.symbol_of c.args.space.now) (s.symbol_of c.loop-i.space) c.loop-i.invariant.0.symbols c.args.patterns.now c.loop-i.i c.index-patterns-i.result c.requires.known c.loop-i-test.true c.index-patterns-i.is h) ∙ c.loop-i.invariant.4 h,
)

pub match_pattern-returns-in-Anything-clause-attempt : goal.match_pattern-returns-in-Anything-clause-attempt
match_pattern-returns-in-Anything-clause-attempt g t c =
    goes_as_pattern (place_at c.args.frames.now c.args.here) _ _ (g.S.TermSpace.space.term_of c.args.space.now c.args.at.now) true (loaded_as_anything (g.S.TermSpace.space.symbol_of c.args.space.now) c.args.pattern.now c.in-Anything.is) c.requires.places (λ h H. refl)

pub match_pattern-returns-in-Like-clause-attempt : goal.match_pattern-returns-in-Like-clause-attempt
match_pattern-returns-in-Like-clause-attempt g t c =
    goes_as_pattern (place_at c.args.frames.now c.args.here) _ _ (g.S.TermSpace.space.term_of c.args.space.now c.args.at.now) false (loaded_as_like (g.S.TermSpace.space.symbol_of c.args.space.now) c.args.pattern.now _ _ c.in-Like.is) c.requires.places (λ h H. refl)

pub match_first-match_part-requires : goal.match_first-match_part-requires
match_first-match_part-requires g t c κs within =
    let s = g.S.TermSpace.space in
    let known = known_at (s.knows c.args.space.now) c.args.patterns.now c.loop-i.i c.index-patterns-i.result c.requires.known c.loop-i-test.true c.index-patterns-i.is in
    (search (rules, the_lemmas), (within.0, (within.1.0, (within.1.1.0, (within.1.1.1, (known_later c.loop-i.invariant.0.known c.index-patterns-i.result known, (c.in_ok-part.ensures.stands, c.loop-i.invariant.3.standing)))))))

pub match_pattern-match_first-requires : goal.match_pattern-match_first-requires
match_pattern-match_first-requires g t c κs within =
    let known = known_as_applied (g.S.TermSpace.space.knows c.args.space.now) c.args.pattern.now c.in-Applied.name c.in-Applied.parts c.as_slice-parts.result.now c.in-Applied.is c.as_slice-parts.ensures.value c.requires.known in
    (search (rules, the_lemmas), (within.0, (within.1.0, (within.1.1.0, (within.1.1.1, (known.1, (c.count-count.ensures, (c.requires.stands, c.requires.places))))))))

pub match_pattern-match_first-requires-in-List : goal.match_pattern-match_first-requires-in-List
match_pattern-match_first-requires-in-List g t c κs within =
    let known = known_as_list (g.S.TermSpace.space.knows c.args.space.now) c.args.pattern.now c.in-List.elements c.in-List.rest c.as_slice-elements.result.now c.in-List.is c.as_slice-elements.ensures.value c.requires.known in
    (search (rules, the_lemmas), (within.0, (within.1.0, (within.1.1.0, (within.1.1.1, (known.0, (c.count-count-in-List.ensures, (c.requires.stands, c.requires.places))))))))

pub match_pattern-match_rest-requires : goal.match_pattern-match_rest-requires
match_pattern-match_rest-requires g t c κs within =
    let s = g.S.TermSpace.space in
    let keeps = c.in_ok-match_first-in-List.ensures.keeps in
    let known = known_as_list (s.knows c.args.space.now) c.args.pattern.now c.in-List.elements c.in-List.rest c.as_slice-elements.result.now c.in-List.is c.as_slice-elements.ensures.value c.requires.known in
    let same_term = keeps.terms c.args.at.now c.requires.stands in
    let is_list = ap head_of same_term ∙ same_head-true _ _ (sym c.is_list.ensures ∙ c.if-not-is_list.false) in
    let enough = subst (λ u. length c.as_slice-elements.result.now ≤ length (parts_of u)) (sym same_term) (c.in_ok-match_first-in-List.ensures.enough c.if-not-branch-3.false) in
    (search (rules, the_lemmas), (within.0, (within.1.0, (within.1.1.0, (within.1.1.1, (rest_known_later keeps.known c.in-List.rest known.1, (keeps.standing c.args.at.now c.requires.stands, (is_list, (enough, c.in_ok-match_first-in-List.ensures.attempt.standing)))))))))

pub match_rest-match_pattern-requires : goal.match_rest-match_pattern-requires
match_rest-match_pattern-requires g t c κs within =
    let s = g.S.TermSpace.space in
    let keeps = c.in_ok-others-in-Some.ensures.keeps in
    let known = rest_known_some (s.knows c.args.space.now) c.args.rest.now c.in-Some.pattern c.deref.result.now c.in-Some.is c.deref.ensures c.requires.known in
    (search (rules, the_lemmas), (within.0, (within.1.0, (within.1.1.0, (within.1.1.1, (known_later keeps.known c.deref.result.now known, (c.in_ok-others-in-Some.ensures.stands, all_changed keeps.standing c.args.places.now.slots c.requires.places)))))))

pub match_pattern-returns-in_ok-yes-in-Alias-clause-attempt : goal.match_pattern-returns-in_ok-yes-in-Alias-clause-attempt
match_pattern-returns-in_ok-yes-in-Alias-clause-attempt g t c =
    let s = g.S.TermSpace.space in
    let symbols = s.symbol_of c.args.space.now in
    alias_goes (place_at c.args.frames.now c.args.here) (loaded_of symbols c.args.pattern.now) (loaded_of symbols c.deref.result.now) c.in-Alias.x (s.term_of c.args.space.now c.args.at.now) c.in_ok-bind_variable-in-Alias.field-0 c.in_ok-yes-in-Alias.yes c.bind_variable-in-Alias.new.places.barrier
    (loaded_as_alias symbols c.args.pattern.now c.in-Alias.x c.in-Alias.part c.deref.result.now c.in-Alias.is c.deref.ensures) c.if-not-branch.false c.in_ok-bind_variable-in-Alias.ensures.attempt c.in_ok-yes-in-Alias.ensures.keeps.standing
    c.in_ok-bind_variable-in-Alias.ensures.barrier c.in_ok-yes-in-Alias.ensures.attempt

pub match_pattern-returns-in-Integer-clause-attempt : goal.match_pattern-returns-in-Integer-clause-attempt
match_pattern-returns-in-Integer-clause-attempt g t c =
    let s = g.S.TermSpace.space in
    let place = place_at c.args.frames.now c.args.here in
    let term = s.term_of c.args.space.now c.args.at.now in
    goes_as_pattern place _ _ term c.is_integer.result (loaded_as_integer (s.symbol_of c.args.space.now) c.args.pattern.now c.in-Integer.value c.in-Integer.is) c.requires.places (integer_tested place c.args.places.now.barrier c.in-Integer.value term c.is_integer.result c.is_integer.ensures)

pub match_pattern-returns-then-not-is_application-clause-attempt : goal.match_pattern-returns-then-not-is_application-clause-attempt
match_pattern-returns-then-not-is_application-clause-attempt g t c =
    let s = g.S.TermSpace.space in
    let symbols = s.symbol_of c.args.space.now in
    applied_none (place_at c.args.frames.now c.args.here) (loaded_of symbols c.args.pattern.now) (symbols c.in-Applied.name) (map (loaded_of symbols) c.in-Applied.parts.items) (s.term_of c.args.space.now c.args.at.now) c.is_application.result
    (loaded_as_applied symbols c.args.pattern.now c.in-Applied.name c.in-Applied.parts c.in-Applied.parts.items c.in-Applied.is refl) c.is_application.ensures c.if-not-is_application.true c.requires.places

pub match_pattern-returns-then-not-branch-2-clause-attempt : goal.match_pattern-returns-then-not-branch-2-clause-attempt
match_pattern-returns-then-not-branch-2-clause-attempt g t c =
    let s = g.S.TermSpace.space in
    let symbols = s.symbol_of c.args.space.now in
    let parts = c.as_slice-parts.result.now in
    applied_fails (place_at c.args.frames.now c.args.here) (loaded_of symbols c.args.pattern.now) (map (loaded_of symbols) parts) (s.term_of c.args.space.now c.args.at.now) c.is_application.result c.in_ok-match_first-in-Applied.field-0
    c.in_ok-match_first-in-Applied.ensures.attempt (symbols c.in-Applied.name) (loaded_as_applied symbols c.args.pattern.now c.in-Applied.name c.in-Applied.parts parts c.in-Applied.is c.as_slice-parts.ensures.value) c.is_application.ensures c.if-not-is_application.false c.if-not-branch-2.true

pub match_pattern-returns-else-not-branch-2-clause-attempt : goal.match_pattern-returns-else-not-branch-2-clause-attempt
match_pattern-returns-else-not-branch-2-clause-attempt g t c =
    let s = g.S.TermSpace.space in
    let symbols = s.symbol_of c.args.space.now in
    let parts = c.as_slice-parts.result.now in
    applied_ends (place_at c.args.frames.now c.args.here) (loaded_of symbols c.args.pattern.now) (map (loaded_of symbols) parts) (s.term_of c.args.space.now c.args.at.now) c.is_application.result c.in_ok-match_first-in-Applied.field-0
    c.in_ok-match_first-in-Applied.ensures.attempt (symbols c.in-Applied.name) _ (length parts) c.count-count.result (loaded_as_applied symbols c.args.pattern.now c.in-Applied.name c.in-Applied.parts parts c.in-Applied.is c.as_slice-parts.ensures.value) c.is_application.ensures c.if-not-is_application.false
    c.if-not-branch-2.false (c.in_ok-match_first-in-Applied.ensures.enough c.if-not-branch-2.false) (sym (length-map parts (loaded_of symbols))) c.count-count.ensures refl

pub match_pattern-returns-then-not-is_list-clause-attempt : goal.match_pattern-returns-then-not-is_list-clause-attempt
match_pattern-returns-then-not-is_list-clause-attempt g t c =
    let s = g.S.TermSpace.space in
    let symbols = s.symbol_of c.args.space.now in
    list_none (place_at c.args.frames.now c.args.here) (loaded_of symbols c.args.pattern.now) (map (loaded_of symbols) c.in-List.elements.items) (rest_loaded_of symbols c.in-List.rest) (s.term_of c.args.space.now c.args.at.now) c.is_list.result
    (loaded_as_list symbols c.args.pattern.now c.in-List.elements c.in-List.rest c.in-List.elements.items c.in-List.is refl) c.is_list.ensures c.if-not-is_list.true c.requires.places

pub match_pattern-returns-then-not-branch-3-clause-attempt : goal.match_pattern-returns-then-not-branch-3-clause-attempt
match_pattern-returns-then-not-branch-3-clause-attempt g t c =
    let s = g.S.TermSpace.space in
    let symbols = s.symbol_of c.args.space.now in
    let elements = c.as_slice-elements.result.now in
    list_fails (place_at c.args.frames.now c.args.here) (loaded_of symbols c.args.pattern.now) (map (loaded_of symbols) elements) (s.term_of c.args.space.now c.args.at.now) c.is_list.result c.in_ok-match_first-in-List.field-0
    c.in_ok-match_first-in-List.ensures.attempt (rest_loaded_of symbols c.in-List.rest) (loaded_as_list symbols c.args.pattern.now c.in-List.elements c.in-List.rest elements c.in-List.is c.as_slice-elements.ensures.value) c.is_list.ensures c.if-not-is_list.false c.if-not-branch-3.true

pub match_pattern-returns-in_ok-yes-in-List-clause-attempt : goal.match_pattern-returns-in_ok-yes-in-List-clause-attempt
match_pattern-returns-in_ok-yes-in-List-clause-attempt g t c =
    let s = g.S.TermSpace.space in
    let w = c.args.space.now in
    let symbols = s.symbol_of w in
    let keeps = c.in_ok-match_first-in-List.ensures.keeps in
    let elements = c.as_slice-elements.result.now in
    let known = known_as_list (s.knows w) c.args.pattern.now c.in-List.elements c.in-List.rest elements c.in-List.is c.as_slice-elements.ensures.value c.requires.known in
    let w1 = c.match_first-in-List.new.space in
    list_goes (place_at c.args.frames.now c.args.here) (loaded_of symbols c.args.pattern.now) (map (loaded_of symbols) elements) (s.term_of w c.args.at.now) c.is_list.result c.in_ok-match_first-in-List.field-0 c.in_ok-match_first-in-List.ensures.attempt
    (rest_loaded_of symbols c.in-List.rest) (rest_loaded_of (s.symbol_of w1) c.in-List.rest) (s.term_of w1 c.args.at.now) c.in_ok-yes-in-List.yes (length elements) c.match_first-in-List.new.places.barrier
    (loaded_as_list symbols c.args.pattern.now c.in-List.elements c.in-List.rest elements c.in-List.is c.as_slice-elements.ensures.value) c.is_list.ensures c.if-not-is_list.false c.if-not-branch-3.false
    (sym (length-map elements (loaded_of symbols))) (rest_loaded_same (s.knows w) symbols (s.symbol_of w1) keeps.symbols c.in-List.rest known.1) (keeps.terms c.args.at.now c.requires.stands)
    c.in_ok-match_first-in-List.ensures.barrier c.in_ok-yes-in-List.ensures.keeps.standing c.in_ok-yes-in-List.ensures.attempt

pub match_rest-returns-in-None-clause-attempt : goal.match_rest-returns-in-None-clause-attempt
match_rest-returns-in-None-clause-attempt g t c =
    let s = g.S.TermSpace.space in
    no_rest (place_at c.args.frames.now c.args.here) (rest_loaded_of (s.symbol_of c.args.space.now) c.args.rest.now) (parts_of (s.term_of c.args.space.now c.args.at.now)) c.args.from c.count.result _ c.requires.places (ap (rest_loaded_of (s.symbol_of c.args.space.now)) c.in-None.is) c.requires.from c.count.ensures refl

pub match_rest-returns-in_ok-yes-in-Some-clause-attempt : goal.match_rest-returns-in_ok-yes-in-Some-clause-attempt
match_rest-returns-in_ok-yes-in-Some-clause-attempt g t c =
    let s = g.S.TermSpace.space in
    let w = c.args.space.now in
    let w1 = c.rest.new.self in
    let keeps = c.in_ok-others-in-Some.ensures.keeps in
    let pattern = c.deref.result.now in
    let known = rest_known_some (s.knows w) c.args.rest.now c.in-Some.pattern pattern c.in-Some.is c.deref.ensures c.requires.known in
    rest_goes (place_at c.args.frames.now c.args.here) (rest_loaded_of (s.symbol_of w) c.args.rest.now) (loaded_of (s.symbol_of w) pattern) (loaded_of (s.symbol_of w1) pattern) (drop c.args.from (parts_of (s.term_of w c.args.at.now))) (s.term_of w1 c.in_ok-others-in-Some.others) c.in_ok-yes-in-Some.yes
    c.requires.places keeps.terms (rest_loaded_some (s.knows w) c.args.rest.now c.in-Some.pattern pattern c.in-Some.is c.deref.ensures (s.symbol_of w)) (loaded_same (s.knows w) (s.symbol_of w) (s.symbol_of w1) keeps.symbols pattern known) c.in_ok-others-in-Some.ensures.term c.in_ok-yes-in-Some.ensures.attempt

pub match_bare-match_pattern-requires-2 : goal.match_bare-match_pattern-requires-2
match_bare-match_pattern-requires-2 g t c κs within =
    let keeps = c.in_ok-bare.ensures.keeps in
    (search (rules, the_lemmas), (within.0, (within.1.0, (within.1.1.0, (within.1.1.1, (known_later keeps.known c.args.pattern.now c.requires.known, (c.in_ok-bare.ensures.stands, all_changed keeps.standing c.args.places.now.slots c.requires.places)))))))

pub match_bare-returns-then-not-sees_annos-clause-attempt : goal.match_bare-returns-then-not-sees_annos-clause-attempt
match_bare-returns-then-not-sees_annos-clause-attempt g t c =
    let s = g.S.TermSpace.space in
    let w = c.args.space.now in
    unseen_goes (place_at c.args.frames.now c.args.here) (loaded_of (s.symbol_of w) c.args.pattern.now) (s.term_of w c.args.at.now) c.sees_annos.result c.in_ok-yes.yes (c.sees_annos.ensures (s.symbol_of w)) c.if-not-sees_annos.true c.in_ok-yes.ensures.attempt

pub match_bare-returns-clause-attempt : goal.match_bare-returns-clause-attempt
match_bare-returns-clause-attempt g d c =
    let s = g.S.TermSpace.space in
    let w = c.args.space.now in
    let w1 = c.bare.new.space in
    let keeps = c.in_ok-bare.ensures.keeps in
    let pattern = c.args.pattern.now in
    let t = s.term_of w c.args.at.now in
    bare_goes (place_at c.args.frames.now c.args.here) (loaded_of (s.symbol_of w) pattern) (loaded_of (s.symbol_of w1) pattern) (term (head_of t) (parts_of t) []) (s.term_of w1 c.in_ok-bare.bare) c.in_ok-yes-2.yes
    c.requires.places keeps.terms (loaded_same (s.knows w) (s.symbol_of w) (s.symbol_of w1) keeps.symbols pattern c.requires.known) c.in_ok-bare.ensures.term c.in_ok-yes-2.ensures.attempt

pub match_annos-loop-i-init : goal.match_annos-loop-i-init
match_annos-loop-i-init g t c =
    let s = g.S.TermSpace.space in
    (keeps_same s c.args.space.now, refl, goes_at_once c.requires.places refl)

pub match_annos-match_part-requires : goal.match_annos-match_part-requires
match_annos-match_part-requires g t c κs within =
    let keeps = c.loop-i.invariant.0 in
    let known = known_at (g.S.TermSpace.space.knows c.args.space.now) c.args.patterns.now c.loop-i.i c.index-patterns-i.result c.requires.known c.loop-i-test.true c.index-patterns-i.is in
    (search (rules, the_lemmas), (within.0, (within.1.0, (within.1.1.0, (within.1.1.1, (known_later keeps.known c.index-patterns-i.result known, (c.in_ok-anno.ensures.stands, c.loop-i.invariant.2.standing)))))))

pub match_annos-returns-then-not-branch-clause-keeps : goal.match_annos-returns-then-not-branch-clause-keeps
match_annos-returns-then-not-branch-clause-keeps g t c = keeps_then c.loop-i.invariant.0 c.in_ok-match_part.ensures.keeps

pub match_annos-returns-then-not-branch-clause-attempt : goal.match_annos-returns-then-not-branch-clause-attempt
match_annos-returns-then-not-branch-clause-attempt g t c =
    match_stops (place_at c.args.frames.now c.args.here) c.args.patterns.now (annos_of (g.S.TermSpace.space.term_of c.args.space.now c.args.at.now)) c.loop-i.i c.index-patterns-i.result (g.S.TermSpace.space.term_of c.loop-i.space c.in_ok-anno.anno) c.in_ok-match_part.field-0 c.loop-i.places.barrier
    c.requires.known c.loop-i.invariant.0 c.loop-i-test.true c.index-patterns-i.is (part_was annos_of c.args.at.now c.loop-i.i c.loop-i.invariant.0 c.requires.stands c.in_ok-anno.ensures.term) c.loop-i.invariant.2 c.in_ok-match_part.ensures.keeps c.loop-i.invariant.1 c.if-not-branch.true c.in_ok-match_part.ensures.attempt

pub match_annos-loop-i-preserved : goal.match_annos-loop-i-preserved
match_annos-loop-i-preserved g t c = (
  keeps_then c.loop-i.invariant.0 c.in_ok-match_part.ensures.keeps,
  c.in_ok-match_part.ensures.barrier ∙ c.loop-i.invariant.1,
  match_next (place_at c.args.frames.now c.args.here) c.args.patterns.now (annos_of (g.S.TermSpace.space.term_of c.args.space.now c.args.at.now)) c.loop-i.i c.index-patterns-i.result (g.S.TermSpace.space.term_of c.loop-i.space c.in_ok-anno.anno) c.in_ok-match_part.field-0 c.loop-i.places.barrier
      c.requires.known c.loop-i.invariant.0 c.loop-i-test.true c.index-patterns-i.is (part_was annos_of c.args.at.now c.loop-i.i c.loop-i.invariant.0 c.requires.stands c.in_ok-anno.ensures.term) c.loop-i.invariant.2 c.in_ok-match_part.ensures.keeps c.loop-i.invariant.1 c.if-not-branch.false c.in_ok-match_part.ensures.attempt,
)

pub match_pattern-returns-then-not-has_annos-clause-attempt : goal.match_pattern-returns-then-not-has_annos-clause-attempt
match_pattern-returns-then-not-has_annos-clause-attempt g t c =
    let s = g.S.TermSpace.space in
    let w = c.args.space.now in
    let symbols = s.symbol_of w in
    let annotations = c.as_slice-annotations.result.now in
    annotated_none (place_at c.args.frames.now c.args.here) (loaded_of symbols c.args.pattern.now) (loaded_of symbols c.in-Annotated.part.value) (map (loaded_of symbols) annotations) (s.term_of w c.args.at.now)
    (loaded_as_annotated symbols c.args.pattern.now c.in-Annotated.part c.in-Annotated.annotations c.in-Annotated.part.value annotations c.in-Annotated.is refl c.as_slice-annotations.ensures.value)
    (λ same. let yes = c.has_annos.ensures.1 (same ∙ length-map annotations (loaded_of symbols)) in let no = c.if-not-has_annos.true in absurd (cc)) c.requires.places

pub match_pattern-returns-then-not-branch-4-clause-attempt : goal.match_pattern-returns-then-not-branch-4-clause-attempt
match_pattern-returns-then-not-branch-4-clause-attempt g t c =
    let s = g.S.TermSpace.space in
    let w = c.args.space.now in
    let symbols = s.symbol_of w in
    let annotations = c.as_slice-annotations.result.now in
    let part = c.deref-in-Annotated.result.now in
    let many = c.has_annos.ensures.0 c.if-not-has_annos.false ∙ sym (length-map annotations (loaded_of symbols)) in
    annotated_fails (place_at c.args.frames.now c.args.here) (loaded_of symbols c.args.pattern.now) (loaded_of symbols part) (map (loaded_of symbols) annotations) (s.term_of w c.args.at.now) c.in_ok-match_bare-in-Annotated.field-0
    (loaded_as_annotated symbols c.args.pattern.now c.in-Annotated.part c.in-Annotated.annotations part annotations c.in-Annotated.is c.deref-in-Annotated.ensures c.as_slice-annotations.ensures.value) many c.in_ok-match_bare-in-Annotated.ensures.attempt c.if-not-branch-4.true

pub match_pattern-match_annos-requires : goal.match_pattern-match_annos-requires
match_pattern-match_annos-requires g t c κs within =
    let s = g.S.TermSpace.space in
    let w = c.args.space.now in
    let keeps = c.in_ok-match_bare-in-Annotated.ensures.keeps in
    let annotations = c.as_slice-annotations.result.now in
    let known = known_as_annotated (s.knows w) c.args.pattern.now c.in-Annotated.part c.in-Annotated.annotations c.deref-in-Annotated.result.now annotations c.in-Annotated.is c.deref-in-Annotated.ensures c.as_slice-annotations.ensures.value c.requires.known in
    let many = ap (λ u. length (annos_of u)) (keeps.terms c.args.at.now c.requires.stands) ∙ c.has_annos.ensures.0 c.if-not-has_annos.false in
    (search (rules, the_lemmas), (within.0, (within.1.0, (within.1.1.0, (within.1.1.1, (all_known_later keeps.known annotations known.1, (many, (keeps.standing c.args.at.now c.requires.stands, c.in_ok-match_bare-in-Annotated.ensures.attempt.standing))))))))

pub match_pattern-returns-in_ok-yes-in-Annotated-clause-attempt : goal.match_pattern-returns-in_ok-yes-in-Annotated-clause-attempt
match_pattern-returns-in_ok-yes-in-Annotated-clause-attempt g t c =
    let s = g.S.TermSpace.space in
    let w = c.args.space.now in
    let symbols = s.symbol_of w in
    let annotations = c.as_slice-annotations.result.now in
    let part = c.deref-in-Annotated.result.now in
    let w1 = c.match_bare.new.space in
    let keeps = c.in_ok-match_bare-in-Annotated.ensures.keeps in
    let known = known_as_annotated (s.knows w) c.args.pattern.now c.in-Annotated.part c.in-Annotated.annotations c.deref-in-Annotated.result.now annotations c.in-Annotated.is c.deref-in-Annotated.ensures c.as_slice-annotations.ensures.value c.requires.known in
    let many = c.has_annos.ensures.0 c.if-not-has_annos.false ∙ sym (length-map annotations (loaded_of symbols)) in
    annotated_goes (place_at c.args.frames.now c.args.here) (loaded_of symbols c.args.pattern.now) (loaded_of symbols part) (map (loaded_of symbols) annotations) (s.term_of w c.args.at.now) c.in_ok-match_bare-in-Annotated.field-0
    (loaded_as_annotated symbols c.args.pattern.now c.in-Annotated.part c.in-Annotated.annotations part annotations c.in-Annotated.is c.deref-in-Annotated.ensures c.as_slice-annotations.ensures.value) many c.in_ok-match_bare-in-Annotated.ensures.attempt
    (map (loaded_of (s.symbol_of w1)) annotations) (s.term_of w1 c.args.at.now) c.in_ok-yes-in-Annotated.yes c.match_bare.new.places.barrier c.if-not-branch-4.false c.in_ok-yes-in-Annotated.ensures.keeps.standing
    (all_loaded_same (s.knows w) symbols (s.symbol_of w1) keeps.symbols annotations known.1) (keeps.terms c.args.at.now c.requires.stands) c.in_ok-match_bare-in-Annotated.ensures.barrier c.in_ok-yes-in-Annotated.ensures.attempt

pub match_first-returns-in_err-match_part-clause-unchanged : goal.match_first-returns-in_err-match_part-clause-unchanged
match_first-returns-in_err-match_part-clause-unchanged g t c = λ h.
    let s = g.S.TermSpace.space in
    c.match_part.ensures.unchanged
    (part_leaves (s.knows c.args.space.now) (s.symbol_of c.args.space.now) (s.symbol_of c.loop-i.space) c.loop-i.invariant.0.symbols c.args.patterns.now c.loop-i.i c.index-patterns-i.result c.requires.known c.loop-i-test.true c.index-patterns-i.is h) ∙ c.loop-i.invariant.4 h

pub match_first-returns-then-not-branch-clause-unchanged : goal.match_first-returns-then-not-branch-clause-unchanged
match_first-returns-then-not-branch-clause-unchanged g t c = λ h.
    let s = g.S.TermSpace.space in
    c.in_ok-match_part.ensures.unchanged
    (part_leaves (s.knows c.args.space.now) (s.symbol_of c.args.space.now) (s.symbol_of c.loop-i.space) c.loop-i.invariant.0.symbols c.args.patterns.now c.loop-i.i c.index-patterns-i.result c.requires.known c.loop-i-test.true c.index-patterns-i.is h) ∙ c.loop-i.invariant.4 h

pub match_pattern-returns-in_err-match_first-in-Applied-clause-unchanged : goal.match_pattern-returns-in_err-match_first-in-Applied-clause-unchanged
match_pattern-returns-in_err-match_first-in-Applied-clause-unchanged g t c = λ h.
    let symbols = g.S.TermSpace.space.symbol_of c.args.space.now in
    let parts = c.as_slice-parts.result.now in
    c.match_first.ensures.unchanged (applied_leaves (loaded_of symbols c.args.pattern.now) (symbols c.in-Applied.name) (map (loaded_of symbols) parts)
    (loaded_as_applied symbols c.args.pattern.now c.in-Applied.name c.in-Applied.parts parts c.in-Applied.is c.as_slice-parts.ensures.value) h)

pub match_pattern-returns-then-not-branch-2-clause-unchanged : goal.match_pattern-returns-then-not-branch-2-clause-unchanged
match_pattern-returns-then-not-branch-2-clause-unchanged g t c = λ h.
    let symbols = g.S.TermSpace.space.symbol_of c.args.space.now in
    let parts = c.as_slice-parts.result.now in
    c.in_ok-match_first-in-Applied.ensures.unchanged (applied_leaves (loaded_of symbols c.args.pattern.now) (symbols c.in-Applied.name) (map (loaded_of symbols) parts)
    (loaded_as_applied symbols c.args.pattern.now c.in-Applied.name c.in-Applied.parts parts c.in-Applied.is c.as_slice-parts.ensures.value) h)

pub match_pattern-returns-else-not-branch-2-clause-unchanged : goal.match_pattern-returns-else-not-branch-2-clause-unchanged
match_pattern-returns-else-not-branch-2-clause-unchanged g t c = λ h.
    let symbols = g.S.TermSpace.space.symbol_of c.args.space.now in
    let parts = c.as_slice-parts.result.now in
    c.in_ok-match_first-in-Applied.ensures.unchanged (applied_leaves (loaded_of symbols c.args.pattern.now) (symbols c.in-Applied.name) (map (loaded_of symbols) parts)
    (loaded_as_applied symbols c.args.pattern.now c.in-Applied.name c.in-Applied.parts parts c.in-Applied.is c.as_slice-parts.ensures.value) h)

pub match_pattern-returns-in_err-match_first-in-List-clause-unchanged : goal.match_pattern-returns-in_err-match_first-in-List-clause-unchanged
match_pattern-returns-in_err-match_first-in-List-clause-unchanged g t c = λ h.
    let symbols = g.S.TermSpace.space.symbol_of c.args.space.now in
    let elements = c.as_slice-elements.result.now in
    let none = list_leaves symbols (loaded_of symbols c.args.pattern.now) (map (loaded_of symbols) elements) c.in-List.rest (loaded_as_list symbols c.args.pattern.now c.in-List.elements c.in-List.rest elements c.in-List.is c.as_slice-elements.ensures.value) h in
    c.match_first-in-List.ensures.unchanged none.0

pub match_pattern-returns-then-not-branch-3-clause-unchanged : goal.match_pattern-returns-then-not-branch-3-clause-unchanged
match_pattern-returns-then-not-branch-3-clause-unchanged g t c = λ h.
    let symbols = g.S.TermSpace.space.symbol_of c.args.space.now in
    let elements = c.as_slice-elements.result.now in
    let none = list_leaves symbols (loaded_of symbols c.args.pattern.now) (map (loaded_of symbols) elements) c.in-List.rest (loaded_as_list symbols c.args.pattern.now c.in-List.elements c.in-List.rest elements c.in-List.is c.as_slice-elements.ensures.value) h in
    c.in_ok-match_first-in-List.ensures.unchanged none.0

pub match_pattern-returns-in_err-yes-in-List-clause-unchanged : goal.match_pattern-returns-in_err-yes-in-List-clause-unchanged
match_pattern-returns-in_err-yes-in-List-clause-unchanged g t c = λ h.
    let symbols = g.S.TermSpace.space.symbol_of c.args.space.now in
    let elements = c.as_slice-elements.result.now in
    let none = list_leaves symbols (loaded_of symbols c.args.pattern.now) (map (loaded_of symbols) elements) c.in-List.rest (loaded_as_list symbols c.args.pattern.now c.in-List.elements c.in-List.rest elements c.in-List.is c.as_slice-elements.ensures.value) h in
    c.match_rest.ensures.unchanged none.1 ∙ c.in_ok-match_first-in-List.ensures.unchanged none.0

pub match_pattern-returns-in_ok-yes-in-List-clause-unchanged : goal.match_pattern-returns-in_ok-yes-in-List-clause-unchanged
match_pattern-returns-in_ok-yes-in-List-clause-unchanged g t c = λ h.
    let symbols = g.S.TermSpace.space.symbol_of c.args.space.now in
    let elements = c.as_slice-elements.result.now in
    let none = list_leaves symbols (loaded_of symbols c.args.pattern.now) (map (loaded_of symbols) elements) c.in-List.rest (loaded_as_list symbols c.args.pattern.now c.in-List.elements c.in-List.rest elements c.in-List.is c.as_slice-elements.ensures.value) h in
    c.in_ok-yes-in-List.ensures.unchanged none.1 ∙ c.in_ok-match_first-in-List.ensures.unchanged none.0

-- many parts, which were pushed
pub match_each-loop-i-init : goal.match_each-loop-i-init
match_each-loop-i-init g t c =
    let s = g.S.TermSpace.space in
    (keeps_same s c.args.space.now, refl, omega arith, goes_at_once c.requires.places refl, λ h. refl)

pub match_each-returns-then-i-count-clause-attempt : goal.match_each-returns-then-i-count-clause-attempt
match_each-returns-then-i-count-clause-attempt g t c =
    let s = g.S.TermSpace.space in
    let terms = c.args.terms.now in
    match_lacks (place_at c.args.frames.now c.args.here) (loaded_of (s.symbol_of c.args.space.now)) c.args.patterns.now (map (s.term_of c.args.space.now) terms) c.loop-i.i (length terms) c.loop-i-test.true (sym (length-map terms (s.term_of c.args.space.now))) c.if-i-count.true c.loop-i.invariant.3

pub match_each-match_part-requires : goal.match_each-match_part-requires
match_each-match_part-requires g t c κs within =
    let s = g.S.TermSpace.space in
    let known = known_at (s.knows c.args.space.now) c.args.patterns.now c.loop-i.i c.index-patterns-i.result c.requires.known c.loop-i-test.true c.index-patterns-i.is in
    let stands = ref_stands c.args.terms.now c.loop-i.i c.index-terms-i.result c.loop-i.invariant.0 c.requires.stand c.if-i-count.false c.index-terms-i.is in
    (search (rules, the_lemmas), (within.0, (within.1.0, (within.1.1.0, (within.1.1.1, (known_later c.loop-i.invariant.0.known c.index-patterns-i.result known, (stands, c.loop-i.invariant.3.standing)))))))

pub match_each-returns-then-not-branch-clause-keeps : goal.match_each-returns-then-not-branch-clause-keeps
match_each-returns-then-not-branch-clause-keeps g t c = keeps_then c.loop-i.invariant.0 c.in_ok-match_part.ensures.keeps

pub match_each-returns-then-not-branch-clause-attempt : goal.match_each-returns-then-not-branch-clause-attempt
match_each-returns-then-not-branch-clause-attempt g t c =
    let s = g.S.TermSpace.space in
    let terms = c.args.terms.now in
    let was = ref_was terms c.loop-i.i c.index-terms-i.result c.loop-i.invariant.0 c.requires.stand c.if-i-count.false c.index-terms-i.is in
    match_stops (place_at c.args.frames.now c.args.here) c.args.patterns.now (map (s.term_of c.args.space.now) terms) c.loop-i.i c.index-patterns-i.result (s.term_of c.loop-i.space c.index-terms-i.result) c.in_ok-match_part.field-0 c.loop-i.places.barrier
    c.requires.known c.loop-i.invariant.0 c.loop-i-test.true c.index-patterns-i.is was c.loop-i.invariant.3 c.in_ok-match_part.ensures.keeps c.loop-i.invariant.1 c.if-not-branch.true c.in_ok-match_part.ensures.attempt

pub match_each-loop-i-preserved : goal.match_each-loop-i-preserved
match_each-loop-i-preserved g t c =
    let s = g.S.TermSpace.space in
    let terms = c.args.terms.now in
    let was = ref_was terms c.loop-i.i c.index-terms-i.result c.loop-i.invariant.0 c.requires.stand c.if-i-count.false c.index-terms-i.is in (
      keeps_then c.loop-i.invariant.0 c.in_ok-match_part.ensures.keeps,
      c.in_ok-match_part.ensures.barrier ∙ c.loop-i.invariant.1,
      (let below = c.if-i-count.false in omega arith),
      match_next (place_at c.args.frames.now c.args.here) c.args.patterns.now (map (s.term_of c.args.space.now) terms) c.loop-i.i c.index-patterns-i.result (s.term_of c.loop-i.space c.index-terms-i.result) c.in_ok-match_part.field-0 c.loop-i.places.barrier
          c.requires.known c.loop-i.invariant.0 c.loop-i-test.true c.index-patterns-i.is was c.loop-i.invariant.3 c.in_ok-match_part.ensures.keeps c.loop-i.invariant.1 c.if-not-branch.false c.in_ok-match_part.ensures.attempt,
      λ h.
          c.in_ok-match_part.ensures.unchanged
          (part_leaves (s.knows c.args.space.now) (s.symbol_of c.args.space.now) (s.symbol_of c.loop-i.space) c.loop-i.invariant.0.symbols c.args.patterns.now c.loop-i.i c.index-patterns-i.result c.requires.known c.loop-i-test.true c.index-patterns-i.is h) ∙ c.loop-i.invariant.4 h,
    )

pub match_each-returns-in_err-match_part-clause-unchanged : goal.match_each-returns-in_err-match_part-clause-unchanged
match_each-returns-in_err-match_part-clause-unchanged g t c = λ h.
    let s = g.S.TermSpace.space in
    c.match_part.ensures.unchanged
    (part_leaves (s.knows c.args.space.now) (s.symbol_of c.args.space.now) (s.symbol_of c.loop-i.space) c.loop-i.invariant.0.symbols c.args.patterns.now c.loop-i.i c.index-patterns-i.result c.requires.known c.loop-i-test.true c.index-patterns-i.is h) ∙ c.loop-i.invariant.4 h

pub match_each-returns-then-not-branch-clause-unchanged : goal.match_each-returns-then-not-branch-clause-unchanged
match_each-returns-then-not-branch-clause-unchanged g t c = λ h.
    let s = g.S.TermSpace.space in
    c.in_ok-match_part.ensures.unchanged
    (part_leaves (s.knows c.args.space.now) (s.symbol_of c.args.space.now) (s.symbol_of c.loop-i.space) c.loop-i.invariant.0.symbols c.args.patterns.now c.loop-i.i c.index-patterns-i.result c.requires.known c.loop-i-test.true c.index-patterns-i.is h) ∙ c.loop-i.invariant.4 h

pub match_first-match_each-requires : goal.match_first-match_each-requires
match_first-match_each-requires g t c κs within =
    (search (rules, the_lemmas), (within.0, (within.1.0, (within.1.1.0, (within.1.1.1, (c.requires.known, (first_stand c.in_ok-parts.ensures c.deref.ensures.value, c.requires.places)))))))

pub match_first-returns-then-patterns-gt-FEW-clause-attempt : goal.match_first-returns-then-patterns-gt-FEW-clause-attempt
match_first-returns-then-patterns-gt-FEW-clause-attempt g t c =
    let ps = c.args.patterns.now in
    let symbols = g.S.TermSpace.space.symbol_of c.args.space.now in
    first_goes c.in_ok-parts.ensures c.deref.ensures.value (place_at c.args.frames.now c.args.here) (map (loaded_of symbols) ps) c.in_ok-yes.yes (length-map ps (loaded_of symbols)) c.in_ok-yes.ensures.attempt

pub match_first-returns-then-patterns-gt-FEW-clause-enough : goal.match_first-returns-then-patterns-gt-FEW-clause-enough
match_first-returns-then-patterns-gt-FEW-clause-enough g t c = λ so. first_enough c.in_ok-parts.ensures c.deref.ensures.value (c.in_ok-yes.ensures.enough so)

pub match_annos-match_each-requires : goal.match_annos-match_each-requires
match_annos-match_each-requires g t c κs within =
    (search (rules, the_lemmas), (within.0, (within.1.0, (within.1.1.0, (within.1.1.1, (c.requires.known, (pushed_stand c.in_ok-push_annos.ensures.pushed c.new-annos.ensures.items c.deref.ensures.value, c.requires.places)))))))

pub match_annos-returns-then-patterns-gt-FEW-clause-attempt : goal.match_annos-returns-then-patterns-gt-FEW-clause-attempt
match_annos-returns-then-patterns-gt-FEW-clause-attempt g t c =
    pushed_goes c.in_ok-push_annos.ensures.pushed c.new-annos.ensures.items c.deref.ensures.value (place_at c.args.frames.now c.args.here) (map (loaded_of (g.S.TermSpace.space.symbol_of c.args.space.now)) c.args.patterns.now) c.in_ok-yes.yes c.in_ok-yes.ensures.attempt
