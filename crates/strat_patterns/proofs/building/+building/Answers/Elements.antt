-- the parts of an application, and the elements of a list, on the stack
use Rattle.std.proofs.Common.{rules, [], ◌≡◌, ◌+◌, ◌∙◌, refl, sym, ap, subst, map, drop, Some, None}
use Rattle.std.specs.Option.{option_map}
use Rattle.core_lang.specs.Building as building
use Rattle.core_lang.specs.Building.{elements_of, instance, value_in}
use Rattle.core_lang.specs.Views.{elements_in}
use Rattle.strat_patterns.specs.declared.loaded.LoadedPattern.TheViews.{the_lemmas}
use Rattle.strat_patterns.specs.Builds.{instances_then, AreElements, IsKept, Puts}
use Rattle.strat_patterns.specs.Loaded.{loaded_of, all_loaded_of, rest_loaded_of}
use Rattle.strat_steps.specs.State.{place_at}
use Rattle.strat_steps.proofs.ReferenceLaws.{all_changed}
use Rattle.term_model.proofs.SpaceLaws.{keeps_same, keeps_then}
use Rattle.strat_patterns.proofs.MatchingLaws.{known_at}
use Rattle.strat_patterns.proofs.LoadedLaws.{loaded_as_anything, loaded_as_variable, loaded_as_alias, loaded_as_integer, loaded_as_like, loaded_as_applied, loaded_as_list, loaded_as_annotated, loaded_same, known_as_list, known_as_annotated, known_later, rest_known_later, rest_loaded_same, rest_known_some, rest_loaded_some}
use Rattle.strat_patterns.proofs.ElementLaws.{list_puts, puts_nothing, puts_nothing_at, puts_as, building_starts, building_next, building_stops, building_ends, building_large, builds_as, lacks_annotation, elements_inner_annotated, next_pattern, no_pattern, same_instance, elements_as, elements_of_list_pattern, elements_of_variable, elements_no_like, elements_of_anything, elements_of_alias, elements_of_integer, elements_of_applied, rest_ends, rest_goes_on}
use Rattle.strat_patterns.proofs.building.+building.Goals as goal

pub push_all-loop-p-init : goal.push_all-loop-p-init
push_all-loop-p-init g t c =
    let s = g.S.TermSpace.space in
    let w = c.args.space.now in (
      keeps_same s w,
      building_starts s w (instances_then (place_at c.args.frames.now c.args.here)
          (map (option_map (s.term_of w)) c.args.slots.now) (map (loaded_of (s.symbol_of w)) c.args.patterns.now))
          c.args.stack.now.items,
    )

pub push_all-build_part-requires : goal.push_all-build_part-requires
push_all-build_part-requires g t c κs within =
    let keeps = c.loop-p.invariant.0 in
    let known = known_at (g.S.TermSpace.space.knows c.args.space.now)
    c.args.patterns.now c.loop-p.p-index c.p-item.result c.requires.known c.loop-p-test.true c.p-item.is in (
      search (rules, the_lemmas),
      (
        within.0,
        (
          within.1.0,
          (
            within.1.1.0,
            (
              within.1.1.1,
              (
                known_later keeps.known c.p-item.result known,
                all_changed keeps.standing c.args.slots.now c.requires.slots,
              ),
            ),
          ),
        ),
      ),
    )

pub push_all-returns-in_err-built-clause-keeps : goal.push_all-returns-in_err-built-clause-keeps
push_all-returns-in_err-built-clause-keeps g t c = keeps_then c.loop-p.invariant.0 c.build_part.ensures.keeps

pub push_all-returns-in_err-kept-clause-keeps : goal.push_all-returns-in_err-kept-clause-keeps
push_all-returns-in_err-kept-clause-keeps g t c = keeps_then c.loop-p.invariant.0 c.build_part.ensures.keeps

pub push_all-returns-in_default-clause-keeps : goal.push_all-returns-in_default-clause-keeps
push_all-returns-in_default-clause-keeps g t c = keeps_then c.loop-p.invariant.0 c.build_part.ensures.keeps

pub push_all-returns-in_default-clause-built : goal.push_all-returns-in_default-clause-built
push_all-returns-in_default-clause-built g t c =
    let s = g.S.TermSpace.space in
    let w = c.args.space.now in
    let w1 = c.loop-p.space in
    let place = place_at c.args.frames.now c.args.here in
    let symbols = s.symbol_of w in
    let terms = map (option_map (s.term_of w)) c.args.slots.now in
    let all = instances_then place terms in
    let ps = map (loaded_of symbols) c.args.patterns.now in
    let i = c.loop-p.p-index in
    let keeps = c.loop-p.invariant.0 in
    let p = c.p-item.result in
    let w2 = c.build_part.new.space in
    let later = c.in_ok-built.ensures.keeps in
    let here_known = known_at (s.knows w) c.args.patterns.now i p c.requires.known c.loop-p-test.true c.p-item.is in
    let same = same_instance s w w1 place (loaded_of symbols p) (loaded_of (s.symbol_of w1) p)
    c.args.slots.now keeps.terms c.requires.slots
    (loaded_same (s.knows w) symbols (s.symbol_of w1) keeps.symbols p here_known) in
    let made = builds_as s w2 (instance place (loaded_of (s.symbol_of w1) p)
    (map (option_map (s.term_of w1)) c.args.slots.now)) (instance place (loaded_of symbols p) terms)
    c.in_ok-built.built (sym same) c.in_ok-built.ensures.built in
    let kept = subst (λ xs. IsKept c.in_ok-built.built c.in_ok-kept.field-0 xs c.keep.new.stack.items)
    c.in_ok-built.ensures.stack c.in_ok-kept.ensures in
    building_stops s w1 w2 (all ps) (all (drop i ps)) (all (drop (i + 1) ps))
    later.standing later.terms (instance place (loaded_of symbols p) terms)
    (next_pattern place terms (loaded_of symbols) c.args.patterns.now i p c.loop-p-test.true c.p-item.is)
    c.args.stack.now.items c.loop-p.stack.items c.keep.new.stack.items c.in_ok-built.built c.in_ok-kept.field-0
    c.loop-p.fit made kept c.in_default.is c.loop-p.invariant.1

pub push_all-loop-p-preserved : goal.push_all-loop-p-preserved
push_all-loop-p-preserved g t c =
    let s = g.S.TermSpace.space in
    let w = c.args.space.now in
    let w1 = c.loop-p.space in
    let place = place_at c.args.frames.now c.args.here in
    let symbols = s.symbol_of w in
    let terms = map (option_map (s.term_of w)) c.args.slots.now in
    let all = instances_then place terms in
    let ps = map (loaded_of symbols) c.args.patterns.now in
    let i = c.loop-p.p-index in
    let keeps = c.loop-p.invariant.0 in
    let p = c.p-item.result in
    let w2 = c.build_part.new.space in
    let later = c.in_ok-built.ensures.keeps in
    let here_known = known_at (s.knows w) c.args.patterns.now i p c.requires.known c.loop-p-test.true c.p-item.is in
    let same = same_instance s w w1 place (loaded_of symbols p) (loaded_of (s.symbol_of w1) p)
    c.args.slots.now keeps.terms c.requires.slots
    (loaded_same (s.knows w) symbols (s.symbol_of w1) keeps.symbols p here_known) in
    let made = builds_as s w2 (instance place (loaded_of (s.symbol_of w1) p)
    (map (option_map (s.term_of w1)) c.args.slots.now)) (instance place (loaded_of symbols p) terms)
    c.in_ok-built.built (sym same) c.in_ok-built.ensures.built in
    let kept = subst (λ xs. IsKept c.in_ok-built.built c.in_ok-kept.field-0 xs c.keep.new.stack.items)
    c.in_ok-built.ensures.stack c.in_ok-kept.ensures in
    let next = building_next s w1 w2 (all ps) (all (drop i ps)) (all (drop (i + 1) ps))
    later.standing later.terms (instance place (loaded_of symbols p) terms)
    (next_pattern place terms (loaded_of symbols) c.args.patterns.now i p c.loop-p-test.true c.p-item.is)
    c.args.stack.now.items c.loop-p.stack.items c.keep.new.stack.items c.in_ok-built.built c.in_ok-kept.field-0
    c.in-Some.kept c.loop-p.fit _ made kept c.in-Some.is refl c.loop-p.invariant.1 in
    (keeps_then keeps c.build_part.ensures.keeps, next)

pub push_all-returns-then-not-fit-clause-built : goal.push_all-returns-then-not-fit-clause-built
push_all-returns-then-not-fit-clause-built g t c =
    let s = g.S.TermSpace.space in
    let w = c.args.space.now in
    let w1 = c.loop-p.space in
    let place = place_at c.args.frames.now c.args.here in
    let symbols = s.symbol_of w in
    let terms = map (option_map (s.term_of w)) c.args.slots.now in
    let all = instances_then place terms in
    let ps = map (loaded_of symbols) c.args.patterns.now in
    let i = c.loop-p.p-index in
    let keeps = c.loop-p.invariant.0 in
    building_large s w1 (all ps) (all (drop i ps))
    c.args.stack.now.items c.loop-p.stack.items c.loop-p.fit
    (no_pattern place terms (loaded_of symbols) c.args.patterns.now i c.loop-p-test.false)
    c.if-not-fit.true c.loop-p.invariant.1

pub push_all-returns-clause-built : goal.push_all-returns-clause-built
push_all-returns-clause-built g t c =
    let s = g.S.TermSpace.space in
    let w = c.args.space.now in
    let w1 = c.loop-p.space in
    let place = place_at c.args.frames.now c.args.here in
    let symbols = s.symbol_of w in
    let terms = map (option_map (s.term_of w)) c.args.slots.now in
    let all = instances_then place terms in
    let ps = map (loaded_of symbols) c.args.patterns.now in
    let i = c.loop-p.p-index in
    let keeps = c.loop-p.invariant.0 in
    building_ends s w1 (all ps) (all (drop i ps))
    c.args.stack.now.items c.loop-p.stack.items c.loop-p.fit
    (no_pattern place terms (loaded_of symbols) c.args.patterns.now i c.loop-p-test.false)
    c.if-not-fit.false c.loop-p.invariant.1

pub push_rest-push_tail-requires : goal.push_rest-push_tail-requires
push_rest-push_tail-requires g t c κs within =
    let known = rest_known_some (g.S.TermSpace.space.knows c.args.space.now)
    c.args.rest.now c.in-Some.p c.deref.result.now c.in-Some.is c.deref.ensures c.requires.known in
    (search (rules, the_lemmas), (within.0, (within.1.0, (within.1.1.0, (within.1.1.1, (known, c.requires.slots))))))

pub push_rest-returns-in-None-clause-elements : goal.push_rest-returns-in-None-clause-elements
push_rest-returns-in-None-clause-elements g t c =
    let s = g.S.TermSpace.space in
    let w = c.args.space.now in
    let place = place_at c.args.frames.now c.args.here in
    let symbols = s.symbol_of w in
    let terms = map (option_map (s.term_of w)) c.args.slots.now in
    puts_nothing s w c.args.stack.now.items _
    (rest_ends place terms (rest_loaded_of symbols c.args.rest.now) (ap (rest_loaded_of symbols) c.in-None.is))

pub push_rest-returns-in_ok-others-in-Some-clause-elements : goal.push_rest-returns-in_ok-others-in-Some-clause-elements
push_rest-returns-in_ok-others-in-Some-clause-elements g t c =
    let s = g.S.TermSpace.space in
    let w = c.args.space.now in
    let place = place_at c.args.frames.now c.args.here in
    let symbols = s.symbol_of w in
    let terms = map (option_map (s.term_of w)) c.args.slots.now in
    let p = c.deref.result.now in
    let rest = rest_loaded_of symbols c.args.rest.now in
    puts_as (λ rs h. elements_as s c.push_tail.new.space (elements_of (instance place (loaded_of symbols p) terms))
    (building.element_instances place (elements_in [] rest) terms) rs c.in_ok-others-in-Some.others
    (rest_goes_on place terms rest (loaded_of symbols p)
    (rest_loaded_some (s.knows w) c.args.rest.now c.in-Some.p p c.in-Some.is c.deref.ensures symbols)) h)
    c.in_ok-others-in-Some.ensures.elements

pub push_tail-push_all-requires : goal.push_tail-push_all-requires
push_tail-push_all-requires g t c κs within =
    let known = known_as_list (g.S.TermSpace.space.knows c.args.space.now)
    c.args.pattern.now c.in-List.first c.in-List.rest c.as_slice-first.result.now c.in-List.is
    c.as_slice-first.ensures.value c.requires.known in
    (search (rules, the_lemmas), (within.0, (within.1.0, (within.1.1.0, (within.1.1.1, (known.0, c.requires.slots))))))

pub push_tail-push_rest-requires : goal.push_tail-push_rest-requires
push_tail-push_rest-requires g t c κs within =
    let known = known_as_list (g.S.TermSpace.space.knows c.args.space.now)
    c.args.pattern.now c.in-List.first c.in-List.rest c.as_slice-first.result.now c.in-List.is
    c.as_slice-first.ensures.value c.requires.known in
    let keeps = c.in_ok-firsts-in-List.ensures.keeps in (
      search (rules, the_lemmas),
      (
        within.0,
        (
          within.1.0,
          (
            within.1.1.0,
            (
              within.1.1.1,
              (
                rest_known_later keeps.known c.in-List.rest known.1,
                all_changed keeps.standing c.args.slots.now c.requires.slots,
              ),
            ),
          ),
        ),
      ),
    )

pub push_tail-returns-in_default-clause-elements : goal.push_tail-returns-in_default-clause-elements
push_tail-returns-in_default-clause-elements g t c =
    let s = g.S.TermSpace.space in
    let w = c.args.space.now in
    let place = place_at c.args.frames.now c.args.here in
    let symbols = s.symbol_of w in
    let terms = map (option_map (s.term_of w)) c.args.slots.now in
    let whole = loaded_of symbols c.args.pattern.now in
    puts_nothing s w c.args.stack.now.items _
    (elements_of_variable place terms whole c.in-Variable.x None
    (loaded_as_variable symbols c.args.pattern.now c.in-Variable.x c.in-Variable.is) c.in_default.ensures)

pub push_tail-returns-in_ok-tail-in-Variable-clause-elements :
    goal.push_tail-returns-in_ok-tail-in-Variable-clause-elements
push_tail-returns-in_ok-tail-in-Variable-clause-elements g t c =
    let s = g.S.TermSpace.space in
    let w = c.args.space.now in
    let place = place_at c.args.frames.now c.args.here in
    let symbols = s.symbol_of w in
    let terms = map (option_map (s.term_of w)) c.args.slots.now in
    let whole = loaded_of symbols c.args.pattern.now in
    let value = Some (s.term_of w c.in-Some.at.now) in
    puts_nothing s w c.args.stack.now.items
    (λ rs. AreElements s w (elements_of (instance place whole terms)) rs c.in_ok-tail-in-Variable.tail)
    (elements_as s w (elements_of value) (elements_of (instance place whole terms)) [] c.in_ok-tail-in-Variable.tail
    (elements_of_variable place terms whole c.in-Variable.x value
    (loaded_as_variable symbols c.args.pattern.now c.in-Variable.x c.in-Variable.is) c.in-Some.ensures.1)
    c.in_ok-tail-in-Variable.ensures)

pub push_tail-returns-in_ok-others-in-List-clause-keeps : goal.push_tail-returns-in_ok-others-in-List-clause-keeps
push_tail-returns-in_ok-others-in-List-clause-keeps g t c =
    keeps_then c.in_ok-firsts-in-List.ensures.keeps c.in_ok-others-in-List.ensures.keeps

pub push_tail-returns-in_ok-others-in-List-clause-elements : goal.push_tail-returns-in_ok-others-in-List-clause-elements
push_tail-returns-in_ok-others-in-List-clause-elements g t c =
    let s = g.S.TermSpace.space in
    let w = c.args.space.now in
    let place = place_at c.args.frames.now c.args.here in
    let symbols = s.symbol_of w in
    let terms = map (option_map (s.term_of w)) c.args.slots.now in
    let first = c.as_slice-first.result.now in
    let rest = rest_loaded_of symbols c.in-List.rest in
    let keeps = c.in_ok-firsts-in-List.ensures.keeps in
    let later = c.in_ok-others-in-List.ensures.keeps in
    let known = known_as_list (s.knows w)
    c.args.pattern.now c.in-List.first c.in-List.rest first c.in-List.is c.as_slice-first.ensures.value
    c.requires.known in
    let all = building.element_instances place (elements_in (map (loaded_of symbols) first) rest) terms in
    let same_rest = rest_loaded_same (s.knows w) symbols (s.symbol_of c.push_all.new.space)
    keeps.symbols c.in-List.rest known.1 in
    let put = list_puts s w c.push_all.new.space c.push_rest.new.space place c.args.slots.now
    (map (loaded_of symbols) first) rest (rest_loaded_of (s.symbol_of c.push_all.new.space) c.in-List.rest)
    c.in_ok-firsts-in-List.firsts c.in_ok-others-in-List.others c.join.result
    c.args.stack.now.items c.push_all.new.stack.items c.push_rest.new.stack.items c.requires.slots keeps.terms same_rest
    later.standing later.terms c.join.ensures c.in_ok-firsts-in-List.ensures.built
    c.in_ok-others-in-List.ensures.elements in
    puts_as (λ rs h. elements_as s c.push_rest.new.space all
    (elements_of (instance place (loaded_of symbols c.args.pattern.now) terms)) rs c.join.result
    (elements_of_list_pattern place terms (loaded_of symbols c.args.pattern.now) (map (loaded_of symbols) first)
    rest (loaded_as_list symbols c.args.pattern.now c.in-List.first c.in-List.rest first c.in-List.is
    c.as_slice-first.ensures.value)) h) put

pub push_tail-returns-then-is_none-clause-elements : goal.push_tail-returns-then-is_none-clause-elements
push_tail-returns-then-is_none-clause-elements g t c =
    let s = g.S.TermSpace.space in
    let w = c.args.space.now in
    let place = place_at c.args.frames.now c.args.here in
    let symbols = s.symbol_of w in
    let terms = map (option_map (s.term_of w)) c.args.slots.now in
    let whole = loaded_of symbols c.args.pattern.now in
    let none : value_in (place c.in-Like.x) terms ≡ None = search rules in
    puts_nothing s w c.args.stack.now.items _
    (elements_no_like place terms whole (loaded_of symbols c.in-Like.part.value)
    c.in-Like.x (loaded_as_like symbols c.args.pattern.now c.in-Like.part c.in-Like.x c.in-Like.is) none)

pub push_tail-returns-in-Anything-clause-elements : goal.push_tail-returns-in-Anything-clause-elements
push_tail-returns-in-Anything-clause-elements g t c =
    let s = g.S.TermSpace.space in
    let w = c.args.space.now in
    let place = place_at c.args.frames.now c.args.here in
    let symbols = s.symbol_of w in
    let terms = map (option_map (s.term_of w)) c.args.slots.now in
    let whole = loaded_of symbols c.args.pattern.now in
    puts_nothing s w c.args.stack.now.items _
    (elements_of_anything place terms whole (loaded_as_anything symbols c.args.pattern.now c.in-Anything.is))

pub push_tail-returns-in-Alias-clause-elements : goal.push_tail-returns-in-Alias-clause-elements
push_tail-returns-in-Alias-clause-elements g t c =
    let s = g.S.TermSpace.space in
    let w = c.args.space.now in
    let place = place_at c.args.frames.now c.args.here in
    let symbols = s.symbol_of w in
    let terms = map (option_map (s.term_of w)) c.args.slots.now in
    let whole = loaded_of symbols c.args.pattern.now in
    puts_nothing s w c.args.stack.now.items _
    (elements_of_alias place terms whole (loaded_of symbols c.in-Alias.field-1.value)
    c.in-Alias.field-0 (loaded_as_alias symbols c.args.pattern.now c.in-Alias.field-0 c.in-Alias.field-1
    c.in-Alias.field-1.value c.in-Alias.is refl))

pub push_tail-returns-in-Integer-clause-elements : goal.push_tail-returns-in-Integer-clause-elements
push_tail-returns-in-Integer-clause-elements g t c =
    let s = g.S.TermSpace.space in
    let w = c.args.space.now in
    let place = place_at c.args.frames.now c.args.here in
    let symbols = s.symbol_of w in
    let terms = map (option_map (s.term_of w)) c.args.slots.now in
    let whole = loaded_of symbols c.args.pattern.now in
    puts_nothing s w c.args.stack.now.items _
    (elements_of_integer place terms whole c.in-Integer.field-0
    (loaded_as_integer symbols c.args.pattern.now c.in-Integer.field-0 c.in-Integer.is))

pub push_tail-returns-in-Applied-clause-elements : goal.push_tail-returns-in-Applied-clause-elements
push_tail-returns-in-Applied-clause-elements g t c =
    let s = g.S.TermSpace.space in
    let w = c.args.space.now in
    let place = place_at c.args.frames.now c.args.here in
    let symbols = s.symbol_of w in
    let terms = map (option_map (s.term_of w)) c.args.slots.now in
    let whole = loaded_of symbols c.args.pattern.now in
    puts_nothing s w c.args.stack.now.items _
    (elements_of_applied place terms whole (symbols c.in-Applied.field-0)
    (map (loaded_of symbols) c.in-Applied.field-1.items)
    (loaded_as_applied symbols c.args.pattern.now c.in-Applied.field-0 c.in-Applied.field-1
    c.in-Applied.field-1.items c.in-Applied.is refl))

pub push_tail-have_instances-requires : goal.push_tail-have_instances-requires
push_tail-have_instances-requires g t c κs within =
    let known = known_as_annotated (g.S.TermSpace.space.knows c.args.space.now)
    c.args.pattern.now c.in-Annotated.part c.in-Annotated.annotations c.in-Annotated.part.value
    c.as_slice-annotations.result.now c.in-Annotated.is refl c.as_slice-annotations.ensures.value
    c.requires.known in
    (search (rules, the_lemmas), (within.0, (within.1.0, (within.1.1.0, (within.1.1.1, (known.1, c.requires.slots))))))

pub push_tail-returns-then-not-branch-clause-elements : goal.push_tail-returns-then-not-branch-clause-elements
push_tail-returns-then-not-branch-clause-elements g t c =
    let s = g.S.TermSpace.space in
    let w = c.args.space.now in
    let place = place_at c.args.frames.now c.args.here in
    let symbols = s.symbol_of w in
    let terms = map (option_map (s.term_of w)) c.args.slots.now in
    let whole = loaded_of symbols c.args.pattern.now in
    let annotations = all_loaded_of symbols c.as_slice-annotations.result.now in
    let have = c.in_ok-have_instances-in-Annotated.ensures in
    puts_nothing_at s c.have_instances.new.space c.args.stack.now.items c.have_instances.new.stack.items have.stack _
    (ap elements_of (lacks_annotation place terms whole (loaded_of symbols c.in-Annotated.part.value)
    annotations c.in_ok-have_instances-in-Annotated.field-0
    (loaded_as_annotated symbols c.args.pattern.now c.in-Annotated.part c.in-Annotated.annotations
    c.in-Annotated.part.value c.as_slice-annotations.result.now c.in-Annotated.is refl
    c.as_slice-annotations.ensures.value) have.all c.if-not-branch.true))

pub push_tail-push_tail-requires-in-Annotated : goal.push_tail-push_tail-requires-in-Annotated
push_tail-push_tail-requires-in-Annotated g t c κs within =
    let known = known_as_annotated (g.S.TermSpace.space.knows c.args.space.now)
    c.args.pattern.now c.in-Annotated.part c.in-Annotated.annotations c.deref-in-Annotated.result.now
    c.as_slice-annotations.result.now c.in-Annotated.is c.deref-in-Annotated.ensures
    c.as_slice-annotations.ensures.value c.requires.known in
    let keeps = c.in_ok-have_instances-in-Annotated.ensures.keeps in (
      search (rules, the_lemmas),
      (
        within.0,
        (
          within.1.0,
          (
            within.1.1.0,
            (
              within.1.1.1,
              (
                known_later keeps.known c.deref-in-Annotated.result.now known.0,
                all_changed keeps.standing c.args.slots.now c.requires.slots,
              ),
            ),
          ),
        ),
      ),
    )

pub push_tail-returns-in_ok-elements-in-Annotated-clause-keeps :
    goal.push_tail-returns-in_ok-elements-in-Annotated-clause-keeps
push_tail-returns-in_ok-elements-in-Annotated-clause-keeps g t c =
    keeps_then c.in_ok-have_instances-in-Annotated.ensures.keeps c.in_ok-elements-in-Annotated.ensures.keeps

pub push_tail-returns-in_ok-elements-in-Annotated-clause-elements :
    goal.push_tail-returns-in_ok-elements-in-Annotated-clause-elements
push_tail-returns-in_ok-elements-in-Annotated-clause-elements g t c =
    let s = g.S.TermSpace.space in
    let w = c.args.space.now in
    let place = place_at c.args.frames.now c.args.here in
    let symbols = s.symbol_of w in
    let terms = map (option_map (s.term_of w)) c.args.slots.now in
    let whole = loaded_of symbols c.args.pattern.now in
    let part = c.deref-in-Annotated.result.now in
    let w1 = c.have_instances.new.space in
    let annotations = all_loaded_of symbols c.as_slice-annotations.result.now in
    let have = c.in_ok-have_instances-in-Annotated.ensures in
    let keeps = have.keeps in
    let known = known_as_annotated (g.S.TermSpace.space.knows c.args.space.now)
    c.args.pattern.now c.in-Annotated.part c.in-Annotated.annotations c.deref-in-Annotated.result.now
    c.as_slice-annotations.result.now c.in-Annotated.is c.deref-in-Annotated.ensures
    c.as_slice-annotations.ensures.value c.requires.known in
    let same = same_instance s w w1 place (loaded_of symbols part) (loaded_of (s.symbol_of w1) part)
    c.args.slots.now keeps.terms c.requires.slots
    (loaded_same (s.knows w) symbols (s.symbol_of w1) keeps.symbols part known.0) in
    let later = instance place (loaded_of (s.symbol_of w1) part) (map (option_map (s.term_of w1)) c.args.slots.now) in
    let w2 = c.push_tail-in-Annotated.new.space in
    let made = c.in_ok-elements-in-Annotated.elements in
    puts_as (λ rs h. elements_as s w2 (elements_of later) (elements_of (instance place whole terms)) rs made
    (elements_inner_annotated place terms whole (loaded_of symbols part)
    annotations c.in_ok-have_instances-in-Annotated.field-0
    (loaded_as_annotated symbols c.args.pattern.now c.in-Annotated.part c.in-Annotated.annotations part
    c.as_slice-annotations.result.now c.in-Annotated.is c.deref-in-Annotated.ensures
    c.as_slice-annotations.ensures.value) have.all c.if-not-branch.false ∙ ap elements_of (sym same)) h)
    (subst (λ xs. Puts s w2 xs c.push_tail-in-Annotated.new.stack.items
    (λ rs. AreElements s w2 (elements_of later) rs made)) have.stack c.in_ok-elements-in-Annotated.ensures.elements)
