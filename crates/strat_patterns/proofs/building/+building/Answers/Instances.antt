-- the instance of a whole pattern
use Rattle.std.proofs.Common.{rules, ◌∙◌, refl, sym, ap, map, Some}
use Rattle.std.specs.Option.{option_map}
use Rattle.core_lang.specs.Building as building
use Rattle.core_lang.specs.Building.{applied_to, instance, made_with}
use Rattle.core_lang.specs.Views.{elements_in}
use Rattle.term_model.specs.Term.{end}
use Rattle.strat_patterns.specs.declared.loaded.LoadedPattern.TheViews.{the_lemmas}
use Rattle.strat_patterns.specs.Builds.{instances_then}
use Rattle.strat_patterns.specs.Loaded.{loaded_of, rest_loaded_of}
use Rattle.strat_steps.specs.State.{place_at}
use Rattle.strat_steps.proofs.ReferenceLaws.{all_changed}
use Rattle.term_model.proofs.SpaceLaws.{keeps_then}
use Rattle.strat_patterns.proofs.LoadedLaws.{loaded_as_applied, loaded_as_list, loaded_as_annotated, loaded_same, known_as_applied, known_as_list, known_as_annotated, known_later, rest_known_later, rest_loaded_same}
use Rattle.strat_patterns.proofs.ElementLaws.{put_stands, put_are, put_within, kept_is, tail_stands, list_puts, builds_as, instance_applied, instance_list, instance_annotated, same_instance}
use Rattle.strat_patterns.proofs.building.+building.Goals as goal

pub build-push_all-requires : goal.build-push_all-requires
build-push_all-requires g t c κs within =
    let known = known_as_applied (g.S.TermSpace.space.knows c.args.space.now)
    c.args.pattern.now c.in-Applied.name c.in-Applied.parts c.as_slice-parts.result.now c.in-Applied.is
    c.as_slice-parts.ensures.value c.requires.known in
    (search (rules, the_lemmas), (within.0, (within.1.0, (within.1.1.0, (within.1.1.1, (known.1, c.requires.slots))))))

pub build-apply-requires-clause-name : goal.build-apply-requires-clause-name
build-apply-requires-clause-name g t c =
    let known = known_as_applied (g.S.TermSpace.space.knows c.args.space.now)
    c.args.pattern.now c.in-Applied.name c.in-Applied.parts c.as_slice-parts.result.now c.in-Applied.is
    c.as_slice-parts.ensures.value c.requires.known in
    c.in_ok-pushed-in-Applied.ensures.keeps.known c.in-Applied.name known.0

pub build-apply-requires-clause-standing : goal.build-apply-requires-clause-standing
build-apply-requires-clause-standing g t c =
    put_stands c.in_ok-pushed-in-Applied.ensures.built c.len-from.result (c.len-from.ensures ∙ c.args.stack.now.ok.0)

pub build-push_all-requires-in-List : goal.build-push_all-requires-in-List
build-push_all-requires-in-List g t c κs within =
    let known = known_as_list (g.S.TermSpace.space.knows c.args.space.now)
    c.args.pattern.now c.in-List.first c.in-List.rest c.as_slice-first.result.now c.in-List.is
    c.as_slice-first.ensures.value c.requires.known in
    (search (rules, the_lemmas), (within.0, (within.1.0, (within.1.1.0, (within.1.1.1, (known.0, c.requires.slots))))))

pub build-push_rest-requires : goal.build-push_rest-requires
build-push_rest-requires g t c κs within =
    let known = known_as_list (g.S.TermSpace.space.knows c.args.space.now)
    c.args.pattern.now c.in-List.first c.in-List.rest c.as_slice-first.result.now c.in-List.is
    c.as_slice-first.ensures.value c.requires.known in
    let keeps = c.in_ok-firsts-in-List.ensures.keeps in (
      search (rules, the_lemmas),
      (
        within.0,
        (
          within.1.0,
          (
            within.1.1.0,
            (
              within.1.1.1,
              (
                rest_known_later keeps.known c.in-List.rest known.1,
                all_changed keeps.standing c.args.slots.now c.requires.slots,
              ),
            ),
          ),
        ),
      ),
    )

pub build-returns-in_ok-built-in-Applied-clause-keeps : goal.build-returns-in_ok-built-in-Applied-clause-keeps
build-returns-in_ok-built-in-Applied-clause-keeps g t c =
    keeps_then c.in_ok-pushed-in-Applied.ensures.keeps c.in_ok-built-in-Applied.ensures.keeps

pub build-returns-in_ok-built-in-Applied-clause-built : goal.build-returns-in_ok-built-in-Applied-clause-built
build-returns-in_ok-built-in-Applied-clause-built g t c =
    let s = g.S.TermSpace.space in
    let w = c.args.space.now in
    let w1 = c.push_all.new.space in
    let place = place_at c.args.frames.now c.args.here in
    let symbols = s.symbol_of w in
    let terms = map (option_map (s.term_of w)) c.args.slots.now in
    let parts = c.as_slice-parts.result.now in
    let all = instances_then place terms (map (loaded_of symbols) parts) in
    let name = c.in-Applied.name in
    let known = known_as_applied (s.knows w)
    c.args.pattern.now name c.in-Applied.parts parts c.in-Applied.is c.as_slice-parts.ensures.value
    c.requires.known in
    builds_as s c.apply.new.space (applied_to (all (Some end)) (s.symbol_of w1 name))
    (instance place (loaded_of symbols c.args.pattern.now) terms) c.in_ok-built-in-Applied.built
    (instance_applied place terms (loaded_of symbols c.args.pattern.now) (symbols name) (s.symbol_of w1 name)
    (map (loaded_of symbols) parts)
    (loaded_as_applied symbols c.args.pattern.now name c.in-Applied.parts parts c.in-Applied.is
    c.as_slice-parts.ensures.value) (c.in_ok-pushed-in-Applied.ensures.keeps.symbols name known.0))
    (c.in_ok-built-in-Applied.ensures.built all
    (put_are c.in_ok-pushed-in-Applied.ensures.built c.len-from.result (c.len-from.ensures ∙
    c.args.stack.now.ok.0)))

pub build-list-requires-clause-standing : goal.build-list-requires-clause-standing
build-list-requires-clause-standing g t c =
    let s = g.S.TermSpace.space in
    let w = c.args.space.now in
    let place = place_at c.args.frames.now c.args.here in
    let symbols = s.symbol_of w in
    let terms = map (option_map (s.term_of w)) c.args.slots.now in
    let first = c.as_slice-first.result.now in
    let rest = rest_loaded_of symbols c.in-List.rest in
    let keeps = c.in_ok-firsts-in-List.ensures.keeps in
    let later = c.in_ok-others-in-List.ensures.keeps in
    let known = known_as_list (s.knows w)
    c.args.pattern.now c.in-List.first c.in-List.rest first c.in-List.is c.as_slice-first.ensures.value
    c.requires.known in
    let all = building.element_instances place (elements_in (map (loaded_of symbols) first) rest) terms in
    let same_rest = rest_loaded_same (s.knows w) symbols (s.symbol_of c.push_all-in-List.new.space)
    keeps.symbols c.in-List.rest known.1 in
    let put = list_puts s w c.push_all-in-List.new.space c.push_rest.new.space place c.args.slots.now
    (map (loaded_of symbols) first) rest (rest_loaded_of (s.symbol_of c.push_all-in-List.new.space) c.in-List.rest)
    c.in_ok-firsts-in-List.firsts c.in_ok-others-in-List.others c.join.result
    c.args.stack.now.items c.push_all-in-List.new.stack.items c.push_rest.new.stack.items c.requires.slots keeps.terms
    same_rest later.standing later.terms c.join.ensures c.in_ok-firsts-in-List.ensures.built
    c.in_ok-others-in-List.ensures.elements in
    put_stands put c.len-from-in-List.result (c.len-from-in-List.ensures ∙ c.args.stack.now.ok.0)

pub build-list-requires-clause-tail : goal.build-list-requires-clause-tail
build-list-requires-clause-tail g t c =
    let s = g.S.TermSpace.space in
    let w = c.args.space.now in
    let place = place_at c.args.frames.now c.args.here in
    let symbols = s.symbol_of w in
    let terms = map (option_map (s.term_of w)) c.args.slots.now in
    let first = c.as_slice-first.result.now in
    let rest = rest_loaded_of symbols c.in-List.rest in
    let keeps = c.in_ok-firsts-in-List.ensures.keeps in
    let later = c.in_ok-others-in-List.ensures.keeps in
    let known = known_as_list (s.knows w)
    c.args.pattern.now c.in-List.first c.in-List.rest first c.in-List.is c.as_slice-first.ensures.value
    c.requires.known in
    let all = building.element_instances place (elements_in (map (loaded_of symbols) first) rest) terms in
    let same_rest = rest_loaded_same (s.knows w) symbols (s.symbol_of c.push_all-in-List.new.space)
    keeps.symbols c.in-List.rest known.1 in
    let put = list_puts s w c.push_all-in-List.new.space c.push_rest.new.space place c.args.slots.now
    (map (loaded_of symbols) first) rest (rest_loaded_of (s.symbol_of c.push_all-in-List.new.space) c.in-List.rest)
    c.in_ok-firsts-in-List.firsts c.in_ok-others-in-List.others c.join.result
    c.args.stack.now.items c.push_all-in-List.new.stack.items c.push_rest.new.stack.items c.requires.slots keeps.terms
    same_rest later.standing later.terms c.join.ensures c.in_ok-firsts-in-List.ensures.built
    c.in_ok-others-in-List.ensures.elements in
    tail_stands s c.push_rest.new.space all put.put c.join.result put.are

pub build-list-requires-clause-from : goal.build-list-requires-clause-from
build-list-requires-clause-from g t c =
    let s = g.S.TermSpace.space in
    let w = c.args.space.now in
    let place = place_at c.args.frames.now c.args.here in
    let symbols = s.symbol_of w in
    let terms = map (option_map (s.term_of w)) c.args.slots.now in
    let first = c.as_slice-first.result.now in
    let rest = rest_loaded_of symbols c.in-List.rest in
    let keeps = c.in_ok-firsts-in-List.ensures.keeps in
    let later = c.in_ok-others-in-List.ensures.keeps in
    let known = known_as_list (s.knows w)
    c.args.pattern.now c.in-List.first c.in-List.rest first c.in-List.is c.as_slice-first.ensures.value
    c.requires.known in
    let all = building.element_instances place (elements_in (map (loaded_of symbols) first) rest) terms in
    let same_rest = rest_loaded_same (s.knows w) symbols (s.symbol_of c.push_all-in-List.new.space)
    keeps.symbols c.in-List.rest known.1 in
    let put = list_puts s w c.push_all-in-List.new.space c.push_rest.new.space place c.args.slots.now
    (map (loaded_of symbols) first) rest (rest_loaded_of (s.symbol_of c.push_all-in-List.new.space) c.in-List.rest)
    c.in_ok-firsts-in-List.firsts c.in_ok-others-in-List.others c.join.result
    c.args.stack.now.items c.push_all-in-List.new.stack.items c.push_rest.new.stack.items c.requires.slots keeps.terms
    same_rest later.standing later.terms c.join.ensures c.in_ok-firsts-in-List.ensures.built
    c.in_ok-others-in-List.ensures.elements in
    put_within put c.len-from-in-List.result (c.len-from-in-List.ensures ∙ c.args.stack.now.ok.0)

pub build-returns-in_ok-built-in-List-clause-keeps : goal.build-returns-in_ok-built-in-List-clause-keeps
build-returns-in_ok-built-in-List-clause-keeps g t c =
    keeps_then (keeps_then c.in_ok-firsts-in-List.ensures.keeps c.in_ok-others-in-List.ensures.keeps)
    c.in_ok-built-in-List.ensures.keeps

pub build-returns-in_ok-built-in-List-clause-stack : goal.build-returns-in_ok-built-in-List-clause-stack
build-returns-in_ok-built-in-List-clause-stack g t c =
    let s = g.S.TermSpace.space in
    let w = c.args.space.now in
    let place = place_at c.args.frames.now c.args.here in
    let symbols = s.symbol_of w in
    let terms = map (option_map (s.term_of w)) c.args.slots.now in
    let first = c.as_slice-first.result.now in
    let rest = rest_loaded_of symbols c.in-List.rest in
    let keeps = c.in_ok-firsts-in-List.ensures.keeps in
    let later = c.in_ok-others-in-List.ensures.keeps in
    let known = known_as_list (s.knows w)
    c.args.pattern.now c.in-List.first c.in-List.rest first c.in-List.is c.as_slice-first.ensures.value
    c.requires.known in
    let all = building.element_instances place (elements_in (map (loaded_of symbols) first) rest) terms in
    let same_rest = rest_loaded_same (s.knows w) symbols (s.symbol_of c.push_all-in-List.new.space)
    keeps.symbols c.in-List.rest known.1 in
    let put = list_puts s w c.push_all-in-List.new.space c.push_rest.new.space place c.args.slots.now
    (map (loaded_of symbols) first) rest (rest_loaded_of (s.symbol_of c.push_all-in-List.new.space) c.in-List.rest)
    c.in_ok-firsts-in-List.firsts c.in_ok-others-in-List.others c.join.result
    c.args.stack.now.items c.push_all-in-List.new.stack.items c.push_rest.new.stack.items c.requires.slots keeps.terms
    same_rest later.standing later.terms c.join.ensures c.in_ok-firsts-in-List.ensures.built
    c.in_ok-others-in-List.ensures.elements in
    c.in_ok-built-in-List.ensures.stack ∙
    kept_is put c.len-from-in-List.result (c.len-from-in-List.ensures ∙ c.args.stack.now.ok.0)

pub build-returns-in_ok-built-in-List-clause-built : goal.build-returns-in_ok-built-in-List-clause-built
build-returns-in_ok-built-in-List-clause-built g t c =
    let s = g.S.TermSpace.space in
    let w = c.args.space.now in
    let place = place_at c.args.frames.now c.args.here in
    let symbols = s.symbol_of w in
    let terms = map (option_map (s.term_of w)) c.args.slots.now in
    let first = c.as_slice-first.result.now in
    let rest = rest_loaded_of symbols c.in-List.rest in
    let keeps = c.in_ok-firsts-in-List.ensures.keeps in
    let later = c.in_ok-others-in-List.ensures.keeps in
    let known = known_as_list (s.knows w)
    c.args.pattern.now c.in-List.first c.in-List.rest first c.in-List.is c.as_slice-first.ensures.value
    c.requires.known in
    let all = building.element_instances place (elements_in (map (loaded_of symbols) first) rest) terms in
    let same_rest = rest_loaded_same (s.knows w) symbols (s.symbol_of c.push_all-in-List.new.space)
    keeps.symbols c.in-List.rest known.1 in
    let put = list_puts s w c.push_all-in-List.new.space c.push_rest.new.space place c.args.slots.now
    (map (loaded_of symbols) first) rest (rest_loaded_of (s.symbol_of c.push_all-in-List.new.space) c.in-List.rest)
    c.in_ok-firsts-in-List.firsts c.in_ok-others-in-List.others c.join.result
    c.args.stack.now.items c.push_all-in-List.new.stack.items c.push_rest.new.stack.items c.requires.slots keeps.terms
    same_rest later.standing later.terms c.join.ensures c.in_ok-firsts-in-List.ensures.built
    c.in_ok-others-in-List.ensures.elements in
    builds_as s c.list.new.space (building.list_term all) (instance place (loaded_of symbols c.args.pattern.now) terms)
    c.in_ok-built-in-List.built
    (instance_list place terms (loaded_of symbols c.args.pattern.now) (map (loaded_of symbols) first)
    rest (loaded_as_list symbols c.args.pattern.now c.in-List.first c.in-List.rest first c.in-List.is
    c.as_slice-first.ensures.value))
    (c.in_ok-built-in-List.ensures.built all
    (put_are put c.len-from-in-List.result (c.len-from-in-List.ensures ∙ c.args.stack.now.ok.0)))

pub build-push_all-requires-in-Annotated : goal.build-push_all-requires-in-Annotated
build-push_all-requires-in-Annotated g t c κs within =
    let known = known_as_annotated (g.S.TermSpace.space.knows c.args.space.now)
    c.args.pattern.now c.in-Annotated.part c.in-Annotated.annotations c.in-Annotated.part.value
    c.as_slice-annotations.result.now c.in-Annotated.is refl c.as_slice-annotations.ensures.value
    c.requires.known in
    (search (rules, the_lemmas), (within.0, (within.1.0, (within.1.1.0, (within.1.1.1, (known.1, c.requires.slots))))))

pub build-make_with-requires : goal.build-make_with-requires
build-make_with-requires g t c κs within =
    let known = known_as_annotated (g.S.TermSpace.space.knows c.args.space.now)
    c.args.pattern.now c.in-Annotated.part c.in-Annotated.annotations c.deref-in-Annotated.result.now
    c.as_slice-annotations.result.now c.in-Annotated.is c.deref-in-Annotated.ensures
    c.as_slice-annotations.ensures.value c.requires.known in
    let keeps = c.in_ok-pushed-in-Annotated.ensures.keeps in
    let built = c.in_ok-pushed-in-Annotated.ensures.built in
    let at = c.len-from-in-Annotated.ensures ∙ c.args.stack.now.ok.0 in (
      search (rules, the_lemmas),
      (
        within.0,
        (
          within.1.0,
          (
            within.1.1.0,
            (
              within.1.1.1,
              (
                known_later keeps.known c.deref-in-Annotated.result.now known.0,
                (
                  all_changed keeps.standing c.args.slots.now c.requires.slots,
                  (put_within built c.len-from-in-Annotated.result at, put_stands built c.len-from-in-Annotated.result at),
                ),
              ),
            ),
          ),
        ),
      ),
    )

pub build-returns-in_ok-built-in-Annotated-clause-keeps : goal.build-returns-in_ok-built-in-Annotated-clause-keeps
build-returns-in_ok-built-in-Annotated-clause-keeps g t c =
    keeps_then c.in_ok-pushed-in-Annotated.ensures.keeps c.in_ok-built-in-Annotated.ensures.keeps

pub build-returns-in_ok-built-in-Annotated-clause-built : goal.build-returns-in_ok-built-in-Annotated-clause-built
build-returns-in_ok-built-in-Annotated-clause-built g t c =
    let s = g.S.TermSpace.space in
    let w = c.args.space.now in
    let place = place_at c.args.frames.now c.args.here in
    let symbols = s.symbol_of w in
    let terms = map (option_map (s.term_of w)) c.args.slots.now in
    let whole = loaded_of symbols c.args.pattern.now in
    let part = c.deref-in-Annotated.result.now in
    let w1 = c.push_all-in-Annotated.new.space in
    let keeps = c.in_ok-pushed-in-Annotated.ensures.keeps in
    let known = known_as_annotated (g.S.TermSpace.space.knows c.args.space.now)
    c.args.pattern.now c.in-Annotated.part c.in-Annotated.annotations c.deref-in-Annotated.result.now
    c.as_slice-annotations.result.now c.in-Annotated.is c.deref-in-Annotated.ensures
    c.as_slice-annotations.ensures.value c.requires.known in
    let built = c.in_ok-pushed-in-Annotated.ensures.built in
    let at = c.len-from-in-Annotated.ensures ∙ c.args.stack.now.ok.0 in
    let same = same_instance s w w1 place (loaded_of symbols part) (loaded_of (s.symbol_of w1) part)
    c.args.slots.now keeps.terms c.requires.slots
    (loaded_same (s.knows w) symbols (s.symbol_of w1) keeps.symbols part known.0) in
    let later = instance place (loaded_of (s.symbol_of w1) part) (map (option_map (s.term_of w1)) c.args.slots.now) in
    let annotations = map (loaded_of symbols) c.as_slice-annotations.result.now in
    let all = instances_then place terms annotations in
    builds_as s c.make_with.new.space (made_with later (all (Some end))) (instance place whole terms)
    c.in_ok-built-in-Annotated.built
    (instance_annotated place terms whole (loaded_of symbols part)
    annotations (loaded_as_annotated symbols c.args.pattern.now c.in-Annotated.part c.in-Annotated.annotations part
    c.as_slice-annotations.result.now c.in-Annotated.is c.deref-in-Annotated.ensures
    c.as_slice-annotations.ensures.value) ∙ ap (λ o. made_with o (all (Some end))) (sym same))
    (c.in_ok-built-in-Annotated.ensures.built all (put_are built c.len-from-in-Annotated.result at))
