use Rattle.std.proofs.Common.{◌+◌, ◌∙◌, Some, [], ◌∷◌, ◌++◌, map, drop, refl, sym, ap, true}
use Rattle.std.specs.Option.{option_map}
use Rattle.core_lang.specs.Building.{instance, value_in}
use Rattle.term_model.proofs.FitsLaws.{fits-complete}
use Rattle.strat_patterns.specs.Builds.{instances_then}
use Rattle.strat_patterns.specs.declared.building.Built.TheVariants as built
use Rattle.strat_patterns.specs.declared.building.Pushed.TheVariants as pushed
use Rattle.strat_patterns.specs.Loaded.{loaded_of}
use Rattle.strat_steps.specs.State.{place_at}
use Rattle.strat_patterns.proofs.LoadedLaws.{loaded_as_variable}
use Rattle.strat_patterns.proofs.ArgumentLaws.{no_more_places, on_stack, on_places, places_as, places_before, one_more_place}
use Rattle.strat_patterns.proofs.BuiltLaws.{arguments_put}
use Rattle.strat_patterns.proofs.ElementLaws.{building_starts, building_next, building_ends, instance_variable, next_pattern, no_pattern}
use Rattle.strat_patterns.proofs.arguments.place_variables.Goals as goal

pub loop-pattern-init : goal.loop-pattern-init
loop-pattern-init g c =
    let s = g.S.TermSpace.space in
    let w = c.args.space.now in
    let old = c.args.places.now in
    let all = instances_then (place_at c.args.frames.now c.args.here) (map (option_map (s.term_of w)) old.slots) in
    on_places s w old old no_more_places
    (building_starts s w (all (map (loaded_of (s.symbol_of w)) c.args.patterns.now)) [])

pub loop-pattern-preserved : goal.loop-pattern-preserved
loop-pattern-preserved g c =
    let s = g.S.TermSpace.space in
    let w = c.args.space.now in
    let old = c.args.places.now in
    let place = place_at c.args.frames.now c.args.here in
    let symbols = s.symbol_of w in
    let terms = map (option_map (s.term_of w)) old.slots in
    let all = instances_then place terms in
    let ps = map (loaded_of symbols) c.args.patterns.now in
    let i = c.loop-pattern.pattern-index in
    let p = c.pattern-item.result in
    let r = c.in_ok-reference.reference in
    let dup = c.in_ok-reference.ensures in
    let x = c.loop-pattern.invariant in
    let before = places_before s w old c.loop-pattern.places c.slots.ensures c.len-base.ensures x in
    let is = instance_variable place terms (loaded_of symbols p) c.in-Variable.x
    (loaded_as_variable symbols p c.in-Variable.x c.in-Variable.is) ∙
    (ap (λ e. value_in (place c.in-Variable.x) (map (option_map (s.term_of w)) e)) (sym before) ∙
    (c.in-Some.ensures.1 ∙ ap (λ t. Some t) (sym dup.term))) in
    on_places s w old c.push_term.new.self
    (one_more_place old c.loop-pattern.places c.push_term.new.self x.put r x.after c.in_ok-push_term.ensures.pushed)
    (building_next s w w (all ps) (all (drop i ps)) (all (drop (i + 1) ps)) (λ r h. h) (λ r h. refl)
    (instance place (loaded_of symbols p) terms)
    (next_pattern place terms (loaded_of symbols) c.args.patterns.now i p c.loop-pattern-test.true
    c.pattern-item.is)
    [] x.put (x.put ++ r ∷ []) (built.Made r) (Some true) true true true
    (dup.stands, is, fits-complete (s.term_of w r) (g.S.TermSpace.fits _ _ dup.stands)) (refl, refl) refl refl
    (on_stack s w old c.loop-pattern.places x))

pub returns : goal.returns
returns g c =
    let s = g.S.TermSpace.space in
    let w = c.args.space.now in
    let old = c.args.places.now in
    let place = place_at c.args.frames.now c.args.here in
    let terms = map (option_map (s.term_of w)) old.slots in
    let all = instances_then place terms in
    let ps = map (loaded_of (s.symbol_of w)) c.args.patterns.now in
    let i = c.loop-pattern.pattern-index in
    let x = c.loop-pattern.invariant in
    let rest = no_pattern place terms (loaded_of (s.symbol_of w)) c.args.patterns.now i c.loop-pattern-test.false in
    let y = arguments_put s w place terms ps [] x.put pushed.All refl
    (building_ends s w (all ps) (all (drop i ps)) [] x.put true rest refl
    (on_stack s w old c.loop-pattern.places x)) in
    places_as (λ rs h. λ is. h) (on_places s w old c.loop-pattern.places x.after y)
