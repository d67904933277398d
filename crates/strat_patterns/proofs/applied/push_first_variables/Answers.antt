use Rattle.std.proofs.Common.{◌≡◌, ◌+◌, ◌∙◌, Some, None, map, drop, refl, sym, ap, subst, arith, length, true}
use Rattle.std.specs.Option.{option_map}
use Rattle.std.proofs.lemmas.List.{length-map}
use Rattle.core_lang.specs.Building.{instance}
use Rattle.term_model.proofs.FitsLaws.{fits-complete}
use Rattle.strat_patterns.specs.Builds.{instances_then, AreBuiltBefore, Puts}
use Rattle.strat_patterns.specs.declared.building.Built.TheVariants as built
use Rattle.strat_patterns.specs.Loaded.{loaded_of}
use Rattle.strat_steps.specs.State.{place_at}
use Rattle.strat_patterns.proofs.LoadedLaws.{loaded_as_variable}
use Rattle.strat_patterns.proofs.ElementLaws.{building_starts, building_next, building_stops, instance_variable, next_pattern}
use Rattle.strat_patterns.proofs.applied.push_first_variables.Goals as goal

pub loop-i-init : goal.loop-i-init
loop-i-init g c = building_starts g.S.TermSpace.space c.args.space.now _ c.args.stack.now.items

pub returns-in_default-value : goal.returns-in_default-value
returns-in_default-value g c =
    let s = g.S.TermSpace.space in
    let w = c.args.space.now in
    let place = place_at c.args.frames.now c.args.here in
    let symbols = s.symbol_of w in
    let terms = map (option_map (s.term_of w)) c.args.slots.now in
    let all = instances_then place terms in
    let ps = map (loaded_of symbols) c.args.patterns.now in
    let i = c.loop-i.i in
    let p = c.index-patterns-i.result in
    let lacks = instance_variable place terms (loaded_of symbols p) c.in-Variable.x
    (loaded_as_variable symbols p c.in-Variable.x c.in-Variable.is) ∙ c.in_default-value.ensures in
    building_stops s w w (all ps) (all (drop i ps)) (all (drop (i + 1) ps)) (λ r h. h) (λ r h. refl)
    (instance place (loaded_of symbols p) terms)
    (next_pattern place terms (loaded_of symbols) c.args.patterns.now i p c.loop-i-test.true c.index-patterns-i.is)
    c.args.stack.now.items c.loop-i.stack.items c.loop-i.stack.items built.NoInstance None true lacks (refl, refl) refl
    c.loop-i.invariant

pub loop-i-preserved : goal.loop-i-preserved
loop-i-preserved g c =
    let s = g.S.TermSpace.space in
    let w = c.args.space.now in
    let place = place_at c.args.frames.now c.args.here in
    let symbols = s.symbol_of w in
    let terms = map (option_map (s.term_of w)) c.args.slots.now in
    let all = instances_then place terms in
    let ps = map (loaded_of symbols) c.args.patterns.now in
    let i = c.loop-i.i in
    let p = c.index-patterns-i.result in
    let r = c.in_ok-reference.reference in
    let dup = c.in_ok-reference.ensures in
    let is = instance_variable place terms (loaded_of symbols p) c.in-Variable.x
    (loaded_as_variable symbols p c.in-Variable.x c.in-Variable.is) ∙
    (c.in-Some.ensures.1 ∙ ap (λ t. Some t) (sym dup.term)) in
    building_next s w w (all ps) (all (drop i ps)) (all (drop (i + 1) ps)) (λ r h. h) (λ r h. refl)
    (instance place (loaded_of symbols p) terms)
    (next_pattern place terms (loaded_of symbols) c.args.patterns.now i p c.loop-i-test.true c.index-patterns-i.is)
    c.args.stack.now.items c.loop-i.stack.items c.push_on.new.items.items (built.Made r) (Some true) true true true
    (dup.stands, is, fits-complete (s.term_of w r) (g.S.TermSpace.fits _ _ dup.stands))
    (refl, c.in_ok-push_on.ensures.pushed) refl refl c.loop-i.invariant

pub returns : goal.returns
returns g c =
    let s = g.S.TermSpace.space in
    let w = c.args.space.now in
    let all = instances_then (place_at c.args.frames.now c.args.here)
    (map (option_map (s.term_of w)) c.args.slots.now) in
    let ps = map (loaded_of (s.symbol_of w)) c.args.patterns.now in
    let test = c.loop-i-test.false in
    let within = c.loop-i.auto.i-end in
    let many = length-map c.args.patterns.now (loaded_of (s.symbol_of w)) in
    let end : c.loop-i.i ≡ length c.args.patterns.now = omega arith in (
      omega arith,
      subst (λ n. Puts s w c.args.stack.now.items c.loop-i.stack.items
          (λ rs. AreBuiltBefore s.term_of w (all ps) (all (drop n ps)) rs true)) end c.loop-i.invariant,
    )
