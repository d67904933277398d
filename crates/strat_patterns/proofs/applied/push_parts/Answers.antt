use Rattle.std.proofs.Common.{◌∙◌, map, drop, refl, sym, ap, subst}
use Rattle.std.specs.Option.{option_map}
use Rattle.std.proofs.lemmas.List.{drop-map}
use Rattle.strat_patterns.specs.Applied.{PutsFirst}
use Rattle.strat_patterns.specs.Builds.{instances_then, AreBuilt, Puts}
use Rattle.strat_patterns.specs.Loaded.{loaded_of, AllKnown}
use Rattle.strat_steps.specs.State.{place_at}
use Rattle.strat_patterns.proofs.AppliedLaws.{known_rest}
use Rattle.strat_patterns.proofs.BuildingLaws.{slice_is}
use Rattle.strat_patterns.proofs.ElementLaws.{building_goes_on}
use Rattle.strat_patterns.proofs.applied.push_parts.Goals as goal

pub push_all-requires-clause-known : goal.push_all-requires-clause-known
push_all-requires-clause-known g c =
    let knows = g.S.TermSpace.space.knows c.args.space.now in
    let patterns = c.args.patterns.now in
    let n = c.in-Some.first in
    subst (λ ps. AllKnown knows ps) (sym (slice_is n patterns patterns refl))
    (known_rest knows patterns n c.requires.known)

pub returns-clause-built : goal.returns-clause-built
returns-clause-built g c =
    let s = g.S.TermSpace.space in
    let w = c.args.space.now in
    let w1 = c.push_all.new.space in
    let place = place_at c.args.frames.now c.args.here in
    let terms = map (option_map (s.term_of w)) c.args.slots.now in
    let all = instances_then place terms in
    let pattern_of = loaded_of (s.symbol_of w) in
    let patterns = c.args.patterns.now in
    let ps = map pattern_of patterns in
    let n = c.in-Some.first in
    let old = c.args.stack.now.items in
    let middle = c.push_first_variables.new.stack.items in
    let new = c.push_all.new.stack.items in
    let keeps = c.in_ok-made.ensures.keeps in
    let first = subst (λ o. PutsFirst s w place terms ps o old middle) c.in-Some.is c.in_ok-first.ensures in
    let left = ap (map pattern_of) (slice_is n patterns patterns refl) ∙ sym (drop-map pattern_of n patterns) in
    building_goes_on s w w1 (all ps) (all (drop n ps)) keeps.standing keeps.terms old middle new c.in_ok-made.made
    first.1
    (subst (λ qs. Puts s w1 middle new (λ rs. AreBuilt s.term_of w1 (all qs) rs c.in_ok-made.made)) left
    c.in_ok-made.ensures.built)
