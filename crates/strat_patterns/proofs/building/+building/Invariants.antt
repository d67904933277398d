use Rattle.std.proofs.Common.{drop, map}
use Rattle.std.specs.Option.{option_map}
use Rattle.term_model.specs.Space.{Keeps}
use Rattle.strat_patterns.specs.Builds.{instances_then, AreBuiltBefore, Puts}
use Rattle.strat_patterns.specs.Loaded.{loaded_of}
use Rattle.strat_steps.specs.State.{place_at}
use Rattle.strat_patterns.proofs.building.+building.Given as goal

abbrev pub invariant-push_all-loop-p : goal.invariant-push_all-loop-p
invariant-push_all-loop-p g l =
    let s = g.S.TermSpace.space in
    let w = l.initial.space in
    let all = instances_then (place_at l.frames l.here) (map (option_map (s.term_of w)) l.slots) in
    let ps = map (loaded_of (s.symbol_of w)) l.patterns in
    Keeps s w l.space ×
    Puts s l.space l.initial.stack.items l.stack.items
    (λ rs. AreBuiltBefore s.term_of l.space (all ps) (all (drop l.p-index ps)) rs l.fit)
