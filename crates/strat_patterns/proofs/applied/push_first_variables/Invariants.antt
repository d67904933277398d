use Rattle.std.proofs.Common.{drop, map, true}
use Rattle.std.specs.Option.{option_map}
use Rattle.strat_patterns.specs.Builds.{instances_then, AreBuiltBefore, Puts}
use Rattle.strat_patterns.specs.Loaded.{loaded_of}
use Rattle.strat_steps.specs.State.{place_at}
use Rattle.strat_patterns.proofs.applied.push_first_variables.Given as goal

abbrev pub invariant-loop-i : goal.invariant-loop-i
invariant-loop-i g l =
    let s = g.S.TermSpace.space in
    let w = l.space in
    let all = instances_then (place_at l.frames l.here) (map (option_map (s.term_of w)) l.slots) in
    let ps = map (loaded_of (s.symbol_of w)) l.patterns in
    Puts s w l.initial.stack.items l.stack.items (λ rs. AreBuiltBefore s.term_of w (all ps) (all (drop l.i ps)) rs true)
