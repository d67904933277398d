use Rattle.std.proofs.Common.{◌≡◌, ◌≤◌, drop, map}
use Rattle.core_lang.specs.Views.{patterns_in}
use Rattle.term_model.specs.Space.{Keeps}
use Rattle.term_model.specs.TermParts.{parts_of}
use Rattle.strat_patterns.specs.Loaded.{loaded_of}
use Rattle.strat_steps.specs.Matches.{Goes, AllLeaveSpace, first_attempted}
use Rattle.strat_steps.specs.State.{place_at}
use Rattle.strat_patterns.proofs.applied.match_others.Given as goal

abbrev pub invariant-loop-i : goal.invariant-loop-i
invariant-loop-i g l =
    let s = g.S.TermSpace.space in
    let w = l.initial.space in
    let old = l.initial.places in
    let place = place_at l.frames l.here in
    let ps = map (loaded_of (s.symbol_of w)) l.patterns in
    let ts = parts_of (s.term_of w l.at) in
    Keeps s w l.space × (l.places.barrier ≡ old.barrier) × (l.i ≤ l.count) ×
    Goes s old.barrier (first_attempted place old.barrier (drop l.from ps) (drop l.from ts))
    (first_attempted place old.barrier (drop l.i ps) (drop l.i ts)) w old.slots old.trail l.space l.places.slots
    l.places.trail ×
    (AllLeaveSpace (patterns_in ps) → l.space ≡ w)
