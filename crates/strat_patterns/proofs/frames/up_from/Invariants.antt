use Rattle.std.proofs.Common.{◌≡◌, ◌-◌}
use Rattle.strat_steps.specs.State.{frames_up}
use Rattle.strat_patterns.specs.Frames.{frames_in}
use Rattle.strat_patterns.proofs.frames.up_from.Given as goal

abbrev pub invariant-loop : goal.invariant-loop
invariant-loop l = frames_up (frames_in l.closures l.frames) l.position (l.count - l.counter) ≡
    frames_up (frames_in l.closures l.frames) l.here l.count
