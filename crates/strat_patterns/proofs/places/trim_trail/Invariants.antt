use Rattle.std.proofs.Common.{◌≡◌, length, reverse}
use Rattle.strat_steps.specs.Binding.{trimmed}
use Rattle.strat_patterns.proofs.places.trim_trail.Given as goal

abbrev pub invariant-loop-trail : goal.invariant-loop-trail
invariant-loop-trail l = trimmed l.height l.barrier (reverse l.trail.items) ≡
    trimmed l.height l.barrier (reverse l.initial.trail.items)

abbrev pub decreases-loop-trail : goal.decreases-loop-trail
decreases-loop-trail l = length l.trail.items
