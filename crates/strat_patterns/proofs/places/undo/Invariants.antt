use Rattle.std.proofs.Common.{length}
use Rattle.strat_patterns.proofs.PlaceLaws.{IsUndoing}
use Rattle.strat_patterns.proofs.places.undo.Given as goal

abbrev pub invariant-loop-trail : goal.invariant-loop-trail
invariant-loop-trail g l = IsUndoing l.height l.initial.slots.items l.initial.trail.items l.slots.items l.trail.items

abbrev pub decreases-loop-trail : goal.decreases-loop-trail
decreases-loop-trail g l = length l.trail.items
