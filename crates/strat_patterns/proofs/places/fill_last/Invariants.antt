use Rattle.std.proofs.Common.{length}
use Rattle.strat_patterns.proofs.PlaceLaws.{IsFilling}
use Rattle.strat_patterns.proofs.places.fill_last.Given as goal

abbrev pub invariant-loop-terms : goal.invariant-loop-terms
invariant-loop-terms g l = IsFilling l.from l.initial.slots.items l.initial.terms.items l.place l.slots.items
    l.terms.items

abbrev pub decreases-loop-terms : goal.decreases-loop-terms
decreases-loop-terms g l = length l.terms.items
