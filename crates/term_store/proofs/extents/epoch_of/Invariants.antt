use Rattle.term_store.proofs.ExtentLaws.{IsSeeking}
use Rattle.term_store.proofs.extents.epoch_of.Given as goal

abbrev pub invariant-loop-count : goal.invariant-loop-count
invariant-loop-count l = IsSeeking l.epochs l.number l.count

abbrev pub decreases-loop-count : goal.decreases-loop-count
decreases-loop-count l = l.count
