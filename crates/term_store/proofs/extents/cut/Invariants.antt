use Rattle.std.proofs.Common.{length}
use Rattle.term_store.specs.Extents.{AreSameBelow}
use Rattle.term_store.proofs.extents.cut.Given as goal

abbrev pub invariant-loop-epochs : goal.invariant-loop-epochs
invariant-loop-epochs l = AreSameBelow l.number l.initial.epochs.items l.epochs.items

abbrev pub decreases-loop-epochs : goal.decreases-loop-epochs
decreases-loop-epochs l = length l.epochs.items
