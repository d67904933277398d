use Rattle.std.proofs.Common.{drop}
use Rattle.term_model.specs.Blocks.{list_in}
use Rattle.term_store.specs.Walks.{IsAfter}
use Rattle.term_store.proofs.store.StoreSpace.after.Given as goal

abbrev pub invariant-loop-block : goal.invariant-loop-block
invariant-loop-block l = IsAfter l.self.chains l.block l.left (drop l.count (list_in l.self.chains l.fn.block))

abbrev pub decreases-loop-block : goal.decreases-loop-block
decreases-loop-block l = l.block.rest
