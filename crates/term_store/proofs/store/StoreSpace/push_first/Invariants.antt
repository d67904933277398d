use Rattle.std.proofs.Common.{vec_capacity, take}
use Rattle.term_model.specs.Blocks.{list_in}
use Rattle.term_store.specs.Walks.{IsTaking}
use Rattle.term_store.proofs.store.StoreSpace.push_first.Given as goal

abbrev pub invariant-loop-block : goal.invariant-loop-block
invariant-loop-block l = IsTaking l.self.chains l.block l.fn.stack.items l.stack.items
    (take l.count (list_in l.self.chains l.fn.block)) (vec_capacity l.stack) l.left

abbrev pub decreases-loop-block : goal.decreases-loop-block
decreases-loop-block l = l.block.rest
