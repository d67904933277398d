use Rattle.std.proofs.Common.{vec_capacity}
use Rattle.term_model.specs.Blocks.{list_in}
use Rattle.term_store.specs.Walks.{IsPushing}
use Rattle.term_store.proofs.store.StoreSpace.push_block.Given as goal

abbrev pub invariant-loop-rest : goal.invariant-loop-rest
invariant-loop-rest l = IsPushing l.self.chains l.fn.stack.items l.stack.items (list_in l.self.chains l.fn.block)
    (vec_capacity l.stack) l.rest

abbrev pub decreases-loop-rest : goal.decreases-loop-rest
decreases-loop-rest l = l.rest
