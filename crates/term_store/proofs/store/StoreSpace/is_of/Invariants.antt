use Rattle.term_model.specs.Blocks.{list_in}
use Rattle.term_store.specs.Walks.{IsComparing}
use Rattle.term_store.proofs.store.StoreSpace.is_of.Given as goal

abbrev pub invariant-loop-rest : goal.invariant-loop-rest
invariant-loop-rest l = IsComparing l.self.chains (list_in l.self.chains l.fn.block) l.places l.left l.rest

abbrev pub decreases-loop-rest : goal.decreases-loop-rest
decreases-loop-rest l = l.rest
