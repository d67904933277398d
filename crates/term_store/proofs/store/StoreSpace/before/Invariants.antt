use Rattle.term_model.specs.Blocks.{list_in}
use Rattle.term_store.specs.Walks.{IsBuilding}
use Rattle.term_store.proofs.store.StoreSpace.before.Given as goal

abbrev pub invariant-loop-end : goal.invariant-loop-end
invariant-loop-end l = IsBuilding l.fn.self l.self l.places (list_in l.fn.self.chains l.fn.block) l.block l.end

abbrev pub decreases-loop-end : goal.decreases-loop-end
decreases-loop-end l = l.end
