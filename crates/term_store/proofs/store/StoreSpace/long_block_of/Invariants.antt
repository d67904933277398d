use Rattle.term_store.specs.Walks.{IsLinking}
use Rattle.term_store.proofs.store.StoreSpace.long_block_of.Given as goal

abbrev pub invariant-loop-end : goal.invariant-loop-end
invariant-loop-end l = IsLinking l.fn.self l.self l.places l.rest l.end

abbrev pub decreases-loop-end : goal.decreases-loop-end
decreases-loop-end l = l.end
