use Rattle.std.proofs.Common.{◌+◌, ◌*◌, take}
use Rattle.term_model.specs.Term.{weight, weights, trees_of}
use Rattle.term_store.specs.Space.{Keeps}
use Rattle.term_store.specs.Entering.{PutsOn}
use Rattle.term_store.proofs.store.StoreSpace.+enter.Given as goal

abbrev pub decreases-enter_term : goal.decreases-enter_term
decreases-enter_term l = 2 * weight l.from.now

abbrev pub decreases-enter_all : goal.decreases-enter_all
decreases-enter_all l = 2 * weights (trees_of l.terms.now) + 1

abbrev pub invariant-enter_all-loop-term : goal.invariant-enter_all-loop-term
invariant-enter_all-loop-term l = record {
  puts : PutsOn l.self (take l.term-index l.terms) l.fn.stack.items l.stack.items;
  keeps : Keeps l.fn.self l.self;
}
