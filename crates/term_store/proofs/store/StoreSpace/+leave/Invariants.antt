use Rattle.std.proofs.Common.{◌≡◌, ◌+◌, ◌*◌, ◌++◌, drop, map, vec_len}
use Rattle.term_store.specs.Leaving.{AreLeft}
use Rattle.term_store.specs.Space.{term_of}
use Rattle.term_store.proofs.store.StoreSpace.+leave.Given as goal

abbrev pub decreases-leave_term : goal.decreases-leave_term
decreases-leave_term l = 3 * l.at + 2

abbrev pub decreases-leave_block : goal.decreases-leave_block
decreases-leave_block l = 3 * l.at + 1

abbrev pub decreases-leave_all : goal.decreases-leave_all
decreases-leave_all l = 3 * l.at

abbrev pub invariant-leave_all-loop-index : goal.invariant-leave_all-loop-index
invariant-leave_all-loop-index l = record {
  made : l.made.items ++ map (term_of l.self) (drop l.index l.fn.stack.items) ≡
      map (term_of l.self) (drop l.fn.bottom l.fn.stack.items);
  long : vec_len l.terms ≡ vec_len l.fn.terms;
  left : AreLeft l.self l.terms.items;
  stack : l.stack.items ≡ l.fn.stack.items;
}
