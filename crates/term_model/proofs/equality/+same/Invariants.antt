use Rattle.std.proofs.Common.{◌≡◌, ◌+◌, ◌*◌, length, drop}
use Rattle.term_model.specs.Term.{weight, weights, trees_of}
use Rattle.term_model.specs.Same.{same_all}
use Rattle.term_model.proofs.equality.+same.Given as goal

abbrev pub decreases-are_same : goal.decreases-are_same
decreases-are_same l = 2 * weight l.left.now

abbrev pub decreases-all_same : goal.decreases-all_same
decreases-all_same l = 2 * weights (trees_of l.left.now) + 1

abbrev pub invariant-all_same-loop-one : goal.invariant-all_same-loop-one
invariant-all_same-loop-one l =
    same_all (trees_of (drop (length l.yielded) l.left)) (trees_of (drop (length l.yielded) l.right)) ≡
    same_all (trees_of l.left) (trees_of l.right)
