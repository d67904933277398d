use Rattle.std.proofs.Common.{◌≡◌, length, drop}
use Rattle.str_syntax.specs.SameSort.{same_sorts}
use Rattle.str_syntax.specs.Views.{sorts_of}
use Rattle.str_syntax.proofs.same_sort.+same.Given as goal

abbrev pub invariant-all_same-loop-one : goal.invariant-all_same-loop-one
invariant-all_same-loop-one l =
    same_sorts (sorts_of (drop (length l.yielded) l.left)) (sorts_of (drop (length l.yielded) l.right)) ≡
    same_sorts (sorts_of l.left) (sorts_of l.right)
