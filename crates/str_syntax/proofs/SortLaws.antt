-- Equality of sorts.
use Rattle.std.proofs.Common.{◌≡◌, ◌↔◌, ◌≢◌, IsTrue, Bool, false, List, [], ◌∷◌, length, suc, refl, ap}
use Rattle.std.proofs.Math.Bool.{and-false}
use Rattle.str_syntax.specs.SameSort.{same_sort, same_sorts}
use Rattle.str_syntax.specs.SortEquality.{same_sort-Decides}
use Rattle.str_syntax.specs.declared.sort.Sort.{Sort}
use Rattle.str_syntax.specs.Trees.{SortTree}
use Rattle.str_syntax.specs.Views.{sort_tree_of, sorts_of}

-- a test that is `same_sort` tells whether the sorts are equal
pub equal_from_same : (b : Bool) (x y : SortTree) → b ≡ same_sort x y → IsTrue b ↔ (x ≡ y)
equal_from_same b x y e = rw e (same_sort-Decides x y)

pub ruleset equal = (equal_from_same)

-- lists of different lengths are not the same
pub same_sorts-length : (xs ys : List Sort) → length xs ≢ length ys → same_sorts (sorts_of xs) (sorts_of ys) ≡ false
same_sorts-length [] [] e = absurd (e refl)
same_sorts-length [] (y ∷ ys) e = refl
same_sorts-length (x ∷ xs) [] e = refl
same_sorts-length (x ∷ xs) (y ∷ ys) e =
    let others : same_sorts (sorts_of xs) (sorts_of ys) ≡ false = same_sorts-length xs ys (λ d. e (ap suc d)) in
    rw others (and-false (same_sort (sort_tree_of x) (sort_tree_of y)))

pub ruleset equality = (same_sorts-length)
