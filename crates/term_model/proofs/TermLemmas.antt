-- Laws of terms.
use Rattle.std.proofs.Common.{◌≡◌, ◌<◌, List, [], ◌∷◌, length, refl, ap, arith}
use Rattle.term_model.specs.Term.{Tree, node, Trees, end, more, list_of, trees_of, weight, IsHead}
use Rattle.term_model.specs.declared.term.Head.{Head}
use Rattle.term_model.specs.declared.term.Head.TheVariants as heads

-- a list of terms is kept as it is
pub list_of-trees_of : (ts : List Tree) → list_of (trees_of ts) ≡ ts
list_of-trees_of [] = refl
list_of-trees_of (t ∷ ts) = ap (λ us. t ∷ us) (list_of-trees_of ts)

pub trees_of-list_of : (ts : Trees) → trees_of (list_of ts) ≡ ts
trees_of-list_of end = refl
trees_of-list_of (more t ts) = ap (more t) (trees_of-list_of ts)

pub ruleset kept = (list_of-trees_of, trees_of-list_of)

-- a node that keeps the sizes of its term, which fits
pub ruleset made = (kept)

-- every term weighs something
pub weight_positive : (t : Tree) → 0 < weight t
weight_positive (node h ps xs) = omega arith

-- as many other parts do for a head
pub IsHead-length : (h : Head) (xs ys : List Tree) → IsHead h (trees_of xs) → length ys ≡ length xs →
    IsHead h (trees_of ys)
IsHead-length (heads.Int n) [] [] is e = is
IsHead-length (heads.Int n) [] (y ∷ ys) is e = cc
IsHead-length (heads.Int n) (x ∷ xs) ys is e = absurd (cc is.1)
IsHead-length (heads.App s) xs ys is e = is
IsHead-length heads.List xs ys is e = is

pub ruleset rebuilt = (kept, IsHead-length)
