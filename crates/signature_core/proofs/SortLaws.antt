-- Sorts as lists, and as trees one after another.
use Rattle.std.proofs.Common.{◌≡◌, ◌&&◌, ◌++◌, ◌∙◌, ℕ, List, [], ◌∷◌, length, suc, sym, refl, ap}
use Rattle.std.specs.Cmp.Lexicographic.{pointwise}
use Rattle.std.specs.Hash as fed
use Rattle.std.specs.List.{flat_map, fold}
use Rattle.str_syntax.specs.declared.sort.Sort.{Sort}
use Rattle.str_syntax.specs.SameSort.{same_sort, same_sorts}
use Rattle.str_syntax.specs.SortHashing.{sort_writes}
use Rattle.str_syntax.specs.Views.{sort_tree_of, sorts_of}
use Rattle.signature_core.specs.SameDeclaration.{each_sort_writes, declaration_writes}
use Rattle.signature_core.specs.Signature.{number_of_sorts}
use Rattle.signature_core.specs.Views.{declaration}

pub number_of_sorts-sorts_of : (xs : List Sort) → number_of_sorts (sorts_of xs) ≡ length xs
number_of_sorts-sorts_of [] = refl
number_of_sorts-sorts_of (x ∷ xs) = ap suc (number_of_sorts-sorts_of xs)

-- sorts are the same where each is the same as the other at its place
pub pointwise-same_sorts : (xs ys : List Sort) →
    pointwise (λ a b. same_sort (sort_tree_of a) (sort_tree_of b)) xs ys ≡ same_sorts (sorts_of xs) (sorts_of ys)
pointwise-same_sorts [] [] = refl
pointwise-same_sorts [] (y ∷ ys) = refl
pointwise-same_sorts (x ∷ xs) [] = refl
pointwise-same_sorts (x ∷ xs) (y ∷ ys) =
    ap (λ rest. same_sort (sort_tree_of x) (sort_tree_of y) && rest) (pointwise-same_sorts xs ys)

-- sorts feed a hasher one after another
pub flat_map-sort_writes : (xs : List Sort) →
    flat_map (λ a. sort_writes (sort_tree_of a)) xs ≡ each_sort_writes (sorts_of xs)
flat_map-sort_writes [] = refl
flat_map-sort_writes (x ∷ xs) = ap (λ rest. sort_writes (sort_tree_of x) ++ rest) (flat_map-sort_writes xs)

-- what a name and sorts feed a hasher, one after another, is what their declaration does
pub fed_declaration : {S : Type 0} (write : S → List ℕ → S) (s t u v : S) (name : List ℕ) (xs : List Sort) (to : Sort)
    → t ≡ fold write s (fed.slice fed.u8 name) → u ≡ fold write t (fed.slice (λ a. sort_writes (sort_tree_of a)) xs) →
    v ≡ fold write u (sort_writes (sort_tree_of to))
    → v ≡ fold write s (declaration_writes (declaration name xs to))
fed_declaration write s t u v name xs to of_name of_arguments of_result =
    let number : fed.usize (length xs) ≡ fed.usize (number_of_sorts (sorts_of xs)) =
    ap fed.usize (sym (number_of_sorts-sorts_of xs)) in
    let written : fed.slice (λ a. sort_writes (sort_tree_of a)) xs ≡ fed.usize (number_of_sorts (sorts_of xs)) ++
    each_sort_writes (sorts_of xs) = λ i. number i ++ flat_map-sort_writes xs i in
    let arguments : u ≡ fold write t (fed.usize (number_of_sorts (sorts_of xs)) ++ each_sort_writes (sorts_of xs)) =
    of_arguments ∙ ap (fold write t) written in
    let rest : fed.HashWrites =
    (fed.usize (number_of_sorts (sorts_of xs)) ++ each_sort_writes (sorts_of xs)) ++
    sort_writes (sort_tree_of to) in
    let later : v ≡ fold write t rest =
    fed.fed_then write t u v (fed.usize (number_of_sorts (sorts_of xs)) ++ each_sort_writes (sorts_of xs))
    (sort_writes (sort_tree_of to)) arguments of_result in
    fed.fed_then write s t v (fed.slice fed.u8 name) rest of_name later

pub ruleset sorts = (number_of_sorts-sorts_of, pointwise-same_sorts, flat_map-sort_writes)
