-- The headline does not rest on this file.
-- The test whether two sorts are the same decides it.
use Rattle.std.specs.Prelude.{◌≡◌, Bool, true, false, ◌&&◌}
use Rattle.std.specs.Bool.{Decides}
use Rattle.std.specs.Cmp.{IsEquivalence, IsPartialEquivalence, decided, partial_equiv_from_equiv}
use Rattle.std.proofs.Common.{refl, subst}
use Rattle.str_syntax.specs.SameName.{same_name}
use Rattle.str_syntax.specs.NameEquality.{same_name-Decides}
use Rattle.str_syntax.specs.SameSort.{same_sort, same_sorts}
use Rattle.str_syntax.specs.Trees.{SortTree, sort, sort_of, SortTrees, no_sorts, more_sorts}

-- both sides of a conjunction hold
both : (a b : Bool) → (a && b) ≡ true → (a ≡ true) × (b ≡ true)
both true true e = (refl, refl)
both true false e = cc
both false b e = cc

mutual
  pub same_sort-refl : (a : SortTree) → same_sort a a ≡ true
  same_sort-refl (sort a) = (same_name-Decides a a).1 refl
  same_sort-refl (sort_of a parts) =
      let first : same_name a a ≡ true = (same_name-Decides a a).1 refl in
      let rest : same_sorts parts parts ≡ true = same_sorts-refl parts in
      rw (first, rest) refl

  pub same_sorts-refl : (parts : SortTrees) → same_sorts parts parts ≡ true
  same_sorts-refl no_sorts = refl
  same_sorts-refl (more_sorts a parts) =
      let first : same_sort a a ≡ true = same_sort-refl a in
      let rest : same_sorts parts parts ≡ true = same_sorts-refl parts in
      rw (first, rest) refl

mutual
  pub same_sort-true : (a b : SortTree) → same_sort a b ≡ true → a ≡ b
  same_sort-true (sort a) (sort b) e =
      let names : a ≡ b = (same_name-Decides a b).0 e in
      cc
  same_sort-true (sort _) (sort_of _ _) e = cc
  same_sort-true (sort_of _ _) (sort _) e = cc
  same_sort-true (sort_of a parts) (sort_of b others) e =
      let facts : (same_name a b ≡ true) × (same_sorts parts others ≡ true) = both _ _ e in
      let names : a ≡ b = (same_name-Decides a b).0 facts.0 in
      let rest : parts ≡ others = same_sorts-true parts others facts.1 in
      cc

  pub same_sorts-true : (parts others : SortTrees) → same_sorts parts others ≡ true → parts ≡ others
  same_sorts-true no_sorts no_sorts e = refl
  same_sorts-true no_sorts (more_sorts _ _) e = cc
  same_sorts-true (more_sorts _ _) no_sorts e = cc
  same_sorts-true (more_sorts a parts) (more_sorts b others) e =
      let facts : (same_sort a b ≡ true) × (same_sorts parts others ≡ true) = both _ _ e in
      let first : a ≡ b = same_sort-true a b facts.0 in
      let rest : parts ≡ others = same_sorts-true parts others facts.1 in
      cc

-- the tests decide equality
pub same_sort-Decides : (a b : SortTree) → Decides (same_sort a b) (a ≡ b)
same_sort-Decides a b = (
  same_sort-true a b,
  λ e. let P : SortTree → Type 0 = λ c. same_sort a c ≡ true in
      subst P e (same_sort-refl a),
)

pub same_sorts-Decides : (parts others : SortTrees) → Decides (same_sorts parts others) (parts ≡ others)
same_sorts-Decides parts others = (
  same_sorts-true parts others,
  λ e. let P : SortTrees → Type 0 = λ more. same_sorts parts more ≡ true in
      subst P e (same_sorts-refl parts),
)

pub same_sort_equiv : IsEquivalence same_sort
same_sort_equiv = decided same_sort same_sort-Decides

pub same_sort_partial_equiv : IsPartialEquivalence same_sort
same_sort_partial_equiv = partial_equiv_from_equiv same_sort_equiv
