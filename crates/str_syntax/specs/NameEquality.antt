-- The headline does not rest on this file.
-- The test whether two names are the same decides it.
use Rattle.std.specs.Prelude.{◌≡◌, ℕ, List, true}
use Rattle.std.specs.Bool.{Decides}
use Rattle.std.specs.Cmp.{IsEquivalence, IsPartialEquivalence, decided, unsigned_Decides, partial_equiv_from_equiv}
use Rattle.std.proofs.Common.{refl}
use Rattle.std.proofs.lemmas.Slice.Eq.{slice_eq-Decides}
use Rattle.str_syntax.specs.SameName.{same_name}

pub same_name-Decides : (xs ys : List ℕ) → Decides (same_name xs ys) (xs ≡ ys)
same_name-Decides xs ys = slice_eq-Decides unsigned_Decides xs ys _ refl

pub same_name-true : (xs ys : List ℕ) → same_name xs ys ≡ true → xs ≡ ys
same_name-true xs ys e = (same_name-Decides xs ys).0 e

pub same_name_equiv : IsEquivalence same_name
same_name_equiv = decided same_name same_name-Decides

pub same_name_partial_equiv : IsPartialEquivalence same_name
same_name_partial_equiv = partial_equiv_from_equiv same_name_equiv
