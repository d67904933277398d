-- Whether a name with a number of terms is in a set of names.
use Rattle.std.proofs.Common.{◌≡◌, ◌↔◌, ◌==◌, ℕ, Bool, true, false, List, Contains, IsTrue, refl, subst, sym}
use Rattle.std.specs.Bool.{Decides}
use Rattle.std.specs.Cmp.{decided, first_so, second_so, unsigned_Decides}
use Rattle.std.proofs.lemmas.Map.Views.{Contains-from_any, list_any-from_Contains}
use Rattle.term_model.specs.PrimNames.{NameKey}
use Rattle.str_syntax.specs.SameName.{same_name}
use Rattle.str_syntax.specs.NameEquality.{same_name-Decides}
use Rattle.str_syntax.specs.Trees.{Bytes}
use Rattle.scope_check.specs.Primitives.{holds, same_primitive}

same_primitive-refl : (k : NameKey) → same_primitive k k ≡ true
same_primitive-refl k =
    let names : same_name k.0 k.0 ≡ true = (same_name-Decides k.0 k.0).1 refl in
    let numbers : (k.1 == k.1) ≡ true = (unsigned_Decides k.1 k.1).1 refl in
    rw (names, numbers) refl

same_primitive-true : (k l : NameKey) → same_primitive k l ≡ true → k ≡ l
same_primitive-true k l same =
    let names : k.0 ≡ l.0 = (same_name-Decides k.0 l.0).0 (first_so _ (k.1 == l.1) same) in
    let numbers : k.1 ≡ l.1 = (unsigned_Decides k.1 l.1).0 (second_so (same_name k.0 l.0) _ same) in
    λ i. (names i, numbers i)

same_primitive-Decides : (k l : NameKey) → Decides (same_primitive k l) (k ≡ l)
same_primitive-Decides k l = (
  same_primitive-true k l,
  λ equal. let P : NameKey → Type 0 =
      λ m. same_primitive k m ≡ true in subst P equal (same_primitive-refl k),
)

-- the test finds a name where it is in the set
pub holds-contains : (names : List NameKey) (f : Bytes) (n : ℕ) → (holds names f n ≡ true) ↔ Contains names (f, n)
holds-contains names f n = (
  λ held. Contains-from_any same_primitive-true (f, n) names held,
  λ there. list_any-from_Contains (decided same_primitive same_primitive-Decides) (f, n) names there,
)

both_or_none : (a b : Bool) → (a ≡ true → b ≡ true) → (b ≡ true → a ≡ true) → a ≡ b
both_or_none true b there back = sym (there refl)
both_or_none false true there back = back refl
both_or_none false false there back = refl

-- a test that says whether a name is in the set is that one
pub is_holds : (b : Bool) (names : List NameKey) (f : Bytes) (n : ℕ) → IsTrue b ↔ Contains names (f, n) →
    b ≡ holds names f n
is_holds b names f n is =
    let held = holds-contains names f n in
    both_or_none b (holds names f n) (λ yes. held.1 (is.0 yes)) (λ yes. is.1 (held.0 yes))
