-- The headline does not rest on this file.
-- Laws of the test whether two keys are the same, and what a key feeds a hasher.
use Rattle.std.specs.Prelude.{◌≡◌, ◌++◌, ◌==◌, true, ◌&&◌}
use Rattle.std.specs.Bool.{Decides}
use Rattle.std.specs.Cmp.{IsEquivalence, IsPartialEquivalence, decided, partial_equiv_from_equiv, unsigned_Decides}
use Rattle.std.specs.Hash as fed
use Rattle.std.proofs.Common.{refl, ap}
use Rattle.std.proofs.lemmas.Bool.Decides.{Decides-and}
use Rattle.str_syntax.specs.SameName.{same_name}
use Rattle.str_syntax.specs.NameEquality.{same_name-Decides}
use Rattle.str_syntax.specs.Key.{Key, same_key}

-- the test decides whether two keys are equal
pub same_key-Decides : (k l : Key) → Decides (same_key k l) (k ≡ l)
same_key-Decides k l =
    let parts : Decides (same_key k l) ((k.name ≡ l.name) × ((k.strategies ≡ l.strategies) × (k.terms ≡ l.terms))) =
    Decides-and (same_name k.name l.name) (k.strategies == l.strategies && k.terms == l.terms)
    (same_name-Decides k.name l.name)
    (Decides-and (k.strategies == l.strategies) (k.terms == l.terms) (unsigned_Decides k.strategies l.strategies)
    (unsigned_Decides k.terms l.terms)) in (
      λ same. let equal = parts.0 same in
          λ i. record { name = equal.0 i; strategies = equal.1.0 i; terms = equal.1.1 i },
      λ equal. parts.1 (ap (λ m. m.name) equal, (ap (λ m. m.strategies) equal, ap (λ m. m.terms) equal)),
    )

pub same_key-refl : (k : Key) → same_key k k ≡ true
same_key-refl k = (same_key-Decides k k).1 refl

pub same_key-true : (k l : Key) → same_key k l ≡ true → k ≡ l
same_key-true k l = (same_key-Decides k l).0

pub same_key_equiv : IsEquivalence same_key
same_key_equiv = decided same_key same_key-Decides

pub same_key_partial_equiv : IsPartialEquivalence same_key
same_key_partial_equiv = partial_equiv_from_equiv same_key_equiv

-- the name and both numbers
abbrev pub key_writes : Key → fed.HashWrites
key_writes k = fed.slice fed.u8 k.name ++ (fed.usize k.strategies ++ fed.usize k.terms)

-- equal keys are fed alike
pub key_writes-same : (k l : Key) → same_key k l ≡ true → key_writes k ≡ key_writes l
key_writes-same k l same = ap key_writes (same_key-true k l same)
