-- Shapes under their places.
use Rattle.std.proofs.Common.{rules, Bool, true, false, if◌then◌else◌, ◌≡◌, ℕ, zero, suc, ◌+◌, ◌-◌, ◌<◌, ◌≤◌, List, [], ◌∷◌, ◌++◌, length, get_or, take, refl, sym, ◌∙◌, ap, subst, arith, length-append, ◌⊎◌, inl, inr}
use Rattle.std.specs.Prelude.{ℤ, pos, ◌+ℤ◌}
use Rattle.std.proofs.Math.IntN.{ -ℤ-+ℤ_cancel}
use Rattle.std.proofs.lemmas.List.{get_or_append_left, get_or-append-add}
use Rattle.std.proofs.Math.Seq.{take-append-add}
use Rattle.term_store.specs.Places.{integer_at, integers, IsLargeShape, AreLarge}
use Rattle.term_store.specs.Store.{AreDistinct}
use Rattle.term_store.specs.declared.stored.StoredShape.{StoredShape}
use Rattle.term_store.specs.declared.stored.StoredShape.TheVariants as forms
use Rattle.term_store.proofs.StoreLemmas.{push_at}

pub length-integers : (negative small : ℕ) → length (integers negative small) ≡ small
length-integers negative zero = refl
length-integers negative (suc k) = length-append (integers negative k) (forms.Int 0 (integer_at negative k) ∷ []) ∙
    (let l = length-integers negative k in omega (arith, l))

pub length-keys : (negative small : ℕ) (held : List StoredShape) →
    length (integers negative small ++ held) ≡ small + length held
length-keys negative small held =
    length-append (integers negative small) held ∙ ap (λ n. n + length held) (length-integers negative small)

-- the shape at the last place, or at one before
placed_at : (negative n k : ℕ) (d : StoredShape)
    → ((k < length (integers negative n)) ×
    ((d : StoredShape) → get_or (integers negative (suc n)) k d ≡ get_or (integers negative n) k d)) ⊎
    ((k ≡ length (integers negative n)) ×
    ((d : StoredShape) → get_or (integers negative (suc n)) k d ≡ forms.Int 0 (integer_at negative n)))
    → (k < n → get_or (integers negative n) k d ≡ forms.Int 0 (integer_at negative k)) →
    get_or (integers negative (suc n)) k d ≡ forms.Int 0 (integer_at negative k)
placed_at negative n k d (inl f) before =
    f.1 d ∙ before (let l = length-integers negative n in let g = f.0 in omega (arith, l, g))
placed_at negative n k d (inr f) before = let l = length-integers negative n in let g = f.0 in let same : n ≡ k =
    omega (arith, l, g) in f.1 d ∙ ap (λ m. forms.Int 0 (integer_at negative m)) same

-- the shape of a small integer
integer_placed : (negative small k : ℕ) (d : StoredShape) → k < small →
    get_or (integers negative small) k d ≡ forms.Int 0 (integer_at negative k)
integer_placed negative zero k d h = absurd (omega (arith, h))
integer_placed negative (suc n) k d h =
    placed_at negative n k d (push_at (integers negative n) (forms.Int 0 (integer_at negative n)) k (let l =
    length-integers negative (suc n) in omega (arith, l, h))) (integer_placed negative n k d)

pub small_at : (negative small : ℕ) (held : List StoredShape) (k : ℕ) (d : StoredShape) → k < small →
    get_or (integers negative small ++ held) k d ≡ forms.Int 0 (integer_at negative k)
small_at negative small held k d h =
    get_or_append_left (integers negative small) held d k (let l = length-integers negative small in
    omega (arith, l, h)) ∙ integer_placed negative small k d h

-- the shape that is held under a number
pub numbered_at : (negative small : ℕ) (held : List StoredShape) (k : ℕ) (d : StoredShape) →
    get_or (integers negative small ++ held) (small + k) d ≡ get_or held k d
numbered_at negative small held k d =
    subst (λ n. get_or (integers negative small ++ held) (n + k) d ≡ get_or held k d) (length-integers negative small)
    (get_or-append-add (integers negative small) held k d)

pub held_at : (negative small : ℕ) (held : List StoredShape) (k : ℕ) (d : StoredShape) → small ≤ k →
    get_or (integers negative small ++ held) k d ≡ get_or held (k - small) d
held_at negative small held k d h = let same : small + (k - small) ≡ k = omega (arith, h) in
    subst (λ n. get_or (integers negative small ++ held) n d ≡ get_or held (k - small) d)
    same (numbered_at negative small held (k - small) d)

-- the first places, of which all small integers are
pub first_keys : (negative small : ℕ) (held : List StoredShape) (count : ℕ) → small ≤ count →
    integers negative small ++ take (count - small) held ≡ take count (integers negative small ++ held)
first_keys negative small held count h =
    let same : small + (count - small) ≡ count = omega (arith, h) in
    let all : take (small + (count - small)) (integers negative small ++ held) ≡ integers negative small ++
    take (count - small) held =
    subst (λ n. take (n + (count - small)) (integers negative small ++ held) ≡ integers negative small ++
    take (count - small) held) (length-integers negative small)
    (take-append-add (integers negative small) held (count - small)) in
    sym all ∙ ap (λ n. take n (integers negative small ++ held)) same

-- one shape more, which is not that of a small integer
pub large_pushed : (negative small : ℕ) (held : List StoredShape) (s : StoredShape) → AreLarge negative small held →
    IsLargeShape negative small s → AreLarge negative small (held ++ s ∷ [])
large_pushed negative small held s are is k d h = by (push_at held s k h)
  where
    by : ((k < length held) × ((d : StoredShape) → get_or (held ++ s ∷ []) k d ≡ get_or held k d)) ⊎
        ((k ≡ length held) × ((d : StoredShape) → get_or (held ++ s ∷ []) k d ≡ s)) →
        IsLargeShape negative small (get_or (held ++ s ∷ []) k d)
    by (inl f) = subst (IsLargeShape negative small) (sym (f.1 d)) (are k d f.0)
    by (inr f) = subst (IsLargeShape negative small) (sym (f.1 d)) is

pub large_inserted : (negative small : ℕ) (held keys : List StoredShape) (s : StoredShape) (b : Bool) →
    AreLarge negative small held → IsLargeShape negative small s → keys ≡ (if b then held else held ++ s ∷ []) →
    AreLarge negative small keys
large_inserted negative small held keys s true are is same = subst (AreLarge negative small) (sym same) are
large_inserted negative small held keys s false are is same =
    subst (AreLarge negative small) (sym same) (large_pushed negative small held s are is)

same_integer : (a b : ℤ) → forms.Int 0 a ≡ forms.Int 0 b → a ≡ b
same_integer a b e = cc

same_place : (negative i j : ℕ) → integer_at negative i ≡ integer_at negative j → i ≡ j
same_place negative i j e =
    let same : pos i ≡ pos j = sym (-ℤ-+ℤ_cancel (pos i) (pos negative)) ∙
    (ap (λ z. z +ℤ pos negative) e ∙ -ℤ-+ℤ_cancel (pos j) (pos negative)) in
    cc

-- no two places have the same shape
pub distinct_keys : (negative small : ℕ) (held : List StoredShape) → AreLarge negative small held → AreDistinct held →
    AreDistinct (integers negative small ++ held)
distinct_keys negative small held are distinct d a b ha hb e = by (leb_or a) (leb_or b)
  where
    leb_or : (k : ℕ) → (k < small) ⊎ (small ≤ k)
    leb_or k = search rules

    long : length (integers negative small ++ held) ≡ small + length held
    long = length-keys negative small held

    mixed : (i j : ℕ) → i < small → small ≤ j → j < length (integers negative small ++ held) →
        get_or (integers negative small ++ held) i d ≡ get_or (integers negative small ++ held) j d → a ≡ b
    mixed i j hi hj within same =
        absurd (are (j - small) d (omega (arith, hj, within, long)) (integer_at negative i)
        (sym (held_at negative small held j d hj) ∙ (sym same ∙ small_at negative small held i d hi)) i hi refl)

    by : (a < small) ⊎ (small ≤ a) → (b < small) ⊎ (small ≤ b) → a ≡ b
    by (inl sa) (inl sb) = same_place negative a b
        (same_integer _ _ (sym (small_at negative small held a d sa) ∙ (e ∙ small_at negative small held b d sb)))
    by (inl sa) (inr lb) = mixed a b sa lb hb e
    by (inr la) (inl sb) = mixed b a sb la ha (sym e)
    by (inr la) (inr lb) =
        let one : a - small ≡ b - small =
        distinct d (a - small) (b - small) (omega (arith, la, ha, long)) (omega (arith, lb, hb, long))
        (sym (held_at negative small held a d la) ∙ (e ∙ held_at negative small held b d lb)) in
        omega (arith, one, la, lb)

pub ruleset places = (length-keys)
