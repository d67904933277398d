-- Laws of the extents of all places.
use Rattle.std.proofs.Common.{if◌then◌else◌, ◌≡◌, ℕ, zero, suc, ◌+◌, ◌-◌, ◌<◌, ◌≤◌, nat_le, List, [], ◌∷◌, ◌++◌, length, get_or, take, refl, sym, ◌∙◌, ap, ap₂, arith, add-zero, zero-add, length-append, append_assoc, le-leb, ◌⊎◌, inl, inr}
use Rattle.std.proofs.lemmas.Bool.{cases_lt, lt-leb}
use Rattle.std.proofs.lemmas.List.{get_or_append_left, get_or-append_right, length-take, take_all}
use Rattle.std.proofs.Math.Seq.{get_or-append_seam, take-append-add, take-suc}
use Rattle.term_store.specs.declared.extents.Epoch.{Epoch}
use Rattle.term_store.specs.declared.sizes.Size.{Size}
use Rattle.term_store.specs.declared.stored.Extent.{Extent}
use Rattle.term_store.specs.Extents.{small_extent, small_extents, no_epoch, epoch_at, AreSameBelow, HasCounts, extent_in, held_extents}

pub length-small_extents : (n : ℕ) → length (small_extents n) ≡ n
length-small_extents zero = refl
length-small_extents (suc n) = let h = length-small_extents n in simp length-append (omega (arith, h))

pub length-held_extents : (es : List Epoch) (k : ℕ) (zs : List Size) → length (held_extents es k zs) ≡ length zs
length-held_extents es k [] = refl
length-held_extents es k (z ∷ zs) = ap suc (length-held_extents es (suc k) zs)

-- how many extents there are
pub length-extents : (n : ℕ) (es : List Epoch) (k : ℕ) (zs : List Size) →
    length (small_extents n ++ held_extents es k zs) ≡ n + length zs
length-extents n es k zs = let h = length-small_extents n in let l = length-held_extents es k zs in
    simp length-append (omega (arith, h, l))

in_small : (n i : ℕ) (d : Extent) → i < n → get_or (small_extents n) i d ≡ small_extent
in_small zero i d h = absurd (omega arith)
in_small (suc n) i d h = by (in_small n i d) (cases_lt i n)
  where
    long : length (small_extents n) ≡ n
    long = length-small_extents n

    by : (i < n → get_or (small_extents n) i d ≡ small_extent) → (i < n) ⊎ (n ≤ i) →
        get_or (small_extents n ++ small_extent ∷ []) i d ≡ small_extent
    by before (inl b) = get_or_append_left (small_extents n) (small_extent ∷ []) d i (rw long b) ∙ before b
    by before (inr b) =
        let last : i ≡ length (small_extents n) = omega (arith, h, b, long) in
        rw last (get_or-append_seam (small_extents n) small_extent [] d)

-- the extent of a small integer
pub small_at : (n : ℕ) (xs : List Extent) (i : ℕ) (d : Extent) → i < n →
    get_or (small_extents n ++ xs) i d ≡ small_extent
small_at n xs i d h = get_or_append_left (small_extents n) xs d i (rw (length-small_extents n) h) ∙ in_small n i d h

held_at : (es : List Epoch) (j : ℕ) (zs : List Size) (k : ℕ) (d : Extent) (z : Size) → k < length zs →
    get_or (held_extents es j zs) k d ≡ extent_in (get_or zs k z) (epoch_at no_epoch es (j + k))
held_at es j [] k d z h = absurd (omega arith)
held_at es j (x ∷ zs) zero d z h = rw add-zero refl
held_at es j (x ∷ zs) (suc k) d z h =
    let place : j + suc k ≡ suc j + k = omega arith in
    rw place (held_at es (suc j) zs k d z (omega arith))

-- the extent of a shape
pub shape_at : (n : ℕ) (es : List Epoch) (zs : List Size) (i : ℕ) (d : Extent) (z : Size) → n ≤ i → i < n + length zs →
    get_or (small_extents n ++ held_extents es 0 zs) i d ≡
    extent_in (get_or zs (i - n) z) (epoch_at no_epoch es (i - n))
shape_at n es zs i d z above within =
    get_or-append_right (small_extents n) (held_extents es 0 zs) n i d (length-small_extents n) above
    ∙ rw zero-add at (held_at es 0 zs (i - n) d z (omega arith))

-- one epoch more
epoch_at-push : (e : Epoch) (es : List Epoch) (f : Epoch) (k : ℕ) →
    epoch_at e (es ++ f ∷ []) k ≡ (if nat_le f.first k then f else epoch_at e es k)
epoch_at-push e [] f k = refl
epoch_at-push e (x ∷ es) f k = epoch_at-push (if nat_le x.first k then x else e) es f k

pub epoch_begun : (e : Epoch) (es : List Epoch) (f : Epoch) (k : ℕ) → f.first ≤ k → epoch_at e (es ++ f ∷ []) k ≡ f
epoch_begun e es f k h = epoch_at-push e es f k ∙ ap (λ b. if b then f else epoch_at e es k) (le-leb f.first k h)

pub epoch_to_come : (e : Epoch) (es : List Epoch) (f : Epoch) (k : ℕ) → k < f.first →
    epoch_at e (es ++ f ∷ []) k ≡ epoch_at e es k
epoch_to_come e es f k h = epoch_at-push e es f k ∙ ap (λ b. if b then f else epoch_at e es k) (lt-leb f.first k h)

-- the first epochs, with their last one apart
last_apart : (es : List Epoch) (n : ℕ) (d : Epoch) → 0 < n → n ≤ length es →
    take n es ≡ take (n - 1) es ++ get_or es (n - 1) d ∷ []
last_apart es zero d some within = absurd (omega arith)
last_apart es (suc n) d some within =
    let e : suc n - 1 ≡ n = omega arith in
    rw e (take-suc es n d (omega arith))

-- the last of the first epochs, where it has begun
pub last_begun : (es : List Epoch) (n k : ℕ) (d : Epoch) → 0 < n → n ≤ length es → (get_or es (n - 1) d).first ≤ k →
    epoch_at no_epoch (take n es) k ≡ get_or es (n - 1) d
last_begun es n k d some within h =
    rw (last_apart es n d some within) (epoch_begun no_epoch (take (n - 1) es) (get_or es (n - 1) d) k h)

-- the last of the first epochs, where it has not begun
pub last_to_come : (es : List Epoch) (n k : ℕ) (d : Epoch) → 0 < n → n ≤ length es → k < (get_or es (n - 1) d).first →
    epoch_at no_epoch (take n es) k ≡ epoch_at no_epoch (take (n - 1) es) k
last_to_come es n k d some within h =
    rw (last_apart es n d some within) (epoch_to_come no_epoch (take (n - 1) es) (get_or es (n - 1) d) k h)

-- epochs that are the same for these shapes
held_same : (es fs : List Epoch) (j : ℕ) (zs : List Size) →
    ((k : ℕ) → k < j + length zs → epoch_at no_epoch es k ≡ epoch_at no_epoch fs k) →
    held_extents es j zs ≡ held_extents fs j zs
held_same es fs j [] same = refl
held_same es fs j (z ∷ zs) same =
    let here : epoch_at no_epoch es j ≡ epoch_at no_epoch fs j = same j (omega arith) in
    let rest : held_extents es (suc j) zs ≡ held_extents fs (suc j) zs =
    held_same es fs (suc j) zs (λ k h. same k (omega (arith, h))) in
    cc

held-push : (es : List Epoch) (j : ℕ) (zs : List Size) (z : Size) →
    held_extents es j (zs ++ z ∷ []) ≡ held_extents es j zs ++ extent_in z (epoch_at no_epoch es (j + length zs)) ∷ []
held-push es j [] z = rw add-zero refl
held-push es j (x ∷ zs) z =
    let place : j + suc (length zs) ≡ suc j + length zs = omega arith in
    rw place (ap (λ xs. extent_in x (epoch_at no_epoch es j) ∷ xs) (held-push es (suc j) zs z))

take-held : (es : List Epoch) (j : ℕ) (zs : List Size) (n : ℕ) →
    take n (held_extents es j zs) ≡ held_extents es j (take n zs)
take-held es j zs zero = refl
take-held es j [] (suc n) = refl
take-held es j (z ∷ zs) (suc n) = ap (λ xs. extent_in z (epoch_at no_epoch es j) ∷ xs) (take-held es (suc j) zs n)

-- one shape more, in an epoch that has its counts
pub extents-push : (n : ℕ) (es fs : List Epoch) (zs : List Size) (x : Extent) → AreSameBelow (length zs) es fs →
    HasCounts (epoch_at no_epoch fs (length zs)) x
    → small_extents n ++ held_extents fs 0 (zs ++ record { weight = x.weight; depth = x.depth } ∷ []) ≡
    (small_extents n ++ held_extents es 0 zs) ++ x ∷ []
extents-push n es fs zs x same has =
    let z : Size = record { weight = x.weight; depth = x.depth } in
    let e : Epoch = epoch_at no_epoch fs (length zs) in
    let is : extent_in z e ≡ x =
    ap₂ (λ a b. record { weight = x.weight; depth = x.depth; chains = a; symbols = b }) has.chains has.symbols in
    let front : held_extents fs 0 zs ≡ held_extents es 0 zs =
    held_same fs es 0 zs (λ k h. same.same k (rw zero-add at h)) in
    let pushed : held_extents fs 0 (zs ++ z ∷ []) ≡ held_extents fs 0 zs ++ extent_in z e ∷ [] =
    rw zero-add at (held-push fs 0 zs z) in
    let both : held_extents fs 0 (zs ++ z ∷ []) ≡ held_extents es 0 zs ++ x ∷ [] = cc in
    ap (λ xs. small_extents n ++ xs) both ∙ sym (append_assoc (small_extents n) (held_extents es 0 zs) (x ∷ []))

-- the first shapes alone, by epochs that are the same for them
pub extents-take : (n count : ℕ) (es fs : List Epoch) (zs : List Size) → n ≤ count → AreSameBelow (count - n) es fs
    → small_extents n ++ held_extents fs 0 (take (count - n) zs) ≡ take count (small_extents n ++ held_extents es 0 zs)
extents-take n count es fs zs within same =
    let m : ℕ = count - n in
    let long : length (small_extents n) ≡ n = length-small_extents n in
    let place : count ≡ length (small_extents n) + (count - n) = omega (arith, long, within) in
    let short : length (take (count - n) zs) ≤ count - n = rw length-take (omega arith) in
    let held : held_extents fs 0 (take (count - n) zs) ≡ held_extents es 0 (take (count - n) zs) =
    held_same fs es 0 (take (count - n) zs) (λ k h. same.same k (omega (arith, h, short))) in
    let cut : take (length (small_extents n) + (count - n)) (small_extents n ++ held_extents es 0 zs) ≡
    small_extents n ++ take (count - n) (held_extents es 0 zs) =
    take-append-add (small_extents n) (held_extents es 0 zs) (count - n) in
    let there : take count (small_extents n ++ held_extents es 0 zs) ≡ small_extents n ++
    take (count - n) (held_extents es 0 zs) = ap (λ k. take k (small_extents n ++ held_extents es 0 zs)) place ∙
    cut in
    ap (λ xs. small_extents n ++ xs) (held ∙ sym (take-held es 0 zs (count - n))) ∙ sym there

-- one epoch more is the same for the numbers before it, and has its counts from its first number on
pub same_pushed : (es fs : List Epoch) (f : Epoch) → fs ≡ es ++ f ∷ [] → AreSameBelow f.first es fs
same_pushed es fs f e = record { same = λ k h. rw e (epoch_to_come no_epoch es f k h) }

pub counts_pushed : (es fs : List Epoch) (f : Epoch) (x : Extent) → fs ≡ es ++ f ∷ [] → HasCounts f x →
    HasCounts (epoch_at no_epoch fs f.first) x
counts_pushed es fs f x e has = rw (e, epoch_begun no_epoch es f f.first (omega arith)) has

-- the last epoch, where it has begun and has the counts
pub counts_of_last : (es : List Epoch) (k : ℕ) (d : Epoch) (x : Extent) → 0 < length es →
    (get_or es (length es - 1) d).first ≤ k → HasCounts (get_or es (length es - 1) d) x →
    HasCounts (epoch_at no_epoch es k) x
counts_of_last es k d x some begun has =
    let all : take (length es) es ≡ es = take_all (length es) es (omega arith) in
    let is : epoch_at no_epoch es k ≡ get_or es (length es - 1) d =
    ap (λ fs. epoch_at no_epoch fs k) (sym all) ∙ last_begun es (length es) k d some (omega arith) begun in
    rw is has

-- without the last epoch, where it does not begin before the number
pub same_popped : (number : ℕ) (es fs gs : List Epoch) (d : Epoch) → AreSameBelow number es fs → 0 < length fs →
    number ≤ (get_or fs (length fs - 1) d).first → gs ≡ take (length fs - 1) fs → AreSameBelow number es gs
same_popped number es fs gs d same some late e = record {
  same = λ k h.
      let all : take (length fs) fs ≡ fs = take_all (length fs) fs (omega arith) in
      let is : epoch_at no_epoch fs k ≡ epoch_at no_epoch (take (length fs - 1) fs) k =
      ap (λ gs. epoch_at no_epoch gs k) (sym all) ∙
      last_to_come fs (length fs) k d some (omega arith) (omega (arith, h, late)) in
      rw e (sym is ∙ same.same k h);
}

pub ruleset extents = (length-extents, small_at, shape_at, last_begun, last_to_come)

-- the epoch of a number is among the first of these epochs
pub record IsSeeking (es : List Epoch) (number count : ℕ) : Type 0 where
  pub within : count ≤ length es
  pub same : epoch_at no_epoch es number ≡ epoch_at no_epoch (take count es) number
