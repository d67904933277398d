-- A byte more of a part of a text.
use Rattle.std.proofs.Common.{◌≡◌, ℕ, suc, zero, ◌+◌, ◌-◌, ◌<◌, ◌≤◌, List, [], ◌∷◌, ◌++◌, length, get_or, take, drop, refl, ap, ◌∙◌, arith, true, add-one, length-drop}
use Rattle.std.proofs.lemmas.Grind.{common_steps}
use Rattle.std.specs.Prelude.{slice_index, slice_range}
use Rattle.term_model.specs.Symbol.{begins_name, continues_name, is_name}
use Rattle.aterm_text.proofs.Sound.{name_snoc}

-- as many bytes from the front, and one more
take_one : (n : ℕ) (xs : List ℕ) → n < length xs → take (n + 1) xs ≡ take n xs ++ get_or xs n 0 ∷ []
take_one n [] h = absurd (omega arith)
take_one zero (x ∷ xs) h = refl
take_one (suc n) (x ∷ xs) h = rw (add-one) (ap (λ ys. x ∷ ys) (rw add-one at (take_one n xs (omega arith))))

index_drop : (from n : ℕ) (xs : List ℕ) → get_or (drop from xs) n 0 ≡ get_or xs (from + n) 0
index_drop from n xs = grind (arith, common_steps)

pub slice_more : (xs : List ℕ) (from at : ℕ) → from ≤ at → at < length xs →
    slice_range xs from (at + 1) ≡ slice_range xs from at ++ slice_index xs at ∷ []
slice_more xs from at h k =
    let e : (at + 1) - from ≡ (at - from) + 1 = omega arith in
    let short : at - from < length (drop from xs) = omega (arith, length-drop from xs) in
    let same_byte : get_or (drop from xs) (at - from) 0 ≡ get_or xs at 0 =
    rw index_drop (ap (λ i. get_or xs i 0) (omega arith)) in
    rw (e, take_one (at - from) (drop from xs) short, same_byte) refl

pub slice_none : (xs : List ℕ) (at : ℕ) → slice_range xs at at ≡ []
slice_none xs at = let e : at - at ≡ 0 = omega arith in rw e refl

pub name_begins : (xs : List ℕ) (at b : ℕ) → slice_index xs at ≡ b → at < length xs → begins_name b ≡ true →
    is_name (slice_range xs at (at + 1)) ≡ true
name_begins xs at b e h f =
    let one : slice_range xs at (at + 1) ≡ b ∷ [] = slice_more xs at at (omega arith) h ∙ rw (slice_none, e) refl in
    rw (one, f) refl

pub name_goes_on : (xs : List ℕ) (from at : ℕ) → from < at → at < length xs → is_name (slice_range xs from at) ≡ true →
    continues_name (slice_index xs at) ≡ true → is_name (slice_range xs from (at + 1)) ≡ true
name_goes_on xs from at h k is e =
    rw (slice_more xs from at (omega arith) k) (name_snoc (slice_range xs from at) (slice_index xs at) is e)
