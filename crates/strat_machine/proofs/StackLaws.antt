-- The newest items of a stack.
use Rattle.std.proofs.Common.{◌≡◌, ℕ, zero, suc, ◌+◌, ◌-◌, ◌<◌, min, List, [], ◌∷◌, ◌++◌, length, reverse, take, drop, sym, ◌∙◌, ap, append_assoc, arith}
use Rattle.std.proofs.lemmas.List.{reverse-append, reverse-reverse, length-reverse, length-drop, take-append-drop, take_min}
use Rattle.std.proofs.Math.Seq.{take-append_seam, drop-append_seam}

pub drop_min : {A : Type 0} (n : ℕ) (xs : List A) → drop (min n (length xs)) xs ≡ drop n xs
drop_min zero xs = let e : min zero (length xs) ≡ zero = omega arith in ap (λ k. drop k xs) e
drop_min (suc n) [] = let e : min (suc n) zero ≡ zero = omega arith in ap (λ k. drop k []) e
drop_min (suc n) (x ∷ xs) = let e : min (suc n) (suc (length xs)) ≡ suc (min n (length xs)) = omega arith in
    ap (λ k. drop k (x ∷ xs)) e ∙ drop_min n xs

abbrev ending : {A : Type 0} → ℕ → List A → List A
ending n xs = reverse (drop (length xs - n) xs)

abbrev beginning : {A : Type 0} → ℕ → List A → List A
beginning n xs = reverse (take (length xs - n) xs)

module _ {A : Type 0} (n : ℕ) (xs : List A) where
  joined : reverse xs ≡ ending n xs ++ beginning n xs
  joined = ap reverse (sym (take-append-drop (length xs - n) xs)) ∙
      reverse-append (take (length xs - n) xs) (drop (length xs - n) xs)

  many : min n (length (reverse xs)) ≡ length (ending n xs)
  many = let k = length-reverse xs in let l = length-reverse (drop (length xs - n) xs) in let m =
      length-drop (length xs - n) xs in omega arith

  -- what is left without the newest items
  without_newest : beginning n xs ≡ drop n (reverse xs)
  without_newest =
      sym (drop-append_seam (ending n xs) (beginning n xs)) ∙
      (ap (λ k. drop k (ending n xs ++ beginning n xs)) (sym many) ∙
      (ap (drop (min n (length (reverse xs)))) (sym joined) ∙ drop_min n (reverse xs)))

  newest_are : ending n xs ≡ take n (reverse xs)
  newest_are =
      sym (take-append_seam (ending n xs) (beginning n xs)) ∙
      (ap (λ k. take k (ending n xs ++ beginning n xs)) (sym many) ∙
      (ap (take (min n (length (reverse xs)))) (sym joined) ∙ take_min n (reverse xs)))

-- the same for a stack seen from its vector
pub left_after : {A : Type 0} (n k : ℕ) (xs ys seen : List A) → k ≡ length xs - n → ys ≡ take k xs → reverse xs ≡ seen →
    reverse ys ≡ drop n seen
left_after n k xs ys seen at is seen_is =
    ap reverse (is ∙ ap (λ k. take k xs) at) ∙ (without_newest n xs ∙ ap (drop n) seen_is)

pub newest_of : {A : Type 0} (n k : ℕ) (xs seen : List A) → k ≡ length xs - n → reverse xs ≡ seen →
    drop k xs ≡ reverse (take n seen)
newest_of n k xs seen at seen_is =
    ap (λ k. drop k xs) at ∙ (sym (reverse-reverse (drop (length xs - n) xs)) ∙
    ap reverse (newest_are n xs ∙ ap (take n) seen_is))

-- one item is moved from the one stack to the other
pub move_step : {A : Type 0} (n i : ℕ) (xs ys zs ws all : List A) (x : A) → i < n → xs ≡ x ∷ zs → ws ≡ x ∷ ys →
    reverse (take (n - i) xs) ++ ys ≡ all → reverse (take (n - (i + 1)) zs) ++ ws ≡ all
move_step n i xs ys zs ws all x h from to before =
    let k : n - i ≡ suc (n - (i + 1)) = omega arith in
    ap (λ l. reverse (take (n - (i + 1)) zs) ++ l) to ∙
    (sym (append_assoc (reverse (take (n - (i + 1)) zs)) (x ∷ []) ys) ∙
    (ap (λ l. l ++ ys) (sym (reverse-append (x ∷ []) (take (n - (i + 1)) zs))) ∙
    (sym (ap (λ l. reverse (take (n - i) l) ++ ys) from ∙ ap (λ j. reverse (take j (x ∷ zs)) ++ ys) k) ∙ before)))

pub left_step : {A : Type 0} (n i : ℕ) (xs zs all : List A) (x : A) → i < n → xs ≡ x ∷ zs → drop (n - i) xs ≡ all →
    drop (n - (i + 1)) zs ≡ all
left_step n i xs zs all x h from before =
    let k : n - i ≡ suc (n - (i + 1)) = omega arith in
    sym (ap (drop (n - i)) from ∙ ap (λ j. drop j (x ∷ zs)) k) ∙ before
