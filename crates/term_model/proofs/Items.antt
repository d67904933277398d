-- Items of quoted text, one after another.
use Rattle.std.specs.Bool.{◌==◌}
use Rattle.std.specs.Prelude.{nat_le}
use Rattle.std.proofs.Common.{◌≡◌, ◌≤◌, ◌<◌, ◌⊎◌, inl, inr, ℕ, true, false, None, List, [], ◌∷◌, ◌++◌, refl, sym, subst, arith}
use Rattle.std.proofs.lemmas.Bool.{leb-true, ne_eqb, and_parts}
use Rattle.term_model.specs.Bytes.{is_between, unescaped}
use Rattle.term_model.specs.QuotedText.{Joined, Are, Item, AreItems, IsQuoted}
use Rattle.term_model.proofs.Joins.{joined, longer, nested, ended}

-- `"` and items for these bytes
abbrev pub Unclosed : List ℕ → List ℕ → Type 0
Unclosed b = Joined (Are (34 ∷ [])) (AreItems b)

pub items_more : (b : List ℕ) (d : ℕ) (xs ys : List ℕ) → AreItems b xs → Item d ys → AreItems (b ++ d ∷ []) (xs ++ ys)
items_more [] d xs ys e i = let R : List ℕ → Type 0 = λ zs. Joined (Item d) (Are []) (zs ++ ys) in
    subst R (sym e) (ended ys i)
items_more (a ∷ b) d xs ys j i = longer xs ys j (λ zs r. items_more b d zs ys r i)

pub unclosed_more : (b : List ℕ) (d : ℕ) (xs ys : List ℕ) → Unclosed b xs → Item d ys →
    Unclosed (b ++ d ∷ []) (xs ++ ys)
unclosed_more b d xs ys j i = longer xs ys j (λ zs r. items_more b d zs ys r i)

pub quoted : (b xs ys : List ℕ) → Unclosed b xs → Are (34 ∷ []) ys → IsQuoted b (xs ++ ys)
quoted b xs ys j e = nested (xs ++ ys) (joined xs ys j e)

-- no octal digit is the letter of an escape
far_off : {x : ℕ} (n : ℕ) → n < 48 ⊎ 51 < n → x ≡ n → 48 ≤ x → x ≤ 51 → ⊥
far_off n (inl h) e low high = omega arith
far_off n (inr h) e low high = omega arith

pub digit_no_letter : (x : ℕ) → is_between 48 51 x ≡ true → unescaped x ≡ None
digit_no_letter x e =
    let p : (nat_le 48 x ≡ true) × (nat_le x 51 ≡ true) = and_parts _ _ e in
    let low : 48 ≤ x = leb-true _ _ p.0 in
    let high : x ≤ 51 = leb-true _ _ p.1 in
    let other : (n : ℕ) → n < 48 ⊎ 51 < n → (x == n) ≡ false =
    λ n far. ne_eqb x n (λ same. far_off n far same low high) in
    rw (
      other 34 (inl (omega arith)),
      other 92 (inr (omega arith)),
      other 110 (inr (omega arith)),
      other 116 (inr (omega arith)),
      other 114 (inr (omega arith)),
    ) refl
