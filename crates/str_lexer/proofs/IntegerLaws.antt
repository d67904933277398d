-- The integer that bytes begin with.
use Rattle.std.specs.Bool.{◌==◌}
use Rattle.std.specs.Cmp.{unsigned_Decides}
use Rattle.std.proofs.Common.{◌≡◌, ℕ, ℤ, suc, zero, ◌+◌, Bool, true, false, List, [], ◌∷◌, ◌++◌, drop, take, refl, sym, ◌∙◌, ap, subst, arith}
use Rattle.std.proofs.lemmas.List.{take-append-drop}
use Rattle.term_model.specs.Limits.{IsInRange}
use Rattle.str_lexer.specs.declared.token.TokenKind.TheVariants as T
use Rattle.term_model.specs.Bytes.{is_digit, value_from, signed}
use Rattle.str_lexer.specs.Tokens.{first_is, IsRun, AreDigits, with_sign, IsInteger}
use Rattle.str_lexer.specs.Readings.{run_length, begins_integer, BeginsToken}
use Rattle.str_lexer.proofs.ByteLaws.{heads, tails}
use Rattle.str_lexer.proofs.RunLaws.{run_taken, run_same}

-- ---- the first bytes

digit_no_minus : (d : ℕ) → d ≡ 45 → is_digit d ≡ true → ⊥
digit_no_minus d e f = let g : is_digit 45 ≡ true = ap is_digit (sym e) ∙ f in cc

digit_head : (d : ℕ) (bs : List ℕ) (t : Bool) → (d == 45) ≡ t → is_digit d ≡ true → begins_integer (d ∷ bs) ≡ true
digit_head d bs true e f = absurd (digit_no_minus d ((unsigned_Decides d 45).0 e) f)
digit_head d bs false e f = rw e f

signed_head : (negative : Bool) (bs ds rest : List ℕ) → bs ≡ with_sign negative ds ++ rest →
    first_is is_digit ds ≡ true → begins_integer bs ≡ true
signed_head true bs [] rest e f = cc
signed_head true bs (d ∷ ds) rest e f = rw e f
signed_head false bs [] rest e f = cc
signed_head false bs (d ∷ ds) rest e f = rw e (digit_head d (ds ++ rest) (d == 45) refl f)

pub integer_head : (z : ℤ) (bs w rest : List ℕ) → bs ≡ w ++ rest → IsInteger z w rest → begins_integer bs ≡ true
integer_head z bs w rest e i = signed_head i.negative bs i.ds rest (e ∙ ap (λ x. x ++ rest) i.bytes) i.digits.one

-- ---- one integer alone

no_minus : (bs ds rest : List ℕ) → 45 ∷ bs ≡ ds ++ rest → first_is is_digit ds ≡ true → ⊥
no_minus bs [] rest e f = cc
no_minus bs (d ∷ ds) rest e f = digit_no_minus d (heads d 45 _ _ (sym e)) f

same_digits : (n m : ℕ) (ds es r s : List ℕ) → AreDigits n ds r → AreDigits m es s → ds ++ r ≡ es ++ s → (m ≡ n) ×
    (s ≡ r)
same_digits n m ds es r s a b e =
    let k = run_same (first_is is_digit) ds es r s a.run b.run e in
    (sym b.value ∙ ap (value_from 0) (sym k.0) ∙ a.value, sym k.1)

same_signed : (p q : Bool) (n m : ℕ) (ds es r s : List ℕ) → AreDigits n ds r → AreDigits m es s →
    with_sign p ds ++ r ≡ with_sign q es ++ s → (signed q m ≡ signed p n) × (s ≡ r)
same_signed true true n m ds es r s a b e =
    let k = same_digits n m ds es r s a b (tails 45 45 _ _ e) in
    (ap (signed true) k.0, k.1)
same_signed true false n m ds es r s a b e = absurd (no_minus (ds ++ r) es s e b.one)
same_signed false true n m ds es r s a b e = absurd (no_minus (es ++ s) ds r (sym e) a.one)
same_signed false false n m ds es r s a b e =
    let k = same_digits n m ds es r s a b e in
    (ap (signed false) k.0, k.1)

-- the bytes begin with one integer alone
pub integer_once : (z y : ℤ) (bs w v r s : List ℕ) → bs ≡ w ++ r → bs ≡ v ++ s → IsInteger z w r → IsInteger y v s →
    (y ≡ z) × (s ≡ r)
integer_once z y bs w v r s e f i j =
    let h = sym (ap (λ x. x ++ r) i.bytes) ∙ sym e ∙ f ∙ ap (λ x. x ++ s) j.bytes in
    let k = same_signed i.negative j.negative i.size j.size i.ds j.ds r s i.digits j.digits h in
    (j.value ∙ k.0 ∙ sym i.value, k.1)

-- ---- what is read

digits_taken : (bs : List ℕ) (end : ℕ) → first_is is_digit bs ≡ true → end ≡ run_length (first_is is_digit) bs →
    AreDigits (value_from 0 (take end bs)) (take end bs) (drop end bs)
digits_taken [] end f e = cc
digits_taken (b ∷ bs) zero f e = absurd (nothing b bs f e)
  where
    nothing : (b : ℕ) (bs : List ℕ) → is_digit b ≡ true → 0 ≡ run_length (first_is is_digit) (b ∷ bs) → ⊥
    nothing b bs f e = let g : 0 ≡ 1 + run_length (first_is is_digit) bs = rw f at e in omega arith
digits_taken (b ∷ bs) (suc m) f e =
    let r : IsRun (first_is is_digit) (b ∷ take m bs) (drop m bs) =
    run_taken (first_is is_digit) refl (b ∷ bs) (suc m) e in
    record { one = f; run = r; value = refl }

sign_joins : (s : Bool) (bs xs ys : List ℕ) → bs ≡ xs ++ ys → with_sign s bs ≡ with_sign s xs ++ ys
sign_joins true bs xs ys g = ap (λ x. 45 ∷ x) g
sign_joins false bs xs ys g = g

module _ (negative : Bool) (bs : List ℕ) (end : ℕ) (h : first_is is_digit bs ≡ true)
    (e : end ≡ run_length (first_is is_digit) bs) where
  pub found_integer : (z : ℤ) → z ≡ signed negative (value_from 0 (take end bs)) → IsInRange z →
      BeginsToken (T.Integer z) (with_sign negative bs) (drop end bs)
  found_integer z g f = record {
    written = with_sign negative (take end bs);
    bytes = sign_joins negative bs (take end bs) (drop end bs) (sym (take-append-drop end bs));
    is_token = record {
      negative = negative;
      size = value_from 0 (take end bs);
      ds = take end bs;
      bytes = refl;
      digits = digits_taken bs end h e;
      value = g;
      in_range = f;
    };
  }

  pub no_integer : (IsInRange (signed negative (value_from 0 (take end bs))) → ⊥) → (z : ℤ) (other : List ℕ) →
      BeginsToken (T.Integer z) (with_sign negative bs) other → ⊥
  no_integer n z other b =
      let j = b.is_token in
      let q = sym (sign_joins negative bs (take end bs) (drop end bs) (sym (take-append-drop end bs))) ∙ b.bytes ∙
      ap (λ x. x ++ other) j.bytes in
      let k = same_signed negative j.negative (value_from 0 (take end bs)) j.size (take end bs) j.ds (drop end bs)
      other (digits_taken bs end h e) j.digits q in
      n (subst IsInRange (j.value ∙ k.0) j.in_range)
