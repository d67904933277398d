-- A name, an integer and a quoted text are read to their end.
use Rattle.std.specs.Bool.{◌==◌}
use Rattle.std.specs.List.{list_all}
use Rattle.std.proofs.Common.{◌≡◌, ℕ, ◌+◌, ◌-◌, ◌*◌, ◌≤◌, Bool, true, false, not, ◌||◌, nat_le, List, [], ◌∷◌, ◌++◌, ◌⊎◌, inl, inr, refl, ap, sym, ◌∙◌, append_assoc, arith, subst, ℤ}
use Rattle.std.proofs.lemmas.Bool.Decides.{nat_tests}
use Rattle.std.proofs.lemmas.Bool.{and_parts}
use borrow.Author.Tests.{le-leb}
use Rattle.term_model.specs.Bytes.{is_digit, is_raw, signed, value_from}
use Rattle.term_model.specs.QuotedText.{Item, raw, letter, octal, AreItems, IsQuoted}
use Rattle.term_model.specs.declared.term.Head.TheVariants as heads
use Rattle.term_model.specs.Symbol.{Symbol, Plain, Quoted, Tuple, begins_name, continues_name, is_name}
use Rattle.term_model.specs.Limits.{IsInRange}
use Rattle.term_model.specs.IntegerBounds.{max_magnitude}
use Rattle.term_model.specs.Term.{end}
use Rattle.aterm_text.specs.Tokens.{AreSigned, AreDigits, IsInteger, IsSymbolText}
use Rattle.aterm_text.specs.Depth.{Open}
use Rattle.term_model.proofs.Items.{digit_no_letter}
use Rattle.term_model.proofs.IntegerLaws.{in_limit}
use Rattle.term_model.proofs.Joins.{append_nil}
use Rattle.aterm_text.specs.Reading.{State, Expect, InName, InDigits, InText, Named, Deep, first, text, escape, step, after}
use Rattle.aterm_text.proofs.Endings.{OrDeep, Past, after_append, after_deep, Bare, SymbolEnds, begin_first, bare_digits, name_here, symbol_before}

-- ---- names and integers

pub name_run : (bs n : List ℕ) (s : List Open) → list_all continues_name bs ≡ true →
    after (InName n s) bs ≡ InName (n ++ bs) s
unfolding after
name_run [] n s e = ap (λ m. InName m s) (sym (append_nil n))
name_run (b ∷ bs) n s e =
    let h : (continues_name b ≡ true) × (list_all continues_name bs ≡ true) = and_parts _ _ e in
    ap (λ a. after a bs) (rw (h.0) refl) ∙ name_run bs (n ++ b ∷ []) s h.1 ∙
    ap (λ m. InName m s) (append_assoc n (b ∷ []) bs)

pub read_name : (n : List ℕ) (s : List Open) → is_name n ≡ true →
    OrDeep (Past s 1) (λ a. SymbolEnds a (Plain n) s) (after (Expect s) n)
unfolding after
read_name [] s e = cc
read_name (b ∷ bs) s e = go (begin_first s b (rw (h.0) refl))
  where
    h : (begins_name b ≡ true) × (list_all continues_name bs ≡ true)
    h = and_parts _ _ e

    go : (step (Expect s) b ≡ first s b) ⊎ ((step (Expect s) b ≡ Deep) × Past s 1) →
        OrDeep (Past s 1) (λ a. SymbolEnds a (Plain (b ∷ bs)) s) (after (step (Expect s) b) bs)
    go (inl f) =
        let whole_name : after (step (Expect s) b) bs ≡ InName (b ∷ bs) s =
        ap (λ a. after a bs) (f ∙ rw (h.0) refl) ∙ name_run bs (b ∷ []) s h.1 in
        inl (let R : State → Type 0 = λ a. SymbolEnds a (Plain (b ∷ bs)) s in subst R (sym whole_name) name_here)
    go (inr f) = inr (ap (λ a. after a bs) f.0 ∙ after_deep bs, f.1)

pub value_grows : (ds : List ℕ) (n : ℕ) → n ≤ value_from n ds
value_grows [] n = omega arith
value_grows (d ∷ ds) n = omega (arith, value_grows ds (10 * n + (d - 48)))

pub digits_run : (ds : List ℕ) (sign : Bool) (v : ℕ) (s : List Open) → list_all is_digit ds ≡ true →
    value_from v ds ≤ max_magnitude sign → after (InDigits sign v s) ds ≡ InDigits sign (value_from v ds) s
unfolding after
digits_run [] sign v s e h = refl
digits_run (d ∷ ds) sign v s e h =
    let f : (is_digit d ≡ true) × (list_all is_digit ds ≡ true) = and_parts _ _ e in
    let fits : nat_le (10 * v + (d - 48)) (max_magnitude sign) ≡ true =
    le-leb _ _ (omega (arith, value_grows ds (10 * v + (d - 48)))) in
    ap (λ a. after a ds) (rw (f.0, fits) refl) ∙ digits_run ds sign (10 * v + (d - 48)) s f.1 h

pub digit_no_name : (d : ℕ) → is_digit d ≡ true → begins_name d ≡ false
digit_no_name d e = grind (arith, nat_tests)

pub read_digits : (n : ℕ) (m : List ℕ) (s : List Open) → AreDigits n m → n ≤ max_magnitude false →
    OrDeep (Past s 1) (λ a. Bare a (heads.Int (signed false n)) end s) (after (Expect s) m)
unfolding after
read_digits n [] s p h = absurd p
read_digits n (d ∷ ds) s p h = go (begin_first s d (rw (digit_no_name d f.0, f.0) refl))
  where
    f : (is_digit d ≡ true) × (list_all is_digit ds ≡ true)
    f = and_parts _ _ p.0

    small : value_from (10 * 0 + (d - 48)) ds ≤ max_magnitude false
    small = rw (p.1) h

    one : nat_le (10 * 0 + (d - 48)) (max_magnitude false) ≡ true
    one = le-leb _ _ (omega (arith, value_grows ds (10 * 0 + (d - 48)), small))

    go : (step (Expect s) d ≡ first s d) ⊎ ((step (Expect s) d ≡ Deep) × Past s 1) →
        OrDeep (Past s 1) (λ a. Bare a (heads.Int (signed false n)) end s) (after (step (Expect s) d) ds)
    go (inl e) =
        let all : after (step (Expect s) d) ds ≡ InDigits false n s =
        ap (λ a. after a ds) (e ∙ rw (digit_no_name d f.0, f.0, one) refl) ∙
        digits_run ds false (10 * 0 + (d - 48)) s f.1 small ∙ ap (λ v. InDigits false v s) p.1 in
        inl (let R : State → Type 0 = λ a. Bare a (heads.Int (signed false n)) end s in subst R (sym all) bare_digits)
    go (inr e) = inr (ap (λ a. after a ds) e.0 ∙ after_deep ds, e.1)

pub read_minus : (n : ℕ) (m : List ℕ) (s : List Open) → AreDigits n m → n ≤ max_magnitude true →
    OrDeep (Past s 1) (λ a. Bare a (heads.Int (signed true n)) end s) (after (Expect s) (45 ∷ m))
unfolding after
read_minus n [] s p h = absurd p
read_minus n (d ∷ ds) s p h = go (begin_first s 45 refl)
  where
    f : (is_digit d ≡ true) × (list_all is_digit ds ≡ true)
    f = and_parts _ _ p.0

    small : value_from (10 * 0 + (d - 48)) ds ≤ max_magnitude true
    small = rw (p.1) h

    one : nat_le (10 * 0 + (d - 48)) (max_magnitude true) ≡ true
    one = le-leb _ _ (omega (arith, value_grows ds (10 * 0 + (d - 48)), small))

    go : (step (Expect s) 45 ≡ first s 45) ⊎ ((step (Expect s) 45 ≡ Deep) × Past s 1) →
        OrDeep (Past s 1) (λ a. Bare a (heads.Int (signed true n)) end s) (after (step (step (Expect s) 45) d) ds)
    go (inl e) =
        let all : after (step (step (Expect s) 45) d) ds ≡ InDigits true n s =
        ap (λ a. after (step a d) ds) e ∙ ap (λ a. after a ds) (rw (f.0, one) refl) ∙
        digits_run ds true (10 * 0 + (d - 48)) s f.1 small ∙ ap (λ v. InDigits true v s) p.1 in
        inl (let R : State → Type 0 = λ a. Bare a (heads.Int (signed true n)) end s in subst R (sym all) bare_digits)
    go (inr e) = inr (ap (λ a. after (step a d) ds) e.0 ∙ after_deep ds, e.1)

pub read_integer : (z : ℤ) (m : List ℕ) (s : List Open) → IsInteger z m →
    OrDeep (Past s 1) (λ a. Bare a (heads.Int z) end s) (after (Expect s) m)
read_integer z m s (fits, sign, n, e, p) =
    let R : ℤ → Type 0 = λ z. OrDeep (Past s 1) (λ a. Bare a (heads.Int z) end s) (after (Expect s) m) in
    subst R (sym e) (go sign m p (in_limit sign n (subst IsInRange e fits)))
  where
    go : (sign : Bool) (m : List ℕ) → AreSigned sign n m → n ≤ max_magnitude sign →
        OrDeep (Past s 1) (λ a. Bare a (heads.Int (signed sign n)) end s) (after (Expect s) m)
    go false m p h = read_digits n m s p h
    go true [] p h = absurd p
    go true (b ∷ m) p h = let R : ℕ → Type 0 =
        λ b. OrDeep (Past s 1) (λ a. Bare a (heads.Int (signed true n)) end s) (after (Expect s) (b ∷ m)) in
        subst R (sym p.0) (read_minus n m s p.1 h)

-- ---- quoted text

pub raw_parts : (d : ℕ) → is_raw d ≡ true → ((d == 34) ≡ false) × ((d == 92) ≡ false) × ((d == 10) ≡ false)
raw_parts d e = go (d == 34) (d == 92) (d == 10) e
  where
    go : (a b c : Bool) → not ((a || b) || c) ≡ true → (a ≡ false) × (b ≡ false) × (c ≡ false)
    go false false false f = (refl, refl, refl)
    go false false true f = absurd (cc)
    go false true c f = absurd (cc)
    go true b c f = absurd (cc)

pub item_run : (d : ℕ) (b ws : List ℕ) (s : List Open) → Item d ws → after (InText b s) ws ≡ InText (b ++ d ∷ []) s
unfolding after
item_run d b ws s (raw e) = let h : ((d == 34) ≡ false) × ((d == 92) ≡ false) × ((d == 10) ≡ false) = raw_parts d e in
    rw (h.0, h.1, h.2) refl
item_run d b ws s (letter {c = c} e) = ap (λ o. escape o b s c) e
item_run d b ws s (octal {x = x} e f g h) = rw (digit_no_letter x e, e, f, g) (ap (λ n. InText (b ++ n ∷ []) s) (sym h))

pub items_run : (text b ws : List ℕ) (s : List Open) → AreItems text ws → after (InText b s) ws ≡ InText (b ++ text) s
unfolding after
items_run [] b ws s e = ap (after (InText b s)) e ∙ ap (λ xs. InText xs s) (sym (append_nil b))
items_run (d ∷ text) b ws s j =
    ap (after (InText b s)) j.bytes ∙ after_append j.front j.back (InText b s) ∙
    ap (λ a. after a j.back) (item_run d b j.front s j.first)
    ∙ items_run text (b ++ d ∷ []) j.back s j.second ∙ ap (λ xs. InText xs s) (append_assoc b (d ∷ []) text)

pub read_quoted : (text ws : List ℕ) (s : List Open) → IsQuoted text ws →
    OrDeep (Past s 1) (λ a. SymbolEnds a (Quoted text) s) (after (Expect s) ws)
unfolding after
read_quoted text ws s j = go (begin_first s 34 refl)
  where
    opened_quote : after (Expect s) ws ≡ after (step (Expect s) 34) j.back
    opened_quote = ap (after (Expect s)) (j.bytes ∙ ap (λ xs. xs ++ j.back) j.first)

    closed_quote : after (InText [] s) j.back ≡ Named (Quoted text) s
    closed_quote =
        ap (after (InText [] s)) (j.second.bytes ∙ ap (λ xs. j.second.front ++ xs) j.second.second) ∙
        after_append j.second.front (34 ∷ []) (InText [] s)
        ∙ ap (λ a. after a (34 ∷ [])) (items_run text [] j.second.front s j.second.first)

    go : (step (Expect s) 34 ≡ first s 34) ⊎ ((step (Expect s) 34 ≡ Deep) × Past s 1) →
        OrDeep (Past s 1) (λ a. SymbolEnds a (Quoted text) s) (after (Expect s) ws)
    go (inl e) = inl (let R : State → Type 0 = λ a. SymbolEnds a (Quoted text) s in
        subst R (sym (opened_quote ∙ ap (λ a. after a j.back) e ∙ closed_quote)) symbol_before)
    go (inr e) = inr (opened_quote ∙ ap (λ a. after a j.back) e.0 ∙ after_deep j.back, e.1)

pub read_symbol : (y : Symbol) (ws : List ℕ) (s : List Open) → IsSymbolText y ws →
    OrDeep (Past s 1) (λ a. SymbolEnds a y s) (after (Expect s) ws)
read_symbol (Plain n) ws s p = let R : List ℕ → Type 0 =
    λ ys. OrDeep (Past s 1) (λ a. SymbolEnds a (Plain n) s) (after (Expect s) ys) in
    subst R (sym p.1) (read_name n s p.0)
read_symbol (Quoted text) ws s p = read_quoted text ws s p
read_symbol Tuple ws s p = absurd p
