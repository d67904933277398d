-- What a text is where the reader is in a state, byte by byte.
use Rattle.std.proofs.Common.{◌≡◌, ℕ, suc, zero, ◌+◌, ◌-◌, ◌*◌, ◌<◌, ◌≤◌, nat_le, Bool, true, false, List, [], ◌∷◌, ◌++◌, ◌⊎◌, inl, inr, length, drop, refl, ap, sym, ◌∙◌, append_assoc, arith, subst}
use Rattle.std.proofs.lemmas.Bool.{le-leb, leb-true, false_from_ne_true}
use Rattle.std.specs.Cmp.{unsigned_Decides}
use Rattle.std.specs.Prelude.{slice_index, slice_range, ◌==◌, if◌then◌else◌, Some, None}
use Rattle.std.proofs.lemmas.List.{drop_all}
use Rattle.term_model.specs.Bytes.{is_between, is_blank, is_digit, is_octal, is_raw, signed, unescaped}
use Rattle.term_model.specs.declared.term.Head.{Head}
use Rattle.term_model.specs.declared.term.Head.TheVariants as heads
use Rattle.term_model.specs.IntegerBounds.{max_magnitude}
use Rattle.term_model.specs.Symbol.{Symbol, Plain, Quoted, begins_name, continues_name, is_name}
use Rattle.term_model.specs.Term.{Tree, Trees}
use Rattle.term_model.specs.Term as trees
use Rattle.term_model.proofs.Joins.{append_nil}
use Rattle.aterm_text.specs.Depth.{Applied, Open}
use Rattle.aterm_text.specs.Reading.{State, Expect, Fresh, InName, InSign, InDigits, InText, InEscape, InOctal, InOctals, Named, Whole, Done, Deep, Wrong, escape, step, after, first, opened, TooDeepText, NoTerm, out, outcome_from}
use Rattle.aterm_text.proofs.Basics.{test}
use Rattle.aterm_text.proofs.Endings.{after_deep}
use Rattle.aterm_text.proofs.ReadLemmas.{drop_more}
use Rattle.aterm_text.proofs.ReadTokens.{raw_parts}
use Rattle.aterm_text.proofs.Slices.{slice_more, slice_none, name_begins, name_goes_on}

pub one_step : (text : List ℕ) (at : ℕ) (a : State) → at < length text →
    outcome_from text a at ≡ outcome_from text (step a (slice_index text at)) (at + 1)
unfolding outcome_from after
one_step text at a h = ap (λ cs. out (after a cs)) (drop_more text at h)

pub at_end : (text : List ℕ) (at : ℕ) (a : State) → length text ≤ at → outcome_from text a at ≡ out a
unfolding outcome_from after
at_end text at a h = ap (λ cs. out (after a cs)) (drop_all at text h)

after_wrong : (cs : List ℕ) → after Wrong cs ≡ Wrong
unfolding after
after_wrong [] = refl
after_wrong (c ∷ cs) = after_wrong cs

pub wrong_from : (text : List ℕ) (at : ℕ) → outcome_from text Wrong at ≡ NoTerm
unfolding outcome_from
wrong_from text at = ap out (after_wrong (drop at text))

pub deep_from : (text : List ℕ) (at : ℕ) → outcome_from text Deep at ≡ TooDeepText
unfolding outcome_from
deep_from text at = ap out (after_deep (drop at text))

-- a byte on which no term goes on
pub wrong_step : (text : List ℕ) (at : ℕ) (a : State) → at < length text → step a (slice_index text at) ≡ Wrong →
    outcome_from text a at ≡ NoTerm
wrong_step text at a h e = one_step text at a h ∙ ap (λ b. outcome_from text b (at + 1)) e ∙ wrong_from text (at + 1)

pub within_or_end : (a b : ℕ) → (a < b) ⊎ (b ≤ a)
within_or_end zero zero = inr (omega arith)
within_or_end zero (suc b) = inl (omega arith)
within_or_end (suc a) zero = inr (omega arith)
within_or_end (suc a) (suc b) = go (within_or_end a b)
  where
    go : (a < b) ⊎ (b ≤ a) → (suc a < suc b) ⊎ (suc b ≤ suc a)
    go (inl h) = inl (omega (arith, h))
    go (inr h) = inr (omega (arith, h))

-- two states that to alike and go on alike with the byte at the index
pub alike : (text : List ℕ) (at : ℕ) (a b : State) → out a ≡ out b →
    (at < length text → step a (slice_index text at) ≡ step b (slice_index text at)) →
    outcome_from text a at ≡ outcome_from text b at
alike text at a b e f = go (within_or_end at (length text))
  where
    go : (at < length text) ⊎ (length text ≤ at) → outcome_from text a at ≡ outcome_from text b at
    go (inl h) = one_step text at a h ∙ ap (λ x. outcome_from text x (at + 1)) (f h) ∙ sym (one_step text at b h)
    go (inr h) = at_end text at a h ∙ e ∙ sym (at_end text at b h)

-- ---- runs of bytes

-- each byte from the one index up to the other passes the test
abbrev pub Pass : (ℕ → Bool) → List ℕ → ℕ → ℕ → Type 0
Pass p text at to = (k : ℕ) → at ≤ k → k < to → p (slice_index text k) ≡ true

module _ (text : List ℕ) (p : ℕ → Bool) (f : List ℕ → State) (goes : (n : List ℕ) (c : ℕ) → p c ≡ true →
    step (f n) c ≡ f (n ++ c ∷ [])) (from at : ℕ) where
  grows_by : (n : ℕ) → from ≤ at → at + n ≤ length text → Pass p text at (at + n) →
      outcome_from text (f (slice_range text from at)) at ≡
      outcome_from text (f (slice_range text from (at + n))) (at + n)
  grows_by zero l h all = let e : at + 0 ≡ at = omega arith in rw e refl
  grows_by (suc n) l h all =
      let e : at + suc n ≡ (at + n) + 1 = omega arith in
      rw e
      (grows_by n l (omega arith) (λ k low high. all k low (omega arith))
      ∙ one_step text (at + n) (f (slice_range text from (at + n))) (omega arith)
      ∙ ap (λ a. outcome_from text a ((at + n) + 1))
      (goes (slice_range text from (at + n)) (slice_index text (at + n))
      (all (at + n) (omega arith) (omega arith)) ∙
      ap f (sym (slice_more text from (at + n) (omega arith) (omega arith)))))

  grows_to : (to : ℕ) → from ≤ at → at ≤ to → to ≤ length text → Pass p text at to →
      outcome_from text (f (slice_range text from at)) at ≡ outcome_from text (f (slice_range text from to)) to
  grows_to to l low high all =
      let e : at + (to - at) ≡ to = omega arith in
      let R : ℕ → Type 0 = λ i. outcome_from text (f (slice_range text from at)) at ≡
      outcome_from text (f (slice_range text from i)) i in
      subst R e (grows_by (to - at) l (omega arith) (λ k l g. all k l (omega arith)))

stays_to : (text : List ℕ) (a : State) → ((c : ℕ) → is_blank c ≡ true → step a c ≡ a) → (at to : ℕ) → at ≤ to →
    to ≤ length text → Pass is_blank text at to → outcome_from text a at ≡ outcome_from text a to
stays_to text a stays at to low high all =
    grows_to text is_blank (λ _. a) (λ _ c e. stays c e) at at to (omega arith) low high all

-- blanks change none of these states
pub data Rests : State → Type 0 where
  rests_expect : {s : List Open} → Rests (Expect s)
  rests_fresh : {o : Open} {s : List Open} → Rests (Fresh o s)
  rests_named : {y : Symbol} {s : List Open} → Rests (Named y s)
  rests_whole : {h : Head} {ps : Trees} {s : List Open} → Rests (Whole h ps s)
  rests_done : {t : Tree} {s : List Open} → Rests (Done t s)

stays : {a : State} → Rests a → (c : ℕ) → is_blank c ≡ true → step a c ≡ a
stays rests_expect c e = rw e refl
stays rests_fresh c e = rw e refl
stays rests_named c e = rw e refl
stays rests_whole c e = rw e refl
stays rests_done c e = rw e refl

pub blanks_pass : (text : List ℕ) {a : State} (at to : ℕ) → Rests a → at ≤ to → to ≤ length text →
    Pass is_blank text at to → outcome_from text a at ≡ outcome_from text a to
blanks_pass text {a} at to r = stays_to text a (stays r) at to

-- ---- names

name_by : (text : List ℕ) (from at n : ℕ) → from < at → at + n ≤ length text → Pass continues_name text at (at + n) →
    is_name (slice_range text from at) ≡ true → is_name (slice_range text from (at + n)) ≡ true
name_by text from at zero h k all is = let e : at + 0 ≡ at = omega arith in rw e is
name_by text from at (suc n) h k all is =
    let e : at + suc n ≡ (at + 1) + n = omega arith in
    rw e (name_by text from (at + 1) n (omega arith) (omega arith) (λ i low high. all i (omega arith) (omega arith))
    (name_goes_on text from at h (omega arith) is (all at (omega arith) (omega arith))))

pub name_to : (text : List ℕ) (from to : ℕ) → from + 1 ≤ to → to ≤ length text →
    begins_name (slice_index text from) ≡ true → Pass continues_name text (from + 1) to →
    is_name (slice_range text from to) ≡ true
name_to text from to low high b all =
    let e : (from + 1) + (to - (from + 1)) ≡ to = omega arith in
    let R : ℕ → Type 0 = λ i. is_name (slice_range text from i) ≡ true in
    subst R e (name_by text from (from + 1) (to - (from + 1)) (omega arith) (omega arith)
    (λ k l g. all k l (omega arith)) (name_begins text from (slice_index text from) refl (omega arith) b))

pub name_read : (text : List ℕ) (s : List Open) (from to : ℕ) → from + 1 ≤ to → to ≤ length text →
    begins_name (slice_index text from) ≡ true → Pass continues_name text (from + 1) to
    → (to < length text → continues_name (slice_index text to) ≡ false) →
    outcome_from text (first s (slice_index text from)) (from + 1) ≡
    outcome_from text (Named (Plain (slice_range text from to)) s) to
name_read text s from to low high b all stop =
    let one : slice_range text from (from + 1) ≡ slice_index text from ∷ [] =
    slice_more text from from (omega arith) (omega arith) ∙ rw (slice_none) refl in
    let begun : first s (slice_index text from) ≡ InName (slice_range text from (from + 1)) s = rw (b, one) refl in
    ap (λ a. outcome_from text a (from + 1)) begun
    ∙ grows_to text continues_name (λ n. InName n s) (λ n c e. rw e refl) from (from + 1) to (omega arith) low high all
    ∙ alike text to (InName (slice_range text from to) s) (Named (Plain (slice_range text from to)) s)
    refl (λ h. rw (stop h) refl)

-- ---- quoted text

raw_read : (text b : List ℕ) (s : List Open) (at to : ℕ) → at ≤ to → to ≤ length text → Pass is_raw text at to →
    outcome_from text (InText b s) at ≡ outcome_from text (InText (b ++ slice_range text at to) s) to
raw_read text b s at to low high all =
    let none : b ++ slice_range text at at ≡ b = ap (λ xs. b ++ xs) (slice_none text at) ∙ append_nil b in
    ap (λ n. outcome_from text (InText n s) at) (sym none)
    ∙ grows_to text is_raw (λ n. InText (b ++ n) s) (λ n c e. let h : ((c == 34) ≡ false) × ((c == 92) ≡ false) ×
    ((c == 10) ≡ false) = raw_parts c e in
    rw (h.0, h.1, h.2) (ap (λ xs. InText xs s) (append_assoc b n (c ∷ [])))) at at to (omega arith) low high all

-- raw bytes up to a quote, to a backslash, and to what ends no quoted text
pub quote_read : (text b : List ℕ) (s : List Open) (at to : ℕ) → at ≤ to → to < length text → Pass is_raw text at to →
    slice_index text to ≡ 34 → outcome_from text (InText b s) at ≡
    outcome_from text (Named (Quoted (b ++ slice_range text at to)) s) (to + 1)
quote_read text b s at to low high all e = raw_read text b s at to low (omega arith) all ∙ one_step text to _ high ∙
    rw e refl

pub backslash_read : (text b : List ℕ) (s : List Open) (at to : ℕ) → at ≤ to → to < length text →
    Pass is_raw text at to → slice_index text to ≡ 92 →
    outcome_from text (InText b s) at ≡ outcome_from text (InEscape (b ++ slice_range text at to) s) (to + 1)
backslash_read text b s at to low high all e = raw_read text b s at to low (omega arith) all ∙ one_step text to _ high ∙
    rw e refl

-- what is not raw, and neither a quote nor a line feed
pub backslash_is : (c : ℕ) → is_raw c ≡ false → (c ≡ 34 → ⊥) → (c ≡ 10 → ⊥) → c ≡ 92
backslash_is c raw q l = go (test (c == 92))
  where
    no_quote : (c == 34) ≡ false
    no_quote = false_from_ne_true (c == 34) (λ e. q ((unsigned_Decides c 34).0 e))

    no_feed : (c == 10) ≡ false
    no_feed = false_from_ne_true (c == 10) (λ e. l ((unsigned_Decides c 10).0 e))

    go : ((c == 92) ≡ true) ⊎ ((c == 92) ≡ false) → c ≡ 92
    go (inl e) = (unsigned_Decides c 92).0 e
    go (inr e) = let yes : is_raw c ≡ true = rw (no_quote, e, no_feed) refl in absurd (cc)

pub unclosed : (text b : List ℕ) (s : List Open) (at to : ℕ) → at ≤ to → to ≤ length text → Pass is_raw text at to →
    (to < length text → slice_index text to ≡ 10) → outcome_from text (InText b s) at ≡ NoTerm
unclosed text b s at to low high all e = raw_read text b s at to low high all ∙ go (within_or_end to (length text))
  where
    go : (to < length text) ⊎ (length text ≤ to) →
        outcome_from text (InText (b ++ slice_range text at to) s) to ≡ NoTerm
    go (inl h) = let c : slice_index text to ≡ 10 = e h in wrong_step text to _ h (rw c refl)
    go (inr h) = at_end text to _ h

pub escaped_letter : (text b : List ℕ) (s : List Open) (at d : ℕ) → at < length text →
    unescaped (slice_index text at) ≡ Some d →
    outcome_from text (InEscape b s) at ≡ outcome_from text (InText (b ++ d ∷ []) s) (at + 1)
escaped_letter text b s at d h e =
    one_step text at (InEscape b s) h ∙ ap (λ o. outcome_from text (escape o b s (slice_index text at)) (at + 1)) e

-- a backslash with nothing after it, and with a byte that begins no escape
pub no_escape : (text b : List ℕ) (s : List Open) (at : ℕ) → at < length text → unescaped (slice_index text at) ≡ None →
    is_between 48 51 (slice_index text at) ≡ false → outcome_from text (InEscape b s) at ≡ NoTerm
no_escape text b s at h e f = one_step text at (InEscape b s) h ∙
    ap (λ o. outcome_from text (escape o b s (slice_index text at)) (at + 1)) e ∙
    ap (λ t. outcome_from text (if t then InOctal b (slice_index text at - 48) s else Wrong) (at + 1)) f ∙
    wrong_from text (at + 1)

pub first_octal : (text b : List ℕ) (s : List Open) (at : ℕ) → at < length text →
    unescaped (slice_index text at) ≡ None → is_between 48 51 (slice_index text at) ≡ true →
    outcome_from text (InEscape b s) at ≡ outcome_from text (InOctal b (slice_index text at - 48) s) (at + 1)
first_octal text b s at h e f =
    one_step text at (InEscape b s) h ∙ ap (λ o. outcome_from text (escape o b s (slice_index text at)) (at + 1)) e ∙
    ap (λ t. outcome_from text (if t then InOctal b (slice_index text at - 48) s else Wrong) (at + 1)) f

-- what is no octal digit after the first and after the second
pub no_octal : (text b : List ℕ) (v : ℕ) (s : List Open) (at : ℕ) →
    (at < length text → is_octal (slice_index text at) ≡ false) → outcome_from text (InOctal b v s) at ≡ NoTerm
no_octal text b v s at f = go (within_or_end at (length text))
  where
    go : (at < length text) ⊎ (length text ≤ at) → outcome_from text (InOctal b v s) at ≡ NoTerm
    go (inl h) = wrong_step text at (InOctal b v s) h (rw (f h) refl)
    go (inr h) = at_end text at (InOctal b v s) h

pub no_octals : (text b : List ℕ) (v : ℕ) (s : List Open) (at : ℕ) →
    (at < length text → is_octal (slice_index text at) ≡ false) → outcome_from text (InOctals b v s) at ≡ NoTerm
no_octals text b v s at f = go (within_or_end at (length text))
  where
    go : (at < length text) ⊎ (length text ≤ at) → outcome_from text (InOctals b v s) at ≡ NoTerm
    go (inl h) = wrong_step text at (InOctals b v s) h (rw (f h) refl)
    go (inr h) = at_end text at (InOctals b v s) h

pub second_octal : (text b : List ℕ) (v : ℕ) (s : List Open) (at : ℕ) → at < length text →
    is_octal (slice_index text at) ≡ true →
    outcome_from text (InOctal b v s) at ≡
    outcome_from text (InOctals b (8 * v + (slice_index text at - 48)) s) (at + 1)
second_octal text b v s at h e =
    one_step text at (InOctal b v s) h ∙
    ap (λ t. outcome_from text (if t then InOctals b (8 * v + (slice_index text at - 48)) s else Wrong) (at + 1)) e

third_octal : (text b : List ℕ) (v : ℕ) (s : List Open) (at : ℕ) → at < length text →
    is_octal (slice_index text at) ≡ true →
    outcome_from text (InOctals b v s) at ≡
    outcome_from text (InText (b ++ (8 * v + (slice_index text at - 48)) ∷ []) s) (at + 1)
third_octal text b v s at h e =
    one_step text at (InOctals b v s) h ∙
    ap (λ t. outcome_from text (if t then InText (b ++ (8 * v + (slice_index text at - 48)) ∷ []) s
    else Wrong) (at + 1)) e

-- three octal digits
pub octals_read : (text b : List ℕ) (s : List Open) (at x y z : ℕ) → at + 2 < length text →
    unescaped (slice_index text at) ≡ None → is_between 48 51 (slice_index text at) ≡ true
    → is_octal (slice_index text (at + 1)) ≡ true → is_octal (slice_index text (at + 2)) ≡ true →
    x ≡ slice_index text at - 48 → y ≡ slice_index text (at + 1) - 48 → z ≡ slice_index text (at + 2) - 48
    → outcome_from text (InEscape b s) at ≡ outcome_from text (InText (b ++ (8 * (8 * x + y) + z) ∷ []) s) (at + 3)
octals_read text b s at x y z h e f g k p q r =
    let two : (at + 1) + 1 ≡ at + 2 = omega arith in
    let three : (at + 2) + 1 ≡ at + 3 = omega arith in
    first_octal text b s at (omega arith) e f ∙
    second_octal text b (slice_index text at - 48) s (at + 1) (omega arith) g
    ∙ ap (λ i. outcome_from text (InOctals b (8 * (slice_index text at - 48) + (slice_index text (at + 1) - 48)) s) i)
    two
    ∙ third_octal text b (8 * (slice_index text at - 48) + (slice_index text (at + 1) - 48)) s (at + 2) (omega arith) k
    ∙ ap (λ i. outcome_from text
    (InText (b ++ (8 * (8 * (slice_index text at - 48) + (slice_index text (at + 1) - 48)) +
    (slice_index text (at + 2) - 48)) ∷ []) s) i) three
    ∙ rw (sym p, sym q, sym r) refl

pub escape_ends : (text b : List ℕ) (s : List Open) (at : ℕ) → length text ≤ at →
    outcome_from text (InEscape b s) at ≡ NoTerm
escape_ends text b s at h = at_end text at (InEscape b s) h

-- ---- integers

-- a digit that keeps the number in range, and one that does not
pub digit_read : (text : List ℕ) (sign : Bool) (v w : ℕ) (s : List Open) (at : ℕ) → at < length text →
    is_digit (slice_index text at) ≡ true → w ≡ 10 * v + (slice_index text at - 48) → w ≤ max_magnitude sign
    → outcome_from text (InDigits sign v s) at ≡ outcome_from text (InDigits sign w s) (at + 1)
digit_read text sign v w s at h is e low =
    one_step text at (InDigits sign v s) h ∙
    ap (λ a. outcome_from text a (at + 1)) (rw (is, sym e, le-leb _ _ low) refl)

pub digit_refused : (text : List ℕ) (sign : Bool) (v : ℕ) (s : List Open) (at : ℕ) → at < length text →
    is_digit (slice_index text at) ≡ true → max_magnitude sign < 10 * v + (slice_index text at - 48)
    → outcome_from text (InDigits sign v s) at ≡ NoTerm
digit_refused text sign v s at h is large =
    wrong_step text at (InDigits sign v s)
    h (rw (
      is,
      false_from_ne_true (nat_le (10 * v + (slice_index text at - 48)) (max_magnitude sign))
          (λ e. omega (arith, leb-true _ _ e, large)),
    ) refl)

-- what is no digit after a number ends it
pub digits_stop : (text : List ℕ) (sign : Bool) (v : ℕ) (s : List Open) (at : ℕ) →
    (at < length text → is_digit (slice_index text at) ≡ false) →
    outcome_from text (InDigits sign v s) at ≡ outcome_from text (Whole (heads.Int (signed sign v)) trees.end s) at
digits_stop text sign v s at stop =
    alike text at (InDigits sign v s) (Whole (heads.Int (signed sign v)) trees.end s) refl (λ h. rw (stop h) refl)

-- a minus before a digit, and before anything else
pub minus_read : (text : List ℕ) (s : List Open) (at : ℕ) → at < length text → is_digit (slice_index text at) ≡ true →
    outcome_from text (InSign s) at ≡ outcome_from text (InDigits true 0 s) at
minus_read text s at h is =
    let here : step (InSign s) (slice_index text at) ≡ step (InDigits true 0 s) (slice_index text at) = rw (is) refl in
    one_step text at (InSign s) h ∙ ap (λ a. outcome_from text a (at + 1)) here ∙
    sym (one_step text at (InDigits true 0 s) h)

pub lone_minus : (text : List ℕ) (s : List Open) (at : ℕ) →
    (at < length text → is_digit (slice_index text at) ≡ false) → outcome_from text (InSign s) at ≡ NoTerm
lone_minus text s at f = go (within_or_end at (length text))
  where
    go : (at < length text) ⊎ (length text ≤ at) → outcome_from text (InSign s) at ≡ NoTerm
    go (inl h) = wrong_step text at (InSign s) h (rw (f h) refl)
    go (inr h) = at_end text at (InSign s) h

-- a first digit
pub digit_begins : (text : List ℕ) (s : List Open) (at : ℕ) → at < length text →
    begins_name (slice_index text at) ≡ false → is_digit (slice_index text at) ≡ true
    → outcome_from text (first s (slice_index text at)) (at + 1) ≡ outcome_from text (InDigits false 0 s) at
digit_begins text s at h b is =
    let here : first s (slice_index text at) ≡ step (InDigits false 0 s) (slice_index text at) = rw (b, is) refl in
    ap (λ a. outcome_from text a (at + 1)) here ∙ sym (one_step text at (InDigits false 0 s) h)

-- ---- what follows a symbol

pub bracket_after : (text : List ℕ) (y : Symbol) (s : List Open) (at : ℕ) → at < length text →
    slice_index text at ≡ 40 → outcome_from text (Named y s) at ≡
    outcome_from text (Fresh (opened (Applied y)) s) (at + 1)
bracket_after text y s at h e =
    one_step text at (Named y s) h ∙ ap (λ c. outcome_from text (step (Named y s) c) (at + 1)) e

pub named_alone : (text : List ℕ) (y : Symbol) (s : List Open) (at : ℕ) →
    (at < length text → is_blank (slice_index text at) ≡ false) →
    (at < length text → (slice_index text at == 40) ≡ false) →
    outcome_from text (Named y s) at ≡ outcome_from text (Whole (heads.App y) trees.end s) at
named_alone text y s at b n = alike text at (Named y s) (Whole (heads.App y) trees.end s) refl (λ h. rw (b h, n h) refl)

-- digits that begin with one end after it
pub beyond_digit : (text : List ℕ) (at to : ℕ) → at ≤ to → at < length text → is_digit (slice_index text at) ≡ true →
    (to < length text → is_digit (slice_index text to) ≡ false) → at < to
beyond_digit text at to low h is stop = go (within_or_end at to)
  where
    go : (at < to) ⊎ (to ≤ at) → at < to
    go (inl l) = l
    go (inr l) =
        let here : at ≡ to = omega (arith, low, l) in
        let none : is_digit (slice_index text at) ≡ false = let P : ℕ → Type 0 = λ i. i < length text →
        is_digit (slice_index text i) ≡ false in subst P (sym here) stop h in
        absurd (cc)
