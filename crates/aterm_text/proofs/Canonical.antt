-- The canonical text of a term spells it, and is one line that does not begin with `#`.
use Rattle.std.specs.Bool.{◌==◌}
use Rattle.std.specs.List.{list_all}
use Rattle.std.specs.Cmp.{unsigned_Decides}
use Rattle.std.specs.Fmt.{decimal, signed_decimal}
use Rattle.std.proofs.Common.{◌≡◌, ℕ, suc, ◌+◌, ◌-◌, ◌*◌, ◌/◌, ◌%◌, ◌^◌, ◌<◌, ◌≤◌, nat_le, nat_lt, Bool, true, false, not, ◌||◌, cond, List, [], ◌∷◌, ◌++◌, ◌⊎◌, inl, inr, is_some, ℤ, pos, negsuc, refl, ap, sym, arith, subst}
use Rattle.std.proofs.lemmas.Int.{ints}
use Rattle.std.proofs.lemmas.List.Folds.{list_all-append}
use Rattle.std.proofs.lemmas.Fmt.{decimal_by_steps}
use Rattle.std.proofs.lemmas.Bool.{and_parts}
use borrow.Author.Tests.{leb-true, le-leb}
use Rattle.term_model.specs.Bytes.{is_between, is_byte, is_digit, is_octal, is_raw, unescaped}
use Rattle.term_model.specs.QuotedText.{IsQuoted, Item, raw, letter, octal, AreItems}
use Rattle.term_model.specs.declared.term.Head.{Head}
use Rattle.term_model.specs.declared.term.Head.TheVariants as heads
use Rattle.term_model.specs.Limits.{IsInRange}
use Rattle.term_model.specs.Symbol.{Plain, Quoted, Tuple, is_name, begins_name, continues_name}
use Rattle.term_model.specs.Term.{Tree, node, Trees, end, more, IsHead, IsTerm, AreTerms}
use Rattle.aterm_text.specs.Tokens.{AreDigits, IsInteger}
use Rattle.aterm_text.specs.Grammar.{Between, Optional, SpellsBare, Spells, SpellsAll, SpellsRest, IsText}
use Rattle.aterm_text.specs.Depth.{StartsTerm}
use Rattle.aterm_text.specs.Text.{octal_text, item_text, items_text, quoted_text, enclosed, bare_text, text, texts, rest_texts}
use Rattle.aterm_text.specs.Canonical.{HasNoLineFeed, IsCanonical}
use Rattle.term_model.proofs.Joins.{joined}
use Rattle.aterm_text.proofs.Basics.{test, token}
use Rattle.aterm_text.proofs.Sound.{digits_snoc}
use Rattle.aterm_text.proofs.Complete.{starts_term}

-- ---- integers

is_digit_of : (d : ℕ) → d < 10 → is_digit (48 + d) ≡ true
is_digit_of d h = let low : nat_le 48 (48 + d) ≡ true = le-leb _ _ (omega arith) in
    let high : nat_le (48 + d) 57 ≡ true = le-leb _ _ (omega arith) in rw (low, high) refl

decimal_digits : (n : ℕ) → n < 2 ^ 64 → AreDigits n (decimal n)
decimal_digits = decimal_by_steps AreDigits one further
  where
    one : (m : ℕ) → m < 10 → AreDigits m ((48 + m) ∷ [])
    one m h = (rw (is_digit_of m h) refl, omega arith)

    further : (m : ℕ) (ds : List ℕ) → 10 ≤ m → AreDigits (m / 10) ds → AreDigits m (ds ++ ((48 + m % 10) ∷ []))
    further m ds h p =
        let value : 10 * (m / 10) + ((48 + m % 10) - 48) ≡ m = omega arith in
        subst (λ k. AreDigits k (ds ++ ((48 + m % 10) ∷ [])))
        value (digits_snoc (m / 10) (48 + m % 10) ds p (is_digit_of (m % 10) (omega arith)))

integer_text : (z : ℤ) → IsInRange z → IsInteger z (signed_decimal z)
integer_text (pos n) h = (h, false, n, refl, decimal_digits n (omega (arith, ints)))
integer_text (negsuc n) h = (h, true, suc n, refl, (refl, decimal_digits (suc n) (omega (arith, ints))))

-- ---- quoted text

-- one of two spellings
pick : (b : Bool) {d : ℕ} {xs ys : List ℕ} → (b ≡ true → Item d xs) → (b ≡ false → Item d ys) → Item d (cond b xs ys)
pick true f g = f refl
pick false f g = g refl

lettered : (b c n : ℕ) → (b == n) ≡ true → Item n (92 ∷ c ∷ []) → Item b (92 ∷ c ∷ [])
lettered b c n e i = subst (λ k. Item k (92 ∷ c ∷ [])) (sym ((unsigned_Decides b n).0 e)) i

octal_item : (b : ℕ) → b < 256 → Item b (92 ∷ octal_text b)
octal_item b h =
    let x1 : nat_le 48 (48 + b / 64) ≡ true = le-leb _ _ (omega arith) in
    let x2 : nat_le (48 + b / 64) 51 ≡ true = le-leb _ _ (omega arith) in
    let y1 : nat_le 48 (48 + b / 8 % 8) ≡ true = le-leb _ _ (omega arith) in
    let y2 : nat_le (48 + b / 8 % 8) 55 ≡ true = le-leb _ _ (omega arith) in
    let z1 : nat_le 48 (48 + b % 8) ≡ true = le-leb _ _ (omega arith) in
    let z2 : nat_le (48 + b % 8) 55 ≡ true = le-leb _ _ (omega arith) in
    octal (rw (x1, x2) refl) (rw (y1, y2) refl) (rw (z1, z2) refl) (omega arith)

item_spelled : (b : ℕ) → b < 256 → Item b (item_text b)
item_spelled b h =
    pick (b == 34) (λ e. lettered b 34 34 e (letter refl)) (λ quote.
    pick (b == 92) (λ e. lettered b 92 92 e (letter refl)) (λ backslash.
    pick (b == 10) (λ e. lettered b 110 10 e (letter refl)) (λ feed.
    pick (b == 9) (λ e. lettered b 116 9 e (letter refl)) (λ _.
    pick (b == 13) (λ e. lettered b 114 13 e (letter refl)) (λ _.
    pick (nat_lt b 32 || b == 127) (λ _. octal_item b h) (λ _. raw (rw (quote, backslash, feed) refl)))))))

items_spelled : (bs : List ℕ) → list_all is_byte bs ≡ true → AreItems bs (items_text bs)
items_spelled [] e = refl
items_spelled (b ∷ bs) e =
    let h : (nat_lt b 256 ≡ true) × (list_all is_byte bs ≡ true) = and_parts _ _ e in
    joined (item_text b) (items_text bs) (item_spelled b (byte b h.0)) (items_spelled bs h.1)
  where
    byte : (b : ℕ) → nat_lt b 256 ≡ true → b < 256
    byte b f = leb-true _ _ f

quoted_spelled : (bs : List ℕ) → list_all is_byte bs ≡ true → IsQuoted bs (quoted_text bs)
quoted_spelled bs e = joined (34 ∷ []) (items_text bs ++ 34 ∷ [])
    refl (joined (items_text bs) (34 ∷ []) (items_spelled bs e) refl)

-- ---- terms

between : (left right : ℕ) {P : List ℕ → Type 0} (inner : List ℕ) → P inner →
    Between left right P (left ∷ (inner ++ right ∷ []))
between left right inner p = joined (left ∷ []) (inner ++ right ∷ []) (token (left ∷ []) refl)
    (joined inner (right ∷ []) p (token (right ∷ []) refl))

optional : (ts : Trees) (left right : ℕ) {P : List ℕ → Type 0} (inner : List ℕ) → P inner →
    Optional ts left right P (enclosed ts left right inner)
optional end left right inner p = inl (refl, refl)
optional (more t ts) left right inner p = inr (between left right inner p)

bare_spelled : (h : Head) (ps : Trees) (inner : List ℕ) → IsHead h ps → SpellsAll ps inner →
    SpellsBare h ps (SpellsAll ps) (bare_text h ps inner)
bare_spelled (heads.Int z) ps inner h p = (h.1, token (signed_decimal z) (integer_text z h.0))
bare_spelled (heads.App (Plain n)) ps inner h p =
    joined n (enclosed ps 40 41 inner) (token n (h, refl)) (optional ps 40 41 inner p)
bare_spelled (heads.App (Quoted bs)) ps inner h p =
    joined (quoted_text bs) (enclosed ps 40 41 inner) (token (quoted_text bs) (quoted_spelled bs h))
    (optional ps 40 41 inner p)
bare_spelled (heads.App Tuple) ps inner h p = between 40 41 inner p
bare_spelled heads.List ps inner h p = between 91 93 inner p

mutual
  spelled : (t : Tree) → IsTerm t → Spells t (text t)
  spelled (node h ps xs) i = joined (bare_text h ps (texts ps)) (enclosed xs 123 125 (texts xs))
      (bare_spelled h ps (texts ps) i.0 (all_spelled ps i.1)) (optional xs 123 125 (texts xs) (all_spelled xs i.2))

  all_spelled : (ts : Trees) → AreTerms ts → SpellsAll ts (texts ts)
  all_spelled end i = refl
  all_spelled (more t ts) i = joined (text t) (rest_texts ts) (spelled t i.0) (rest_spelled ts i.1)

  rest_spelled : (ts : Trees) → AreTerms ts → SpellsRest ts (rest_texts ts)
  rest_spelled end i = refl
  rest_spelled (more t ts) i = joined (44 ∷ []) (text t ++ rest_texts ts) (token (44 ∷ []) refl)
      (joined (text t) (rest_texts ts) (spelled t i.0) (rest_spelled ts i.1))

pub text_spells : (t : Tree) → IsTerm t → IsText t (text t)
text_spells t i = joined [] (text t) refl (spelled t i)

-- ---- no line feed, and no `#` in front

all_weaker : (p q : ℕ → Bool) → ((b : ℕ) → p b ≡ true → q b ≡ true) → (bs : List ℕ) → list_all p bs ≡ true →
    list_all q bs ≡ true
all_weaker p q f [] e = refl
all_weaker p q f (b ∷ bs) e = let h : (p b ≡ true) × (list_all p bs ≡ true) = and_parts _ _ e in
    rw (f b h.0, all_weaker p q f bs h.1) refl

clean_append : (xs ys : List ℕ) → HasNoLineFeed xs → HasNoLineFeed ys → HasNoLineFeed (xs ++ ys)
clean_append xs ys e f = rw (list_all-append (λ b. not (b == 10)) xs ys, e, f) refl

-- a byte that passes a test which a line feed does not
not_feed : (p : ℕ → Bool) → p 10 ≡ false → (b : ℕ) → p b ≡ true → not (b == 10) ≡ true
not_feed p fails b e = go (test (b == 10))
  where
    go : ((b == 10) ≡ true) ⊎ ((b == 10) ≡ false) → not (b == 10) ≡ true
    go (inl h) = let same : p b ≡ p 10 = ap p ((unsigned_Decides b 10).0 h) in absurd (cc)
    go (inr h) = rw h refl

clean_by : (p : ℕ → Bool) → p 10 ≡ false → (bs : List ℕ) → list_all p bs ≡ true → HasNoLineFeed bs
clean_by p fails bs e = all_weaker p (λ b. not (b == 10)) (not_feed p fails) bs e

clean_digits : (n : ℕ) (bs : List ℕ) → AreDigits n bs → HasNoLineFeed bs
clean_digits n [] p = absurd p
clean_digits n (d ∷ ds) p = clean_by is_digit refl (d ∷ ds) p.0

clean_integer : (z : ℤ) → IsInRange z → HasNoLineFeed (signed_decimal z)
clean_integer (pos n) h = clean_digits n (decimal n) (decimal_digits n (omega (arith, ints)))
clean_integer (negsuc n) h = clean_append (45 ∷ []) (decimal (suc n))
    refl (clean_digits (suc n) (decimal (suc n)) (decimal_digits (suc n) (omega (arith, ints))))

clean_name : (n : List ℕ) → is_name n ≡ true → HasNoLineFeed n
clean_name [] e = cc
clean_name (b ∷ bs) e =
    let h : (begins_name b ≡ true) × (list_all continues_name bs ≡ true) = and_parts _ _ e in
    clean_append (b ∷ []) bs (clean_by begins_name refl (b ∷ []) (rw (h.0) refl)) (clean_by continues_name refl bs h.1)

clean_item : (b : ℕ) (ws : List ℕ) → Item b ws → HasNoLineFeed ws
clean_item b ws (raw e) = clean_by is_raw refl ws (rw e refl)
clean_item b ws (letter {c = c} e) =
    clean_append (92 ∷ []) (c ∷ []) refl (rw (not_feed (λ d. is_some (unescaped d)) refl c (rw e refl)) refl)
clean_item b ws (octal {x = x} {y = y} {z = z} e f g h) =
    clean_append (92 ∷ []) (x ∷ y ∷ z ∷ [])
    refl (clean_by is_octal refl (x ∷ y ∷ z ∷ []) (rw (first_octal x e, f, g) refl))
  where
    first_octal : (x : ℕ) → is_between 48 51 x ≡ true → is_octal x ≡ true
    first_octal x e =
        let h : (nat_le 48 x ≡ true) × (nat_le x 51 ≡ true) = and_parts _ _ e in
        let high : nat_le x 55 ≡ true = le-leb _ _ (omega (arith, leb-true _ _ h.1)) in
        rw (h.0, high) refl

clean_items : (bs ws : List ℕ) → AreItems bs ws → HasNoLineFeed ws
clean_items [] ws e = rw e refl
clean_items (b ∷ bs) ws j = let R : List ℕ → Type 0 = HasNoLineFeed in
    subst R (sym j.bytes) (clean_append j.front j.back (clean_item b j.front j.first) (clean_items bs j.back j.second))

clean_between : (left right : ℕ) (inner : List ℕ) → not (left == 10) ≡ true → not (right == 10) ≡ true →
    HasNoLineFeed inner → HasNoLineFeed (left ∷ (inner ++ right ∷ []))
clean_between left right inner e f p =
    clean_append (left ∷ []) (inner ++ right ∷ []) (rw e refl) (clean_append inner (right ∷ []) p (rw f refl))

clean_enclosed : (ts : Trees) (left right : ℕ) (inner : List ℕ) → not (left == 10) ≡ true → not (right == 10) ≡ true →
    HasNoLineFeed inner → HasNoLineFeed (enclosed ts left right inner)
clean_enclosed end left right inner e f p = refl
clean_enclosed (more t ts) left right inner e f p = clean_between left right inner e f p

clean_bare : (h : Head) (ps : Trees) (inner : List ℕ) → IsHead h ps → HasNoLineFeed inner →
    HasNoLineFeed (bare_text h ps inner)
clean_bare (heads.Int z) ps inner h p = clean_integer z h.0
clean_bare (heads.App (Plain n)) ps inner h p =
    clean_append n (enclosed ps 40 41 inner) (clean_name n h) (clean_enclosed ps 40 41 inner refl refl p)
clean_bare (heads.App (Quoted bs)) ps inner h p =
    clean_append (quoted_text bs) (enclosed ps 40 41 inner)
    (clean_between 34 34 (items_text bs) refl refl (clean_items bs (items_text bs) (items_spelled bs h)))
    (clean_enclosed ps 40 41 inner refl refl p)
clean_bare (heads.App Tuple) ps inner h p = clean_between 40 41 inner refl refl p
clean_bare heads.List ps inner h p = clean_between 91 93 inner refl refl p

mutual
  pub clean : (t : Tree) → IsTerm t → HasNoLineFeed (text t)
  clean (node h ps xs) i = clean_append (bare_text h ps (texts ps)) (enclosed xs 123 125 (texts xs))
      (clean_bare h ps (texts ps) i.0 (clean_all ps i.1))
      (clean_enclosed xs 123 125 (texts xs) refl refl (clean_all xs i.2))

  clean_all : (ts : Trees) → AreTerms ts → HasNoLineFeed (texts ts)
  clean_all end i = refl
  clean_all (more t ts) i = clean_append (text t) (rest_texts ts) (clean t i.0) (clean_rest ts i.1)

  clean_rest : (ts : Trees) → AreTerms ts → HasNoLineFeed (rest_texts ts)
  clean_rest end i = refl
  clean_rest (more t ts) i = clean_append (44 ∷ []) (text t ++ rest_texts ts)
      refl (clean_append (text t) (rest_texts ts) (clean t i.0) (clean_rest ts i.1))

pub no_hash : (t : Tree) → IsTerm t → (rest : List ℕ) → text t ≡ 35 ∷ rest → ⊥
no_hash t i rest e = let starts : StartsTerm (35 ∷ rest) = subst StartsTerm e (starts_term t (text t) (spelled t i)) in
    cc

-- the canonical text of each term
pub canonical : (t : Tree) → IsTerm t → IsCanonical t
canonical t i = record { spells = text_spells t i; one_line = clean t i; no_hash = no_hash t i }
