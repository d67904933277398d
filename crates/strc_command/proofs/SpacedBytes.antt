-- What holds of bytes and of the text in which blanks and line feeds are added to them.
use Rattle.std.specs.Bool.{◌==◌}
use Rattle.std.specs.List.{list_all}
use Rattle.std.specs.Cmp.{unsigned_Decides}
use Rattle.std.proofs.Common.{◌≡◌, ℕ, Bool, true, false, not, ◌||◌, List, [], ◌∷◌, ◌++◌, refl, ap, sym, ◌∙◌, subst}
use Rattle.std.proofs.lemmas.Bool.{and_parts, or_parts}
use Rattle.term_model.specs.Bytes.{is_octal, is_raw}
use Rattle.term_model.specs.QuotedText.{Joined, Item, raw, letter, octal, AreItems, IsQuoted}
use Rattle.term_model.proofs.Joins.{unnested}
use Rattle.strc_command.specs.declared.pretty.Place.{Place}
use Rattle.strc_command.specs.declared.pretty.Place.TheVariants.{Outside, Quoted, Escaped}
use Rattle.strc_command.specs.Pretty.{next, place_after, is_opening, is_closing, Piece, bare, opening, closing, SpacedFrom}

-- a text is cut where its line is cut
pub cut : (place : Place) (xs ys text : List ℕ) → SpacedFrom place (xs ++ ys) text →
    Joined (SpacedFrom place xs) (SpacedFrom (place_after place xs) ys) text
cut place [] ys text s = record { front = []; back = text; bytes = refl; first = refl; second = s }
cut place (x ∷ xs) ys text s =
    unnested {P = Piece place x} {Q = SpacedFrom (next place x) xs} {R = SpacedFrom (place_after (next place x) xs) ys}
    text (record {
      front = s.front;
      back = s.back;
      bytes = s.bytes;
      first = s.first;
      second = cut (next place x) xs ys s.back s.second;
    })

pub place_append : (place : Place) (xs ys : List ℕ) →
    place_after place (xs ++ ys) ≡ place_after (place_after place xs) ys
place_append place [] ys = refl
place_append place (x ∷ xs) ys = place_append (next place x) xs ys

-- ---- bytes to which nothing is added

-- nothing is added to this byte at this place
abbrev pub is_kept : Place → ℕ → Bool
is_kept Outside b = not ((is_opening b || b == 44) || is_closing b)
is_kept Quoted b = true
is_kept Escaped b = true

-- nothing is added to these bytes, which lead from one place to another
abbrev pub Keeps : Place → List ℕ → Place → Type 0
Keeps place [] to = place ≡ to
Keeps place (b ∷ bs) to = (is_kept place b ≡ true) × Keeps (next place b) bs to

no_opening : (opens closes : Bool) → not (opens || closes) ≡ true → opens ≡ true → ⊥
no_opening true closes e h = cc
no_opening false closes e h = cc

no_closing : (opens closes : Bool) → not (opens || closes) ≡ true → closes ≡ true → ⊥
no_closing true closes e h = cc
no_closing false closes e h = let no : not true ≡ true = ap not (sym h) ∙ e in cc

piece_kept : (place : Place) (b : ℕ) (piece : List ℕ) → is_kept place b ≡ true → Piece place b piece → piece ≡ b ∷ []
piece_kept place b piece e bare = refl
piece_kept place b piece e (opening spaces is are) = absurd (no_opening (is_opening b || b == 44) (is_closing b) e is)
piece_kept place b piece e (closing spaces is are) = absurd (no_closing (is_opening b || b == 44) (is_closing b) e is)

pub kept : (place to : Place) (bs text : List ℕ) → Keeps place bs to → SpacedFrom place bs text → text ≡ bs
kept place to [] text keeps s = s
kept place to (b ∷ bs) text keeps s =
    s.bytes ∙ ap (λ xs. xs ++ s.back) (piece_kept place b s.front keeps.0 s.first) ∙
    ap (λ xs. b ∷ xs) (kept (next place b) to bs s.back keeps.1 s.second)

pub kept_to : (place to : Place) (bs : List ℕ) → Keeps place bs to → place_after place bs ≡ to
kept_to place to [] keeps = keeps
kept_to place to (b ∷ bs) keeps = kept_to (next place b) to bs keeps.1

pub keeps_append : (place middle to : Place) (xs ys : List ℕ) → Keeps place xs middle → Keeps middle ys to →
    Keeps place (xs ++ ys) to
keeps_append place middle to [] ys k l = subst (λ p. Keeps p ys to) (sym k) l
keeps_append place middle to (x ∷ xs) ys k l = (k.0, keeps_append (next place x) middle to xs ys k.1 l)

-- a byte that passes a test is none that does not
pub differs : (p : ℕ → Bool) (n : ℕ) → p n ≡ false → (b : ℕ) → p b ≡ true → (b == n) ≡ false
differs p n fails b passes = go (b == n) refl
  where
    go : (same : Bool) → (b == n) ≡ same → same ≡ false
    go false e = refl
    go true e = let alike : p b ≡ p n = ap p ((unsigned_Decides b n).0 e) in absurd (cc)

-- a quote, a comma or a bracket passes the test
abbrev pub passes_mark : (ℕ → Bool) → Bool
passes_mark p = ((p 34 || p 44) || (p 40 || p 41)) || ((p 91 || p 93) || (p 123 || p 125))

no_mark : (p : ℕ → Bool) → passes_mark p ≡ false → (b : ℕ) → p b ≡ true →
    (is_kept Outside b ≡ true) × (next Outside b ≡ Outside)
no_mark p none b e =
    let all = or_parts ((p 34 || p 44) || (p 40 || p 41)) ((p 91 || p 93) || (p 123 || p 125)) none in
    let front = or_parts (p 34 || p 44) (p 40 || p 41) all.0 in
    let back = or_parts (p 91 || p 93) (p 123 || p 125) all.1 in
    let quote = or_parts (p 34) (p 44) front.0 in
    let round = or_parts (p 40) (p 41) front.1 in
    let square = or_parts (p 91) (p 93) back.0 in
    let curly = or_parts (p 123) (p 125) back.1 in (
      rw (
        differs p 44 quote.1 b e,
        differs p 40 round.0 b e,
        differs p 41 round.1 b e,
        differs p 91 square.0 b e,
        differs p 93 square.1 b e,
        differs p 123 curly.0 b e,
        differs p 125 curly.1 b e,
      ) refl,
      rw (differs p 34 quote.0 b e) refl,
    )

pub keeps_all : (p : ℕ → Bool) → passes_mark p ≡ false → (bs : List ℕ) → list_all p bs ≡ true →
    Keeps Outside bs Outside
keeps_all p none [] e = refl
keeps_all p none (b ∷ bs) e =
    let h : (p b ≡ true) × (list_all p bs ≡ true) = and_parts _ _ e in
    let plain = no_mark p none b h.0 in
    (plain.0, subst (λ place. Keeps place bs Outside) (sym plain.1) (keeps_all p none bs h.1))

-- ---- quoted text

-- a byte in quotes after which there are still quotes
stays_quoted : (b : ℕ) → (b == 34) ≡ false → (b == 92) ≡ false → next Quoted b ≡ Quoted
stays_quoted b quote backslash = rw (quote, backslash) refl

keeps_item : (d : ℕ) (bs : List ℕ) → Item d bs → Keeps Quoted bs Quoted
keeps_item d bs (raw e) =
    (refl, stays_quoted d (differs is_raw 34 refl d e) (differs is_raw 92 refl d e))
keeps_item d bs (letter e) = (refl, (refl, refl))
keeps_item d bs (octal {x = x} {y = y} {z = z} e f g h) =
    keeps_append Quoted Quoted Quoted (92 ∷ x ∷ []) (y ∷ z ∷ []) (refl, (refl, refl))
    (keeps_append Quoted Quoted Quoted (y ∷ []) (z ∷ []) (refl, stays_octal y f) (refl, stays_octal z g))
  where
    stays_octal : (b : ℕ) → is_octal b ≡ true → next Quoted b ≡ Quoted
    stays_octal b is = stays_quoted b (differs is_octal 34 refl b is) (differs is_octal 92 refl b is)

keeps_items : (ds bs : List ℕ) → AreItems ds bs → Keeps Quoted bs Quoted
keeps_items [] bs e = subst (λ xs. Keeps Quoted xs Quoted) (sym e) refl
keeps_items (d ∷ ds) bs j = subst (λ xs. Keeps Quoted xs Quoted) (sym j.bytes)
    (keeps_append Quoted Quoted Quoted j.front j.back (keeps_item d j.front j.first) (keeps_items ds j.back j.second))

pub keeps_quoted : (ds bs : List ℕ) → IsQuoted ds bs → Keeps Outside bs Outside
keeps_quoted ds bs j =
    let quote : Keeps Outside j.front Quoted = subst (λ xs. Keeps Outside xs Quoted) (sym j.first) (refl, refl) in
    let end : Keeps Quoted j.second.back Outside =
    subst (λ xs. Keeps Quoted xs Outside) (sym j.second.second) (refl, refl) in
    let rest : Keeps Quoted j.back Outside = subst (λ xs. Keeps Quoted xs Outside) (sym j.second.bytes)
    (keeps_append Quoted Quoted Outside j.second.front j.second.back
    (keeps_items ds j.second.front j.second.first) end) in
    subst (λ xs. Keeps Outside xs Outside) (sym j.bytes)
    (keeps_append Outside Quoted Outside j.front j.back quote rest)

-- ---- what holds of bytes and of their text

pub outside_after : (bs xs ys : List ℕ) → bs ≡ xs ++ ys → place_after Outside xs ≡ Outside →
    place_after Outside ys ≡ Outside → place_after Outside bs ≡ Outside
outside_after bs xs ys bytes e f = ap (place_after Outside) bytes ∙ place_append Outside xs ys ∙
    ap (λ place. place_after place ys) e ∙ f

-- what holds of bytes outside quotes holds of the text in which blanks and line feeds are added to them, and the bytes
-- end outside quotes
pub record Persists (P : List ℕ → Type 0) : Type 0 where
  pub outside : (bs : List ℕ) → P bs → place_after Outside bs ≡ Outside
  pub spaced : (bs text : List ℕ) → P bs → SpacedFrom Outside bs text → P text

pub persists_kept : (P : List ℕ → Type 0) → ((bs : List ℕ) → P bs → Keeps Outside bs Outside) → Persists P
persists_kept P keeps = record {
  outside = λ bs p. kept_to Outside Outside bs (keeps bs p);
  spaced = λ bs text p s. subst P (sym (kept Outside Outside bs text (keeps bs p) s)) p;
}

pub persists_joined : (P Q : List ℕ → Type 0) → Persists P → Persists Q → Persists (Joined P Q)
persists_joined P Q first second = record {
  outside = λ bs j. outside_after bs j.front j.back j.bytes (first.outside j.front j.first)
      (second.outside j.back j.second);
  spaced = λ bs text j s.
      let c = cut Outside j.front j.back text (subst (λ xs. SpacedFrom Outside xs text) j.bytes s) in
      let back : SpacedFrom Outside j.back c.back =
      subst (λ place. SpacedFrom place j.back c.back) (first.outside j.front j.first) c.second in
      record {
        front = c.front;
        back = c.back;
        bytes = c.bytes;
        first = first.spaced j.front c.front j.first c.first;
        second = second.spaced j.back c.back j.second back;
      };
}

pub persists_nothing : Persists (λ bs. bs ≡ [])
persists_nothing = persists_kept (λ bs. bs ≡ []) (λ bs e. subst (λ xs. Keeps Outside xs Outside) (sym e) refl)
