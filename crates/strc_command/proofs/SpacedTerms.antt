-- A text spells the terms that its line spells.
use Rattle.std.specs.List.{list_all}
use Rattle.std.specs.Bool.{◌==◌}
use Rattle.std.specs.Prelude.{codes}
use Rattle.std.proofs.Common.{◌≡◌, ℕ, Bool, true, false, ◌||◌, Ok, List, [], ◌∷◌, ◌++◌, ◌⊎◌, inl, inr, refl, ap, sym, ◌∙◌, append_assoc, subst}
use Rattle.std.proofs.lemmas.Bool.{and_parts}
use Rattle.std.proofs.lemmas.List.Folds.{list_all-append}
use Rattle.term_model.specs.Bytes.{is_blank, is_digit}
use Rattle.term_model.specs.QuotedText.{Joined, Are}
use Rattle.term_model.specs.declared.term.Head.{Head}
use Rattle.term_model.specs.declared.term.Head.TheVariants as heads
use Rattle.term_model.specs.Symbol.{Symbol, Plain, Quoted, Tuple, begins_name, continues_name, is_name}
use Rattle.term_model.specs.Term.{Tree, node, Trees, end, more, IsTerm, Fits}
use Rattle.term_model.proofs.Joins.{append_nil, longer, nested, unnested}
use Rattle.aterm_text.specs.Tokens.{AreBlanks, Token, Mark, AreDigits, AreSigned, IsInteger, IsSymbolText}
use Rattle.aterm_text.specs.Grammar.{Between, Optional, SpellsBare, Spells, SpellsAll, SpellsRest, IsText}
use Rattle.aterm_text.specs.ReadTerm.{IsReading}
use Rattle.aterm_text.specs.Reading.{Read, TooDeepText, outcome_of}
use Rattle.aterm_text.specs.Text.{text as canonical}
use Rattle.aterm_text.proofs.Canonical.{text_spells}
use Rattle.aterm_text.proofs.Meaning.{spelled, deep_is, reading}
use Rattle.aterm_text.proofs.RoundTrip.{not_deep}
use Rattle.str_pipeline.specs.Written.{line_of}
use Rattle.strc_command.specs.declared.pretty.Place.{Place}
use Rattle.strc_command.specs.declared.pretty.Place.TheVariants.{Outside}
use Rattle.strc_command.specs.Pretty.{next, place_after, is_opening, is_closing, is_space, AreSpaces, Piece, bare, opening, closing, SpacedFrom, IsSpaced}
use Rattle.strc_command.proofs.SpacedBytes.{cut, outside_after, Keeps, keeps_all, keeps_append, keeps_quoted, Persists, persists_kept, persists_joined, persists_nothing}

-- ---- tokens

persists_blanks : Persists AreBlanks
persists_blanks = persists_kept AreBlanks (keeps_all is_blank refl)

keeps_digits : (n : ℕ) (bs : List ℕ) → AreDigits n bs → Keeps Outside bs Outside
keeps_digits n [] p = absurd p
keeps_digits n (d ∷ ds) p = keeps_all is_digit refl (d ∷ ds) p.0

keeps_signed : (negative : Bool) (n : ℕ) (bs : List ℕ) → AreSigned negative n bs → Keeps Outside bs Outside
keeps_signed false n bs p = keeps_digits n bs p
keeps_signed true n [] p = absurd p
keeps_signed true n (b ∷ bs) p =
    subst (λ c. Keeps Outside (c ∷ bs) Outside) (sym p.0) (refl, keeps_digits n bs p.1)

keeps_name : (bs : List ℕ) → is_name bs ≡ true → Keeps Outside bs Outside
keeps_name [] e = cc
keeps_name (b ∷ bs) e =
    let h : (begins_name b ≡ true) × (list_all continues_name bs ≡ true) = and_parts _ _ e in
    let one : list_all begins_name (b ∷ []) ≡ true = rw (h.0) refl in
    keeps_append Outside Outside Outside (b ∷ []) bs (keeps_all begins_name refl (b ∷ []) one)
    (keeps_all continues_name refl bs h.1)

keeps_symbol : (y : Symbol) (bs : List ℕ) → IsSymbolText y bs → Keeps Outside bs Outside
keeps_symbol (Plain name) bs p = subst (λ xs. Keeps Outside xs Outside) (sym p.1) (keeps_name name p.0)
keeps_symbol (Quoted text) bs p = keeps_quoted text bs p
keeps_symbol Tuple bs p = absurd p

persists_token : (P : List ℕ → Type 0) → ((bs : List ℕ) → P bs → Keeps Outside bs Outside) → Persists (Token P)
persists_token P keeps = persists_joined P AreBlanks (persists_kept P keeps) persists_blanks

-- ---- brackets and commas

spaces_are_blanks : (bs : List ℕ) → AreSpaces bs → AreBlanks bs
spaces_are_blanks [] e = refl
spaces_are_blanks (b ∷ bs) e =
    let h : (is_space b ≡ true) × (list_all is_space bs ≡ true) = and_parts _ _ e in
    rw (blank (b == 32) (b == 9) (b == 10) (b == 13) h.0, spaces_are_blanks bs h.1) refl
  where
    blank : (space tab feed return : Bool) → (space || feed) ≡ true → (((space || tab) || feed) || return) ≡ true
    blank true tab feed return e = refl
    blank false true feed return e = refl
    blank false false true return e = refl
    blank false false false return e = cc

blanks_append : (xs ys : List ℕ) → AreBlanks xs → AreBlanks ys → AreBlanks (xs ++ ys)
blanks_append xs ys e f = rw (list_all-append is_blank xs ys, e, f) refl

-- spaces after this byte
abbrev Before : ℕ → List ℕ → Type 0
Before c piece = (spaces : List ℕ) × AreSpaces spaces × (piece ≡ c ∷ spaces)

-- spaces in front of it
abbrev After : ℕ → List ℕ → Type 0
After c piece = (spaces : List ℕ) × AreSpaces spaces × (piece ≡ spaces ++ c ∷ [])

opened : (place : Place) (c : ℕ) (piece : List ℕ) → is_closing c ≡ false → Piece place c piece → Before c piece
opened place c piece fails bare = ([], refl, refl)
opened place c piece fails (opening spaces is are) = (spaces, are, refl)
opened place c piece fails (closing spaces is are) = absurd (cc)

closed : (place : Place) (c : ℕ) (piece : List ℕ) → (is_opening c || c == 44) ≡ false → Piece place c piece →
    After c piece
closed place c piece fails bare = ([], refl, refl)
closed place c piece fails (opening spaces is are) = absurd (cc)
closed place c piece fails (closing spaces is are) = (spaces, are, refl)

marks_outside : (c : ℕ) → next Outside c ≡ Outside → (bs : List ℕ) → Mark c bs → place_after Outside bs ≡ Outside
marks_outside c stays bs j =
    ap (place_after Outside) (j.bytes ∙ ap (λ xs. xs ++ j.back) j.first) ∙
    ap (λ place. place_after place j.back) stays ∙ persists_blanks.outside j.back j.second

-- the text of a mark and blanks is a piece and blanks
abbrev MarkSpaced : ℕ → List ℕ → Type 0
MarkSpaced c = Joined (Piece Outside c) AreBlanks

mark_spaced : (c : ℕ) (bs text : List ℕ) → next Outside c ≡ Outside → Mark c bs → SpacedFrom Outside bs text →
    MarkSpaced c text
mark_spaced c bs text stays j s =
    let spaced : SpacedFrom Outside (c ∷ j.back) text =
    subst (λ xs. SpacedFrom Outside xs text) (j.bytes ∙ ap (λ xs. xs ++ j.back) j.first) s in
    let back : SpacedFrom Outside j.back spaced.back =
    subst (λ place. SpacedFrom place j.back spaced.back) stays spaced.second in
    record {
      front = spaced.front;
      back = spaced.back;
      bytes = spaced.bytes;
      first = spaced.first;
      second = persists_blanks.spaced j.back spaced.back j.second back;
    }

opening_text : (c : ℕ) (text : List ℕ) → is_closing c ≡ false → MarkSpaced c text → Mark c text
opening_text c text fails m =
    let p : Before c m.front = opened Outside c m.front fails m.first in
    record {
      front = c ∷ [];
      back = p.0 ++ m.back;
      bytes = m.bytes ∙ ap (λ xs. xs ++ m.back) p.2;
      first = refl;
      second = blanks_append p.0 m.back (spaces_are_blanks p.0 p.1) m.second;
    }

closing_text : (c : ℕ) (text : List ℕ) → (is_opening c || c == 44) ≡ false → MarkSpaced c text →
    Joined AreBlanks (Mark c) text
closing_text c text fails m =
    let p : After c m.front = closed Outside c m.front fails m.first in
    record {
      front = p.0;
      back = c ∷ m.back;
      bytes = m.bytes ∙ ap (λ xs. xs ++ m.back) p.2 ∙ append_assoc p.0 (c ∷ []) m.back;
      first = spaces_are_blanks p.0 p.1;
      second = record { front = c ∷ []; back = m.back; bytes = refl; first = refl; second = m.second };
    }

persists_mark : (c : ℕ) → is_closing c ≡ false → next Outside c ≡ Outside → Persists (Mark c)
persists_mark c fails stays = record {
  outside = marks_outside c stays;
  spaced = λ bs text j s. opening_text c text fails (mark_spaced c bs text stays j s);
}

-- ---- blanks after bytes of which P holds

pub record TakesBlanks (P : List ℕ → Type 0) : Type 0 where
  pub taken : (bs blanks : List ℕ) → P bs → AreBlanks blanks → P (bs ++ blanks)

takes_joined : (P Q : List ℕ → Type 0) → TakesBlanks Q → TakesBlanks (Joined P Q)
takes_joined P Q second = record {
  taken = λ bs blanks j are. longer {P = P} {Q = Q} {R = Q} bs blanks j (λ ys q. second.taken ys blanks q are);
}

takes_token : (P : List ℕ → Type 0) → TakesBlanks (Token P)
takes_token P = takes_joined P AreBlanks (record { taken = blanks_append })

-- nothing after bytes that take blanks
takes_before : (P : List ℕ → Type 0) (bs front back blanks : List ℕ) → TakesBlanks P → bs ≡ front ++ back → P front →
    back ≡ [] → AreBlanks blanks → Joined P (λ xs. xs ≡ []) (bs ++ blanks)
takes_before P bs front back blanks takes bytes p e are = record {
  front = front ++ blanks;
  back = [];
  bytes = ap (λ xs. xs ++ blanks) (bytes ∙ ap (λ xs. front ++ xs) e ∙ append_nil front) ∙
      sym (append_nil (front ++ blanks));
  first = takes.taken front blanks p are;
  second = refl;
}

takes_nothing : (P : List ℕ → Type 0) → TakesBlanks P → TakesBlanks (Joined P (λ xs. xs ≡ []))
takes_nothing P first = record {
  taken = λ bs blanks j are. takes_before P bs j.front j.back blanks first j.bytes j.first j.second are;
}

takes_between : (left right : ℕ) (P : List ℕ → Type 0) → TakesBlanks (Between left right P)
takes_between left right P = takes_joined (Mark left) (Joined P (Mark right))
    (takes_joined P (Mark right) (takes_token (Are (right ∷ []))))

takes_optional : (ts : Trees) (left right : ℕ) (P R : List ℕ → Type 0) → TakesBlanks P →
    TakesBlanks (Joined P (Optional ts left right R))
takes_optional ts left right P R first = record { taken = go }
  where
    here : (bs blanks front back : List ℕ) → bs ≡ front ++ back → P front → Optional ts left right R back →
        AreBlanks blanks → Joined P (Optional ts left right R) (bs ++ blanks)
    here bs blanks front back bytes p (inl e) are =
        let j = takes_before P bs front back blanks first bytes p e.1 are in
        record { front = j.front; back = j.back; bytes = j.bytes; first = j.first; second = inl (e.0, j.second) }
    here bs blanks front back bytes p (inr b) are = record {
      front = front;
      back = back ++ blanks;
      bytes = ap (λ xs. xs ++ blanks) bytes ∙ append_assoc front back blanks;
      first = p;
      second = inr ((takes_between left right R).taken back blanks b are);
    }

    go : (bs blanks : List ℕ) → Joined P (Optional ts left right R) bs → AreBlanks blanks →
        Joined P (Optional ts left right R) (bs ++ blanks)
    go bs blanks j are = here bs blanks j.front j.back j.bytes j.first j.second are

takes_bare : (h : Head) (ps : Trees) (P : List ℕ → Type 0) → TakesBlanks (SpellsBare h ps P)
takes_bare (heads.Int z) ps P = record {
  taken = λ bs blanks p are. (p.0, (takes_token (IsInteger z)).taken bs blanks p.1 are);
}
takes_bare (heads.App (Plain name)) ps P =
    takes_optional ps 40 41 (Token (IsSymbolText (Plain name))) P (takes_token (IsSymbolText (Plain name)))
takes_bare (heads.App (Quoted text)) ps P =
    takes_optional ps 40 41 (Token (IsSymbolText (Quoted text))) P (takes_token (IsSymbolText (Quoted text)))
takes_bare (heads.App Tuple) ps P = takes_between 40 41 P
takes_bare heads.List ps P = takes_between 91 93 P

takes_term : (t : Tree) → TakesBlanks (Spells t)
takes_term (node h ps xs) = takes_optional xs 123 125 (SpellsBare h ps (SpellsAll ps)) (SpellsAll xs)
    (takes_bare h ps (SpellsAll ps))

takes_terms : (t : Tree) (ts : Trees) → TakesBlanks (SpellsAll (more t ts))
takes_terms t end = takes_nothing (Spells t) (takes_term t)
takes_terms t (more u us) = takes_joined (Spells t) (SpellsRest (more u us))
    (takes_joined (Mark 44) (SpellsAll (more u us)) (takes_terms u us))

takes_inner : (left : ℕ) (ts : Trees) → TakesBlanks (Joined (Mark left) (SpellsAll ts))
takes_inner left end = takes_nothing (Mark left) (takes_token (Are (left ∷ [])))
takes_inner left (more t ts) = takes_joined (Mark left) (SpellsAll (more t ts)) (takes_terms t ts)

-- ---- terms

-- brackets round what takes blanks after the first bracket
persists_between : (left right : ℕ) (P : List ℕ → Type 0) → is_closing left ≡ false → next Outside left ≡ Outside →
    (is_opening right || right == 44) ≡ false → next Outside right ≡ Outside → Persists P →
    TakesBlanks (Joined (Mark left) P) → Persists (Between left right P)
persists_between left right P opens out closes goes inner takes = record {
  outside = λ bs j. whole bs (unnested {P = Mark left} {Q = P} {R = Mark right} bs j);
  spaced = λ bs text j s. nested {P = Mark left} {Q = P} {R = Mark right} text
      (spaced bs text (unnested {P = Mark left} {Q = P} {R = Mark right} bs j) s);
}
  where
    first : Persists (Joined (Mark left) P)
    first = persists_joined (Mark left) P (persists_mark left opens out) inner

    whole : (bs : List ℕ) → Joined (Joined (Mark left) P) (Mark right) bs → place_after Outside bs ≡ Outside
    whole bs u = outside_after bs u.front u.back u.bytes (first.outside u.front u.first)
        (marks_outside right goes u.back u.second)

    spaced : (bs text : List ℕ) → Joined (Joined (Mark left) P) (Mark right) bs → SpacedFrom Outside bs text →
        Joined (Joined (Mark left) P) (Mark right) text
    spaced bs text u s =
        let c = cut Outside u.front u.back text (subst (λ xs. SpacedFrom Outside xs text) u.bytes s) in
        let back : SpacedFrom Outside u.back c.back =
        subst (λ place. SpacedFrom place u.back c.back) (first.outside u.front u.first) c.second in
        let m = closing_text right c.back closes (mark_spaced right u.back c.back goes u.second back) in
        record {
          front = c.front ++ m.front;
          back = m.back;
          bytes = c.bytes ∙ ap (λ xs. c.front ++ xs) m.bytes ∙ sym (append_assoc c.front m.front m.back);
          first = takes.taken c.front m.front (first.spaced u.front c.front u.first c.first) m.first;
          second = m.second;
        }

persists_optional : (ts : Trees) (left right : ℕ) (P : List ℕ → Type 0) → Persists (Between left right P) →
    Persists (Optional ts left right P)
persists_optional ts left right P between = record { outside = out; spaced = go }
  where
    out : (bs : List ℕ) → Optional ts left right P bs → place_after Outside bs ≡ Outside
    out bs (inl e) = persists_nothing.outside bs e.1
    out bs (inr b) = between.outside bs b

    go : (bs text : List ℕ) → Optional ts left right P bs → SpacedFrom Outside bs text → Optional ts left right P text
    go bs text (inl e) s = inl (e.0, persists_nothing.spaced bs text e.1 s)
    go bs text (inr b) s = inr (between.spaced bs text b s)

round : (ts : Trees) → Persists (SpellsAll ts) → Persists (Between 40 41 (SpellsAll ts))
round ts inner = persists_between 40 41 (SpellsAll ts) refl refl refl refl inner (takes_inner 40 ts)

persists_applied : (y : Symbol) (ps : Trees) → Persists (SpellsAll ps) →
    Persists (Joined (Token (IsSymbolText y)) (Optional ps 40 41 (SpellsAll ps)))
persists_applied y ps inner = persists_joined (Token (IsSymbolText y)) (Optional ps 40 41 (SpellsAll ps))
    (persists_token (IsSymbolText y) (keeps_symbol y)) (persists_optional ps 40 41 (SpellsAll ps) (round ps inner))

persists_bare : (h : Head) (ps : Trees) → Persists (SpellsAll ps) → Persists (SpellsBare h ps (SpellsAll ps))
persists_bare (heads.Int z) ps inner = record {
  outside = λ bs p. token.outside bs p.1;
  spaced = λ bs text p s. (p.0, token.spaced bs text p.1 s);
}
  where
    token : Persists (Token (IsInteger z))
    token = persists_token (IsInteger z) (λ bs p. keeps_signed p.1 p.2 bs p.4)
persists_bare (heads.App (Plain name)) ps inner = persists_applied (Plain name) ps inner
persists_bare (heads.App (Quoted text)) ps inner = persists_applied (Quoted text) ps inner
persists_bare (heads.App Tuple) ps inner = round ps inner
persists_bare heads.List ps inner =
    persists_between 91 93 (SpellsAll ps) refl refl refl refl inner (takes_inner 91 ps)

mutual
  persists_term : (t : Tree) → Persists (Spells t)
  persists_term (node h ps xs) =
      persists_joined (SpellsBare h ps (SpellsAll ps)) (Optional xs 123 125 (SpellsAll xs))
      (persists_bare h ps (persists_all ps)) (persists_optional xs 123 125 (SpellsAll xs)
      (persists_between 123 125 (SpellsAll xs) refl refl refl refl (persists_all xs) (takes_inner 123 xs)))

  persists_all : (ts : Trees) → Persists (SpellsAll ts)
  persists_all end = persists_nothing
  persists_all (more t ts) = persists_joined (Spells t) (SpellsRest ts) (persists_term t) (persists_rest ts)

  persists_rest : (ts : Trees) → Persists (SpellsRest ts)
  persists_rest end = persists_nothing
  persists_rest (more t ts) = persists_joined (Mark 44) (Joined (Spells t) (SpellsRest ts))
      (persists_mark 44 refl refl) (persists_joined (Spells t) (SpellsRest ts) (persists_term t) (persists_rest ts))

-- a term that a line spells is spelled by the text that is laid out
pub spelled_alike : (t : Tree) (line text : List ℕ) → IsText t line → IsSpaced line text → IsText t text
spelled_alike t line text spells spaced =
    (persists_joined AreBlanks (Spells t) persists_blanks (persists_term t)).spaced line text spells spaced

-- a text that spells a term that fits is read as that term
read_as : (t : Tree) (bs : List ℕ) → Fits t → IsText t bs → IsReading bs (Ok t)
read_as t bs fits spells = go (spelled bs t spells)
  where
    go : (outcome_of bs ≡ Read t) ⊎ (outcome_of bs ≡ TooDeepText) → IsReading bs (Ok t)
    go (inl e) = reading bs (Ok t) (e, fits)
    go (inr e) = absurd (not_deep t bs spells fits (deep_is bs e))

pub read_alike : (t : Tree) (line text : List ℕ) → IsReading line (Ok t) → IsSpaced line text → IsReading text (Ok t)
read_alike t line text line_read spaced =
    read_as t text line_read.fits (spelled_alike t line text line_read.spells spaced)

line_spells : (t : Tree) → IsTerm t → IsText t (line_of (canonical t))
line_spells t is = longer {P = AreBlanks} {Q = Spells t} {R = Spells t} (canonical t) (10 ∷ []) (text_spells t is)
    (λ ys spells. (takes_term t).taken ys (10 ∷ []) spells refl)

pub result_read : (t : Tree) (text : List ℕ) → IsTerm t → Fits t → IsSpaced (line_of (canonical t)) text →
    IsReading text (Ok t)
result_read t text is fits spaced =
    read_as t text fits (spelled_alike t (line_of (canonical t)) text (line_spells t is) spaced)

-- ---- an example

-- a byte with its piece, in front of the bytes after it with theirs
with_piece : (b : ℕ) (bs piece text : List ℕ) → Piece Outside b piece → SpacedFrom (next Outside b) bs text →
    SpacedFrom Outside (b ∷ bs) (piece ++ text)
with_piece b bs piece text p s = record { front = piece; back = text; bytes = refl; first = p; second = s }

pub example : IsSpaced (codes "[1]") (line_of (codes "[") ++ line_of (codes "  1") ++ codes "]")
example = with_piece 91 (49 ∷ 93 ∷ []) (91 ∷ 10 ∷ 32 ∷ 32 ∷ []) (49 ∷ 10 ∷ 93 ∷ [])
    (opening (10 ∷ 32 ∷ 32 ∷ []) refl refl) (with_piece 49 (93 ∷ []) (49 ∷ []) (10 ∷ 93 ∷ [])
    bare (with_piece 93 [] (10 ∷ 93 ∷ []) [] (closing (10 ∷ []) refl refl) refl))
