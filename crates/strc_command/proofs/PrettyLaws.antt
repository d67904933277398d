-- What a text gains, one byte of the line after another.
use Rattle.std.proofs.Common.{◌≡◌, ◌∙◌, ℕ, true, ◌||◌, List, [], ◌∷◌, ◌++◌, ap, refl, sym, subst, append_assoc}
use Rattle.std.specs.Bool.{◌==◌}
use Rattle.std.specs.List.{list_all}
use Rattle.std.specs.Prelude.{Result, Ok, Err, OnOk}
use Rattle.std.proofs.lemmas.List.{append-nil}
use Rattle.std.proofs.lemmas.Bool.{and_parts}
use Rattle.strc_command.specs.declared.pretty.Place.{Place}
use Rattle.strc_command.specs.declared.pretty.Place.TheVariants.{Outside}
use Rattle.strc_command.specs.declared.pretty.Layout.{Layout}
use Rattle.strc_command.specs.Pretty.{next, place_after, is_opening, is_closing, is_space, AreSpaces, Piece, bare, opening, closing, SpacedFrom, IsSpaced, GainsSpaces, GainsPiece}

-- one byte more
spaced_more : (place : Place) (read text piece : List ℕ) (b : ℕ) → SpacedFrom place read text →
    Piece (place_after place read) b piece →
    SpacedFrom place (read ++ b ∷ []) (text ++ piece)
spaced_more place [] text piece b spaced added = record {
  front = piece;
  back = [];
  bytes = ap (λ bs. bs ++ piece) spaced ∙ sym (append-nil piece);
  first = added;
  second = refl;
}
spaced_more place (x ∷ xs) text piece b spaced added = record {
  front = spaced.front;
  back = spaced.back ++ piece;
  bytes = ap (λ bs. bs ++ piece) spaced.bytes ∙ append_assoc spaced.front spaced.back piece;
  first = spaced.first;
  second = spaced_more (next place x) xs spaced.back piece b spaced.second added;
}

place_more : (place : Place) (read : List ℕ) (b : ℕ) →
    place_after place (read ++ b ∷ []) ≡ next (place_after place read) b
place_more place [] b = refl
place_more place (x ∷ xs) b = place_more (next place x) xs b

-- what was read of a line is laid out
pub record Lays (layout : Layout) (read : List ℕ) : Type 0 where
  pub spaced : IsSpaced read layout.text.items
  pub place : layout.place ≡ place_after Outside read

pub lays_nothing : (layout : Layout) → layout.text.items ≡ [] → layout.place ≡ Outside → Lays layout []
lays_nothing layout empty outside = record { spaced = empty; place = outside }

pub lays_more : (old new : Layout) (read : List ℕ) (b : ℕ) → Lays old read → GainsPiece old new b →
    Lays new (read ++ b ∷ [])
lays_more old new read b lays gained =
    let piece : Piece (place_after Outside read) b gained.piece =
    subst (λ p. Piece p b gained.piece) lays.place gained.is_piece in
    record {
      spaced = subst (IsSpaced (read ++ b ∷ [])) (sym gained.text)
          (spaced_more Outside read old.text.items gained.piece b lays.spaced piece);
      place = gained.place ∙ ap (λ p. next p b) lays.place ∙ sym (place_more Outside read b);
    }

spaces_more : (spaces : List ℕ) (b : ℕ) → AreSpaces spaces → is_space b ≡ true → AreSpaces (spaces ++ b ∷ [])
spaces_more [] b are is = rw is refl
spaces_more (x ∷ xs) b are is = let parts = and_parts (is_space x) (list_all is_space xs) are in
    rw parts.0 (spaces_more xs b parts.1 is)

-- one blank or line feed more
pub gains_more : (old middle new : Layout) (b : ℕ) → GainsSpaces old middle →
    new.text.items ≡ middle.text.items ++ b ∷ [] →
    new.place ≡ middle.place → is_space b ≡ true → GainsSpaces old new
gains_more old middle new b gained text place is = record {
  spaces = gained.spaces ++ b ∷ [];
  text = text ∙ ap (λ bs. bs ++ b ∷ []) gained.text ∙ append_assoc old.text.items gained.spaces (b ∷ []);
  are_spaces = spaces_more gained.spaces b gained.are_spaces is;
  place = place ∙ gained.place;
}

-- a line feed and nothing yet after it
pub gains_first : (old new : Layout) (b : ℕ) → new.text.items ≡ old.text.items ++ b ∷ [] → new.place ≡ old.place →
    is_space b ≡ true →
    GainsSpaces old new
gains_first old new b text place is = record { spaces = b ∷ []; text = text; are_spaces = rw is refl; place = place }

-- a byte alone
pub gains_bare : {A E : Type 0} (r : Result A E) (old new : Layout) (b : ℕ) →
    OnOk r (new.text.items ≡ old.text.items ++ b ∷ []) →
    OnOk r (new.place ≡ next old.place b) → OnOk r (GainsPiece old new b)
gains_bare (Ok v) old new b text place = record { piece = b ∷ []; text = text; is_piece = bare; place = place }
gains_bare (Err e) old new b text place = tt

-- an opening bracket or a comma, and blanks and line feeds after it
pub gains_after : {A E : Type 0} (r : Result A E) (old middle new : Layout) (b : ℕ) → old.place ≡ Outside →
    (is_opening b || b == 44) ≡ true →
    middle.text.items ≡ old.text.items ++ b ∷ [] → middle.place ≡ next old.place b → OnOk r (GainsSpaces middle new) →
    OnOk r (GainsPiece old new b)
gains_after (Ok v) old middle new b outside is text place gained = record {
  piece = b ∷ gained.spaces;
  text = gained.text ∙ ap (λ bs. bs ++ gained.spaces) text ∙ append_assoc old.text.items (b ∷ []) gained.spaces;
  is_piece = subst (λ p. Piece p b (b ∷ gained.spaces)) (sym outside) (opening gained.spaces is gained.are_spaces);
  place = gained.place ∙ place;
}
gains_after (Err e) old middle new b outside is text place gained = tt

-- a closing bracket after blanks and line feeds, where the text and the place were those of `start`
pub gains_before : {A E : Type 0} (r : Result A E) (old start middle new : Layout) (b : ℕ) →
    start.text.items ≡ old.text.items →
    start.place ≡ old.place → old.place ≡ Outside → is_closing b ≡ true → GainsSpaces start middle →
    OnOk r (new.text.items ≡ middle.text.items ++ b ∷ []) → OnOk r (new.place ≡ next middle.place b) →
    OnOk r (GainsPiece old new b)
gains_before (Ok v) old start middle new b same stays outside is gained text place = record {
  piece = gained.spaces ++ b ∷ [];
  text = text ∙ ap (λ bs. bs ++ b ∷ []) (gained.text ∙ ap (λ bs. bs ++ gained.spaces) same) ∙
      append_assoc old.text.items gained.spaces (b ∷ []);
  is_piece = subst (λ p. Piece p b (gained.spaces ++ b ∷ [])) (sym outside)
      (closing gained.spaces is gained.are_spaces);
  place = place ∙ ap (λ p. next p b) (gained.place ∙ stays);
}
gains_before (Err e) old start middle new b same stays outside is gained text place = tt
