-- The headline does not rest on this file.
-- What `--pretty` adds to a line.
use Rattle.std.specs.Prelude.{◌≡◌, ℕ, Bool, true, ◌||◌, ◌==◌, if◌then◌else◌, List, [], ◌∷◌, ◌++◌}
use Rattle.std.specs.List.{list_all}
use Rattle.term_model.specs.QuotedText.{Joined}
use Rattle.strc_command.specs.declared.pretty.Place.{Place}
use Rattle.strc_command.specs.declared.pretty.Place.TheVariants.{Outside, Quoted, Escaped}
use Rattle.strc_command.specs.declared.pretty.Layout.{Layout}

-- the place after a byte: `"` is 34 and `\` is 92
abbrev pub next : Place → ℕ → Place
next Outside b = if b == 34 then Quoted else Outside
next Quoted b = if b == 34 then Outside else if b == 92 then Escaped else Quoted
next Escaped b = Quoted

abbrev pub place_after : Place → List ℕ → Place
place_after place [] = place
place_after place (b ∷ bs) = place_after (next place b) bs

-- ( [ {
abbrev pub is_opening : ℕ → Bool
is_opening b = (b == 40 || b == 91) || b == 123

-- ) ] }
abbrev pub is_closing : ℕ → Bool
is_closing b = (b == 41 || b == 93) || b == 125

-- a blank or a line feed
abbrev pub is_space : ℕ → Bool
is_space b = b == 32 || b == 10

abbrev pub AreSpaces : List ℕ → Type 0
AreSpaces bs = list_all is_space bs ≡ true

-- a byte with what is added to it: outside quotes blanks and line feeds after an opening bracket or a comma, or before
-- a closing bracket
pub data Piece : Place → ℕ → List ℕ → Type 0 where
  bare : {place : Place} {b : ℕ} → Piece place b (b ∷ [])
  opening : {b : ℕ} (spaces : List ℕ) → (is_opening b || b == 44) ≡ true → AreSpaces spaces →
      Piece Outside b (b ∷ spaces)
  closing : {b : ℕ} (spaces : List ℕ) → is_closing b ≡ true → AreSpaces spaces → Piece Outside b (spaces ++ b ∷ [])

-- a piece for each of the bytes, of which the first stands at this place
abbrev pub SpacedFrom : Place → List ℕ → List ℕ → Type 0
SpacedFrom place [] text = text ≡ []
SpacedFrom place (b ∷ bs) text = Joined (Piece place b) (SpacedFrom (next place b) bs) text

-- the text is the line with blanks and line feeds that are added next to brackets and after commas
abbrev pub IsSpaced : List ℕ → List ℕ → Type 0
IsSpaced line text = SpacedFrom Outside line text

-- ---- what is laid out

-- the text gained blanks and line feeds alone
pub record GainsSpaces (old new : Layout) : Type 0 where
  pub spaces : List ℕ
  pub text : new.text.items ≡ old.text.items ++ spaces
  pub are_spaces : AreSpaces spaces
  pub place : new.place ≡ old.place

-- the text gained a byte with what is added to it
pub record GainsPiece (old new : Layout) (byte : ℕ) : Type 0 where
  pub piece : List ℕ
  pub text : new.text.items ≡ old.text.items ++ piece
  pub is_piece : Piece old.place byte piece
  pub place : new.place ≡ next old.place byte
