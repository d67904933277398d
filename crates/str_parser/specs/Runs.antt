-- The headline does not rest on this file.
-- Phrases of any length: where they end, and what reading them returns.
use Rattle.std.specs.Prelude.{◌≡◌, ◌≤◌, Bool, true, false, length, List, ◌∷◌, Result, Ok, Err}
use Rattle.str_lexer.specs.declared.token.Mark.TheVariants as M
use Rattle.str_parser.specs.declared.refusal.ParseRefusal.{ParseRefusal}
use Rattle.str_parser.specs.Lexemes.{Lexeme, name, mark}
use Rattle.str_parser.specs.Items.{Item, Way, either, Runs}
use Rattle.str_parser.specs.Readings.{IsFault}

-- what runs along the items begins with none of these tokens
abbrev pub NoneOf : (Lexeme → Bool) → List Item → Type 0
NoneOf these is = (t : Lexeme) (rest : List Lexeme) → Runs either is (t ∷ rest) → these t ≡ false

-- The tokens begin with the tree, written so, which may be of no token, and the rest comes after it. No other tree runs
-- along them, in front of items that stop it.
pub record FoundAny {T : Type 0} (write : T → List Item → List Item) (Stops : List Item →
    Type 0) (ts : List Lexeme) (t : T) (rest : List Lexeme) : Type 0 where
  pub sound : (way : Way) (is : List Item) → Runs way is rest → Runs way (write t is) ts
  pub only_one : (u : T) (is : List Item) → Stops is → Runs either (write u is) ts → (u ≡ t) × Runs either is rest
  pub no_longer : length rest ≤ length ts

-- the tree, which may be of no token, and the rest, or a fault
abbrev pub IsReadingAny : {T X : Type 0} → (T → List Item → List Item) → (List Item → Type 0) → (X → T) → List Lexeme →
    Result (X × List Lexeme) ParseRefusal → Type 0
IsReadingAny write Stops tree_of ts (Ok (x, rest)) = FoundAny write Stops ts (tree_of x) rest
IsReadingAny write Stops tree_of ts (Err e) = IsFault write Stops ts e

-- ---- what a list with commas goes on with

-- with a comma, a list of which a part has been read
abbrev pub is_comma : Lexeme → Bool
is_comma (mark M.Comma) = true
is_comma _ = false

-- with a comma or a name, names of which none need have been read
abbrev pub is_comma_or_name : Lexeme → Bool
is_comma_or_name (mark M.Comma) = true
is_comma_or_name (name x) = true
is_comma_or_name _ = false
