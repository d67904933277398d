-- Symbols: a plain name, quoted bytes, or the empty symbol of tuples.
use Rattle.std.specs.Prelude.{ℕ, Bool, false, ◌||◌, ◌&&◌, ◌==◌, List, [], ◌∷◌, IsTrue}
use Rattle.std.specs.List.{list_all}
use Rattle.term_model.specs.Bytes.{is_byte, is_between, is_digit}

-- a plain name, quoted bytes, or the empty symbol of tuples
pub data Symbol : Type 0 where
  Plain : List ℕ → Symbol
  Quoted : List ℕ → Symbol
  Tuple : Symbol

-- a letter or an underscore
abbrev pub begins_name : ℕ → Bool
begins_name b = (is_between 65 90 b || is_between 97 122 b) || b == 95

-- a letter, a digit, or one of _ - + * $
abbrev pub continues_name : ℕ → Bool
continues_name b = (((begins_name b || is_digit b) || b == 45) || (b == 43 || b == 42)) || b == 36

-- the bytes are a name
abbrev pub is_name : List ℕ → Bool
is_name [] = false
is_name (b ∷ bs) = begins_name b && list_all continues_name bs

-- the bytes of the name or of the quoted text
abbrev pub bytes_of : Symbol → List ℕ
bytes_of (Plain bs) = bs
bytes_of (Quoted bs) = bs
bytes_of Tuple = []

-- a symbol of terms: a plain one has a name, a quoted one has bytes
abbrev pub IsSymbol : Symbol → Type 0
IsSymbol (Plain bs) = IsTrue (is_name bs)
IsSymbol (Quoted bs) = IsTrue (list_all is_byte bs)
IsSymbol Tuple = Unit {0}
