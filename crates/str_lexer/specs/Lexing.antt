-- The headline does not rest on this file.
-- What lexing returns.
use Rattle.std.specs.Prelude.{◌≡◌, ℕ, ◌-◌, ◌<◌, ◌≤◌, take, drop, false, List, [], ◌∷◌, length, Result, Ok, Err}
use Rattle.std.specs.declared.vec.Vec.{Vec}
use Rattle.std.specs.declared.alloc.Global.{Global}
use Rattle.term_model.specs.declared.fault.Fault.{Fault}
use Rattle.term_model.specs.declared.fault.Fault.TheVariants as faults
use Rattle.str_lexer.specs.declared.token.Token.{Token}
use Rattle.str_lexer.specs.Tokens.{IsToken}
use Rattle.str_lexer.specs.Lexes.{Lexes, OnlyTokens, HoldsLeftOut, holds_left_out}

-- the token lies in the text, and is what its slice spells there
pub record IsSlice (text : List ℕ) (t : Token) : Type 0 where
  pub ordered : t.from < t.to
  pub within : t.to ≤ length text
  pub is_token : IsToken t.kind (take (t.to - t.from) (drop t.from text)) (drop t.to text)

-- the tokens are slices of the text from this place on, one after the other
abbrev pub AreSlices : List ℕ → ℕ → List Token → Type 0
AreSlices text at [] = Unit {0}
AreSlices text at (t ∷ ts) = (at ≤ t.from) × IsSlice text t × AreSlices text t.to ts

-- what reading a text returns: the tokens; Lexical where there are none; ReservedWord where they hold a word of a
-- left-out part
abbrev pub IsLexing : List ℕ → Result (Vec Token Global) Fault → Type 0
IsLexing text (Ok ts) = OnlyTokens text ts.items × (holds_left_out ts.items ≡ false)
IsLexing text (Err faults.Memory) = Unit {0}
IsLexing text (Err (faults.Lexical _)) = (ts : List Token) → Lexes text ts → ⊥
IsLexing text (Err (faults.ReservedWord _)) = HoldsLeftOut text
IsLexing text (Err _) = ⊥
