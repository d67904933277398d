-- The tokens of the textual format of terms, as predicates on bytes.
-- Bytes are numbers: `(` is 40, `)` 41, `,` 44, `-` 45, `[` 91, `]` 93, `{` 123, `}` 125.
use Rattle.std.specs.Prelude.{◌≡◌, ℕ, Bool, true, false, List, [], ◌∷◌, ℤ}
use Rattle.std.specs.List.{list_all}
use Rattle.term_model.specs.Bytes.{is_blank, is_digit, value_from, signed}
use Rattle.term_model.specs.QuotedText.{Joined, Are, IsQuoted}
use Rattle.term_model.specs.Limits.{IsInRange}
use Rattle.term_model.specs.Symbol.{Symbol, Plain, Quoted, Tuple, is_name}

-- zero or more blanks
abbrev pub AreBlanks : List ℕ → Type 0
AreBlanks bs = list_all is_blank bs ≡ true

-- a token, then blanks
abbrev pub Token : (List ℕ → Type 0) → List ℕ → Type 0
Token P = Joined P AreBlanks

abbrev pub Mark : ℕ → List ℕ → Type 0
Mark c = Token (Are (c ∷ []))

-- one or more digits of this value
abbrev pub AreDigits : ℕ → List ℕ → Type 0
AreDigits n [] = ⊥
AreDigits n (d ∷ ds) = (list_all is_digit (d ∷ ds) ≡ true) × (value_from 0 (d ∷ ds) ≡ n)

-- the digits, after a minus where there is one
abbrev pub AreSigned : Bool → ℕ → List ℕ → Type 0
AreSigned false n bs = AreDigits n bs
AreSigned true n [] = ⊥
AreSigned true n (b ∷ bs) = (b ≡ 45) × AreDigits n bs

-- the integer, in range
abbrev pub IsInteger : ℤ → List ℕ → Type 0
IsInteger z bs = IsInRange z × (negative : Bool) × (n : ℕ) × (z ≡ signed negative n) × AreSigned negative n bs

abbrev pub IsName : List ℕ → List ℕ → Type 0
IsName name bs = (is_name name ≡ true) × (bs ≡ name)

-- a symbol: a name or a quoted text; that of tuples has no bytes of its own
abbrev pub IsSymbolText : Symbol → List ℕ → Type 0
IsSymbolText (Plain name) = IsName name
IsSymbolText (Quoted text) = IsQuoted text
IsSymbolText Tuple = λ _. ⊥
