-- The tokens of definition files: which bytes are which tokens.
use Rattle.std.specs.Prelude.{◌≡◌, ℕ, Bool, true, false, ◌||◌, ◌==◌, if◌then◌else◌, List, [], ◌∷◌, ◌++◌, ℤ}
use Rattle.term_model.specs.Bytes.{is_digit, value_from, signed}
use Rattle.term_model.specs.Limits.{IsInRange}
use Rattle.term_model.specs.QuotedText.{IsQuoted}
use Rattle.term_model.specs.Symbol.{begins_name}
use Rattle.str_lexer.specs.declared.token.Mark.{Mark}
use Rattle.str_lexer.specs.declared.token.Mark.TheVariants as M
use Rattle.str_lexer.specs.declared.token.TokenKind.{TokenKind}
use Rattle.str_lexer.specs.declared.token.TokenKind.TheVariants as T
use Rattle.str_lexer.specs.declared.word.Reserved.{Reserved}
use Rattle.str_lexer.specs.declared.word.Reserved.TheVariants as R
use Rattle.str_lexer.specs.Words.{reserved_bytes, mark_bytes}

-- ---- bytes and runs of them

-- a letter, a digit, _ or '
abbrev pub continues_word : ℕ → Bool
continues_word b = (begins_name b || is_digit b) || b == 39

-- whether the first of these bytes passes the test
abbrev pub first_is : (ℕ → Bool) → List ℕ → Bool
first_is test [] = false
first_is test (b ∷ bs) = test b

-- a word goes on with the first of these bytes: one that continues a word, or a - that no > follows
abbrev pub goes_on : List ℕ → Bool
goes_on [] = false
goes_on (b ∷ bs) = if b == 45 then (if first_is (λ c. c == 62) bs then false else true) else continues_word b

-- no line feed
abbrev pub stays_on_line : ℕ → Bool
stays_on_line b = if b == 10 then false else true

-- there is a byte, and it does not begin */
abbrev pub stays_in_comment : List ℕ → Bool
stays_in_comment [] = false
stays_in_comment (b ∷ bs) = if b == 42 then (if first_is (λ c. c == 47) bs then false else true) else true

-- each of these bytes passes the test, with all that follows it, and the rest does not
abbrev pub IsRun : (List ℕ → Bool) → List ℕ → List ℕ → Type 0
IsRun test [] rest = test rest ≡ false
IsRun test (b ∷ bs) rest = (test (b ∷ (bs ++ rest)) ≡ true) × IsRun test bs rest

-- ---- words and marks

-- a letter or _, and the longest run after it
abbrev pub IsWord : List ℕ → List ℕ → Type 0
IsWord [] rest = ⊥
IsWord (b ∷ bs) rest = (begins_name b ≡ true) × IsRun goes_on bs rest

-- a word that is this one of those that are no names
abbrev pub IsReserved : Reserved → List ℕ → List ℕ → Type 0
IsReserved r bs rest = (bs ≡ reserved_bytes r) × IsWord bs rest

-- the mark is longer with the first of these bytes: => and <+
abbrev pub mark_goes_on : Mark → List ℕ → Bool
mark_goes_on M.Equals rest = first_is (λ c. c == 62) rest
mark_goes_on M.Less rest = first_is (λ c. c == 43) rest
mark_goes_on _ rest = false

-- ---- integers

-- one or more digits of this value, in the longest run
pub record AreDigits (n : ℕ) (ds rest : List ℕ) : Type 0 where
  pub one : first_is is_digit ds ≡ true
  pub run : IsRun (first_is is_digit) ds rest
  pub value : value_from 0 ds ≡ n

-- the bytes, after the sign of an integer where it is negative
abbrev pub with_sign : Bool → List ℕ → List ℕ
with_sign negative bs = if negative then 45 ∷ bs else bs

-- digits, after a - where there is one, of an integer in range
pub record IsInteger (z : ℤ) (bs rest : List ℕ) : Type 0 where
  pub negative : Bool
  pub size : ℕ
  pub ds : List ℕ
  pub bytes : bs ≡ with_sign negative ds
  pub digits : AreDigits size ds rest
  pub value : z ≡ signed negative size
  pub in_range : IsInRange z

-- ---- tokens

-- these bytes are the token, where the rest follows them
abbrev pub IsToken : TokenKind → List ℕ → List ℕ → Type 0
IsToken T.Name bs rest = IsWord bs rest × ((r : Reserved) → reserved_bytes r ≡ bs → ⊥)
IsToken T.Wildcard bs rest = IsReserved R.Wildcard bs rest
IsToken (T.Keyword k) bs rest = IsReserved (R.Keyword k) bs rest
IsToken (T.LeftOut w) bs rest = IsReserved (R.LeftOut w) bs rest
IsToken (T.Integer z) bs rest = IsInteger z bs rest
IsToken (T.Quoted text) bs rest = IsQuoted text bs
IsToken (T.Mark m) bs rest = (bs ≡ mark_bytes m) × (mark_goes_on m rest ≡ false)
