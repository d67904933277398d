-- The headline does not rest on this file.
-- What the parts of the lexer read at the front of bytes.
use Rattle.std.specs.Prelude.{◌≡◌, ◌<◌, get_or, length, ℕ, ℤ, ◌+◌, Bool, true, false, ◌||◌, ◌==◌, if◌then◌else◌, List, [], ◌∷◌, ◌++◌, Option, Some, None, Result, Ok, Err}
use Rattle.std.specs.Borrow.{Bor}
use Rattle.std.specs.declared.vec.Vec.{Vec}
use Rattle.std.specs.declared.alloc.Global.{Global}
use Rattle.term_model.specs.Bytes.{is_digit, is_between, is_octal}
use Rattle.term_model.specs.QuotedText.{Item}
use Rattle.term_model.specs.declared.fault.Fault.{Fault}
use Rattle.term_model.specs.declared.fault.Fault.TheVariants as faults
use Rattle.str_lexer.specs.declared.token.Token.{Token}
use Rattle.str_lexer.specs.declared.token.TokenKind.{TokenKind}
use Rattle.str_lexer.specs.declared.token.TokenKind.TheVariants as T
use Rattle.str_lexer.specs.declared.token.Mark.{Mark}
use Rattle.str_lexer.specs.declared.word.Reserved.{Reserved}
use Rattle.str_lexer.specs.declared.word.Reserved.TheVariants as R
use Rattle.str_lexer.specs.Words.{mark_bytes}
use Rattle.str_lexer.specs.Tokens.{first_is, IsRun, stays_in_comment, with_sign, mark_goes_on, IsToken}
use Rattle.str_lexer.specs.Lexes.{Gap, BeginsGap, Lexes, OnlyTokens, holds_left_out}

-- how many bytes from the front on pass the test, each with all that follows it
abbrev pub run_length : (List ℕ → Bool) → List ℕ → ℕ
run_length test [] = 0
run_length test (b ∷ bs) = if test (b ∷ bs) then 1 + run_length test bs else 0

-- the bytes begin with this token, and the rest follows it
pub record BeginsToken (t : TokenKind) (bs rest : List ℕ) : Type 0 where
  pub written : List ℕ
  pub bytes : bs ≡ written ++ rest
  pub is_token : IsToken t written rest

-- the bytes begin with no token
abbrev pub NoToken : List ℕ → Type 0
NoToken bs = (u : TokenKind) (other : List ℕ) → BeginsToken u bs other → ⊥

-- the word stands in the list
abbrev pub IsAmong : Reserved → List Reserved → Type 0
IsAmong r rs = (i : ℕ) × (i < length rs) × (get_or rs i R.Wildcard ≡ r)

-- the token and the rest, or nothing where there is no token
abbrev pub IsTokenRead : List ℕ → Option (TokenKind × Bor (List ℕ)) → Type 0
IsTokenRead bs (Some (t, rest)) = BeginsToken t bs rest.now
IsTokenRead bs None = NoToken bs

-- ---- gaps

-- the bytes after this one
abbrev pub IsByteRead : ℕ → List ℕ → Option (Bor (List ℕ)) → Type 0
IsByteRead b bs (Some rest) = bs ≡ b ∷ rest.now
IsByteRead b bs None = first_is (λ c. c == b) bs ≡ false

-- the bytes after */
abbrev pub IsCloseAt : List ℕ → Option (Bor (List ℕ)) → Type 0
IsCloseAt bs (Some rest) = bs ≡ 42 ∷ 47 ∷ rest.now
IsCloseAt [] None = Unit {0}
IsCloseAt (b ∷ bs) None = stays_in_comment (b ∷ bs) ≡ true

-- the rest follows the first */
pub record Closes (bs rest : List ℕ) : Type 0 where
  pub inner : List ℕ
  pub bytes : bs ≡ inner ++ (42 ∷ 47 ∷ rest)
  pub run : IsRun stays_in_comment inner (42 ∷ 47 ∷ rest)

-- the bytes after the first */
abbrev pub IsCloseRead : List ℕ → Option (Bor (List ℕ)) → Type 0
IsCloseRead bs (Some rest) = Closes bs rest.now
IsCloseRead bs None = (other : List ℕ) → Closes bs other → ⊥

-- the gap and the rest
pub record FoundGap (bs rest : List ℕ) : Type 0 where
  pub gap : Gap
  pub begins : BeginsGap gap bs rest

abbrev pub IsGapRead : List ℕ → Option (Bor (List ℕ)) → Type 0
IsGapRead bs (Some rest) = FoundGap bs rest.now
IsGapRead bs None = (g : Gap) (other : List ℕ) → BeginsGap g bs other → ⊥

-- ---- integers

-- a digit, or - and a digit
abbrev pub begins_integer : List ℕ → Bool
begins_integer [] = false
begins_integer (b ∷ bs) = if b == 45 then first_is is_digit bs else is_digit b

-- the integer and the rest
abbrev pub IsIntegerRead : List ℕ → Option (ℤ × Bor (List ℕ)) → Type 0
IsIntegerRead bs (Some (z, rest)) = BeginsToken (T.Integer z) bs rest.now
IsIntegerRead bs None = (z : ℤ) (other : List ℕ) → BeginsToken (T.Integer z) bs other → ⊥

-- the integer of this sign
abbrev pub IsSignedRead : Bool → List ℕ → Option (ℤ × Bor (List ℕ)) → Type 0
IsSignedRead negative bs read = IsIntegerRead (with_sign negative bs) read

-- ---- quoted texts

-- an item that spells the byte, and the rest
pub record FoundItem (byte : ℕ) (bs rest : List ℕ) : Type 0 where
  pub written : List ℕ
  pub bytes : bs ≡ written ++ rest
  pub item : Item byte written

abbrev pub NoItem : List ℕ → Type 0
NoItem bs = (byte : ℕ) (other : List ℕ) → FoundItem byte bs other → ⊥

abbrev pub IsItemRead : List ℕ → Option (ℕ × Bor (List ℕ)) → Type 0
IsItemRead bs (Some (byte, rest)) = FoundItem byte bs rest.now
IsItemRead bs None = NoItem bs

-- the item of these bytes after a \
abbrev pub IsEscapeRead : List ℕ → Option (ℕ × Bor (List ℕ)) → Type 0
IsEscapeRead bs read = IsItemRead (92 ∷ bs) read

-- three octal digits from 000 to 377, and the rest
pub record BeginsOctal (x y z : ℕ) (bs rest : List ℕ) : Type 0 where
  pub bytes : bs ≡ x ∷ y ∷ z ∷ rest
  pub high : is_between 48 51 x ≡ true
  pub middle : is_octal y ≡ true
  pub low : is_octal z ≡ true

-- the item of three digits after a \
abbrev pub IsOctalRead : List ℕ → Option (ℕ × Bor (List ℕ)) → Type 0
IsOctalRead bs (Some (byte, rest)) = FoundItem byte (92 ∷ bs) rest.now
IsOctalRead bs None = (x y z : ℕ) (other : List ℕ) → BeginsOctal x y z bs other → ⊥

-- the quoted text and the rest
abbrev pub IsQuotedRead : List ℕ → Option (List ℕ × Bor (List ℕ)) → Type 0
IsQuotedRead bs (Some (text, rest)) = BeginsToken (T.Quoted text) bs rest.now
IsQuotedRead bs None = (text : List ℕ) (other : List ℕ) → BeginsToken (T.Quoted text) bs other → ⊥

-- ---- marks

-- the mark and the rest
pub record BeginsMark (m : Mark) (bs rest : List ℕ) : Type 0 where
  pub bytes : bs ≡ mark_bytes m ++ rest
  pub longest : mark_goes_on m rest ≡ false

abbrev pub IsMarkRead : List ℕ → Option (Mark × Bor (List ℕ)) → Type 0
IsMarkRead bs (Some (m, rest)) = BeginsMark m bs rest.now
IsMarkRead bs None = (m : Mark) (other : List ℕ) → bs ≡ mark_bytes m ++ other → ⊥

-- a byte that a mark of two bytes begins with
abbrev pub begins_longer : ℕ → Bool
begins_longer b = (b == 60 || b == 61) || b == 45

-- the mark of this byte alone
abbrev pub IsShortMark : ℕ → Option Mark → Type 0
IsShortMark b (Some m) = (mark_bytes m ≡ b ∷ []) × ((rest : List ℕ) → mark_goes_on m rest ≡ false)
IsShortMark b None = (m : Mark) (rest other : List ℕ) → b ∷ rest ≡ mark_bytes m ++ other → ⊥

-- ---- the whole text

-- whether the tokens hold a word of a left-out part: a place where they do
abbrev pub IsSearch : List Token → Option ℕ → Type 0
IsSearch ts (Some _) = holds_left_out ts ≡ true
IsSearch ts None = holds_left_out ts ≡ false

-- what cutting a text into tokens returns: the tokens, and whether they hold a word of a left-out part; or Lexical
-- where there are none
abbrev pub IsCutting : List ℕ → Result (Vec Token Global × Option ℕ) Fault → Type 0
IsCutting text (Ok (ts, found)) = OnlyTokens text ts.items × IsSearch ts.items found
IsCutting text (Err faults.Memory) = Unit {0}
IsCutting text (Err (faults.Lexical _)) = (ts : List Token) → Lexes text ts → ⊥
IsCutting text (Err _) = ⊥
