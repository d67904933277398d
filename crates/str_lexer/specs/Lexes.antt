-- The tokens that a text is.
use Rattle.std.specs.Prelude.{◌≡◌, ℕ, ◌+◌, Bool, true, false, ◌||◌, List, [], ◌∷◌, ◌++◌, length}
use Rattle.str_lexer.specs.declared.token.Token.{Token}
use Rattle.str_lexer.specs.declared.token.TokenKind.{TokenKind}
use Rattle.str_lexer.specs.declared.token.TokenKind.TheVariants as T
use Rattle.term_model.specs.Bytes.{is_blank}
use Rattle.str_lexer.specs.Tokens.{first_is, stays_on_line, stays_in_comment, IsRun, IsToken}

-- what may stand between tokens: a blank, // and the bytes after it, or the bytes between /* and */
pub data Gap : Type 0 where
  blank : ℕ → Gap
  line : List ℕ → Gap
  comment : List ℕ → Gap

abbrev pub gap_bytes : Gap → List ℕ
gap_bytes (blank b) = b ∷ []
gap_bytes (line inner) = 47 ∷ 47 ∷ inner
gap_bytes (comment inner) = 47 ∷ 42 ∷ (inner ++ (42 ∷ 47 ∷ []))

-- a line comment goes on up to a line feed or the end of the text, the other up to the first */
abbrev pub IsGap : Gap → List ℕ → Type 0
IsGap (blank b) rest = is_blank b ≡ true
IsGap (line inner) rest = IsRun (first_is stays_on_line) inner rest
IsGap (comment inner) rest = IsRun stays_in_comment inner (42 ∷ 47 ∷ rest)

-- the bytes begin with this gap, and the rest follows it
pub record BeginsGap (g : Gap) (bs rest : List ℕ) : Type 0 where
  pub bytes : bs ≡ gap_bytes g ++ rest
  pub is_gap : IsGap g rest

-- the bytes begin with this gap, and a list of this kind follows it
pub record GapThen (g : Gap) (Behind : List ℕ → Type 0) (bs : List ℕ) : Type 0 where
  pub rest : List ℕ
  pub begins : BeginsGap g bs rest
  pub following : Behind rest

-- the bytes are these gaps, and then the rest
abbrev pub Gaps : List Gap → List ℕ → List ℕ → Type 0
Gaps [] rest bs = bs ≡ rest
Gaps (g ∷ gs) rest bs = GapThen g (Gaps gs rest) bs

-- gaps and nothing else
pub record OnlyGaps (bs : List ℕ) : Type 0 where
  pub gaps : List Gap
  pub are_gaps : Gaps gaps [] bs

-- gaps, then the token, then bytes of this kind; the bytes are the end of a text of this size
pub record Begins (size : ℕ) (token : Token) (Behind : List ℕ → Type 0) (bs : List ℕ) : Type 0 where
  pub gaps : List Gap
  pub written : List ℕ
  pub rest : List ℕ
  pub are_gaps : Gaps gaps (written ++ rest) bs
  pub is_token : IsToken token.kind written rest
  pub from : token.from + length (written ++ rest) ≡ size
  pub to : token.to + length rest ≡ size
  pub following : Behind rest

-- the end of a text of this size is these tokens, with gaps around them
abbrev pub LexesEnd : ℕ → List ℕ → List Token → Type 0
LexesEnd size bs [] = OnlyGaps bs
LexesEnd size bs (t ∷ ts) = Begins size t (λ rest. LexesEnd size rest ts) bs

-- the text is these tokens
abbrev pub Lexes : List ℕ → List Token → Type 0
Lexes text ts = LexesEnd (length text) text ts

-- the text is these tokens, and no others
pub record OnlyTokens (text : List ℕ) (ts : List Token) : Type 0 where
  pub tokens : Lexes text ts
  pub only : (us : List Token) → Lexes text us → us ≡ ts

abbrev pub is_left_out : TokenKind → Bool
is_left_out (T.LeftOut _) = true
is_left_out _ = false

abbrev pub left_out : Token → Bool
left_out t = is_left_out t.kind

-- one of the tokens is a word of a left-out part
abbrev pub holds_left_out : List Token → Bool
holds_left_out [] = false
holds_left_out (t ∷ ts) = left_out t || holds_left_out ts

-- the text is tokens, in one way alone, and they hold a word of a left-out part
pub record HoldsLeftOut (text : List ℕ) : Type 0 where
  pub tokens : List Token
  pub only : OnlyTokens text tokens
  pub holds : holds_left_out tokens ≡ true
