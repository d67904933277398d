-- Tokens of a definition file with their texts.
use Rattle.std.specs.Prelude.{ℕ, ℤ, ◌-◌, take, drop, List, [], ◌∷◌, Bool, true, false}
use Rattle.str_lexer.specs.declared.token.Token.{Token}
use Rattle.str_lexer.specs.declared.token.TokenKind.{TokenKind}
use Rattle.str_lexer.specs.declared.token.TokenKind.TheVariants as T
use Rattle.str_lexer.specs.declared.token.Mark.{Mark}
use Rattle.str_lexer.specs.declared.token.Mark.TheVariants as M
use Rattle.str_lexer.specs.declared.token.Keyword.{Keyword}
use Rattle.str_lexer.specs.declared.token.Keyword.TheVariants as K

-- a token with its text
pub data Lexeme : Type 0 where
  name : List ℕ → Lexeme
  wildcard : Lexeme
  integer : ℤ → Lexeme
  quoted : List ℕ → Lexeme
  mark : Mark → Lexeme
  keyword : Keyword → Lexeme
  left_out : Lexeme

-- the token of this kind whose text is this
abbrev pub with_text : TokenKind → List ℕ → Lexeme
with_text T.Name bytes = name bytes
with_text T.Wildcard bytes = wildcard
with_text (T.Integer z) bytes = integer z
with_text (T.Quoted text) bytes = quoted text
with_text (T.Mark m) bytes = mark m
with_text (T.Keyword k) bytes = keyword k
with_text (T.LeftOut w) bytes = left_out

-- the token with its part of the text
abbrev pub lexeme_of : List ℕ → Token → Lexeme
lexeme_of text t = with_text t.kind (take (t.to - t.from) (drop t.from text))

abbrev pub lexemes : List ℕ → List Token → List Lexeme
lexemes text [] = []
lexemes text (t ∷ ts) = lexeme_of text t ∷ lexemes text ts

-- ---- what a part of a phrase can begin with

abbrev pub mark_begins_strategy : Mark → Bool
mark_begins_strategy M.Question = true
mark_begins_strategy M.Exclamation = true
mark_begins_strategy M.Less = true
mark_begins_strategy M.OpenParenthesis = true
mark_begins_strategy M.OpenBracket = true
mark_begins_strategy M.OpenBrace = true
mark_begins_strategy M.Backslash = true
mark_begins_strategy _ = false

abbrev pub keyword_begins_strategy : Keyword → Bool
keyword_begins_strategy K.Id = true
keyword_begins_strategy K.Fail = true
keyword_begins_strategy K.Where = true
keyword_begins_strategy K.Not = true
keyword_begins_strategy K.All = true
keyword_begins_strategy K.One = true
keyword_begins_strategy K.Some = true
keyword_begins_strategy K.If = true
keyword_begins_strategy K.Rec = true
keyword_begins_strategy K.Let = true
keyword_begins_strategy K.Prim = true
keyword_begins_strategy _ = false

abbrev pub begins_strategy : Lexeme → Bool
begins_strategy (name _) = true
begins_strategy (mark m) = mark_begins_strategy m
begins_strategy (keyword k) = keyword_begins_strategy k
begins_strategy _ = false

-- a < begins a build alone
abbrev pub mark_begins_pattern : Bool → Mark → Bool
mark_begins_pattern in_match M.OpenParenthesis = true
mark_begins_pattern in_match M.OpenBracket = true
mark_begins_pattern true M.Less = false
mark_begins_pattern false M.Less = true
mark_begins_pattern in_match _ = false

abbrev pub begins_pattern : Bool → Lexeme → Bool
begins_pattern in_match (name _) = true
begins_pattern in_match wildcard = true
begins_pattern in_match (integer _) = true
begins_pattern in_match (quoted _) = true
begins_pattern in_match (mark m) = mark_begins_pattern in_match m
begins_pattern in_match _ = false

abbrev pub begins_sort : Lexeme → Bool
begins_sort (name _) = true
begins_sort _ = false

-- the parts of phrases that nest
pub data Part : Type 0 where
  strategy_part : Part
  match_part : Part
  build_part : Part
  sort_part : Part

abbrev pub begins : Part → Lexeme → Bool
begins strategy_part = begins_strategy
begins match_part = begins_pattern true
begins build_part = begins_pattern false
begins sort_part = begins_sort

-- whether the first of the tokens can begin the part
abbrev pub first_begins : Part → List Lexeme → Bool
first_begins p [] = false
first_begins p (t ∷ ts) = begins p t
