-- The headline does not rest on this file.
-- How many tokens and sections a definition file has.
use Rattle.std.specs.Prelude.{◌≡◌, ℕ, List, length}
use Rattle.str_lexer.specs.declared.token.Token.{Token}
use Rattle.str_lexer.specs.Lexes.{OnlyTokens}
use Rattle.str_syntax.specs.Trees.{FileTree}
use Rattle.str_parser.specs.Lexemes.{lexemes}
use Rattle.str_parser.specs.Phrases.{OnlyPhrase}

-- the text is this many tokens, which are the phrase of a file of this many sections, and of no other
pub record AreCounts (text : List ℕ) (tokens sections : ℕ) : Type 0 where
  pub ts : List Token
  pub file : FileTree
  pub are_tokens : OnlyTokens text ts
  pub is_phrase : OnlyPhrase (lexemes text ts) file
  pub token_count : tokens ≡ length ts
  pub section_count : sections ≡ length file.sections
