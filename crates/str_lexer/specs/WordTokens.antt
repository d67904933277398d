-- The headline does not rest on this file.
-- Which token each word is that is no name.
use Rattle.str_lexer.specs.declared.token.TokenKind.{TokenKind}
use Rattle.str_lexer.specs.declared.token.TokenKind.TheVariants as T
use Rattle.str_lexer.specs.declared.word.Reserved.{Reserved}
use Rattle.str_lexer.specs.declared.word.Reserved.TheVariants as R

abbrev pub kind_of : Reserved → TokenKind
kind_of R.Wildcard = T.Wildcard
kind_of (R.Keyword k) = T.Keyword k
kind_of (R.LeftOut w) = T.LeftOut w
