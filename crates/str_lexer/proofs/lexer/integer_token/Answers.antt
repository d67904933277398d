use Rattle.str_lexer.proofs.TokenLaws.{integer_missing}
use Rattle.str_lexer.proofs.lexer.integer_token.Goals as goal

pub returns-in_default : goal.returns-in_default
returns-in_default c = integer_missing _ _ c.requires c.in_default.is c.integer.ensures
