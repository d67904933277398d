use Rattle.str_lexer.proofs.TokenLaws.{quoted_missing}
use Rattle.str_lexer.proofs.lexer.quoted_token.Goals as goal

pub returns-in_default : goal.returns-in_default
returns-in_default c = quoted_missing _ _ c.requires c.in_default.is c.in_ok-value.ensures
