use Rattle.str_lexer.proofs.SliceLaws.{slices_of}
use Rattle.str_lexer.proofs.lexer.lex.Goals as goal

pub returns-clause-slices : goal.returns-clause-slices
returns-clause-slices c = slices_of _ _ c.in_ok-tokens.ensures.0.tokens
