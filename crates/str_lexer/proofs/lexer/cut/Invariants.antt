use Rattle.std.proofs.Common.{length}
use Rattle.str_lexer.specs.Readings.{IsSearch}
use Rattle.str_lexer.proofs.LexLaws.{Partly}
use Rattle.str_lexer.proofs.lexer.cut.Given as goal

abbrev pub invariant-loop-rest : goal.invariant-loop-rest
invariant-loop-rest l = Partly l.text l.tokens.items l.rest × IsSearch l.tokens.items l.left_out

abbrev pub decreases-loop-rest : goal.decreases-loop-rest
decreases-loop-rest l = length l.rest
