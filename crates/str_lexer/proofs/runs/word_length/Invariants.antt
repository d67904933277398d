use Rattle.std.proofs.Common.{◌≡◌, ◌+◌, drop}
use Rattle.str_lexer.specs.Tokens.{goes_on}
use Rattle.str_lexer.specs.Readings.{run_length}
use Rattle.str_lexer.proofs.runs.word_length.Given as goal

abbrev pub invariant-loop-index : goal.invariant-loop-index
invariant-loop-index l = l.index + run_length goes_on (drop l.index l.text) ≡ run_length goes_on l.text
