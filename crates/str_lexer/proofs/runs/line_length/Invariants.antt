use Rattle.std.proofs.Common.{◌≡◌, ◌+◌, drop}
use Rattle.str_lexer.specs.Tokens.{first_is, stays_on_line}
use Rattle.str_lexer.specs.Readings.{run_length}
use Rattle.str_lexer.proofs.runs.line_length.Given as goal

abbrev pub invariant-loop-index : goal.invariant-loop-index
invariant-loop-index l = l.index +
    run_length (first_is stays_on_line) (drop l.index l.text) ≡ run_length (first_is stays_on_line) l.text
