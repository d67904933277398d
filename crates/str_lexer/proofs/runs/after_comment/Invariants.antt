use Rattle.std.proofs.Common.{◌≡◌, ◌+◌, drop}
use Rattle.str_lexer.specs.Tokens.{stays_in_comment}
use Rattle.str_lexer.specs.Readings.{run_length}
use Rattle.str_lexer.proofs.runs.after_comment.Given as goal

abbrev pub invariant-loop-index : goal.invariant-loop-index
invariant-loop-index l = l.index +
    run_length stays_in_comment (drop l.index l.text) ≡ run_length stays_in_comment l.text
