use Rattle.std.proofs.Common.{◌≡◌, ◌+◌, drop}
use Rattle.term_model.specs.Bytes.{is_digit}
use Rattle.str_lexer.specs.Tokens.{first_is}
use Rattle.str_lexer.specs.Readings.{run_length}
use Rattle.str_lexer.proofs.runs.digit_count.Given as goal

abbrev pub invariant-loop-index : goal.invariant-loop-index
invariant-loop-index l = l.index +
    run_length (first_is is_digit) (drop l.index l.text) ≡ run_length (first_is is_digit) l.text
