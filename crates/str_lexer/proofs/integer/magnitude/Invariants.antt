use Rattle.std.proofs.Common.{◌≡◌, ◌+◌, ◌≤◌, drop, length}
use Rattle.term_model.specs.IntegerBounds.{max_magnitude}
use Rattle.term_model.specs.Bytes.{is_digit, value_from}
use Rattle.str_lexer.specs.Tokens.{first_is}
use Rattle.str_lexer.specs.Readings.{run_length}
use Rattle.str_lexer.proofs.integer.magnitude.Given as goal

abbrev pub invariant-loop-digit : goal.invariant-loop-digit
invariant-loop-digit l = record {
  run : l.digit-index + run_length (first_is is_digit) (drop l.digit-index l.digits) ≡ length l.digits;
  value : value_from l.value (drop l.digit-index l.digits) ≡ value_from 0 l.digits;
  within : l.value ≤ max_magnitude l.negative;
}
