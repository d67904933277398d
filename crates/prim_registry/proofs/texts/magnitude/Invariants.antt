use Rattle.std.proofs.Common.{◌≡◌, ◌≤◌, drop}
use Rattle.term_model.specs.IntegerBounds.{max_magnitude}
use Rattle.term_model.specs.Bytes.{value_from}
use Rattle.prim_registry.proofs.texts.magnitude.Given as goal

abbrev pub invariant-loop-digit : goal.invariant-loop-digit
invariant-loop-digit l = record {
  value : value_from l.value (drop l.digit-index l.digits) ≡ value_from 0 l.digits;
  within : l.value ≤ max_magnitude l.negative;
}
