use Rattle.std.proofs.Common.{◌≡◌, map, take}
use Rattle.prim_registry.proofs.FlatLaws.{integer_term}
use Rattle.core_eval.proofs.flat_values.integers.Given as goal

abbrev pub invariant-loop-number : goal.invariant-loop-number
invariant-loop-number l = l.terms.items ≡ map integer_term (take l.number-index l.numbers)
