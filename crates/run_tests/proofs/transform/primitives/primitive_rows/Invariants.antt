use Rattle.prim_registry.specs.Entries.{IsHonest}
use Rattle.prim_registry.specs.Standard.{standard}
use Rattle.run_tests.proofs.transform.primitives.primitive_rows.Given as goal

abbrev pub invariant-loop-primitive : goal.invariant-loop-primitive
invariant-loop-primitive l = IsHonest standard l.registry
