use Rattle.prim_registry.specs.Entries.{IsHonest}
use Rattle.prim_registry.specs.Standard.{standard}
use Rattle.term_tests.proofs.evaluator.primitives.Given as goal

abbrev pub invariant-loop-primitive : goal.invariant-loop-primitive
invariant-loop-primitive l = IsHonest standard l.registry
