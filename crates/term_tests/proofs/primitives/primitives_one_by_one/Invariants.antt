use Rattle.prim_registry.specs.Entries.{IsHonest}
use Rattle.prim_registry.specs.Standard.{standard}
use Rattle.term_tests.proofs.primitives.primitives_one_by_one.Given as goal

abbrev pub invariant-loop-index : goal.invariant-loop-index
invariant-loop-index l = IsHonest standard l.registry
