use Rattle.prim_registry.specs.Entries.{IsHonest}
use Rattle.prim_registry.specs.Standard.{standard}
use Rattle.term_tests.proofs.primitives.a_name_is_registered_once.Given as goal

abbrev pub invariant-loop-arity : goal.invariant-loop-arity
invariant-loop-arity l = IsHonest standard l.registry
