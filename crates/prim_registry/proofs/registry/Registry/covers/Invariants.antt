use Rattle.std.proofs.Common.{ℕ, ◌<◌, Contains}
use Rattle.term_model.specs.NameSet.{key_at}
use Rattle.prim_registry.specs.Entries.{entries_of}
use Rattle.prim_registry.proofs.registry.Registry.covers.Given as goal

abbrev pub invariant-loop-index : goal.invariant-loop-index
invariant-loop-index g l = (k : ℕ) → k < l.index → Contains (entries_of l.self) (key_at l.names k)
