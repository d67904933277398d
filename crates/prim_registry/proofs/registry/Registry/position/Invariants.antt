use Rattle.std.proofs.Common.{◌≡◌, ◌<◌, ℕ, get_or, map}
use Rattle.prim_registry.specs.Entries.{entry_of}
use Rattle.prim_registry.proofs.registry.Registry.position.Given as goal

abbrev pub invariant-loop-index : goal.invariant-loop-index
invariant-loop-index g l = (k : ℕ) → k < l.index →
    get_or (map entry_of l.primitive-items) k (l.name, l.arity) ≡ (l.name, l.arity) → ⊥
