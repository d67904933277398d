use Rattle.std.proofs.Common.{◌≡◌, ◌<◌, ℕ, get_or, map}
use Rattle.prim_registry.specs.RegistryNames.{name_of}
use Rattle.prim_registry.proofs.registry.Registry.has_name.Given as goal

abbrev pub invariant-loop-primitive : goal.invariant-loop-primitive
invariant-loop-primitive g l = (k : ℕ) → k < l.primitive-index →
    get_or (map name_of l.primitive-items) k l.name ≡ l.name → ⊥
