use Rattle.std.proofs.Common.{map, take}
use Rattle.prim_registry.specs.Entries.{entry_of}
use Rattle.prim_registry.specs.RegistryNames.{HaveSame}
use Rattle.prim_registry.proofs.registry.Registry.names.Given as goal

abbrev pub invariant-loop-primitive : goal.invariant-loop-primitive
invariant-loop-primitive g l = HaveSame l.names (map entry_of (take l.primitive-index l.primitive-items))
