use Rattle.std.proofs.Common.{◌≡◌, map, take}
use Rattle.prim_registry.specs.Entries.{IsHonest, entries_of}
use Rattle.prim_registry.specs.Standard.{standard}
use Rattle.prim_registry.specs.StandardPrimitives.{key_of, standard_primitives}
use Rattle.strc_command.proofs.primitives.run_standard.Given as goal

abbrev pub invariant-loop-primitive : goal.invariant-loop-primitive
invariant-loop-primitive g l = record {
  silent : l.diagnostics ≡ l.fn.diagnostics;
  honest : IsHonest standard l.registry;
  registered : entries_of l.registry ≡ map key_of (take l.primitive-index standard_primitives);
}
