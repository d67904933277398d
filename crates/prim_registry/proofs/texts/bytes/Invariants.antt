use Rattle.std.proofs.Common.{◌≡◌, map, take, true, unsigned_abs}
use Rattle.std.specs.List.{list_all}
use Rattle.prim_registry.specs.Standard.{is_byte}
use Rattle.prim_registry.proofs.texts.bytes.Given as goal

abbrev pub invariant-loop-integer : goal.invariant-loop-integer
invariant-loop-integer l = record {
  bytes : l.bytes.items ≡ map unsigned_abs (take l.integer-index l.integers);
  each : list_all is_byte (take l.integer-index l.integers) ≡ true;
}
