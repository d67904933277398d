use Rattle.std.proofs.Common.{◌≡◌, map, pos, take}
use Rattle.prim_registry.proofs.texts.integers.Given as goal

abbrev pub invariant-loop-byte : goal.invariant-loop-byte
invariant-loop-byte l = l.integers.items ≡ map pos (take l.byte-index l.bytes)
