use Rattle.std.proofs.Common.{◌≡◌, take}
use Rattle.str_desugar.proofs.names.Hashed.of.Given as goal

abbrev pub invariant-loop-name : goal.invariant-loop-name
invariant-loop-name l = l.made ≡ take l.name-index l.source
