use Rattle.std.proofs.Common.{◌≡◌, take}
use Rattle.strat_compile.proofs.names.copy_names.Given as goal

abbrev pub invariant-loop-index : goal.invariant-loop-index
invariant-loop-index l = l.made ≡ take l.index l.source
