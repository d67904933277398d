use Rattle.std.proofs.Common.{◌≤◌, drop}
use Rattle.strat_compile.specs.Known.{KnownSoFar}
use Rattle.strat_compile.specs.Layers.{site_of}
use Rattle.strat_compile.proofs.known.known_arguments.Given as goal

abbrev pub invariant-loop-strategy : goal.invariant-loop-strategy
invariant-loop-strategy l = (l.limit ≤ l.fn.limit) ×
    KnownSoFar (site_of l.layers) (site_of l.inside) l.strategies (drop l.strategy-index l.strategies) l.made.items
