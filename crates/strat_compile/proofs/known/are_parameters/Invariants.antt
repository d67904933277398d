use Rattle.std.proofs.Common.{drop}
use Rattle.core_lang.specs.Views.{strategies_of}
use Rattle.strat_compile.specs.Known.{AreParameters}
use Rattle.strat_compile.proofs.known.are_parameters.Given as goal

abbrev pub invariant-loop-index : goal.invariant-loop-index
invariant-loop-index l = AreParameters l.layers_up l.index (strategies_of (drop l.index l.strategies)) →
    AreParameters l.layers_up 0 (strategies_of l.strategies)
