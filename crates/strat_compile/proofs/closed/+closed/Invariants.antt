use Rattle.std.proofs.Common.{◌≤◌, drop, map}
use Rattle.core_lang.specs.InRange.{DefinitionsInRange, StrategiesInRange}
use Rattle.core_lang.specs.RangeOfCode.{ArmsInRange}
use Rattle.core_lang.specs.Views.{arm_of, definitions_of, strategies_of}
use Rattle.strat_compile.specs.Layers.{context_of}
use Rattle.strat_compile.specs.Sites.{program_layers}
use Rattle.strat_compile.proofs.closed.+closed.Given as goal

abbrev pub invariant-are_closed-loop-s : goal.invariant-are_closed-loop-s
invariant-are_closed-loop-s l = record {
  closed : StrategiesInRange (program_layers (context_of l.layers)) (strategies_of (drop l.s-index l.strategies)) →
      StrategiesInRange (program_layers (context_of l.layers)) (strategies_of l.strategies);
  limit : l.limit ≤ l.fn.limit;
}

abbrev pub invariant-are_arms_closed-loop-arm : goal.invariant-are_arms_closed-loop-arm
invariant-are_arms_closed-loop-arm l = record {
  closed : ArmsInRange (program_layers (context_of l.layers)) (map arm_of (drop l.arm-index l.arms)) →
      ArmsInRange (program_layers (context_of l.layers)) (map arm_of l.arms);
  limit : l.limit ≤ l.fn.limit;
}

abbrev pub invariant-are_definitions_closed-loop-def : goal.invariant-are_definitions_closed-loop-def
invariant-are_definitions_closed-loop-def l = record {
  closed : DefinitionsInRange (program_layers (context_of l.layers)) (definitions_of (drop l.def-index l.defs)) →
      DefinitionsInRange (program_layers (context_of l.layers)) (definitions_of l.defs);
  limit : l.limit ≤ l.fn.limit;
}
