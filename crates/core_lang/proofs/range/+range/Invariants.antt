use Rattle.std.proofs.Common.{drop, map}
use Rattle.std.specs.Prelude.{◌↔◌}
use Rattle.core_lang.specs.InRange.{StrategiesInRange, DefinitionsInRange}
use Rattle.core_lang.specs.Views.{strategies_of, arm_of, definitions_of}
use Rattle.core_lang.specs.RangeOfCode.{layers_of, ArmsInRange}
use Rattle.core_lang.proofs.range.+range.Given as goal

abbrev pub invariant-strategies_in_range-loop-s : goal.invariant-strategies_in_range-loop-s
invariant-strategies_in_range-loop-s l =
    StrategiesInRange (layers_of l.layers) (strategies_of l.strategies) ↔ StrategiesInRange (layers_of l.layers)
    (strategies_of (drop l.s-index l.strategies))

abbrev pub invariant-arms_in_range-loop-arm : goal.invariant-arms_in_range-loop-arm
invariant-arms_in_range-loop-arm l =
    ArmsInRange (layers_of l.layers) (map arm_of l.arms) ↔ ArmsInRange (layers_of l.layers)
    (map arm_of (drop l.arm-index l.arms))

abbrev pub invariant-definitions_in_range-loop-def : goal.invariant-definitions_in_range-loop-def
invariant-definitions_in_range-loop-def l =
    DefinitionsInRange (layers_of l.layers) (definitions_of l.defs) ↔ DefinitionsInRange (layers_of l.layers)
    (definitions_of (drop l.def-index l.defs))
