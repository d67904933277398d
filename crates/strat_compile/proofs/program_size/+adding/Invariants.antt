use Rattle.std.proofs.Common.{◌≤◌, ◌+◌, drop, map}
use Rattle.core_lang.specs.Views.{arm_of, definitions_of, strategies_of}
use Rattle.strat_compile.specs.Size.{arms_size, program_size, strategies_size}
use Rattle.strat_compile.proofs.program_size.+adding.Given as goal

abbrev pub invariant-add_definitions-loop-def : goal.invariant-add_definitions-loop-def
invariant-add_definitions-loop-def l =
    l.size + program_size (definitions_of (drop l.def-index l.defs)) ≤ l.fn.size + program_size (definitions_of l.defs)

abbrev pub invariant-add_strategies-loop-s : goal.invariant-add_strategies-loop-s
invariant-add_strategies-loop-s l =
    l.size + strategies_size (strategies_of (drop l.s-index l.strategies)) ≤
    l.fn.size + strategies_size (strategies_of l.strategies)

abbrev pub invariant-add_arms-loop-arm : goal.invariant-add_arms-loop-arm
invariant-add_arms-loop-arm l =
    l.size + arms_size (map arm_of (drop l.arm-index l.arms)) ≤ l.fn.size + arms_size (map arm_of l.arms)
