use Rattle.std.proofs.Common.{drop, map}
use Rattle.core_lang.specs.Primitives.{OccursInAny, OccursInDefinitions}
use Rattle.core_lang.specs.PrimitivesOfCode.{OccursInArms}
use Rattle.core_lang.specs.Views.{strategies_of, arm_of, definitions_of}
use Rattle.core_lang.proofs.PrimitivesOfCodeLaws.{AddsSoFar}
use Rattle.core_lang.proofs.primitives.+primitives.Given as goal

abbrev pub invariant-add_strategies-loop-s : goal.invariant-add_strategies-loop-s
invariant-add_strategies-loop-s l =
    AddsSoFar l.initial.names (λ f k. OccursInAny f k (strategies_of l.strategies))
    (λ f k. OccursInAny f k (strategies_of (drop l.s-index l.strategies))) l.names

abbrev pub invariant-add_arms-loop-arm : goal.invariant-add_arms-loop-arm
invariant-add_arms-loop-arm l =
    AddsSoFar l.initial.names (λ f k. OccursInArms f k (map arm_of l.arms))
    (λ f k. OccursInArms f k (map arm_of (drop l.arm-index l.arms))) l.names

abbrev pub invariant-add_definitions-loop-def : goal.invariant-add_definitions-loop-def
invariant-add_definitions-loop-def l =
    AddsSoFar l.initial.names (λ f k. OccursInDefinitions f k (definitions_of l.defs))
    (λ f k. OccursInDefinitions f k (definitions_of (drop l.def-index l.defs))) l.names
