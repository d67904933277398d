use Rattle.std.proofs.Common.{◌+◌, ◌*◌, map, drop}
use Rattle.core_lang.specs.Views.{arm_of, strategy_of}
use Rattle.strat_code.specs.CodeOf.{argument_of}
use Rattle.strat_compile.specs.Emission.{EmitsRest, PutsArms}
use Rattle.strat_compile.specs.ChainOf.{bodies_of}
use Rattle.strat_compile.specs.Layers.{site_of}
use Rattle.strat_compile.specs.Output.{emitted_of}
use Rattle.strat_compile.proofs.EmissionLaws.{ArgumentsLeft, BodiesLeft}
use Rattle.strat_compile.proofs.+emission.Given as goal

abbrev pub invariant-choices::emit_arms-loop-index : goal.invariant-choices::emit_arms-loop-index
invariant-choices::emit_arms-loop-index l =
    PutsArms l.places (site_of l.layers) (map arm_of (drop l.index l.arms)) l.end (bodies_of l.fn.chain)
    l.fn.chain.last (emitted_of l.fn.out) (bodies_of l.chain) l.chain.last (emitted_of l.out)

abbrev pub invariant-calls::emit_arguments-loop-s : goal.invariant-calls::emit_arguments-loop-s
invariant-calls::emit_arguments-loop-s l =
    ArgumentsLeft (site_of l.layers) l.strategies (drop l.s-index l.strategies) (map argument_of l.made.items)
    (emitted_of l.fn.out) (emitted_of l.out)

abbrev pub invariant-emit::emit_bodies-loop-def : goal.invariant-emit::emit_bodies-loop-def
invariant-emit::emit_bodies-loop-def l =
    BodiesLeft (site_of l.layers) l.first_label l.label l.defs (drop l.def-index l.defs) (emitted_of l.fn.out)
    (emitted_of l.out)

abbrev pub invariant-emit::emit_rest-loop-index : goal.invariant-emit::emit_rest-loop-index
invariant-emit::emit_rest-loop-index l =
    EmitsRest l.places (site_of l.layers) l.charged (map strategy_of (drop l.index l.rest)) (emitted_of l.fn.out)
    (emitted_of l.out)

abbrev pub decreases-emit::emit : goal.decreases-emit::emit
decreases-emit::emit l = 8 * l.depth

abbrev pub decreases-emit::emit_ended : goal.decreases-emit::emit_ended
decreases-emit::emit_ended l = 8 * l.depth + 1

abbrev pub decreases-emit::emit_body : goal.decreases-emit::emit_body
decreases-emit::emit_body l = 8 * l.depth + 2

abbrev pub decreases-emit::emit_definition : goal.decreases-emit::emit_definition
decreases-emit::emit_definition l = 8 * l.depth + 3

abbrev pub decreases-emit::emit_bodies : goal.decreases-emit::emit_bodies
decreases-emit::emit_bodies l = 8 * l.depth + 4

abbrev pub decreases-emit::emit_definitions : goal.decreases-emit::emit_definitions
decreases-emit::emit_definitions l = 8 * l.depth + 5

abbrev pub decreases-emit::emit_rest : goal.decreases-emit::emit_rest
decreases-emit::emit_rest l = 8 * l.depth + 1

abbrev pub decreases-emit::emit_scope : goal.decreases-emit::emit_scope
decreases-emit::emit_scope l = 8 * l.depth + 1

abbrev pub decreases-emit::emit_inner_scope : goal.decreases-emit::emit_inner_scope
decreases-emit::emit_inner_scope l = 8 * l.depth + 1

abbrev pub decreases-emit::emit_traversal : goal.decreases-emit::emit_traversal
decreases-emit::emit_traversal l = 8 * l.depth + 1

abbrev pub decreases-calls::emit_argument : goal.decreases-calls::emit_argument
decreases-calls::emit_argument l = 8 * l.depth + 1

abbrev pub decreases-calls::emit_arguments : goal.decreases-calls::emit_arguments
decreases-calls::emit_arguments l = 8 * l.depth + 2

abbrev pub decreases-calls::emit_ordinary_call : goal.decreases-calls::emit_ordinary_call
decreases-calls::emit_ordinary_call l = 8 * l.depth + 3

abbrev pub decreases-calls::emit_any_call : goal.decreases-calls::emit_any_call
decreases-calls::emit_any_call l = 8 * l.depth + 4

abbrev pub decreases-calls::emit_in_place : goal.decreases-calls::emit_in_place
decreases-calls::emit_in_place l = 8 * l.depth + 1

abbrev pub decreases-calls::emit_specialization : goal.decreases-calls::emit_specialization
decreases-calls::emit_specialization l = 8 * l.depth + 3

abbrev pub decreases-calls::emit_definition_call : goal.decreases-calls::emit_definition_call
decreases-calls::emit_definition_call l = 8 * l.depth + 6

abbrev pub decreases-calls::emit_call : goal.decreases-calls::emit_call
decreases-calls::emit_call l = 8 * l.depth + 7

abbrev pub decreases-choices::emit_then : goal.decreases-choices::emit_then
decreases-choices::emit_then l = 8 * l.depth + 1

abbrev pub decreases-choices::emit_arm : goal.decreases-choices::emit_arm
decreases-choices::emit_arm l = 8 * l.depth + 2

abbrev pub decreases-choices::emit_joined : goal.decreases-choices::emit_joined
decreases-choices::emit_joined l = 8 * l.depth + 1

abbrev pub decreases-choices::emit_next : goal.decreases-choices::emit_next
decreases-choices::emit_next l = 8 * l.depth + 3

abbrev pub decreases-choices::emit_first : goal.decreases-choices::emit_first
decreases-choices::emit_first l = 8 * l.depth + 3

abbrev pub decreases-choices::emit_arms : goal.decreases-choices::emit_arms
decreases-choices::emit_arms l = 8 * l.depth + 4

abbrev pub decreases-open_calls::emit_part : goal.decreases-open_calls::emit_part
decreases-open_calls::emit_part l = 8 * l.depth + 1

abbrev pub decreases-open_calls::emit_then_part : goal.decreases-open_calls::emit_then_part
decreases-open_calls::emit_then_part l = 8 * l.depth + 2

abbrev pub decreases-open_calls::emit_conditional : goal.decreases-open_calls::emit_conditional
decreases-open_calls::emit_conditional l = 8 * l.depth + 3

abbrev pub decreases-open_calls::emit_open_call : goal.decreases-open_calls::emit_open_call
decreases-open_calls::emit_open_call l = 8 * l.depth + 5
