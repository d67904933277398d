use Rattle.std.proofs.Common.{◌≡◌, drop, map, take}
use Rattle.core_lang.specs.Views as views
use Rattle.str_syntax.specs.Views.{definition_of, patterns_of, strategies_of}
use Rattle.signature_core.specs.Signature.{arity_known}
use Rattle.str_desugar.specs.Equations.{alternative_core}
use Rattle.str_desugar.specs.Groups.{body_among}
use Rattle.str_desugar.specs.Layers.{layers_of}
use Rattle.str_desugar.proofs.WalkLaws.{Gives, Parts, Hands}
use Rattle.str_desugar.proofs.+walk.Given as goal

abbrev pub invariant-build::results_in-loop-source : goal.invariant-build::results_in-loop-source
invariant-build::results_in-loop-source l =
    Gives (layers_of l.scopes) (arity_known l.context.signature.now) l.initial.next (patterns_of l.sources)
    (map views.strategy_of l.initial.items.items) l.next (map views.strategy_of l.items.items)
    (patterns_of (drop l.source-index l.sources))

abbrev pub invariant-congruence::items_of-loop-index : goal.invariant-congruence::items_of-loop-index
invariant-congruence::items_of-loop-index l =
    Parts (layers_of l.scopes) (arity_known l.context.signature.now) l.count (strategies_of l.sources)
    l.index (map views.strategy_of l.items.items) (strategies_of (drop l.index l.sources))

abbrev pub invariant-call::strategy_arguments-loop-source : goal.invariant-call::strategy_arguments-loop-source
invariant-call::strategy_arguments-loop-source l =
    Hands (layers_of l.scopes) (arity_known l.context.signature.now) (strategies_of l.sources)
    (map views.strategy_of l.made.items) (strategies_of (drop l.source-index l.sources))

abbrev pub invariant-locals::bodies-loop-source : goal.invariant-locals::bodies-loop-source
invariant-locals::bodies-loop-source l =
    map views.strategy_of l.made.items ≡
    map (λ d. body_among (layers_of l.scopes)
    l.groups (alternative_core (arity_known l.context.signature.now) (definition_of d)))
    (take l.source-index l.sources)
