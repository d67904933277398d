use Rattle.std.proofs.Common.{◌∷◌, [], List, map, drop, ◌+◌, ◌≡◌, ap, ap₂, refl, subst, ◌∙◌, sym, drop_of_length-le}
use Rattle.std.proofs.lemmas.List.{map-append, take_all}
use Rattle.std.specs.Result.{IfOk}
use Rattle.core_lang.specs.Named.{written}
use Rattle.core_lang.specs.Program.{call, match, no_patterns, primitive, seq, with_definitions}
use Rattle.core_lang.specs.Resolved.{ResolvedStrategy}
use Rattle.core_lang.specs.Views as views
use Rattle.str_syntax.proofs.ReadLaws.{reads_all_arguments, reads_let, reads_list_congruence, reads_strategy_arguments}
use Rattle.str_syntax.specs.Arity.{number_of_strategies}
use Rattle.str_syntax.specs.Trees as trees
use Rattle.str_syntax.specs.Trees.{PatternTrees, PrimaryTree, StrategyTrees, no_strategy}
use Rattle.str_syntax.specs.Views.{arguments_of, definition_of, definitions_of, optional_strategy_of, pattern_of, primary_of, patterns_of, strategy_of, strategies_of}
use Rattle.signature_core.specs.Signature.{arity_known}
use Rattle.str_desugar.specs.Equations.{alternative_core, alternatives, build_after, built, built_parts, call_after, constructor_symbol, elements_congruence, matched, parts, primary_core, results, results_among, strategies_core, strategy_core, symbol_congruence, where_core}
use Rattle.str_desugar.specs.Frames.{strategy_at}
use Rattle.str_desugar.specs.Groups.{body_among}
use Rattle.str_desugar.specs.Layers.{layers_of}
use Rattle.str_desugar.proofs.LocalLaws.{bodies_all, bodies_counted, body_made, definitions_made, recursive_made}
use Rattle.str_desugar.proofs.PatternLaws.{next_pattern}
use Rattle.str_desugar.proofs.WalkLaws.{Gives, gives_more, gives_all, gives_counted, Parts, parts_more, parts_all, Hands, hands_more, hands_all, from_none, next_strategy, before_rest_made, build_made, call_made, elements_made, list_rest_made, other, scope_made, rule_made, rule_plain_made, symbol_made, with_rest_made}
use Rattle.str_desugar.proofs.+walk.Goals as goal

pub build::build-returns : goal.build::build-returns
build::build-returns t c =
    let F = layers_of c.args.scopes.now in
    let D = arity_known c.args.context.now.signature.now in
    let p = pattern_of c.args.source.now in
    let each = from_none _ _ _ c.new-items.ensures.items c.in_ok-results_of.ensures.items in
    build_made c.in_ok-names.names c.in_ok-count.count _ (built 0 p) (results D 0 p)
    _ _ _ c.if-count-eq0.false c.in_ok-names.ensures each c.in_ok-last.ensures c.in_ok-made.ensures ∙
    ap (λ n. strategy_at F (build_after n (results D 0 p) (built 0 p))) c.in_ok-count.ensures

pub build::results_in-loop-source-preserved : goal.build::results_in-loop-source-preserved
build::results_in-loop-source-preserved t c =
    let sources = c.args.sources.now in
    let F = layers_of c.args.scopes.now in
    let D = arity_known c.args.context.now.signature.now in
    let before = map views.strategy_of c.args.items.now.items in
    let made = map views.strategy_of c.loop-source.items.items in
    let next = next_pattern sources c.loop-source.source-index c.source-item.result c.loop-source-test.true
    c.source-item.is in
    let P : PatternTrees → Type 0 =
    λ rest. Gives F D c.args.next.now (patterns_of sources) before c.loop-source.next made rest in
    gives_more F D c.args.next.now (patterns_of sources)
    before c.loop-source.next made _ _ _ _ (subst P next c.loop-source.invariant)
    c.in_ok-results_of.ensures.items c.in_ok-results_of.ensures.next

pub build::results_in-returns-clause-items : goal.build::results_in-returns-clause-items
build::results_in-returns-clause-items t c =
    let none = drop_of_length-le c.args.sources.now c.loop-source-test.false in
    let P : List _ → Type 0 =
    λ rest. Gives (layers_of c.args.scopes.now) (arity_known c.args.context.now.signature.now)
    c.args.next.now (patterns_of c.args.sources.now) (map views.strategy_of c.args.items.now.items)
    c.loop-source.next (map views.strategy_of c.loop-source.items.items) (patterns_of rest) in
    gives_all _ _ _ _ _ _ _ (subst P none c.loop-source.invariant)

pub build::results_in-returns-clause-next : goal.build::results_in-returns-clause-next
build::results_in-returns-clause-next t c =
    let none = drop_of_length-le c.args.sources.now c.loop-source-test.false in
    let P : List _ → Type 0 =
    λ rest. Gives (layers_of c.args.scopes.now) (arity_known c.args.context.now.signature.now)
    c.args.next.now (patterns_of c.args.sources.now) (map views.strategy_of c.args.items.now.items)
    c.loop-source.next (map views.strategy_of c.loop-source.items.items) (patterns_of rest) in
    gives_counted _ _ _ _ _ _ _ (subst P none c.loop-source.invariant)

pub congruence::symbol_congruence-returns : goal.congruence::symbol_congruence-returns
congruence::symbol_congruence-returns t c =
    let ss = strategies_of c.args.sources.now in
    let D = arity_known c.args.context.now.signature.now in
    let n = c.number_of-count.result in
    symbol_made c.in_ok-names.names n _ c.args.symbol (parts D n 0 ss)
    _ _ c.if-count-eq0.false c.in_ok-names.ensures c.in_ok-items.ensures c.in_ok-made.ensures ∙
    ap (λ m. strategy_at (layers_of c.args.scopes.now) (symbol_congruence c.args.symbol m (parts D m 0 ss)))
    c.number_of-count.ensures

pub congruence::elements_congruence-returns : goal.congruence::elements_congruence-returns
congruence::elements_congruence-returns t c =
    let ss = strategies_of c.args.sources.now in
    let D = arity_known c.args.context.now.signature.now in
    let n = c.number_of-count.result in
    elements_made c.in_ok-names.names n _ (parts D n 0 ss)
    _ _ c.if-count-eq0.false c.in_ok-names.ensures c.in_ok-items.ensures c.in_ok-made.ensures ∙
    ap (λ m. strategy_at (layers_of c.args.scopes.now) (elements_congruence m (parts D m 0 ss)))
    c.number_of-count.ensures

pub congruence::items_of-loop-index-preserved : goal.congruence::items_of-loop-index-preserved
congruence::items_of-loop-index-preserved t c =
    let sources = c.args.sources.now in
    let F = layers_of c.args.scopes.now in
    let D = arity_known c.args.context.now.signature.now in
    let made = map views.strategy_of c.loop-index.items.items in
    let next = next_strategy sources c.loop-index.index c.index-sources-index.result c.loop-index-test.true
    c.index-sources-index.is in
    let P : StrategyTrees → Type 0 =
    λ rest. Parts F D c.args.count (strategies_of sources) c.loop-index.index made rest in
    parts_more F D c.args.count (strategies_of sources)
    c.loop-index.index made _ _ _ _ (subst P next c.loop-index.invariant)
    c.in_ok-outcome.ensures c.in_ok-put_part.ensures

pub congruence::items_of-returns : goal.congruence::items_of-returns
congruence::items_of-returns t c =
    let none = drop_of_length-le c.args.sources.now c.loop-index-test.false in
    let P : List _ → Type 0 =
    λ rest. Parts (layers_of c.args.scopes.now) (arity_known c.args.context.now.signature.now)
    c.args.count (strategies_of c.args.sources.now)
    c.loop-index.index (map views.strategy_of c.loop-index.items.items) (strategies_of rest) in
    parts_all _ _ _ _ _ _ (subst P none c.loop-index.invariant)

pub call::strategy_arguments-loop-source-preserved : goal.call::strategy_arguments-loop-source-preserved
call::strategy_arguments-loop-source-preserved t c =
    let sources = c.args.sources.now in
    let F = layers_of c.args.scopes.now in
    let D = arity_known c.args.context.now.signature.now in
    let next = next_strategy sources c.loop-source.source-index c.source-item.result c.loop-source-test.true
    c.source-item.is in
    let P : StrategyTrees → Type 0 =
    λ rest. Hands F D (strategies_of sources) (map views.strategy_of c.loop-source.made.items) rest in
    let made = ap (λ ss. map views.strategy_of ss) c.in_ok-put.ensures ∙
    map-append views.strategy_of c.loop-source.made.items (c.in_ok-argument.argument.value ∷ []) in
    let Q : List _ → Type 0 = λ ss. Hands F D (strategies_of sources)
    ss (strategies_of (drop (c.loop-source.source-index + 1) sources)) in
    subst Q (sym made) (hands_more _ _ _ _ _ _ _ (subst P next c.loop-source.invariant) c.in_ok-argument.ensures)

pub call::strategy_arguments-returns : goal.call::strategy_arguments-returns
call::strategy_arguments-returns t c =
    let none = drop_of_length-le c.args.sources.now c.loop-source-test.false in
    let P : List _ → Type 0 =
    λ rest. Hands (layers_of c.args.scopes.now) (arity_known c.args.context.now.signature.now)
    (strategies_of c.args.sources.now) (map views.strategy_of c.loop-source.made.items) (strategies_of rest) in
    hands_all _ _ _ _ (subst P none c.loop-source.invariant)

pub call::call_with_results-returns : goal.call::call_with_results-returns
call::call_with_results-returns t c =
    c.in_ok-made.ensures (strategies_core (arity_known c.args.context.now.signature.now)
    (strategies_of c.args.sources.now)) (built_parts 0 (patterns_of c.args.terms.now))
    c.in_ok-strategies.ensures c.in_ok-terms.ensures.made

pub call::call-returns-in-Strategies : goal.call::call-returns-in-Strategies
call::call-returns-in-Strategies t c =
    let P : trees.ArgumentTree → Type 0 =
    λ a. IfOk c.called_with.result (λ made. views.strategy_of made.value ≡ strategy_at (layers_of c.args.scopes.now)
    (primary_core (arity_known c.args.context.now.signature.now) (trees.call c.args.name.now a))) in
    subst P
    (ap (λ ss. trees.strategy_arguments (strategies_of ss)) c.deref.ensures.value ∙
    sym (ap arguments_of c.in-Strategies.is ∙ reads_strategy_arguments c.in-Strategies.sources))
    c.called_with.ensures

pub call::call-returns-in_ok-made-in-WithTerms : goal.call::call-returns-in_ok-made-in-WithTerms
call::call-returns-in_ok-made-in-WithTerms t c =
    let F = layers_of c.args.scopes.now in
    let D = arity_known c.args.context.now.signature.now in
    let ss = strategies_of c.in-WithTerms.sources.items in
    let ps = patterns_of c.in-WithTerms.terms.value.items in
    let s = call (written c.args.name.now) (strategies_core D ss) (built_parts 0 ps) in
    let count = rw c.deref-in-WithTerms.ensures at
    (rw c.deref-in-WithTerms-2.ensures.value at c.in_ok-count-in-WithTerms.ensures) in
    let items = rw c.deref-in-WithTerms-3.ensures at
    (rw c.deref-in-WithTerms-4.ensures.value at c.in_ok-results_in-in-WithTerms.ensures.items) in
    let last = rw c.deref-in-WithTerms-5.ensures.value at
    (rw c.deref-in-WithTerms-6.ensures at
    (rw c.deref-in-WithTerms-7.ensures.value at c.in_ok-last-in-WithTerms.ensures)) in
    call_made c.in_ok-names-in-WithTerms.names c.in_ok-count-in-WithTerms.count _ s (results_among D 0 ps)
    _ _ _ c.if-count-eq0.false c.in_ok-names-in-WithTerms.ensures (from_none _ _ _ c.new-items.ensures.items items)
    last c.in_ok-made-in-WithTerms.ensures ∙
    ap (λ n. strategy_at F (call_after n (results_among D 0 ps) s)) count ∙
    sym (ap (λ a. strategy_at F (primary_core D (trees.call c.args.name.now a))) (ap arguments_of c.in-WithTerms.is ∙
    reads_all_arguments c.in-WithTerms.sources c.in-WithTerms.terms))

pub primitive::primitive-returns : goal.primitive::primitive-returns
primitive::primitive-returns t c =
    let F = layers_of c.args.scopes.now in
    let D = arity_known c.args.context.now.signature.now in
    let ps = patterns_of c.args.terms.now in
    let s = primitive c.args.name.now (built_parts 0 ps) in
    call_made c.in_ok-names.names c.in_ok-count.count _ s (results_among D 0 ps)
    _ _ _ c.if-count-eq0.false c.in_ok-names.ensures
    (from_none _ _ _ c.new-items.ensures.items c.in_ok-results_in.ensures.items)
    c.in_ok-last.ensures c.in_ok-made.ensures ∙
    ap (λ n. strategy_at F (call_after n (results_among D 0 ps) s)) c.in_ok-count.ensures

pub call::called_with-returns : goal.call::called_with-returns
call::called_with-returns t c =
    let F = layers_of c.args.scopes.now in
    let D = arity_known c.args.context.now.signature.now in
    let f = c.args.name.now in
    let ss = strategies_of c.args.sources.now in
    let n = number_of_strategies ss in
    let unknown = ap₂ (λ g m. D g m) (sym c.bytes.ensures) (sym c.number_of.ensures) ∙ sym c.arity_known.ensures ∙
    c.if-arity_known.false in
    other F (D f n) (symbol_congruence (constructor_symbol f) n (parts D n 0 ss))
    (call (written f) (strategies_core D ss) no_patterns) _ unknown
    (c.in_ok-made.ensures (strategies_core D ss)
    no_patterns c.in_ok-strategies.ensures (ap (λ ps. views.patterns_of ps) c.new.ensures.items))

pub congruence::items_before_rest-returns : goal.congruence::items_before_rest-returns
congruence::items_before_rest-returns t c =
    before_rest_made _ _ c.in_ok-count.count _ _ _ _ c.number_of.ensures c.in_ok-count.ensures c.in_ok-names.ensures
    c.in_ok-items.ensures

pub congruence::rest_congruence-returns : goal.congruence::rest_congruence-returns
congruence::rest_congruence-returns t c =
    λ each is.
    with_rest_made _ c.args.elements c.in_ok-count.count _ each _ _ _ _ _ c.in_ok-count.ensures c.in_ok-names.ensures is
    c.in_ok-last.ensures c.in_ok-put_part.ensures c.in_ok-made.ensures

pub locals::let_definitions-join-requires : goal.locals::let_definitions-join-requires
locals::let_definitions-join-requires t c = bodies_counted _ _ _ _ c.requires c.in_ok-each.ensures

pub locals::let_definitions-returns : goal.locals::let_definitions-returns
locals::let_definitions-returns t c =
    let all = alternatives (arity_known c.args.context.now.signature.now) (definitions_of c.args.sources.now) in
    definitions_made _ _ all (c.keys.ensures all (sym c.requires)) _
    (c.in_ok-made.ensures _ all (sym c.requires) c.in_ok-each.ensures)

pub locals::let_body-returns : goal.locals::let_body-returns
locals::let_body-returns t c = λ all heads. body_made _ _ all (c.keys.ensures all heads) _ _ c.in_ok-made.ensures

pub locals::bodies-returns : goal.locals::bodies-returns
locals::bodies-returns t c =
    let F = layers_of c.args.scopes.now in
    let D = arity_known c.args.context.now.signature.now in
    let sources = c.args.sources.now in
    c.loop-source.invariant ∙
    ap (λ ds. map (λ d. body_among F c.args.groups.now (alternative_core D (definition_of d))) ds)
    (take_all c.loop-source.source-index sources c.loop-source-test.false) ∙
    bodies_all F c.args.groups.now D sources c.requires

pub locals::recursive-returns : goal.locals::recursive-returns
locals::recursive-returns t c =
    recursive_made _ _ _ _ _ _ _ _ refl c.new-none.ensures c.new-none.ensures c.in_ok-body.ensures c.in_ok-made.ensures

pub rules::rule-returns-in_ok-both-in-None : goal.rules::rule-returns-in_ok-both-in-None
rules::rule-returns-in_ok-both-in-None t c =
    let F = layers_of c.args.scopes.now in
    let D = arity_known c.args.context.now.signature.now in
    let matches = c.in_ok-first.ensures ∙ ap (λ p. strategy_at F (match (matched (pattern_of p)))) c.deref.ensures in
    let builds = c.in_ok-last.ensures ∙
    ap (λ p. strategy_at F (primary_core D (trees.build (pattern_of p)))) c.deref-2.ensures in
    c.in_ok-both-in-None.ensures ∙
    rule_plain_made F D c.args.source.now _ _ matches builds c.in-None.is

pub rules::rule-returns-in_ok-made-in-Some : goal.rules::rule-returns-in_ok-made-in-Some
rules::rule-returns-in_ok-made-in-Some t c =
    let F = layers_of c.args.scopes.now in
    let D = arity_known c.args.context.now.signature.now in
    let matches = c.in_ok-first.ensures ∙ ap (λ p. strategy_at F (match (matched (pattern_of p)))) c.deref.ensures in
    let builds = c.in_ok-last.ensures ∙
    ap (λ p. strategy_at F (primary_core D (trees.build (pattern_of p)))) c.deref-2.ensures in
    let where_is = c.in_ok-middle-in-Some.ensures ∙
    ap (λ s. strategy_at F (where_core (strategy_core D (strategy_of s)))) c.deref-in-Some.ensures in
    c.in_ok-made-in-Some.ensures ∙
    ap (λ r. seq (views.strategy_of c.in_ok-first.first.value) r) c.in_ok-others-in-Some.ensures ∙
    rule_made F D c.args.source.now _ _ matches builds c.in-Some.condition _ c.in-Some.is where_is

pub strategy::primary-returns-in_ok-made-in-Some : goal.strategy::primary-returns-in_ok-made-in-Some
strategy::primary-returns-in_ok-made-in-Some t c =
    let F = layers_of c.args.scopes.now in
    let D = arity_known c.args.context.now.signature.now in
    let elements = c.in-ListCongruence.elements in
    let ss = strategies_of elements.items in
    let items = rw c.deref-in-Some.ensures.value at c.in_ok-items-in-Some.ensures in
    let count = rw c.deref-in-Some-2.ensures.value at c.number_of-count.ensures in
    let made = rw c.deref-in-Some-3.ensures at c.in_ok-made-in-Some.ensures in
    list_rest_made F D ss (strategy_of c.in-Some.rest.value) c.number_of-count.result _ _ count items made ∙
    sym (ap (λ p. strategy_at F (primary_core D p)) (ap primary_of c.in-ListCongruence.is ∙
    reads_list_congruence elements c.in-ListCongruence.rest ∙
    ap (λ o. trees.list_congruence ss (optional_strategy_of o)) c.in-Some.is))

pub strategy::primary-returns-in-None : goal.strategy::primary-returns-in-None
strategy::primary-returns-in-None t c =
    let F = layers_of c.args.scopes.now in
    let D = arity_known c.args.context.now.signature.now in
    let elements = c.in-ListCongruence.elements in
    let P : PrimaryTree → Type 0 =
    λ p. IfOk c.elements_congruence.result (λ made. views.strategy_of made.value ≡
    strategy_at F (primary_core D p)) in
    subst P
    (ap (λ ss. trees.list_congruence (strategies_of ss) no_strategy) c.deref-in-None.ensures.value ∙
    sym (ap primary_of c.in-ListCongruence.is ∙ reads_list_congruence elements c.in-ListCongruence.rest ∙
    ap (λ o. trees.list_congruence (strategies_of elements.items) (optional_strategy_of o)) c.in-None.is))
    c.elements_congruence.ensures

pub strategy::primary-returns-in_ok-body-in-Let : goal.strategy::primary-returns-in_ok-body-in-Let
strategy::primary-returns-in_ok-body-in-Let t c =
    let F = layers_of c.args.scopes.now in
    let D = arity_known c.args.context.now.signature.now in
    let all = alternatives D (definitions_of c.in-Let.definitions.items) in
    let heads = rw c.deref-in-Let.ensures.value at (c.in_ok-groups-in-Let.ensures D) in
    let defined = rw c.deref-in-Let-2.ensures.value at c.in_ok-made-in-Let.ensures in
    let body = rw c.deref-in-Let-3.ensures at (c.in_ok-body-in-Let.ensures all (sym heads)) in
    let P : ResolvedStrategy → Type 0 = λ q. IfOk c.let_in.result (λ made. views.strategy_of made.value ≡ q) in
    subst P
    (ap₂ (λ ds s. with_definitions ds s) defined body ∙
    sym (ap (λ p. strategy_at F (primary_core D p)) (ap primary_of c.in-Let.is ∙
    reads_let c.in-Let.definitions c.in-Let.body)))
    c.let_in.ensures

pub strategy::scope-returns : goal.strategy::scope-returns
strategy::scope-returns t c =
    let s = strategy_core (arity_known c.args.context.now.signature.now) (strategy_of c.args.source.now) in
    c.in_ok-made.ensures ∙
    scope_made _ _ c.args.names.now s _ (views.strategy_of c.in_ok-body.body.value)
    c.in_ok-variables.ensures refl c.in_ok-body.ensures
