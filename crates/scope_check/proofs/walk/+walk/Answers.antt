use Rattle.std.proofs.Common.{◌∙◌, List, rules, sym, ap, subst, refl, append-nil}
use Rattle.std.proofs.lemmas.Result.{IfOk-equal}
use Rattle.str_syntax.specs.declared.strategy.Pattern.{Pattern}
use Rattle.str_syntax.specs.declared.strategy.Strategy.{Strategy}
use Rattle.str_syntax.specs.declared.strategy.StrategyDefinition.{StrategyDefinition}
use Rattle.str_syntax.specs.declared.definition.Origin.TheVariants as origins
use Rattle.str_syntax.specs.Trees.{Bytes, PrimaryTree, scope}
use Rattle.str_syntax.specs.Views.{definition_of, definitions_of, pattern_of, patterns_of, primary_of, strategies_of, strategy_of}
use Rattle.str_syntax.proofs.ArityLaws.{patterns_counted}
use Rattle.str_syntax.proofs.ReadLaws.{reads_alias, reads_all_arguments, reads_annotated, reads_applied_to, reads_apply, reads_call, reads_conditional, reads_guarded_choice, reads_left_choice, reads_let, reads_list, reads_list_congruence, reads_matching, reads_scope, reads_then}
use Rattle.scope_check.specs.Complaint.{bad_parameters, repeats}
use Rattle.scope_check.specs.Found.{joined, found_if, found_in_pattern, found_in_patterns, found_in_definition, found_in_definitions, found_group, found_in_primary, found_in_strategy, found_in_strategies}
use Rattle.scope_check.specs.Seen.{among, heads_in, in_let, inner}
use Rattle.scope_check.specs.Tables.{Adds, layers_of, known_of}
use Rattle.scope_check.proofs.FoundLaws.{joined-assoc, then_joined, thrice_joined}
use Rattle.scope_check.proofs.GroupLaws.{reads_definition}
use Rattle.scope_check.proofs.LayerLaws.{reads_recursive}
use Rattle.scope_check.proofs.WalkLaws.{one_more_found, all_found, reads_rule}
use Rattle.scope_check.proofs.walk.+walk.Goals as goal

pub find_in_strategy-returns-in_ok-find_in_strategy-in-LeftChoice :
    goal.find_in_strategy-returns-in_ok-find_in_strategy-in-LeftChoice
find_in_strategy-returns-in_ok-find_in_strategy-in-LeftChoice t c =
    c.in_ok-find_in_strategy-in-LeftChoice.ensures ∙
    then_joined c.args.findings.now _ _ _ _ c.in_ok-find_in_sequence-in-LeftChoice.ensures
    (search (rules, reads_left_choice))

pub find_in_strategy-returns-in_ok-find_in_strategy-in-GuardedChoice-2 :
    goal.find_in_strategy-returns-in_ok-find_in_strategy-in-GuardedChoice-2
find_in_strategy-returns-in_ok-find_in_strategy-in-GuardedChoice-2 t c =
    c.in_ok-find_in_strategy-in-GuardedChoice-2.ensures ∙
    thrice_joined c.args.findings.now _ _ _ _ _ _ c.in_ok-find_in_sequence-in-GuardedChoice.ensures
    c.in_ok-find_in_strategy-in-GuardedChoice.ensures (search (rules, reads_guarded_choice))

pub find_in_sequence-returns-in_ok-find_in_step-in-Then : goal.find_in_sequence-returns-in_ok-find_in_step-in-Then
find_in_sequence-returns-in_ok-find_in_step-in-Then t c =
    IfOk-equal c.find_in_sequence.result _ _ _ c.find_in_sequence.ensures
    (then_joined c.args.findings.now _ _ _ _ c.in_ok-find_in_step-in-Then.ensures (search (rules, reads_then)))

pub find_in_step-returns-in_ok-find_in_primary-in-Matching : goal.find_in_step-returns-in_ok-find_in_primary-in-Matching
find_in_step-returns-in_ok-find_in_primary-in-Matching t c =
    IfOk-equal c.find_in_pattern.result _ _ _ c.find_in_pattern.ensures
    (then_joined c.args.findings.now _ _ _ _ c.in_ok-find_in_primary-in-Matching.ensures
    (search (rules, reads_matching)))

pub find_in_primary-returns-in_ok-find_in_pattern-in-Apply : goal.find_in_primary-returns-in_ok-find_in_pattern-in-Apply
find_in_primary-returns-in_ok-find_in_pattern-in-Apply t c =
    c.in_ok-find_in_pattern-in-Apply.ensures ∙
    then_joined c.args.findings.now _ _ _ _ c.in_ok-find_in_strategy-in-Apply.ensures
    (search (rules, reads_apply))

pub find_in_primary-returns-in-Scope : goal.find_in_primary-returns-in-Scope
find_in_primary-returns-in-Scope t c =
    let P : PrimaryTree → Type 0 =
    λ p. Adds c.find_in_scope.result c.args.findings.now (found_in_primary (known_of c.args.known.now)
    (layers_of c.args.layers.now) p) c.find_in_scope.new.findings in
    subst P
    (ap (λ xs. scope xs (strategy_of c.deref-in-Scope-2.result.now)) c.deref-in-Scope.ensures.value ∙
    ap (λ s. scope c.in-Scope.names.items (strategy_of s)) c.deref-in-Scope-2.ensures ∙
    sym (ap primary_of c.in-Scope.is ∙ reads_scope c.in-Scope.names c.in-Scope.s))
    c.find_in_scope.ensures

pub find_in_primary-returns-in_ok-find_in_optional_strategy-in-If :
    goal.find_in_primary-returns-in_ok-find_in_optional_strategy-in-If
find_in_primary-returns-in_ok-find_in_optional_strategy-in-If t c =
    let found = λ (s : Strategy). found_in_strategy (known_of c.args.known.now) (layers_of c.args.layers.now)
    (strategy_of s) in
    c.in_ok-find_in_optional_strategy-in-If.ensures ∙
    thrice_joined c.args.findings.now _ _ (found c.in-If.s.value) (found c.in-If.t.value) _
    (found_in_primary (known_of c.args.known.now) (layers_of c.args.layers.now) (primary_of c.args.tree.now))
    (c.in_ok-find_in_strategy-in-If.ensures ∙ ap (λ s. joined c.args.findings.now (found s)) c.deref-in-If.ensures)
    (c.in_ok-find_in_strategy-in-If-2.ensures ∙
    ap (λ s. joined c.find_in_strategy-in-If.new.findings (found s)) c.deref-in-If-2.ensures)
    (ap (found_in_primary (known_of c.args.known.now) (layers_of c.args.layers.now))
    (sym (ap primary_of c.in-If.is ∙ reads_conditional c.in-If.s c.in-If.t c.in-If.u)))

pub find_in_primary-returns-in_ok-find_in_let_body-in-Let :
    goal.find_in_primary-returns-in_ok-find_in_let_body-in-Let
find_in_primary-returns-in_ok-find_in_let_body-in-Let t c =
    let K = known_of c.args.known.now in
    let L = layers_of c.args.layers.now in
    c.in_ok-find_in_let_body-in-Let.ensures ∙
    ap (λ s. joined c.find_in_let_definitions.new.findings (found_in_strategy K
    (in_let (definitions_of c.deref-in-Let-3.result.now) L) (strategy_of s))) c.deref-in-Let-2.ensures ∙
    ap (λ ds. joined c.find_in_let_definitions.new.findings (found_in_strategy K
    (in_let (definitions_of ds) L) (strategy_of c.in-Let.s.value))) c.deref-in-Let-3.ensures.value ∙
    then_joined c.args.findings.now _ _ _ _
    (c.in_ok-find_in_let_definitions-in-Let.ensures ∙
    ap (λ ds. joined c.args.findings.now (joined (found_group (heads_in (definitions_of ds)))
    (found_in_definitions K (in_let (definitions_of ds) L) (definitions_of ds)))) c.deref-in-Let.ensures.value)
    (joined-assoc (found_group (heads_in (definitions_of c.in-Let.ds.items)))
    (found_in_definitions K (in_let (definitions_of c.in-Let.ds.items) L) (definitions_of c.in-Let.ds.items))
    (found_in_strategy K (in_let (definitions_of c.in-Let.ds.items) L) (strategy_of c.in-Let.s.value)) ∙
    ap (found_in_primary K L) (sym (ap primary_of c.in-Let.is ∙ reads_let c.in-Let.ds c.in-Let.s)))

pub find_in_primary-returns-in-Call : goal.find_in_primary-returns-in-Call
find_in_primary-returns-in-Call t c =
    let P : PrimaryTree → Type 0 =
    λ p. Adds c.find_in_call.result c.args.findings.now (found_in_primary (known_of c.args.known.now)
    (layers_of c.args.layers.now) p) c.find_in_call.new.findings in
    subst P (sym (ap primary_of c.in-Call.is ∙ reads_call c.in-Call.f c.in-Call.all)) c.find_in_call.ensures

pub find_in_primary-returns-in_ok-find_in_optional_strategy-in-ListCongruence :
    goal.find_in_primary-returns-in_ok-find_in_optional_strategy-in-ListCongruence
find_in_primary-returns-in_ok-find_in_optional_strategy-in-ListCongruence t c =
    c.in_ok-find_in_optional_strategy-in-ListCongruence.ensures ∙
    then_joined c.args.findings.now _ _ _ _ c.in_ok-find_in_strategies-in-ListCongruence.ensures
    (search (rules, reads_list_congruence))

pub find_in_scope-returns : goal.find_in_scope-returns
find_in_scope-returns t c =
    IfOk-equal c.find_in_strategy.result _ _ _ c.find_in_strategy.ensures (
    then_joined c.args.findings.now _ _ _ _
    (c.in_ok-find_repeats.ensures ∙
    ap (λ (xs : List Bytes). joined c.args.findings.now (found_if bad_parameters (repeats xs)))
    (append-nil c.args.names.now)) refl)

pub find_in_recursive-returns : goal.find_in_recursive-returns
find_in_recursive-returns t c =
    IfOk-equal c.find_in_strategy.result _ _ _ c.find_in_strategy.ensures
    (ap (λ M. joined c.find_clash.new.findings (found_in_strategy (known_of c.args.known.now) M
    (strategy_of c.args.body.now)))
    (reads_recursive _ _) ∙
    then_joined c.args.findings.now _ _ _ _ c.find_clash.ensures refl)

pub find_in_let_definitions-returns : goal.find_in_let_definitions-returns
find_in_let_definitions-returns t c =
    IfOk-equal c.find_in_seen_definitions.result _ _ _ c.find_in_seen_definitions.ensures (
    ap (λ A. joined c.find_in_definition_group.new.findings (found_in_definitions (known_of c.args.known.now)
    (inner A (layers_of c.args.layers.now)) (definitions_of c.args.all.now))) c.in_ok-keys.ensures ∙
    then_joined c.args.findings.now _ _ _ _ c.in_ok-find_in_definition_group.ensures refl)

pub find_in_let_body-returns : goal.find_in_let_body-returns
find_in_let_body-returns t c =
    IfOk-equal c.find_in_body.result _ _ _ c.find_in_body.ensures (
    ap (λ A. joined c.args.findings.now (found_in_strategy (known_of c.args.known.now)
    (inner A (layers_of c.args.layers.now)) (strategy_of c.args.body.now))) c.in_ok-keys.ensures)

pub find_in_definition-returns : goal.find_in_definition-returns
find_in_definition-returns t c =
    let K = known_of c.args.known.now in
    let L = layers_of c.args.layers.now in
    IfOk-equal c.find_in_body.result _ _ _ c.find_in_body.ensures (
    ap (λ s. joined c.find_in_head.new.findings (found_in_strategy K (inner (among c.in_ok-keys.keys) L)
    (strategy_of s))) c.deref.ensures ∙
    ap (λ A. joined c.find_in_head.new.findings (found_in_strategy K (inner A L)
    (strategy_of c.args.tree.now.body.value))) c.in_ok-keys.ensures ∙
    then_joined c.args.findings.now _ _ _ _ c.in_ok-find_in_head.ensures
    (ap (found_in_definition K c.args.origin L) (sym (reads_definition c.args.tree.now))))

pub find_in_definitions-loop-tree-preserved : goal.find_in_definitions-loop-tree-preserved
find_in_definitions-loop-tree-preserved t c =
    one_more_found (λ (d : StrategyDefinition). found_in_definition (known_of c.args.known.now) origins.File
    (layers_of c.args.layers.now) (definition_of d))
    (λ ts. found_in_definitions (known_of c.args.known.now) (layers_of c.args.layers.now) (definitions_of ts))
    (λ t ts. refl) c.args.trees.now c.loop-tree.tree-index c.tree-item.result c.loop-tree.findings _ _
    c.loop-tree-test.true c.tree-item.is c.in_ok-find_in_definition.ensures c.loop-tree.invariant

pub find_in_definitions-returns : goal.find_in_definitions-returns
find_in_definitions-returns t c =
    all_found (λ (d : StrategyDefinition). found_in_definition (known_of c.args.known.now) origins.File
    (layers_of c.args.layers.now) (definition_of d))
    (λ ts. found_in_definitions (known_of c.args.known.now) (layers_of c.args.layers.now) (definitions_of ts))
    refl c.args.trees.now c.loop-tree.tree-index c.loop-tree.findings _ c.loop-tree-test.false c.loop-tree.invariant

pub find_in_strategies-loop-tree-preserved : goal.find_in_strategies-loop-tree-preserved
find_in_strategies-loop-tree-preserved t c =
    one_more_found (λ (s : Strategy). found_in_strategy (known_of c.args.known.now) (layers_of c.args.layers.now)
    (strategy_of s))
    (λ ts. found_in_strategies (known_of c.args.known.now) (layers_of c.args.layers.now) (strategies_of ts))
    (λ t ts. refl) c.args.trees.now c.loop-tree.tree-index c.tree-item.result c.loop-tree.findings _ _
    c.loop-tree-test.true c.tree-item.is c.in_ok-find_in_strategy.ensures c.loop-tree.invariant

pub find_in_strategies-returns : goal.find_in_strategies-returns
find_in_strategies-returns t c =
    all_found (λ (s : Strategy). found_in_strategy (known_of c.args.known.now) (layers_of c.args.layers.now)
    (strategy_of s))
    (λ ts. found_in_strategies (known_of c.args.known.now) (layers_of c.args.layers.now) (strategies_of ts))
    refl c.args.trees.now c.loop-tree.tree-index c.loop-tree.findings _ c.loop-tree-test.false c.loop-tree.invariant

pub find_in_patterns-loop-tree-preserved : goal.find_in_patterns-loop-tree-preserved
find_in_patterns-loop-tree-preserved t c =
    one_more_found (λ (p : Pattern). found_in_pattern (known_of c.args.known.now) c.args.side
    (layers_of c.args.layers.now) (pattern_of p))
    (λ ts. found_in_patterns (known_of c.args.known.now) c.args.side (layers_of c.args.layers.now) (patterns_of ts))
    (λ t ts. refl) c.args.trees.now c.loop-tree.tree-index c.tree-item.result c.loop-tree.findings _ _
    c.loop-tree-test.true c.tree-item.is c.in_ok-find_in_pattern.ensures c.loop-tree.invariant

pub find_in_patterns-returns : goal.find_in_patterns-returns
find_in_patterns-returns t c =
    all_found (λ (p : Pattern). found_in_pattern (known_of c.args.known.now) c.args.side (layers_of c.args.layers.now)
    (pattern_of p))
    (λ ts. found_in_patterns (known_of c.args.known.now) c.args.side (layers_of c.args.layers.now) (patterns_of ts))
    refl c.args.trees.now c.loop-tree.tree-index c.loop-tree.findings _ c.loop-tree-test.false c.loop-tree.invariant

pub find_in_primitive-returns : goal.find_in_primitive-returns
find_in_primitive-returns t c =
    IfOk-equal c.find_in_patterns.result _ _ _ c.find_in_patterns.ensures
    (then_joined c.args.findings.now _ _ _ _ c.find_unknown_primitive.ensures (search (rules, patterns_counted)))

pub find_in_call-returns : goal.find_in_call-returns
find_in_call-returns t c =
    IfOk-equal c.find_in_arguments.result _ _ _ c.find_in_arguments.ensures (
    then_joined c.args.findings.now _ _ _ _ c.find_unknown_strategy.ensures refl)

pub find_in_arguments-returns-in_ok-find_in_strategies-in-WithTerms :
    goal.find_in_arguments-returns-in_ok-find_in_strategies-in-WithTerms
find_in_arguments-returns-in_ok-find_in_strategies-in-WithTerms t c =
    IfOk-equal c.find_in_patterns.result _ _ _ c.find_in_patterns.ensures
    (then_joined c.args.findings.now _ _ _ _ c.in_ok-find_in_strategies-in-WithTerms.ensures
    (search (rules, reads_all_arguments)))

pub find_in_rule-returns : goal.find_in_rule-returns
find_in_rule-returns t c =
    IfOk-equal c.find_in_optional_strategy.result _ _ _ c.find_in_optional_strategy.ensures
    (thrice_joined c.args.findings.now _ _ _ _ _ _ c.in_ok-find_in_pattern.ensures c.in_ok-find_in_pattern-2.ensures
    (search (rules, reads_rule)))

pub find_in_application-returns : goal.find_in_application-returns
find_in_application-returns t c =
    IfOk-equal c.find_in_patterns.result _ _ _ c.find_in_patterns.ensures
    (then_joined c.args.findings.now _ _ _ _ c.find_undeclared.ensures
    (search (rules, patterns_counted)))

pub find_in_pattern-returns-in_ok-find_in_pattern-in-Alias : goal.find_in_pattern-returns-in_ok-find_in_pattern-in-Alias
find_in_pattern-returns-in_ok-find_in_pattern-in-Alias t c =
    c.in_ok-find_in_pattern-in-Alias.ensures ∙
    then_joined c.args.findings.now _ _ _ _ c.find_built_alias.ensures (search (rules, reads_alias))

pub find_in_pattern-returns-in_ok-find_in_optional_pattern-in-List :
    goal.find_in_pattern-returns-in_ok-find_in_optional_pattern-in-List
find_in_pattern-returns-in_ok-find_in_optional_pattern-in-List t c =
    c.in_ok-find_in_optional_pattern-in-List.ensures ∙
    then_joined c.args.findings.now _ _ _ _ c.in_ok-find_in_patterns-in-List.ensures
    (search (rules, reads_list))

pub find_in_pattern-returns-in_ok-find_in_patterns-in-Annotated :
    goal.find_in_pattern-returns-in_ok-find_in_patterns-in-Annotated
find_in_pattern-returns-in_ok-find_in_patterns-in-Annotated t c =
    c.in_ok-find_in_patterns-in-Annotated.ensures ∙
    then_joined c.args.findings.now _ _ _ _ c.in_ok-find_in_pattern-in-Annotated.ensures
    (search (rules, reads_annotated))

pub find_in_pattern-returns-in_ok-find_in_pattern-in-AppliedTo :
    goal.find_in_pattern-returns-in_ok-find_in_pattern-in-AppliedTo
find_in_pattern-returns-in_ok-find_in_pattern-in-AppliedTo t c =
    c.in_ok-find_in_pattern-in-AppliedTo.ensures ∙
    then_joined c.args.findings.now _ _ _ _ c.in_ok-find_in_strategy-in-AppliedTo.ensures
    (search (rules, reads_applied_to))
