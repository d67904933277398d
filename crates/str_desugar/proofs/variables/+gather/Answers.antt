use Rattle.std.proofs.Common.{◌≡◌, ◌++◌, [], refl, ap, ◌∙◌}
use Rattle.str_syntax.proofs.ReadLaws as reads
use Rattle.str_syntax.specs.Views.{arguments_of, definition_of, definitions_of, optional_pattern_of, optional_strategy_of, parameters_of, pattern_of, patterns_of, primary_of, rule_of, sequence_of, step_of, strategies_of, strategy_of}
use Rattle.str_desugar.specs.Gathered.{bound_names}
use Rattle.str_desugar.specs.Variables.{free_among, free_in, free_in_arguments, free_in_definition, free_in_definitions, free_in_optional, free_in_primary, free_in_rule, free_in_sequence, free_in_step, left_names, names_among, names_of, names_of_rest, without}
use Rattle.str_syntax.specs.Arity.{term_names}
use Rattle.str_desugar.proofs.GatheredSteps.{next_pattern, next_strategy, next_definition, then_ok, scope_ok, lambda_ok, plain_ok, left_all, reads_rule, reads_definition}
use Rattle.str_desugar.proofs.variables.+gather.Goals as goal

pub in_arguments-returns-in_ok-in_strategies-in-WithTerms : goal.in_arguments-returns-in_ok-in_strategies-in-WithTerms
in_arguments-returns-in_ok-in_strategies-in-WithTerms t c =
    then_ok c.in_patterns.result (bound_names c.args.bound.now)
    c.args.found.now c.in_strategies-in-WithTerms.new.found c.in_patterns.new.found
    (free_in_arguments (arguments_of c.args.source.now)) (free_among (strategies_of c.in-WithTerms.strategies.items))
    (names_among (patterns_of c.in-WithTerms.terms.value.items))
    (ap free_in_arguments (ap arguments_of c.in-WithTerms.is ∙
    reads.reads_all_arguments c.in-WithTerms.strategies c.in-WithTerms.terms))
    (rw c.deref-in-WithTerms.ensures.value at c.in_ok-in_strategies-in-WithTerms.ensures)
    (rw c.deref-in-WithTerms-2.ensures at (rw c.deref-in-WithTerms-3.ensures.value at c.in_patterns.ensures))

pub in_definitions-loop-source-preserved : goal.in_definitions-loop-source-preserved
in_definitions-loop-source-preserved t c =
    c.loop-source.invariant ∙
    next_definition (bound_names c.args.bound.now)
    c.loop-source.found c.in_definition.new.found c.loop-source.source-index c.args.sources.now c.source-item.result
    c.loop-source-test.true c.source-item.is c.in_ok-in_definition.ensures

pub in_patterns-loop-source-preserved : goal.in_patterns-loop-source-preserved
in_patterns-loop-source-preserved t c =
    c.loop-source.invariant ∙
    next_pattern (bound_names c.args.bound.now)
    c.loop-source.found c.in_pattern.new.found c.loop-source.source-index c.args.sources.now c.source-item.result
    c.loop-source-test.true c.source-item.is c.in_ok-in_pattern.ensures

pub in_strategies-loop-source-preserved : goal.in_strategies-loop-source-preserved
in_strategies-loop-source-preserved t c =
    c.loop-source.invariant ∙
    next_strategy (bound_names c.args.bound.now)
    c.loop-source.found c.in_strategy.new.found c.loop-source.source-index c.args.sources.now c.source-item.result
    c.loop-source-test.true c.source-item.is c.in_ok-in_strategy.ensures

pub in_lambda-returns : goal.in_lambda-returns
in_lambda-returns t c =
    lambda_ok c.in_rule.result _ _ c.args.found.now c.in_rule.new.found (left_names (rule_of c.args.source.now))
    (free_in_rule (rule_of c.args.source.now))
    c.in_ok-names.ensures c.in_rule.ensures

pub in_scope-returns : goal.in_scope-returns
in_scope-returns t c =
    scope_ok c.in_strategy.result _ _ c.args.found.now c.in_strategy.new.found c.args.names.now
    (free_in (strategy_of c.args.inner.now)) c.in_ok-names.ensures c.in_strategy.ensures

pub in_pattern-returns-in_ok-in_patterns-in-List : goal.in_pattern-returns-in_ok-in_patterns-in-List
in_pattern-returns-in_ok-in_patterns-in-List t c =
    then_ok c.in_optional_pattern.result (bound_names c.args.bound.now)
    c.args.found.now c.in_patterns.new.found c.in_optional_pattern.new.found
    (names_of (pattern_of c.args.source.now)) (names_among (patterns_of c.in-List.elements.items))
    (names_of_rest (optional_pattern_of c.in-List.rest))
    (ap names_of (ap pattern_of c.in-List.is ∙ reads.reads_list c.in-List.elements c.in-List.rest))
    (rw c.deref-in-List.ensures.value at c.in_ok-in_patterns-in-List.ensures) c.in_optional_pattern.ensures

pub in_pattern-returns-in_ok-in_pattern-in-Annotated : goal.in_pattern-returns-in_ok-in_pattern-in-Annotated
in_pattern-returns-in_ok-in_pattern-in-Annotated t c =
    then_ok c.in_patterns-in-Annotated.result (bound_names c.args.bound.now)
    c.args.found.now c.in_pattern-in-Annotated.new.found c.in_patterns-in-Annotated.new.found
    (names_of (pattern_of c.args.source.now)) (names_of (pattern_of c.in-Annotated.part.value))
    (names_among (patterns_of c.in-Annotated.annotations.items))
    (ap names_of (ap pattern_of c.in-Annotated.is ∙
    reads.reads_annotated c.in-Annotated.part c.in-Annotated.annotations))
    (rw c.deref-in-Annotated.ensures at c.in_ok-in_pattern-in-Annotated.ensures)
    (rw c.deref-in-Annotated-2.ensures.value at c.in_patterns-in-Annotated.ensures)

pub in_pattern-returns-in_ok-in_strategy-in-AppliedTo : goal.in_pattern-returns-in_ok-in_strategy-in-AppliedTo
in_pattern-returns-in_ok-in_strategy-in-AppliedTo t c =
    then_ok c.in_pattern-in-AppliedTo.result (bound_names c.args.bound.now)
    c.args.found.now c.in_strategy-in-AppliedTo.new.found c.in_pattern-in-AppliedTo.new.found
    (names_of (pattern_of c.args.source.now)) (free_in (strategy_of c.in-AppliedTo.inner.value))
    (names_of (pattern_of c.in-AppliedTo.part.value))
    (ap names_of (ap pattern_of c.in-AppliedTo.is ∙ reads.reads_applied_to c.in-AppliedTo.inner c.in-AppliedTo.part))
    (rw c.deref-in-AppliedTo.ensures at c.in_ok-in_strategy-in-AppliedTo.ensures)
    (rw c.deref-in-AppliedTo-2.ensures at c.in_pattern-in-AppliedTo.ensures)

pub in_primary-returns-in_ok-in_strategy-in-Apply : goal.in_primary-returns-in_ok-in_strategy-in-Apply
in_primary-returns-in_ok-in_strategy-in-Apply t c =
    then_ok c.in_pattern.result (bound_names c.args.bound.now)
    c.args.found.now c.in_strategy.new.found c.in_pattern.new.found
    (free_in_primary (primary_of c.args.source.now)) (free_in (strategy_of c.in-Apply.inner.value))
    (names_of (pattern_of c.in-Apply.part.value))
    (ap free_in_primary (ap primary_of c.in-Apply.is ∙ reads.reads_apply c.in-Apply.inner c.in-Apply.part))
    (rw c.deref.ensures at c.in_ok-in_strategy-in-Apply.ensures) (rw c.deref-in-Apply.ensures at c.in_pattern.ensures)

pub in_primary-returns-in_ok-in_strategy-in-If-2 : goal.in_primary-returns-in_ok-in_strategy-in-If-2
in_primary-returns-in_ok-in_strategy-in-If-2 t c =
    let B = bound_names c.args.bound.now in
    let rest = free_in_optional (optional_strategy_of c.in-If.otherwise) in
    then_ok c.in_optional_strategy.result B c.args.found.now c.in_strategy-in-If.new.found
    c.in_optional_strategy.new.found
    (free_in_primary (primary_of c.args.source.now)) (free_in (strategy_of c.in-If.guard.value))
    (free_in (strategy_of c.in-If.then.value) ++ rest)
    (ap free_in_primary (ap primary_of c.in-If.is ∙
    reads.reads_conditional c.in-If.guard c.in-If.then c.in-If.otherwise))
    (rw c.deref-in-If.ensures at c.in_ok-in_strategy-in-If.ensures)
    (then_ok c.in_optional_strategy.result B c.in_strategy-in-If.new.found c.in_strategy-in-If-2.new.found
    c.in_optional_strategy.new.found
    (free_in (strategy_of c.in-If.then.value) ++ rest) (free_in (strategy_of c.in-If.then.value)) rest refl
    (rw c.deref-in-If-2.ensures at c.in_ok-in_strategy-in-If-2.ensures) c.in_optional_strategy.ensures)

pub in_primary-returns-in_ok-in_definitions-in-Let : goal.in_primary-returns-in_ok-in_definitions-in-Let
in_primary-returns-in_ok-in_definitions-in-Let t c =
    then_ok c.in_strategy-in-Let.result (bound_names c.args.bound.now)
    c.args.found.now c.in_definitions.new.found c.in_strategy-in-Let.new.found
    (free_in_primary (primary_of c.args.source.now)) (free_in_definitions (definitions_of c.in-Let.definitions.items))
    (free_in (strategy_of c.in-Let.inner.value))
    (ap free_in_primary (ap primary_of c.in-Let.is ∙ reads.reads_let c.in-Let.definitions c.in-Let.inner))
    (rw c.deref-in-Let.ensures.value at c.in_ok-in_definitions-in-Let.ensures)
    (rw c.deref-in-Let-2.ensures at c.in_strategy-in-Let.ensures)

pub in_primary-returns-in_ok-in_strategies-in-ListCongruence :
    goal.in_primary-returns-in_ok-in_strategies-in-ListCongruence
in_primary-returns-in_ok-in_strategies-in-ListCongruence t c =
    then_ok c.in_optional_strategy-in-ListCongruence.result (bound_names c.args.bound.now)
    c.args.found.now c.in_strategies-in-ListCongruence.new.found c.in_optional_strategy-in-ListCongruence.new.found
    (free_in_primary (primary_of c.args.source.now)) (free_among (strategies_of c.in-ListCongruence.parts.items))
    (free_in_optional (optional_strategy_of c.in-ListCongruence.rest))
    (ap free_in_primary (ap primary_of c.in-ListCongruence.is ∙
    reads.reads_list_congruence c.in-ListCongruence.parts c.in-ListCongruence.rest))
    (rw c.deref-in-ListCongruence.ensures.value at c.in_ok-in_strategies-in-ListCongruence.ensures)
    c.in_optional_strategy-in-ListCongruence.ensures

pub in_definition-returns-in-Absent : goal.in_definition-returns-in-Absent
in_definition-returns-in-Absent t c =
    let body = strategy_of c.args.source.now.body.value in
    let whole : free_in_definition (definition_of c.args.source.now) ≡ without [] (free_in body) =
    ap free_in_definition (reads_definition c.args.source.now) ∙
    ap (λ ps. without (term_names (parameters_of ps)) (free_in body)) c.in-Absent.is in
    plain_ok c.in_strategy.result (bound_names c.args.bound.now)
    c.args.found.now c.in_strategy.new.found (free_in_definition (definition_of c.args.source.now)) (free_in body)
    whole
    (rw c.deref-in-Absent.ensures at c.in_strategy.ensures)

pub in_definition-returns-in-Strategies : goal.in_definition-returns-in-Strategies
in_definition-returns-in-Strategies t c =
    let body = strategy_of c.args.source.now.body.value in
    let whole : free_in_definition (definition_of c.args.source.now) ≡ without [] (free_in body) =
    ap free_in_definition (reads_definition c.args.source.now) ∙
    ap (λ ps. without (term_names (parameters_of ps)) (free_in body)) c.in-Strategies.is in
    plain_ok c.in_strategy-in-Strategies.result (bound_names c.args.bound.now)
    c.args.found.now c.in_strategy-in-Strategies.new.found (free_in_definition (definition_of c.args.source.now))
    (free_in body)
    whole (rw c.deref-in-Strategies.ensures at c.in_strategy-in-Strategies.ensures)

pub in_rule-returns : goal.in_rule-returns
in_rule-returns t c =
    let B = bound_names c.args.bound.now in
    let left = names_of (pattern_of c.args.source.now.left.value) in
    let right = names_of (pattern_of c.args.source.now.right.value) in
    let rest = free_in_optional (optional_strategy_of c.args.source.now.condition) in
    let whole : free_in_rule (rule_of c.args.source.now) ≡ left ++ (right ++ rest) =
    ap free_in_rule (reads_rule c.args.source.now) in
    then_ok c.in_optional_strategy.result B c.args.found.now c.in_pattern.new.found c.in_optional_strategy.new.found
    (free_in_rule (rule_of c.args.source.now)) left (right ++ rest) whole
    (rw c.deref.ensures at c.in_ok-in_pattern.ensures)
    (then_ok c.in_optional_strategy.result B c.in_pattern.new.found c.in_pattern-2.new.found
    c.in_optional_strategy.new.found (right ++ rest) right rest refl
    (rw c.deref-2.ensures at c.in_ok-in_pattern-2.ensures) c.in_optional_strategy.ensures)

pub in_sequence-returns-in_ok-in_step-in-Then : goal.in_sequence-returns-in_ok-in_step-in-Then
in_sequence-returns-in_ok-in_step-in-Then t c =
    then_ok c.in_sequence.result (bound_names c.args.bound.now)
    c.args.found.now c.in_step-in-Then.new.found c.in_sequence.new.found
    (free_in_sequence (sequence_of c.args.source.now)) (free_in_step (step_of c.in-Then.first))
    (free_in_sequence (sequence_of c.in-Then.others.value))
    (ap free_in_sequence (ap sequence_of c.in-Then.is ∙ reads.reads_then c.in-Then.first c.in-Then.others))
    c.in_ok-in_step-in-Then.ensures (rw c.deref.ensures at c.in_sequence.ensures)

pub in_step-returns-in_ok-in_primary-in-Matching : goal.in_step-returns-in_ok-in_primary-in-Matching
in_step-returns-in_ok-in_primary-in-Matching t c =
    then_ok c.in_pattern.result (bound_names c.args.bound.now)
    c.args.found.now c.in_primary-in-Matching.new.found c.in_pattern.new.found
    (free_in_step (step_of c.args.source.now)) (free_in_primary (primary_of c.in-Matching.first.value))
    (names_of (pattern_of c.in-Matching.pattern.value))
    (ap free_in_step (ap step_of c.in-Matching.is ∙ reads.reads_matching _ c.in-Matching.first _ c.in-Matching.pattern))
    (rw c.deref-in-Matching.ensures at c.in_ok-in_primary-in-Matching.ensures)
    (rw c.deref-in-Matching-2.ensures at c.in_pattern.ensures)

pub in_strategy-returns-in_ok-in_sequence-in-LeftChoice : goal.in_strategy-returns-in_ok-in_sequence-in-LeftChoice
in_strategy-returns-in_ok-in_sequence-in-LeftChoice t c =
    then_ok c.in_strategy.result (bound_names c.args.bound.now)
    c.args.found.now c.in_sequence-in-LeftChoice.new.found c.in_strategy.new.found
    (free_in (strategy_of c.args.source.now)) (free_in_sequence (sequence_of c.in-LeftChoice.first))
    (free_in (strategy_of c.in-LeftChoice.others.value))
    (ap free_in (ap strategy_of c.in-LeftChoice.is ∙
    reads.reads_left_choice c.in-LeftChoice.first c.in-LeftChoice.others))
    c.in_ok-in_sequence-in-LeftChoice.ensures (rw c.deref.ensures at c.in_strategy.ensures)

pub in_strategy-returns-in_ok-in_strategy-in-GuardedChoice : goal.in_strategy-returns-in_ok-in_strategy-in-GuardedChoice
in_strategy-returns-in_ok-in_strategy-in-GuardedChoice t c =
    let B = bound_names c.args.bound.now in
    let second = free_in (strategy_of c.in-GuardedChoice.second.value) in
    let third = free_in (strategy_of c.in-GuardedChoice.third.value) in
    then_ok c.in_strategy-in-GuardedChoice-2.result B c.args.found.now c.in_sequence-in-GuardedChoice.new.found
    c.in_strategy-in-GuardedChoice-2.new.found
    (free_in (strategy_of c.args.source.now)) (free_in_sequence (sequence_of c.in-GuardedChoice.first)) (second ++
    third)
    (ap free_in (ap strategy_of c.in-GuardedChoice.is ∙
    reads.reads_guarded_choice c.in-GuardedChoice.first c.in-GuardedChoice.second c.in-GuardedChoice.third))
    c.in_ok-in_sequence-in-GuardedChoice.ensures
    (then_ok c.in_strategy-in-GuardedChoice-2.result B c.in_sequence-in-GuardedChoice.new.found
    c.in_strategy-in-GuardedChoice.new.found c.in_strategy-in-GuardedChoice-2.new.found
    (second ++ third) second third refl
    (rw c.deref-in-GuardedChoice.ensures at c.in_ok-in_strategy-in-GuardedChoice.ensures)
    (rw c.deref-in-GuardedChoice-2.ensures at c.in_strategy-in-GuardedChoice-2.ensures))

pub left_variables-returns : goal.left_variables-returns
left_variables-returns t c =
    let left = names_of (pattern_of c.args.source.now.left.value) in
    let whole : left_names (rule_of c.args.source.now) ≡ left = ap left_names (reads_rule c.args.source.now) in
    left_all c.new-found.result c.in_pattern.new.found left (left_names (rule_of c.args.source.now))
    c.new-found.ensures (rw c.deref.ensures at c.in_ok-in_pattern.ensures) whole
