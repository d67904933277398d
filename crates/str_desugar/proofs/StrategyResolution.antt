-- Strategies of a file whose names are bound, whose calls are seen and whose definitions agree on their parameters are
-- resolved.
use Rattle.std.proofs.Common.{◌≡◌, ℕ, suc, ◌+◌, ◌≤◌, List, [], ◌∷◌, ◌++◌, map, refl, sym, ◌∙◌, arith}
use Rattle.std.specs.Prelude.{Bool, false, not, ◌||◌}
use Rattle.std.proofs.lemmas.Bool.{or_parts}
use Rattle.term_model.specs.Symbol.{Tuple}
use Rattle.core_lang.specs.Named.{NamedDefinitions, Name, written}
use Rattle.core_lang.specs.Program as core
use Rattle.core_lang.specs.Resolution.{Scopes, names, defined, to_id, to_fail, to_seq, to_choice, to_match, to_scope, to_all, to_one, to_some, to_definitions, to_primitive, to_no_patterns, to_no_strategies, to_more_strategies, to_no_definitions, to_more_definitions}
use Rattle.signature_core.specs.Signature.{Declared, arity_known}
use Rattle.scope_check.specs.Complaint.{is_unknown, has_bad_parameters, repeats, some_differ, too_many, is_congruence, called}
use Rattle.scope_check.specs.declared.side.Side.TheVariants.{Match, Build}
use Rattle.scope_check.specs.Seen.{Seen, among, plain_key, key_of, heads_in, in_rec, in_let, in_body}
use Rattle.scope_check.specs.Somewhere.{heading, in_pattern, in_patterns, in_optional_pattern, in_strategy, in_strategies, in_optional_strategy, in_sequence, in_step, in_primary, in_arguments, in_rule, in_definition, in_definitions}
use Rattle.str_syntax.specs.Arity.{number_of_patterns, number_of_strategies}
use Rattle.str_syntax.specs.declared.definition.Origin.TheVariants as origins
use Rattle.str_syntax.specs.declared.strategy.Operator.TheVariants as operators
use Rattle.str_syntax.specs.Trees.{Bytes, ParameterTree, head, PatternTree, variable, wildcard, alias, integer, quoted, application, grouped, tuple, list, annotated, applied, applied_to, PatternTrees, no_patterns, more_patterns, OptionalPattern, no_pattern, one_pattern, StrategyTree, plain_sequence, left_choice, guarded_choice, StrategyTrees, no_strategies, more_strategies, OptionalStrategy, no_strategy, one_strategy, SequenceTree, last, then, StepTree, plain_step, matching, PrimaryTree, identity, failure, match, build, apply, parenthesized, scope, operator, conditional, recursive, let_in, primitive, lambda, call, tuple_congruence, list_congruence, ArgumentTree, no_arguments, strategy_arguments, all_arguments, RuleTree, rewrites, DefinitionTree, definition, DefinitionTrees, no_definitions, more_definitions}
use Rattle.str_desugar.specs.Alternatives.{definitions_of_all}
use Rattle.str_desugar.specs.Brought.{first_names, kept}
use Rattle.str_desugar.specs.Equations.{constructor_symbol, applications, applications_among, applications_of_rest, built, built_parts, build_after, symbol_congruence, part_of, strategy_core, sequence_core, step_core, primary_core, strategies_core, otherwise_core, rule_core, parts, results, results_among, results_of_rest, alternatives, alternative_core}
use Rattle.str_desugar.specs.Variables.{each_once, names_of, names_among, names_of_rest, free_in, free_among, free_in_optional, free_in_sequence, free_in_step, free_in_primary, free_in_rule, left_names, free_in_definition, free_in_definitions}
use Rattle.str_syntax.specs.Arity.{strategy_names, term_names}
use Rattle.str_desugar.proofs.BoundLaws.{IsBound}
use Rattle.str_desugar.proofs.BroughtNames.{Brings, BringsResults, brings}
use Rattle.str_desugar.proofs.FormLaws.{IsResolved, StrategiesResolved, AllResolved, all_and, within, scoped_resolved, sees_in_scope, keeps, results_brought, bound_kept, sees_kept, where_resolved, result_resolved, part_resolved, congruent, symbol_resolved, list_resolved, rest_resolved, called_resolved}
use Rattle.str_desugar.proofs.GroupLaws.{AlternativeResolved, AlternativesResolved, AllAgree, definitions_resolved, no_definition}
use Rattle.str_desugar.proofs.HeadLaws.{AreOf, same_keys, agree_from_heads}
use Rattle.str_desugar.proofs.NameLists.{AreBound, bound_left, bound_right, bound_further, bound_within}
use Rattle.str_desugar.proofs.PartLaws.{Neither, neither_first, neither_rest, is_known, either_resolved, bound_past, bound_once, sees_body, seen_first, as_many_strategies, as_many_patterns, built_by, called_by}
use Rattle.str_desugar.proofs.PatternResolution.{matched_resolved, patterns_resolved, built_parts_resolved}
use Rattle.str_desugar.proofs.SeenLaws.{Sees, sees_further, sees_definitions, Covers, covers_rec}

module _ (ds : List Declared) where
  abbrev declared : Bytes → ℕ → Bool
  declared = arity_known ds

  -- neither test holds of a node of the tree
  abbrev pub FineStrategy : Seen → StrategyTree → Type 0
  FineStrategy L s = Neither (in_strategy (is_unknown ds) L s) (in_strategy has_bad_parameters L s)

  abbrev pub FineStrategies : Seen → StrategyTrees → Type 0
  FineStrategies L ss = Neither (in_strategies (is_unknown ds) L ss) (in_strategies has_bad_parameters L ss)

  abbrev pub FineOptional : Seen → OptionalStrategy → Type 0
  FineOptional L s = Neither (in_optional_strategy (is_unknown ds) L s) (in_optional_strategy has_bad_parameters L s)

  abbrev pub FineSequence : Seen → SequenceTree → Type 0
  FineSequence L q = Neither (in_sequence (is_unknown ds) L q) (in_sequence has_bad_parameters L q)

  abbrev pub FineStep : Seen → StepTree → Type 0
  FineStep L s = Neither (in_step (is_unknown ds) L s) (in_step has_bad_parameters L s)

  abbrev pub FinePrimary : Seen → PrimaryTree → Type 0
  FinePrimary L s = Neither (in_primary (is_unknown ds) L s) (in_primary has_bad_parameters L s)

  abbrev pub FineRule : Seen → RuleTree → Type 0
  FineRule L r = Neither (in_rule (is_unknown ds) L r) (in_rule has_bad_parameters L r)

  abbrev pub FineDefinition : Seen → DefinitionTree → Type 0
  FineDefinition L d = Neither (in_definition (is_unknown ds) origins.File L d)
      (in_definition has_bad_parameters origins.File L d)

  abbrev pub FineDefinitions : Seen → DefinitionTrees → Type 0
  FineDefinitions L d = Neither (in_definitions (is_unknown ds) L d) (in_definitions has_bad_parameters L d)

  -- what is built
  abbrev pub FineBuild : Seen → PatternTree → Type 0
  FineBuild L p = Neither (in_pattern (is_unknown ds) Build L p) (in_pattern has_bad_parameters Build L p)

  abbrev pub FineBuilds : Seen → PatternTrees → Type 0
  FineBuilds L ps = Neither (in_patterns (is_unknown ds) Build L ps) (in_patterns has_bad_parameters Build L ps)

  abbrev pub FineRest : Seen → OptionalPattern → Type 0
  FineRest L p = Neither (in_optional_pattern (is_unknown ds) Build L p)
      (in_optional_pattern has_bad_parameters Build L p)

  -- the definitions of a let and their heads
  alternatives_of : (d : DefinitionTrees) → AreOf (alternatives declared d) (heads_in d)
  alternatives_of no_definitions = tt
  alternatives_of (more_definitions (definition (head f ps) s) d) =
      (record { name = refl; strategies = refl; terms = refl }, alternatives_of d)

  covers_let : (d : DefinitionTrees) →
      Covers (definitions_of_all (alternatives declared d)) (among (map key_of (heads_in d)))
  covers_let d = λ k none. sym (same_keys (alternatives declared d) (heads_in d) (alternatives_of d) k) ∙
      no_definition k (alternatives declared d) none

  -- what is fine about the parts where a test may hold of the node itself
  fine_scope : (L : Seen) (xs : List Bytes) (s : StrategyTree) → FinePrimary L (scope xs s) → FineStrategy L s
  fine_scope L xs s fine = (fine.0, (or_parts (repeats xs) (in_strategy has_bad_parameters L s) fine.1).1)

  known_callee : (L : Seen) (f : Bytes) (given : ArgumentTree) → FinePrimary L (call f given) →
      not (is_congruence ds f given || L (called f given)) ≡ false
  known_callee L f given fine =
      (or_parts (not (is_congruence ds f given || L (called f given))) (in_arguments (is_unknown ds) L given) fine.0).0

  fine_arguments : (L : Seen) (f : Bytes) (given : ArgumentTree) → FinePrimary L (call f given) →
      Neither (in_arguments (is_unknown ds) L given) (in_arguments has_bad_parameters L given)
  fine_arguments L f given fine = (
    (or_parts (not (is_congruence ds f given || L (called f given))) (in_arguments (is_unknown ds) L given)
        fine.0).1,
    fine.1,
  )

  fine_body : (L : Seen) (f : Bytes) (ps : ParameterTree) (s : StrategyTree) →
      FineDefinition L (definition (head f ps) s) → FineStrategy (in_body (head f ps) L) s
  fine_body L f ps s fine = (
    fine.0,
    (or_parts (has_bad_parameters L (heading origins.File (head f ps)))
        (in_strategy has_bad_parameters (in_body (head f ps) L) s) fine.1).1,
  )

  fine_let : (L : Seen) (d : DefinitionTrees) (s : StrategyTree) → FinePrimary L (let_in d s) →
      Neither (in_definitions (is_unknown ds) (in_let d L) d || in_strategy (is_unknown ds) (in_let d L) s)
      (in_definitions has_bad_parameters (in_let d L) d || in_strategy has_bad_parameters (in_let d L) s)
  fine_let L d s fine = (
    fine.0,
    (or_parts (some_differ (heads_in d) || too_many (heads_in d))
        (in_definitions has_bad_parameters (in_let d L) d || in_strategy has_bad_parameters (in_let d L) s) fine.1).1,
  )

  let_agrees : (L : Seen) (d : DefinitionTrees) (s : StrategyTree) → FinePrimary L (let_in d s) →
      AllAgree (alternatives declared d) (alternatives declared d)
  let_agrees L d s fine =
      let group : (some_differ (heads_in d) || too_many (heads_in d)) ≡ false =
      (or_parts (some_differ (heads_in d) || too_many (heads_in d)) (in_definitions has_bad_parameters (in_let d L) d ||
      in_strategy has_bad_parameters (in_let d L) s) fine.1).0 in
      agree_from_heads (alternatives declared d) (heads_in d) (alternatives_of d)
      (or_parts (some_differ (heads_in d)) (too_many (heads_in d)) group).0

  fine_right : (L : Seen) (p t : PatternTree) (s : OptionalStrategy) → FineRule L (rewrites p t s) →
      Neither (in_pattern (is_unknown ds) Build L t ||
      in_optional_strategy (is_unknown ds) L s) (in_pattern has_bad_parameters Build L t ||
      in_optional_strategy has_bad_parameters L s)
  fine_right L p t s fine =
      neither_rest (in_pattern (is_unknown ds) Match L p) (in_pattern (is_unknown ds) Build L t ||
      in_optional_strategy (is_unknown ds) L s)
      (in_pattern has_bad_parameters Match L p) (in_pattern has_bad_parameters Build L t ||
      in_optional_strategy has_bad_parameters L s) fine

  mutual
    pub strategy_resolved : (S : Scopes) (L : Seen) (s : StrategyTree) → FineStrategy L s → AreBound S (free_in s) →
        Sees S L → IsResolved S (strategy_core declared s)
    strategy_resolved S L (plain_sequence q) fine bound sees = sequence_resolved S L q fine bound sees
    strategy_resolved S L (left_choice q s) fine bound sees =
        to_choice (sequence_resolved S L q (neither_first _ _ _ _ fine)
        (bound_left S (free_in_sequence q) (free_in s) bound) sees) to_id
        (strategy_resolved S L s (neither_rest _ _ _ _ fine) (bound_right S (free_in_sequence q) (free_in s) bound)
        sees)
    strategy_resolved S L (guarded_choice q s t) fine bound sees =
        let rest : Neither _ _ = neither_rest _ _ _ _ fine in
        let both : AreBound S (free_in s ++ free_in t) =
        bound_right S (free_in_sequence q) (free_in s ++ free_in t) bound in
        to_choice (sequence_resolved S L q (neither_first _ _ _ _ fine)
        (bound_left S (free_in_sequence q) (free_in s ++ free_in t) bound) sees)
        (strategy_resolved S L s (neither_first _ _ _ _ rest) (bound_left S (free_in s) (free_in t) both) sees)
        (strategy_resolved S L t (neither_rest _ _ _ _ rest) (bound_right S (free_in s) (free_in t) both) sees)

    pub sequence_resolved : (S : Scopes) (L : Seen) (q : SequenceTree) → FineSequence L q →
        AreBound S (free_in_sequence q) → Sees S L → IsResolved S (sequence_core declared q)
    sequence_resolved S L (last s) fine bound sees = step_resolved S L s fine bound sees
    sequence_resolved S L (then s q) fine bound sees =
        to_seq (step_resolved S L s (neither_first _ _ _ _ fine)
        (bound_left S (free_in_step s) (free_in_sequence q) bound) sees)
        (sequence_resolved S L q (neither_rest _ _ _ _ fine) (bound_right S (free_in_step s) (free_in_sequence q) bound)
        sees)

    pub step_resolved : (S : Scopes) (L : Seen) (s : StepTree) → FineStep L s → AreBound S (free_in_step s) → Sees S L →
        IsResolved S (step_core declared s)
    step_resolved S L (plain_step s) fine bound sees = primary_resolved S L s fine bound sees
    step_resolved S L (matching s p) fine bound sees =
        to_seq (primary_resolved S L s (neither_first _ _ _ _ fine)
        (bound_left S (free_in_primary s) (names_of p) bound) sees)
        (to_match (matched_resolved S p (bound_right S (free_in_primary s) (names_of p) bound)))

    pub primary_resolved : (S : Scopes) (L : Seen) (s : PrimaryTree) → FinePrimary L s →
        AreBound S (free_in_primary s) → Sees S L → IsResolved S (primary_core declared s)
    primary_resolved S L identity fine bound sees = to_id
    primary_resolved S L failure fine bound sees = to_fail
    primary_resolved S L (match p) fine bound sees = to_match (matched_resolved S p bound)
    primary_resolved S L (build p) fine bound sees =
        built_by declared S L p bound sees
        (λ T k r b z. results_resolved T L (applications p) 0 p fine b z k r (omega arith))
    primary_resolved S L (apply s p) fine bound sees =
        let rest : Neither (in_strategy (is_unknown ds) L s ||
        in_pattern (is_unknown ds) Build L p) (in_strategy has_bad_parameters L s ||
        in_pattern has_bad_parameters Build L p) = fine in
        to_seq (built_by declared S L p (bound_right S (free_in s) (names_of p) bound) sees
        (λ T k r b z. results_resolved T L (applications p) 0 p (neither_rest _ _ _ _ rest) b z k r (omega arith)))
        (strategy_resolved S L s (neither_first _ _ _ _ rest) (bound_left S (free_in s) (names_of p) bound) sees)
    primary_resolved S L (parenthesized s) fine bound sees = strategy_resolved S L s fine bound sees
    primary_resolved S L (scope xs s) fine bound sees =
        to_scope refl (strategy_resolved (names [] (map written xs) S) L s (fine_scope L xs s fine)
        (bound_within S [] xs (free_in s) bound)
        (sees_further S [] (map written xs) L sees))
    primary_resolved S L (operator operators.Where s) fine bound sees =
        where_resolved S (strategy_core declared s)
        (strategy_resolved (names [] (first_names 1) S) L s fine (bound_further S [] (first_names 1) (free_in s) bound)
        (sees_further S [] (first_names 1) L sees))
    primary_resolved S L (operator operators.Not s) fine bound sees =
        to_choice (strategy_resolved S L s fine bound sees) to_fail to_id
    primary_resolved S L (operator operators.All s) fine bound sees = to_all (strategy_resolved S L s fine bound sees)
    primary_resolved S L (operator operators.One s) fine bound sees = to_one (strategy_resolved S L s fine bound sees)
    primary_resolved S L (operator operators.Some s) fine bound sees = to_some (strategy_resolved S L s fine bound sees)
    primary_resolved S L (conditional s t u) fine bound sees =
        let rest : Neither (in_strategy (is_unknown ds) L s ||
        (in_strategy (is_unknown ds) L t || in_optional_strategy (is_unknown ds) L u))
        (in_strategy has_bad_parameters L s ||
        (in_strategy has_bad_parameters L t || in_optional_strategy has_bad_parameters L u)) = fine in
        let branches : Neither (in_strategy (is_unknown ds) L t ||
        in_optional_strategy (is_unknown ds) L u) (in_strategy has_bad_parameters L t ||
        in_optional_strategy has_bad_parameters L u) =
        neither_rest _ _ _ _ rest in
        let test : AreBound S (free_in s) = bound_left S (free_in s) (free_in t ++ free_in_optional u) bound in
        let both : AreBound S (free_in t ++ free_in_optional u) =
        bound_right S (free_in s) (free_in t ++ free_in_optional u) bound in
        to_choice (where_resolved S (strategy_core declared s)
        (strategy_resolved (names [] (first_names 1) S) L s (neither_first _ _ _ _ rest)
        (bound_further S [] (first_names 1) (free_in s) test)
        (sees_further S [] (first_names 1) L sees)))
        (strategy_resolved S L t (neither_first _ _ _ _ branches) (bound_left S (free_in t) (free_in_optional u) both)
        sees)
        (otherwise_resolved S L u (neither_rest _ _ _ _ branches) (bound_right S (free_in t) (free_in_optional u) both)
        sees)
    primary_resolved S L (recursive f s) fine bound sees =
        let D : NamedDefinitions =
        core.more_definitions (written f) [] [] (strategy_core declared s) core.no_definitions in
        let inside : Sees (defined D S) (in_rec f L) =
        sees_definitions S D (among (plain_key f ∷ [])) L (covers_rec f (strategy_core declared s)) sees in
        to_definitions (to_more_definitions refl refl
        (strategy_resolved (names [] [] (defined D S)) (in_rec f L) s fine
        (bound_further (defined D S) [] [] (free_in s) (bound_past S D (free_in s) bound))
        (sees_further (defined D S) [] [] (in_rec f L) inside)) to_no_definitions)
        (called_resolved (defined D S) (written f)
        0 0 core.no_strategies core.no_patterns (inside (plain_key f) (seen_first f L))
        refl refl to_no_strategies to_no_patterns)
    primary_resolved S L (let_in d s) fine bound sees =
        let M : Seen = in_let d L in
        let inner : Neither (in_definitions (is_unknown ds) M d ||
        in_strategy (is_unknown ds) M s) (in_definitions has_bad_parameters M d ||
        in_strategy has_bad_parameters M s) =
        fine_let L d s fine in
        let D : NamedDefinitions = definitions_of_all (alternatives declared d) in
        let inside : Sees (defined D S) M =
        sees_definitions S D (among (map key_of (heads_in d))) L (covers_let d) sees in
        to_definitions
        (definitions_resolved (defined D S) (alternatives declared d)
        (alternatives_resolved (defined D S) M d (neither_first _ _ _ _ inner)
        (bound_past S D (free_in_definitions d) (bound_left S (free_in_definitions d) (free_in s) bound)) inside)
        (let_agrees L d s fine))
        (strategy_resolved (defined D S) M s (neither_rest _ _ _ _ inner)
        (bound_past S D (free_in s) (bound_right S (free_in_definitions d) (free_in s) bound)) inside)
    primary_resolved S L (primitive name ps) fine bound sees =
        let n : ℕ = applications_among ps in
        called_by declared S L ps (core.primitive name (built_parts 0 ps)) bound sees
        (λ T k r b z. results_among_resolved T L (applications_among ps) 0 ps fine b z k r (omega arith))
        (to_primitive (patterns_resolved (keeps S n) (built_parts 0 ps)
        (built_parts_resolved (keeps S n) n 0 ps (bound_kept S n (names_among ps) bound) (results_brought S n)
        (omega arith))))
    primary_resolved S L (lambda r) fine bound sees =
        scoped_resolved S (each_once (left_names r)) (rule_core declared r)
        (rule_resolved (within S (each_once (left_names r)))
        L r fine (bound_once S (left_names r) (free_in_rule r) bound)
        (sees_in_scope S (each_once (left_names r)) L sees))
    primary_resolved S L (call f no_arguments) fine bound sees =
        called_resolved S (written f) 0 0 core.no_strategies core.no_patterns
        (sees (called f no_arguments)
        (is_known false (L (called f no_arguments)) (known_callee L f no_arguments fine) refl))
        refl refl to_no_strategies to_no_patterns
    primary_resolved S L (call f (strategy_arguments ss)) fine bound sees =
        let n : ℕ = number_of_strategies ss in
        let given : FineStrategies L ss = fine_arguments L f (strategy_arguments ss) fine in
        either_resolved S (declared f n) (symbol_congruence (constructor_symbol f) n (parts declared n 0 ss))
        (core.call (written f) (strategies_core declared ss) core.no_patterns)
        (λ is. symbol_resolved S (constructor_symbol f) n (parts declared n 0 ss)
        (parts_resolved (congruent S n)
        L n 0 ss given (bound_further S [] (first_names (suc (n + n))) (free_among ss) bound)
        (sees_further S [] (first_names (suc (n + n))) L sees) (brings S (suc (n + n))) (omega arith)))
        (λ is_not. called_resolved S (written f) n 0 (strategies_core declared ss) core.no_patterns
        (sees (called f (strategy_arguments ss))
        (is_known (declared f n) (L (called f (strategy_arguments ss)))
        (known_callee L f (strategy_arguments ss) fine) is_not))
        (as_many_strategies declared ss) refl (strategies_resolved S L ss given bound sees) to_no_patterns)
    primary_resolved S L (call f (all_arguments ss ps)) fine bound sees =
        let n : ℕ = applications_among ps in
        let T : Scopes = keeps S n in
        let rest : Neither (in_strategies (is_unknown ds) L ss ||
        in_patterns (is_unknown ds) Build L ps) (in_strategies has_bad_parameters L ss ||
        in_patterns has_bad_parameters Build L ps) =
        fine_arguments L f (all_arguments ss ps) fine in
        let named : AreBound S (names_among ps) = bound_right S (free_among ss) (names_among ps) bound in
        called_by declared S L ps (core.call (written f) (strategies_core declared ss) (built_parts 0 ps)) named sees
        (λ Z k r b z. results_among_resolved Z L (applications_among ps) 0 ps (neither_rest _ _ _ _ rest)
        b z k r (omega arith))
        (called_resolved T (written f) (number_of_strategies ss) (number_of_patterns ps) (strategies_core declared ss)
        (built_parts 0 ps)
        (sees_kept S n L sees (called f (all_arguments ss ps))
        (is_known false (L (called f (all_arguments ss ps))) (known_callee L f (all_arguments ss ps) fine) refl))
        (as_many_strategies declared ss) (as_many_patterns 0 ps)
        (strategies_resolved T L ss (neither_first _ _ _ _ rest)
        (bound_kept S n (free_among ss) (bound_left S (free_among ss) (names_among ps) bound))
        (sees_kept S n L sees))
        (patterns_resolved T (built_parts 0 ps)
        (built_parts_resolved T n 0 ps (bound_kept S n (names_among ps) named) (results_brought S n)
        (omega arith))))
    primary_resolved S L (tuple_congruence ss) fine bound sees =
        let n : ℕ = number_of_strategies ss in
        symbol_resolved S Tuple n (parts declared n 0 ss)
        (parts_resolved (congruent S n)
        L n 0 ss fine (bound_further S [] (first_names (suc (n + n))) (free_among ss) bound)
        (sees_further S [] (first_names (suc (n + n))) L sees) (brings S (suc (n + n))) (omega arith))
    primary_resolved S L (list_congruence ss no_strategy) fine bound sees =
        let n : ℕ = number_of_strategies ss in
        let rest : Neither (in_strategies (is_unknown ds) L ss || false) (in_strategies has_bad_parameters L ss ||
        false) = fine in
        list_resolved S n (parts declared n 0 ss)
        (parts_resolved (congruent S n) L n 0 ss (neither_first _ _ _ _ rest)
        (bound_further S [] (first_names (suc (n + n))) (free_among ss) (bound_left S (free_among ss) [] bound))
        (sees_further S [] (first_names (suc (n + n))) L sees) (brings S (suc (n + n))) (omega arith))
    primary_resolved S L (list_congruence ss (one_strategy s)) fine bound sees =
        let n : ℕ = number_of_strategies ss in
        let rest : Neither (in_strategies (is_unknown ds) L ss ||
        in_strategy (is_unknown ds) L s) (in_strategies has_bad_parameters L ss ||
        in_strategy has_bad_parameters L s) =
        fine in
        let T : Scopes = congruent S (suc n) in
        let inner : List Name = first_names (suc (suc n + suc n)) in
        rest_resolved S n (parts declared (suc n) 0 ss ++ part_of (suc n) n (strategy_core declared s))
        (all_and T (parts declared (suc n) 0 ss) (part_of (suc n) n (strategy_core declared s))
        (parts_resolved T L (suc n) 0 ss (neither_first _ _ _ _ rest)
        (bound_further S [] inner (free_among ss) (bound_left S (free_among ss) (free_in s) bound))
        (sees_further S [] inner L sees) (brings S (suc (suc n + suc n))) (omega arith))
        (part_resolved T (suc n) n (strategy_core declared s) (brings S (suc (suc n + suc n))) (omega arith)
        (strategy_resolved T L s (neither_rest _ _ _ _ rest)
        (bound_further S [] inner (free_in s) (bound_right S (free_among ss) (free_in s) bound))
        (sees_further S [] inner L sees))))

    strategies_resolved : (S : Scopes) (L : Seen) (ss : StrategyTrees) → FineStrategies L ss →
        AreBound S (free_among ss) → Sees S L → StrategiesResolved S (strategies_core declared ss)
    strategies_resolved S L no_strategies fine bound sees = to_no_strategies
    strategies_resolved S L (more_strategies s ss) fine bound sees =
        to_more_strategies (strategy_resolved S L s (neither_first _ _ _ _ fine)
        (bound_left S (free_in s) (free_among ss) bound) sees)
        (strategies_resolved S L ss (neither_rest _ _ _ _ fine) (bound_right S (free_in s) (free_among ss) bound) sees)

    otherwise_resolved : (S : Scopes) (L : Seen) (s : OptionalStrategy) → FineOptional L s →
        AreBound S (free_in_optional s) → Sees S L → IsResolved S (otherwise_core declared s)
    otherwise_resolved S L no_strategy fine bound sees = to_id
    otherwise_resolved S L (one_strategy s) fine bound sees = strategy_resolved S L s fine bound sees

    pub rule_resolved : (S : Scopes) (L : Seen) (r : RuleTree) → FineRule L r → AreBound S (free_in_rule r) → Sees S L →
        IsResolved S (rule_core declared r)
    rule_resolved S L (rewrites p t no_strategy) fine bound sees =
        let rest : Neither (in_pattern (is_unknown ds) Build L t || false) (in_pattern has_bad_parameters Build L t ||
        false) = fine_right L p t no_strategy fine in
        let right : AreBound S (names_of t ++ []) = bound_right S (names_of p) (names_of t ++ []) bound in
        to_seq (to_match (matched_resolved S p (bound_left S (names_of p) (names_of t ++ []) bound)))
        (built_by declared S L t (bound_left S (names_of t) [] right) sees
        (λ T k r b z. results_resolved T L (applications t) 0 t (neither_first _ _ _ _ rest) b z k r (omega arith)))
    rule_resolved S L (rewrites p t (one_strategy s)) fine bound sees =
        let rest : Neither (in_pattern (is_unknown ds) Build L t ||
        in_strategy (is_unknown ds) L s) (in_pattern has_bad_parameters Build L t ||
        in_strategy has_bad_parameters L s) =
        fine_right L p t (one_strategy s) fine in
        let right : AreBound S (names_of t ++ free_in s) = bound_right S (names_of p) (names_of t ++ free_in s) bound in
        to_seq (to_match (matched_resolved S p (bound_left S (names_of p) (names_of t ++ free_in s) bound)))
        (to_seq (where_resolved S (strategy_core declared s)
        (strategy_resolved (names [] (first_names 1) S) L s (neither_rest _ _ _ _ rest)
        (bound_further S [] (first_names 1) (free_in s) (bound_right S (names_of t) (free_in s) right))
        (sees_further S [] (first_names 1) L sees)))
        (built_by declared S L t (bound_left S (names_of t) (free_in s) right) sees
        (λ T k r b z. results_resolved T L (applications t) 0 t (neither_first _ _ _ _ rest) b z k r (omega arith))))

    parts_resolved : (T : Scopes) (L : Seen) (n i : ℕ) (ss : StrategyTrees) → FineStrategies L ss →
        AreBound T (free_among ss) → Sees T L → Brings T (suc (n + n)) →
        i + number_of_strategies ss ≤ n → AllResolved T (parts declared n i ss)
    parts_resolved T L n i no_strategies fine bound sees brought_here h = tt
    parts_resolved T L n i (more_strategies s ss) fine bound sees brought_here h =
        all_and T (part_of n i (strategy_core declared s)) (parts declared n (suc i) ss)
        (part_resolved T n i (strategy_core declared s) brought_here (omega arith)
        (strategy_resolved T L s (neither_first _ _ _ _ fine) (bound_left T (free_in s) (free_among ss) bound) sees))
        (parts_resolved T L n (suc i) ss (neither_rest _ _ _ _ fine) (bound_right T (free_in s) (free_among ss) bound)
        sees brought_here (omega arith))

    results_resolved : (T : Scopes) (L : Seen) (n i : ℕ) (p : PatternTree) → FineBuild L p → AreBound T (names_of p) →
        Sees T L → IsBound T kept → BringsResults T n →
        i + applications p ≤ n → AllResolved T (results declared i p)
    results_resolved T L n i (variable x) fine bound sees k r h = tt
    results_resolved T L n i wildcard fine bound sees k r h = tt
    results_resolved T L n i (alias x p) fine bound sees k r h =
        results_resolved T L n i p fine (bound_right T (x ∷ []) (names_of p) bound) sees k r h
    results_resolved T L n i (integer z) fine bound sees k r h = tt
    results_resolved T L n i (quoted text) fine bound sees k r h = tt
    results_resolved T L n i (application f ps) fine bound sees k r h =
        results_among_resolved T L n i ps fine bound sees k r h
    results_resolved T L n i (grouped p) fine bound sees k r h = results_resolved T L n i p fine bound sees k r h
    results_resolved T L n i (tuple ps) fine bound sees k r h = results_among_resolved T L n i ps fine bound sees k r h
    results_resolved T L n i (list ps p) fine bound sees k r h =
        let rest : Neither (in_patterns (is_unknown ds) Build L ps || in_optional_pattern (is_unknown ds) Build L p)
        (in_patterns has_bad_parameters Build L ps || in_optional_pattern has_bad_parameters Build L p) = fine in
        all_and T (results_among declared i ps) (results_of_rest declared (i + applications_among ps) p)
        (results_among_resolved T L n i ps (neither_first _ _ _ _ rest)
        (bound_left T (names_among ps) (names_of_rest p) bound) sees k r (omega arith))
        (results_of_rest_resolved T L n (i + applications_among ps) p (neither_rest _ _ _ _ rest)
        (bound_right T (names_among ps) (names_of_rest p) bound) sees k r (omega arith))
    results_resolved T L n i (annotated p qs) fine bound sees k r h =
        let rest : Neither (in_pattern (is_unknown ds) Build L p ||
        in_patterns (is_unknown ds) Build L qs) (in_pattern has_bad_parameters Build L p ||
        in_patterns has_bad_parameters Build L qs) =
        fine in
        all_and T (results declared i p) (results_among declared (i + applications p) qs)
        (results_resolved T L n i p (neither_first _ _ _ _ rest) (bound_left T (names_of p) (names_among qs) bound)
        sees k r (omega arith))
        (results_among_resolved T L n (i + applications p) qs (neither_rest _ _ _ _ rest)
        (bound_right T (names_of p) (names_among qs) bound) sees k r (omega arith))
    results_resolved T L n i (applied s) fine bound sees k r h =
        result_resolved T n i (strategy_core declared s ∷ []) k r (omega arith)
        (strategy_resolved T L s fine bound sees, tt)
    results_resolved T L n i (applied_to s p) fine bound sees k r h =
        let rest : Neither (in_strategy (is_unknown ds) L s ||
        in_pattern (is_unknown ds) Build L p) (in_strategy has_bad_parameters L s ||
        in_pattern has_bad_parameters Build L p) =
        fine in
        result_resolved T n i (build_after (applications p) (results declared 0 p) (built 0 p) ∷
        strategy_core declared s ∷ []) k r (omega arith) (
          built_by declared T L p (bound_right T (free_in s) (names_of p) bound) sees
              (λ Z kz rz b z. results_resolved Z L (applications p) 0 p (neither_rest _ _ _ _ rest)
              b z kz rz (omega arith)),
          (strategy_resolved T L s (neither_first _ _ _ _ rest) (bound_left T (free_in s) (names_of p) bound) sees, tt),
        )

    results_among_resolved : (T : Scopes) (L : Seen) (n i : ℕ) (ps : PatternTrees) → FineBuilds L ps →
        AreBound T (names_among ps) → Sees T L → IsBound T kept → BringsResults T n →
        i + applications_among ps ≤ n → AllResolved T (results_among declared i ps)
    results_among_resolved T L n i no_patterns fine bound sees k r h = tt
    results_among_resolved T L n i (more_patterns p ps) fine bound sees k r h =
        all_and T (results declared i p) (results_among declared (i + applications p) ps)
        (results_resolved T L n i p (neither_first _ _ _ _ fine) (bound_left T (names_of p) (names_among ps) bound)
        sees k r (omega arith))
        (results_among_resolved T L n (i + applications p) ps (neither_rest _ _ _ _ fine)
        (bound_right T (names_of p) (names_among ps) bound) sees k r (omega arith))

    results_of_rest_resolved : (T : Scopes) (L : Seen) (n i : ℕ) (p : OptionalPattern) → FineRest L p →
        AreBound T (names_of_rest p) → Sees T L → IsBound T kept →
        BringsResults T n → i + applications_of_rest p ≤ n → AllResolved T (results_of_rest declared i p)
    results_of_rest_resolved T L n i no_pattern fine bound sees k r h = tt
    results_of_rest_resolved T L n i (one_pattern p) fine bound sees k r h =
        results_resolved T L n i p fine bound sees k r h

    alternatives_resolved : (S : Scopes) (L : Seen) (d : DefinitionTrees) → FineDefinitions L d →
        AreBound S (free_in_definitions d) → Sees S L →
        AlternativesResolved S (alternatives declared d)
    alternatives_resolved S L no_definitions fine bound sees = tt
    alternatives_resolved S L (more_definitions d e) fine bound sees = (
      alternative_resolved S L d (neither_first _ _ _ _ fine)
          (bound_left S (free_in_definition d) (free_in_definitions e) bound) sees,
      alternatives_resolved S L e (neither_rest _ _ _ _ fine)
          (bound_right S (free_in_definition d) (free_in_definitions e) bound) sees,
    )

    alternative_resolved : (S : Scopes) (L : Seen) (d : DefinitionTree) → FineDefinition L d →
        AreBound S (free_in_definition d) → Sees S L →
        AlternativeResolved S (alternative_core declared d)
    alternative_resolved S L (definition (head f ps) s) fine bound sees =
        strategy_resolved (names (map written (strategy_names ps)) (map written (term_names ps)) S)
        (in_body (head f ps) L) s (fine_body L f ps s fine)
        (bound_within S (map written (strategy_names ps)) (term_names ps) (free_in s) bound)
        (sees_body S f ps (map written (term_names ps)) L sees)
