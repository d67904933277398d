-- Each primitive that occurs in the program of a file stands in the file. So where the check knows all primitives of
-- the file, it knows all of the program.
use Rattle.std.proofs.Common.{◌≡◌, ◌∙◌, ◌⊎◌, inl, inr, ℕ, zero, suc, ◌+◌, List, [], ◌∷◌, ◌++◌, map, filter, None, sym, ap₂, subst}
use Rattle.std.specs.Prelude.{Bool, true, false, not, ◌||◌, cond, if◌then◌else◌}
use Rattle.std.specs.List.{list_any}
use Rattle.std.proofs.lemmas.Bool.{not-false, or_parts}
use Rattle.term_model.specs.Symbol.{Symbol, Tuple}
use Rattle.core_lang.specs.Named.{NamedStrategy, Name, written}
use Rattle.core_lang.specs.Primitives.{OccursIn, OccursInAny, OccursInDefinitions}
use Rattle.core_lang.specs.Program.{Pattern}
use Rattle.core_lang.specs.Program as core
use Rattle.core_lang.specs.Resolution.{ResolvesProgram}
use Rattle.core_lang.specs.Resolved.{ResolvedDefinitions}
use Rattle.signature_core.specs.Signature.{arity_known, declarations_of}
use Rattle.scope_check.specs.Complaint.{first_fault, is_unknown_primitive}
use Rattle.scope_check.specs.declared.side.Side.TheVariants.{Match, Build}
use Rattle.scope_check.specs.Seen.{Seen, in_rec, in_let, in_body, tops_in, at_top}
use Rattle.scope_check.specs.Somewhere.{Test, in_pattern, in_patterns, in_optional_pattern, in_strategy, in_strategies, in_optional_strategy, in_sequence, in_step, in_primary, in_rule, in_definitions, in_form, in_top}
use Rattle.str_syntax.specs.Arity.{number_of_patterns, number_of_strategies}
use Rattle.str_syntax.specs.declared.definition.Origin.{Origin}
use Rattle.str_syntax.specs.declared.strategy.Operator.TheVariants as operators
use Rattle.str_syntax.specs.Trees.{Bytes, head, PatternTree, variable, wildcard, alias, integer, quoted, application, grouped, tuple, list, annotated, applied, applied_to, PatternTrees, no_patterns, more_patterns, OptionalPattern, no_pattern, one_pattern, StrategyTree, plain_sequence, left_choice, guarded_choice, StrategyTrees, no_strategies, more_strategies, OptionalStrategy, no_strategy, one_strategy, SequenceTree, last, StepTree, plain_step, matching, PrimaryTree, identity, failure, match, build, apply, parenthesized, scope, operator, conditional, recursive, let_in, primitive, lambda, call, tuple_congruence, list_congruence, no_arguments, strategy_arguments, all_arguments, RuleTree, rewrites, definition, DefinitionTrees, no_definitions, more_definitions, FormTree, rule_form, strategy_form, TopTree, FileTree}
use Rattle.str_syntax.specs.Trees as trees
use Rattle.str_desugar.specs.Alternatives.{Alternative, of_one_definition, firsts, first_success, definitions_among, definitions_of_all}
use Rattle.str_desugar.specs.Brought.{kept, patterns_from, elements_from, elements_and_rest_from}
use Rattle.str_desugar.specs.Equations.{in_turn, scoped, keeping, where_core, constructor_symbol, applications, applications_among, result_name, built, built_parts, build_after, call_after, congruence_of, symbol_congruence, elements_congruence, rest_congruence, part_of, result_of, strategy_core, sequence_core, step_core, primary_core, strategies_core, otherwise_core, rule_core, parts, results, results_among, results_of_rest, alternatives, top_core, forms_among}
use Rattle.str_desugar.specs.FileProgram.{program_of_file}
use Rattle.str_desugar.specs.Variables.{each_once, without, free_in, free_in_rule, left_names}
use Rattle.str_syntax.specs.Arity.{term_names}
use Rattle.str_desugar.proofs.FileResolution.{none_holds, forms_in, same_forms}
use Rattle.str_desugar.proofs.OccurrenceTransport.{definitions_named}
use Rattle.str_desugar.proofs.PartLaws.{as_many_patterns}

either : {A B C : Type 0} → (A → C) → (B → C) → A ⊎ B → C
either first rest (inl a) = first a
either first rest (inr b) = rest b

module _ (has : Bytes → ℕ → Bool) (name : Bytes) (k : ℕ) where
  -- where the primitive occurs, it is known
  abbrev IsKnown : Type 0 → Type 0
  IsKnown occurs = occurs → has name k ≡ true

  abbrev InStrategy : NamedStrategy → Type 0
  InStrategy s = IsKnown (OccursIn name k s)

  abbrev InAll : List NamedStrategy → Type 0
  InAll [] = Unit {0}
  InAll (s ∷ ss) = InStrategy s × InAll ss

  abbrev unknown : Test
  unknown = is_unknown_primitive has

  nowhere : IsKnown ⊥
  nowhere there = absurd there

  all_and : (ss ts : List NamedStrategy) → InAll ss → InAll ts → InAll (ss ++ ts)
  all_and [] ts fine more = more
  all_and (s ∷ ss) ts fine more = (fine.0, all_and ss ts fine.1 more)

  -- ---- the forms that the equations make

  in_turn_known : (s : NamedStrategy) (ss : List NamedStrategy) → InStrategy s → InAll ss → InStrategy (in_turn s ss)
  in_turn_known s [] first rest = first
  in_turn_known s (t ∷ ss) first rest = either first (in_turn_known t ss rest.0 rest.1)

  first_success_known : (ss : List NamedStrategy) → InAll ss → InStrategy (first_success ss)
  first_success_known [] all = nowhere
  first_success_known (s ∷ []) all = all.0
  first_success_known (s ∷ t ∷ ss) all = either all.0 (either nowhere (first_success_known (t ∷ ss) all.1))

  scoped_known : (xs : List Bytes) (s : NamedStrategy) → InStrategy s → InStrategy (scoped xs s)
  scoped_known [] s fine = fine
  scoped_known (x ∷ xs) s fine = fine

  keeping_known : (n : ℕ) (items : List NamedStrategy) → InAll items → InStrategy (keeping n items)
  keeping_known n items all = in_turn_known (core.match (core.variable kept)) items nowhere all

  where_known : (s : NamedStrategy) → InStrategy s → InStrategy (where_core s)
  where_known s fine = keeping_known 0 (s ∷ core.build (core.variable kept) ∷ []) (fine, (nowhere, tt))

  build_known : (n : ℕ) (items : List NamedStrategy) (p : Pattern Name) → InAll items →
      InStrategy (build_after n items p)
  build_known zero items p all = nowhere
  build_known (suc n) items p all =
      keeping_known (suc n) (items ++ core.build p ∷ []) (all_and items (core.build p ∷ []) all (nowhere, tt))

  call_known : (n : ℕ) (items : List NamedStrategy) (s : NamedStrategy) → InAll items → InStrategy s →
      InStrategy (call_after n items s)
  call_known zero items s all fine = fine
  call_known (suc n) items s all fine =
      keeping_known (suc n) (items ++ core.build (core.variable kept) ∷ s ∷ [])
      (all_and items (core.build (core.variable kept) ∷ s ∷ []) all (nowhere, (fine, tt)))

  congruence_known : (n : ℕ) (p : Pattern Name) (items : List NamedStrategy) (q : Pattern Name) → InAll items →
      InStrategy (congruence_of n p items q)
  congruence_known n p items q all =
      in_turn_known (core.match (core.alias kept p)) (items ++ core.build (core.like q kept) ∷ []) nowhere
      (all_and items (core.build (core.like q kept) ∷ []) all (nowhere, tt))

  symbol_known : (f : Symbol) (n : ℕ) (items : List NamedStrategy) → InAll items →
      InStrategy (symbol_congruence f n items)
  symbol_known f zero items all = nowhere
  symbol_known f (suc m) items all =
      congruence_known (suc m) (core.applied f (patterns_from 1 (suc m)))
      items (core.applied f (patterns_from (suc (suc m)) (suc m))) all

  elements_known : (n : ℕ) (items : List NamedStrategy) → InAll items → InStrategy (elements_congruence n items)
  elements_known zero items all = nowhere
  elements_known (suc m) items all =
      congruence_known (suc m) (core.list (elements_from 1 (suc m)))
      items (core.list (elements_from (suc (suc m)) (suc m))) all

  rest_known : (n : ℕ) (items : List NamedStrategy) → InAll items → InStrategy (rest_congruence n items)
  rest_known n items all =
      congruence_known (suc n) (core.list (elements_and_rest_from 1 n))
      items (core.list (elements_and_rest_from (suc (suc n)) n)) all

  result_known : (i : ℕ) (items : List NamedStrategy) → InAll items → InAll (result_of i items)
  result_known i items all = (
    nowhere,
    all_and items (core.match (core.variable (result_name i)) ∷ [])
        all (nowhere, tt),
  )

  part_known : (n i : ℕ) (s : NamedStrategy) → InStrategy s → InAll (part_of n i s)
  part_known n i s fine = (nowhere, (fine, (nowhere, tt)))

  cond_known : (b : Bool) (s t : NamedStrategy) → InStrategy s → InStrategy t → InStrategy (cond b s t)
  cond_known true s t fine other = fine
  cond_known false s t fine other = other

  -- a primitive of the file, with as many patterns as it has there
  primitive_known : (f : Bytes) (ps : PatternTrees) → not (has f (number_of_patterns ps)) ≡ false →
      InStrategy (core.primitive f (built_parts 0 ps))
  primitive_known f ps e there =
      ap₂ has (sym there.0) (sym there.1 ∙ as_many_patterns 0 ps) ∙ not-false (has f (number_of_patterns ps)) e

  -- ---- definitions

  abbrev InAlternatives : List Alternative → Type 0
  InAlternatives [] = Unit {0}
  InAlternatives (a ∷ others) = InStrategy a.body × InAlternatives others

  bodies_cons : (b : Bool) (a : Alternative) (others : List Alternative) → InStrategy a.body →
      InAll (map (λ d. d.body) others) →
      InAll (map (λ d. d.body) (if b then a ∷ others else others))
  bodies_cons true a others fine rest = (fine, rest)
  bodies_cons false a others fine rest = rest

  bodies_known : (keep : Alternative → Bool) (all : List Alternative) → InAlternatives all →
      InAll (map (λ d. d.body) (filter keep all))
  bodies_known keep [] fine = tt
  bodies_known keep (a ∷ others) fine =
      bodies_cons (keep a) a (filter keep others) fine.0 (bodies_known keep others fine.1)

  among_known : (all others : List Alternative) → InAlternatives all →
      IsKnown (OccursInDefinitions name k (definitions_among all others))
  among_known all [] fine = nowhere
  among_known all (a ∷ others) fine =
      either (first_success_known (map (λ d. d.body) (filter (of_one_definition a) all))
      (bodies_known (of_one_definition a) all fine))
      (among_known all others fine)

  definitions_known : (all : List Alternative) → InAlternatives all →
      IsKnown (OccursInDefinitions name k (definitions_of_all all))
  definitions_known all fine = among_known all (firsts all) fine

  -- ---- the parts of a file

  module _ (declared : Bytes → ℕ → Bool) where
    mutual
      strategy_known : (L : Seen) (s : StrategyTree) → in_strategy unknown L s ≡ false →
          InStrategy (strategy_core declared s)
      strategy_known L (plain_sequence q) e = sequence_known L q e
      strategy_known L (left_choice q s) e =
          let h = or_parts (in_sequence unknown L q) (in_strategy unknown L s) e in
          either (sequence_known L q h.0) (either nowhere (strategy_known L s h.1))
      strategy_known L (guarded_choice q s t) e =
          let h = or_parts (in_sequence unknown L q) (in_strategy unknown L s || in_strategy unknown L t) e in
          let j = or_parts (in_strategy unknown L s) (in_strategy unknown L t) h.1 in
          either (sequence_known L q h.0) (either (strategy_known L s j.0) (strategy_known L t j.1))

      sequence_known : (L : Seen) (q : SequenceTree) → in_sequence unknown L q ≡ false →
          InStrategy (sequence_core declared q)
      sequence_known L (last s) e = step_known L s e
      sequence_known L (trees.then s q) e =
          let h = or_parts (in_step unknown L s) (in_sequence unknown L q) e in
          either (step_known L s h.0) (sequence_known L q h.1)

      step_known : (L : Seen) (s : StepTree) → in_step unknown L s ≡ false → InStrategy (step_core declared s)
      step_known L (plain_step s) e = primary_known L s e
      step_known L (matching s p) e =
          either (primary_known L s (or_parts (in_primary unknown L s) (in_pattern unknown Match L p) e).0) nowhere

      primary_known : (L : Seen) (s : PrimaryTree) → in_primary unknown L s ≡ false →
          InStrategy (primary_core declared s)
      primary_known L identity e = nowhere
      primary_known L failure e = nowhere
      primary_known L (match p) e = nowhere
      primary_known L (build p) e =
          build_known (applications p) (results declared 0 p) (built 0 p) (results_known L 0 p e)
      primary_known L (apply s p) e =
          let h = or_parts (in_strategy unknown L s) (in_pattern unknown Build L p) e in
          either (build_known (applications p) (results declared 0 p) (built 0 p) (results_known L 0 p h.1))
          (strategy_known L s h.0)
      primary_known L (parenthesized s) e = strategy_known L s e
      primary_known L (scope xs s) e = strategy_known L s e
      primary_known L (operator operators.Where s) e = where_known (strategy_core declared s) (strategy_known L s e)
      primary_known L (operator operators.Not s) e = either (strategy_known L s e) (either nowhere nowhere)
      primary_known L (operator operators.All s) e = strategy_known L s e
      primary_known L (operator operators.One s) e = strategy_known L s e
      primary_known L (operator operators.Some s) e = strategy_known L s e
      primary_known L (conditional s t u) e =
          let h = or_parts (in_strategy unknown L s) (in_strategy unknown L t || in_optional_strategy unknown L u) e in
          let j = or_parts (in_strategy unknown L t) (in_optional_strategy unknown L u) h.1 in
          either (where_known (strategy_core declared s) (strategy_known L s h.0))
          (either (strategy_known L t j.0) (otherwise_known L u j.1))
      primary_known L (recursive f s) e = either (either (strategy_known (in_rec f L) s e) nowhere) nowhere
      primary_known L (let_in ds s) e =
          let h = or_parts (in_definitions unknown (in_let ds L) ds) (in_strategy unknown (in_let ds L) s) e in
          either (definitions_known (alternatives declared ds) (alternatives_known (in_let ds L) ds h.0))
          (strategy_known (in_let ds L) s h.1)
      primary_known L (primitive f ps) e =
          let h = or_parts (not (has f (number_of_patterns ps))) (in_patterns unknown Build L ps) e in
          call_known (applications_among ps) (results_among declared 0 ps) (core.primitive f (built_parts 0 ps))
          (results_among_known L 0 ps h.1) (primitive_known f ps h.0)
      primary_known L (lambda r) e = scoped_known (each_once (left_names r)) (rule_core declared r) (rule_known L r e)
      primary_known L (call f no_arguments) e = nowhere
      primary_known L (call f (strategy_arguments ss)) e =
          let n : ℕ = number_of_strategies ss in
          cond_known (declared f n) (symbol_congruence (constructor_symbol f) n (parts declared n 0 ss))
          (core.call (written f) (strategies_core declared ss) core.no_patterns)
          (symbol_known (constructor_symbol f) n (parts declared n 0 ss) (parts_known L n 0 ss e))
          (strategies_known L ss e)
      primary_known L (call f (all_arguments ss ps)) e =
          let h = or_parts (in_strategies unknown L ss) (in_patterns unknown Build L ps) e in
          call_known (applications_among ps) (results_among declared 0 ps)
          (core.call (written f) (strategies_core declared ss) (built_parts 0 ps))
          (results_among_known L 0 ps h.1) (strategies_known L ss h.0)
      primary_known L (tuple_congruence ss) e =
          let n : ℕ = number_of_strategies ss in
          symbol_known Tuple n (parts declared n 0 ss) (parts_known L n 0 ss e)
      primary_known L (list_congruence ss no_strategy) e =
          let n : ℕ = number_of_strategies ss in
          elements_known n (parts declared n 0 ss)
          (parts_known L n 0 ss (or_parts (in_strategies unknown L ss) false e).0)
      primary_known L (list_congruence ss (one_strategy s)) e =
          let n : ℕ = number_of_strategies ss in
          let h = or_parts (in_strategies unknown L ss) (in_strategy unknown L s) e in
          rest_known n (parts declared (suc n) 0 ss ++ part_of (suc n) n (strategy_core declared s))
          (all_and (parts declared (suc n) 0 ss) (part_of (suc n) n (strategy_core declared s))
          (parts_known L (suc n) 0 ss h.0) (part_known (suc n) n (strategy_core declared s) (strategy_known L s h.1)))

      strategies_known : (L : Seen) (ss : StrategyTrees) → in_strategies unknown L ss ≡ false →
          IsKnown (OccursInAny name k (strategies_core declared ss))
      strategies_known L no_strategies e = nowhere
      strategies_known L (more_strategies s ss) e =
          let h = or_parts (in_strategy unknown L s) (in_strategies unknown L ss) e in
          either (strategy_known L s h.0) (strategies_known L ss h.1)

      otherwise_known : (L : Seen) (s : OptionalStrategy) → in_optional_strategy unknown L s ≡ false →
          InStrategy (otherwise_core declared s)
      otherwise_known L no_strategy e = nowhere
      otherwise_known L (one_strategy s) e = strategy_known L s e

      rule_known : (L : Seen) (r : RuleTree) → in_rule unknown L r ≡ false → InStrategy (rule_core declared r)
      rule_known L (rewrites p t no_strategy) e =
          let h = or_parts (in_pattern unknown Match L p) (in_pattern unknown Build L t || false) e in
          let j = or_parts (in_pattern unknown Build L t) false h.1 in
          either nowhere (build_known (applications t) (results declared 0 t) (built 0 t) (results_known L 0 t j.0))
      rule_known L (rewrites p t (one_strategy s)) e =
          let h = or_parts (in_pattern unknown Match L p) (in_pattern unknown Build L t || in_strategy unknown L s) e in
          let j = or_parts (in_pattern unknown Build L t) (in_strategy unknown L s) h.1 in
          either nowhere
          (either (where_known (strategy_core declared s) (strategy_known L s j.1))
          (build_known (applications t) (results declared 0 t) (built 0 t) (results_known L 0 t j.0)))

      parts_known : (L : Seen) (n i : ℕ) (ss : StrategyTrees) → in_strategies unknown L ss ≡ false →
          InAll (parts declared n i ss)
      parts_known L n i no_strategies e = tt
      parts_known L n i (more_strategies s ss) e =
          let h = or_parts (in_strategy unknown L s) (in_strategies unknown L ss) e in
          all_and (part_of n i (strategy_core declared s)) (parts declared n (suc i) ss)
          (part_known n i (strategy_core declared s) (strategy_known L s h.0)) (parts_known L n (suc i) ss h.1)

      results_known : (L : Seen) (i : ℕ) (p : PatternTree) → in_pattern unknown Build L p ≡ false →
          InAll (results declared i p)
      results_known L i (variable x) e = tt
      results_known L i wildcard e = tt
      results_known L i (alias x p) e = results_known L i p e
      results_known L i (integer z) e = tt
      results_known L i (quoted text) e = tt
      results_known L i (application f ps) e = results_among_known L i ps e
      results_known L i (grouped p) e = results_known L i p e
      results_known L i (tuple ps) e = results_among_known L i ps e
      results_known L i (list ps p) e =
          let h = or_parts (in_patterns unknown Build L ps) (in_optional_pattern unknown Build L p) e in
          all_and (results_among declared i ps) (results_of_rest declared (i + applications_among ps) p)
          (results_among_known L i ps h.0) (results_of_rest_known L (i + applications_among ps) p h.1)
      results_known L i (annotated p qs) e =
          let h = or_parts (in_pattern unknown Build L p) (in_patterns unknown Build L qs) e in
          all_and (results declared i p) (results_among declared (i + applications p) qs)
          (results_known L i p h.0) (results_among_known L (i + applications p) qs h.1)
      results_known L i (applied s) e = result_known i (strategy_core declared s ∷ []) (strategy_known L s e, tt)
      results_known L i (applied_to s p) e =
          let h = or_parts (in_strategy unknown L s) (in_pattern unknown Build L p) e in
          result_known i (build_after (applications p) (results declared 0 p) (built 0 p) ∷ strategy_core declared s ∷
          []) (
            build_known (applications p) (results declared 0 p) (built 0 p) (results_known L 0 p h.1),
            (strategy_known L s h.0, tt),
          )

      results_among_known : (L : Seen) (i : ℕ) (ps : PatternTrees) → in_patterns unknown Build L ps ≡ false →
          InAll (results_among declared i ps)
      results_among_known L i no_patterns e = tt
      results_among_known L i (more_patterns p ps) e =
          let h = or_parts (in_pattern unknown Build L p) (in_patterns unknown Build L ps) e in
          all_and (results declared i p) (results_among declared (i + applications p) ps)
          (results_known L i p h.0) (results_among_known L (i + applications p) ps h.1)

      results_of_rest_known : (L : Seen) (i : ℕ) (p : OptionalPattern) → in_optional_pattern unknown Build L p ≡ false →
          InAll (results_of_rest declared i p)
      results_of_rest_known L i no_pattern e = tt
      results_of_rest_known L i (one_pattern p) e = results_known L i p e

      alternatives_known : (L : Seen) (ds : DefinitionTrees) → in_definitions unknown L ds ≡ false →
          InAlternatives (alternatives declared ds)
      alternatives_known L no_definitions e = tt
      alternatives_known L (more_definitions (definition (head f ps) s) ds) e =
          let h = or_parts (in_strategy unknown (in_body (head f ps) L) s) (in_definitions unknown L ds) e in
          (strategy_known (in_body (head f ps) L) s h.0, alternatives_known L ds h.1)

    form_known : (o : Origin) (L : Seen) (form : FormTree) → in_form unknown o L form ≡ false →
        InStrategy (top_core declared form).body
    form_known o L (rule_form (head f ps) r) e =
        scoped_known (each_once (without (term_names ps) (free_in_rule r))) (rule_core declared r)
        (rule_known (in_body (head f ps) L) r e)
    form_known o L (strategy_form (definition (head f ps) s)) e =
        scoped_known (each_once (without (term_names ps) (free_in s))) (strategy_core declared s)
        (strategy_known (in_body (head f ps) L) s e)

    tops_known : (L : Seen) (tops : List TopTree) → list_any (in_top unknown L) tops ≡ false →
        InAlternatives (map (top_core declared) (forms_in tops))
    tops_known L [] e = tt
    tops_known L (top ∷ tops) e =
        let h = or_parts (in_top unknown L top) (list_any (in_top unknown L) tops) e in
        (form_known top.origin L top.form h.0, tops_known L tops h.1)

  file_known : (f : FileTree) → list_any (in_top unknown (at_top f)) (tops_in f.sections) ≡ false →
      IsKnown (OccursInDefinitions name k (program_of_file f))
  file_known f e =
      let declared : Bytes → ℕ → Bool = arity_known (declarations_of f) in
      definitions_known (map (top_core declared) (forms_among f.sections))
      (subst (λ forms. InAlternatives (map (top_core declared) forms)) (same_forms f.sections)
      (tops_known declared (at_top f) (tops_in f.sections) e))

-- a file that has no fault has no primitive in its program but those that there are
pub known_primitives : (has : Bytes → ℕ → Bool) (f : FileTree) (main : Bytes) (C : ResolvedDefinitions) (i : ℕ) →
    first_fault has f main ≡ None →
    ResolvesProgram (program_of_file f) (written main) C i → (name : Bytes) (k : ℕ) → OccursInDefinitions name k C →
    has name k ≡ true
known_primitives has f main C i e resolves name k occurs =
    file_known has name k f (none_holds has f main e).primitives (definitions_named name k resolves.each occurs)
