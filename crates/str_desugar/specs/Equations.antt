-- Equations into the core: which program over names a definition file is. A name that is called with strategies alone,
-- in parentheses, is a congruence where it is a constructor that is declared with as many sorts.
use Rattle.std.specs.Prelude.{ℕ, zero, suc, ◌+◌, Bool, List, [], ◌∷◌, ◌++◌, map, cond}
use Rattle.term_model.specs.Symbol.{Symbol, Plain, Quoted, Tuple, is_name}
use Rattle.core_lang.specs.Named.{NamedStrategy, NamedStrategies, NamedDefinitions, Name, written, brought}
use Rattle.core_lang.specs.Program.{Pattern, Patterns, Elements}
use Rattle.core_lang.specs.Program as core
use Rattle.str_syntax.specs.Trees.{Bytes, head, PatternTree, variable, wildcard, alias, integer, quoted, application, grouped, tuple, list, annotated, applied, applied_to, PatternTrees, no_patterns, more_patterns, OptionalPattern, no_pattern, one_pattern, StrategyTree, plain_sequence, left_choice, guarded_choice, StrategyTrees, no_strategies, more_strategies, OptionalStrategy, no_strategy, one_strategy, SequenceTree, last, then, StepTree, plain_step, matching, PrimaryTree, identity, failure, match, build, apply, parenthesized, scope, operator, conditional, recursive, let_in, primitive, lambda, call, tuple_congruence, list_congruence, no_arguments, strategy_arguments, all_arguments, RuleTree, rewrites, DefinitionTree, definition, DefinitionTrees, no_definitions, more_definitions, FormTree, rule_form, strategy_form, SectionTree, signature, rules, strategies, FileTree}
use Rattle.str_syntax.specs.declared.strategy.Operator.TheVariants as operators
use Rattle.str_syntax.specs.Arity.{number_of_strategies}
use Rattle.str_desugar.specs.Variables.{each_once, without, free_in, free_in_rule, left_names}
use Rattle.str_syntax.specs.Arity.{strategy_names, term_names}
use Rattle.str_desugar.specs.Brought.{first_names, kept, patterns_from, elements_from, elements_and_rest_from}
use Rattle.str_desugar.specs.Alternatives.{Alternative, definitions_of_all}

-- ---- sequences and scopes

-- the strategies one after another; a sequence groups to the right
abbrev pub in_turn : NamedStrategy → List NamedStrategy → NamedStrategy
in_turn s [] = s
in_turn s (t ∷ ss) = core.seq s (in_turn t ss)

-- in a scope of these variables; there is no scope without variables
abbrev pub scoped : List Bytes → NamedStrategy → NamedStrategy
scoped [] s = s
scoped (x ∷ xs) s = core.scope (map written (x ∷ xs)) s

-- {c, z1, .., zk: ?c; ..}: the current term is kept, and there is place for k results
abbrev pub keeping : ℕ → List NamedStrategy → NamedStrategy
keeping k items = core.scope (first_names (suc k)) (in_turn (core.match (core.variable kept)) items)

-- where(s): {x: ?x; s; !x}
abbrev pub where_core : NamedStrategy → NamedStrategy
where_core s = keeping 0 (s ∷ core.build (core.variable kept) ∷ [])

-- ---- patterns

-- a constructor's symbol; what no term has as a plain name is no constructor of a file, and stands quoted
abbrev pub constructor_symbol : Bytes → Symbol
constructor_symbol f = cond (is_name f) (Plain f) (Quoted f)

-- these elements, and then those of the rest
abbrev pub elements_of : Patterns Name → Elements Name → Elements Name
elements_of core.no_patterns rest = rest
elements_of (core.more_patterns p ps) rest = core.more_elements p (elements_of ps rest)

abbrev mutual
  -- what is matched; no match of a file has a <s> in it
  pub matched : PatternTree → Pattern Name
  matched (variable x) = core.variable (written x)
  matched wildcard = core.anything
  matched (alias x p) = core.alias (written x) (matched p)
  matched (integer z) = core.integer z
  matched (quoted text) = core.applied (Quoted text) core.no_patterns
  matched (application f ps) = core.applied (constructor_symbol f) (matched_parts ps)
  matched (grouped p) = matched p
  matched (tuple ps) = core.applied Tuple (matched_parts ps)
  matched (list ps p) = core.list (elements_of (matched_parts ps) (matched_rest p))
  matched (annotated p qs) = core.annotated (matched p) (matched_parts qs)
  matched (applied s) = core.anything
  matched (applied_to s p) = core.anything

  pub matched_parts : PatternTrees → Patterns Name
  matched_parts no_patterns = core.no_patterns
  matched_parts (more_patterns p ps) = core.more_patterns (matched p) (matched_parts ps)

  pub matched_rest : OptionalPattern → Elements Name
  matched_rest no_pattern = core.no_elements
  matched_rest (one_pattern p) = core.the_rest (matched p)

abbrev mutual
  -- how many <s> and <s> p stand outermost in a build
  pub applications : PatternTree → ℕ
  applications (variable x) = 0
  applications wildcard = 0
  applications (alias x p) = applications p
  applications (integer z) = 0
  applications (quoted text) = 0
  applications (application f ps) = applications_among ps
  applications (grouped p) = applications p
  applications (tuple ps) = applications_among ps
  applications (list ps p) = applications_among ps + applications_of_rest p
  applications (annotated p qs) = applications p + applications_among qs
  applications (applied s) = 1
  applications (applied_to s p) = 1

  pub applications_among : PatternTrees → ℕ
  applications_among no_patterns = 0
  applications_among (more_patterns p ps) = applications p + applications_among ps

  pub applications_of_rest : OptionalPattern → ℕ
  applications_of_rest no_pattern = 0
  applications_of_rest (one_pattern p) = applications p

-- the name of the ith result of a build, from 0 on
abbrev pub result_name : ℕ → Name
result_name i = brought (suc i)

abbrev mutual
  -- what is built, each outermost <..> by the name of its result, where i results come first
  pub built : ℕ → PatternTree → Pattern Name
  built i (variable x) = core.variable (written x)
  built i wildcard = core.anything
  built i (alias x p) = core.alias (written x) (built i p)
  built i (integer z) = core.integer z
  built i (quoted text) = core.applied (Quoted text) core.no_patterns
  built i (application f ps) = core.applied (constructor_symbol f) (built_parts i ps)
  built i (grouped p) = built i p
  built i (tuple ps) = core.applied Tuple (built_parts i ps)
  built i (list ps p) = core.list (elements_of (built_parts i ps) (built_rest (i + applications_among ps) p))
  built i (annotated p qs) = core.annotated (built i p) (built_parts (i + applications p) qs)
  built i (applied s) = core.variable (result_name i)
  built i (applied_to s p) = core.variable (result_name i)

  pub built_parts : ℕ → PatternTrees → Patterns Name
  built_parts i no_patterns = core.no_patterns
  built_parts i (more_patterns p ps) = core.more_patterns (built i p) (built_parts (i + applications p) ps)

  pub built_rest : ℕ → OptionalPattern → Elements Name
  built_rest i no_pattern = core.no_elements
  built_rest i (one_pattern p) = core.the_rest (built i p)

-- !p, after the items that give its results, if there are results
abbrev pub build_after : ℕ → List NamedStrategy → Pattern Name → NamedStrategy
build_after zero items p = core.build p
build_after (suc k) items p = keeping (suc k) (items ++ core.build p ∷ [])

-- a call or a primitive on the current term, after the items that give the results for its arguments, if there are
-- results
abbrev pub call_after : ℕ → List NamedStrategy → NamedStrategy → NamedStrategy
call_after zero items s = s
call_after (suc k) items s = keeping (suc k) (items ++ core.build (core.variable kept) ∷ s ∷ [])

-- ---- congruences

-- the name of the ith part of n, and of what becomes of it, from 0 on
abbrev pub part_name : ℕ → Name
part_name i = brought (suc i)

abbrev pub outcome_name : ℕ → ℕ → Name
outcome_name n i = brought (suc (n + i))

-- {y, x1, .., xn, z1, .., zn: ?y@p; !x1; s1; ?z1; ..; !xn; sn; ?zn; !q^y}
abbrev pub congruence_of : ℕ → Pattern Name → List NamedStrategy → Pattern Name → NamedStrategy
congruence_of n p items q =
    core.scope (first_names (suc (n + n)))
    (in_turn (core.match (core.alias kept p)) (items ++ core.build (core.like q kept) ∷ []))

-- of a symbol with n parts
abbrev pub symbol_congruence : Symbol → ℕ → List NamedStrategy → NamedStrategy
symbol_congruence f zero items = core.match (core.applied f core.no_patterns)
symbol_congruence f (suc m) items =
    congruence_of (suc m) (core.applied f (patterns_from 1 (suc m)))
    items (core.applied f (patterns_from (suc (suc m)) (suc m)))

-- of a list of n elements
abbrev pub elements_congruence : ℕ → List NamedStrategy → NamedStrategy
elements_congruence zero items = core.match (core.list core.no_elements)
elements_congruence (suc m) items =
    congruence_of (suc m) (core.list (elements_from 1 (suc m))) items (core.list (elements_from (suc (suc m)) (suc m)))

-- of a list of at least n elements, the rest being one part more
abbrev pub rest_congruence : ℕ → List NamedStrategy → NamedStrategy
rest_congruence n items =
    congruence_of (suc n) (core.list (elements_and_rest_from 1 n))
    items (core.list (elements_and_rest_from (suc (suc n)) n))

-- ---- strategies

-- !c; s; ?z of the ith outermost <s>, and !c; !p; s; ?z of <s> p
abbrev pub result_of : ℕ → List NamedStrategy → List NamedStrategy
result_of i items = core.build (core.variable kept) ∷ (items ++ core.match (core.variable (result_name i)) ∷ [])

-- !x; s; ?z of the ith part of n
abbrev pub part_of : ℕ → ℕ → NamedStrategy → List NamedStrategy
part_of n i s = core.build (core.variable (part_name i)) ∷ s ∷ core.match (core.variable (outcome_name n i)) ∷ []

abbrev mutual
  -- s1 <+ s2 is s1 < id + s2
  pub strategy_core : (Bytes → ℕ → Bool) → StrategyTree → NamedStrategy
  strategy_core declared (plain_sequence q) = sequence_core declared q
  strategy_core declared (left_choice q s) = core.choice (sequence_core declared q) core.id (strategy_core declared s)
  strategy_core declared (guarded_choice q s t) =
      core.choice (sequence_core declared q) (strategy_core declared s) (strategy_core declared t)

  pub sequence_core : (Bytes → ℕ → Bool) → SequenceTree → NamedStrategy
  sequence_core declared (last s) = step_core declared s
  sequence_core declared (then s q) = core.seq (step_core declared s) (sequence_core declared q)

  -- s => p is s; ?p
  pub step_core : (Bytes → ℕ → Bool) → StepTree → NamedStrategy
  step_core declared (plain_step s) = primary_core declared s
  step_core declared (matching s p) = core.seq (primary_core declared s) (core.match (matched p))

  pub primary_core : (Bytes → ℕ → Bool) → PrimaryTree → NamedStrategy
  primary_core declared identity = core.id
  primary_core declared failure = core.fail
  primary_core declared (match p) = core.match (matched p)
  primary_core declared (build p) = build_after (applications p) (results declared 0 p) (built 0 p)
  primary_core declared (apply s p) =
      core.seq (build_after (applications p) (results declared 0 p) (built 0 p)) (strategy_core declared s)
  primary_core declared (parenthesized s) = strategy_core declared s
  primary_core declared (scope xs s) = core.scope (map written xs) (strategy_core declared s)
  primary_core declared (operator operators.Where s) = where_core (strategy_core declared s)
  primary_core declared (operator operators.Not s) = core.choice (strategy_core declared s) core.fail core.id
  primary_core declared (operator operators.All s) = core.all (strategy_core declared s)
  primary_core declared (operator operators.One s) = core.one (strategy_core declared s)
  primary_core declared (operator operators.Some s) = core.some (strategy_core declared s)
  primary_core declared (conditional s t u) =
      core.choice (where_core (strategy_core declared s)) (strategy_core declared t) (otherwise_core declared u)
  primary_core declared (recursive f s) =
      core.with_definitions (core.more_definitions (written f) [] [] (strategy_core declared s) core.no_definitions)
      (core.call (written f) core.no_strategies core.no_patterns)
  primary_core declared (let_in ds s) =
      core.with_definitions (definitions_of_all (alternatives declared ds)) (strategy_core declared s)
  primary_core declared (primitive name ps) =
      call_after (applications_among ps) (results_among declared 0 ps) (core.primitive name (built_parts 0 ps))
  primary_core declared (lambda r) = scoped (each_once (left_names r)) (rule_core declared r)
  primary_core declared (call f no_arguments) = core.call (written f) core.no_strategies core.no_patterns
  primary_core declared (call f (strategy_arguments ss)) =
      cond (declared f (number_of_strategies ss))
      (symbol_congruence (constructor_symbol f) (number_of_strategies ss)
      (parts declared (number_of_strategies ss) 0 ss))
      (core.call (written f) (strategies_core declared ss) core.no_patterns)
  primary_core declared (call f (all_arguments ss ps)) =
      call_after (applications_among ps) (results_among declared 0 ps)
      (core.call (written f) (strategies_core declared ss) (built_parts 0 ps))
  primary_core declared (tuple_congruence ss) =
      symbol_congruence Tuple (number_of_strategies ss) (parts declared (number_of_strategies ss) 0 ss)
  primary_core declared (list_congruence ss no_strategy) =
      elements_congruence (number_of_strategies ss) (parts declared (number_of_strategies ss) 0 ss)
  primary_core declared (list_congruence ss (one_strategy s)) =
      rest_congruence (number_of_strategies ss)
      (parts declared (suc (number_of_strategies ss)) 0 ss ++
      part_of (suc (number_of_strategies ss)) (number_of_strategies ss) (strategy_core declared s))

  pub strategies_core : (Bytes → ℕ → Bool) → StrategyTrees → NamedStrategies
  strategies_core declared no_strategies = core.no_strategies
  strategies_core declared (more_strategies s ss) =
      core.more_strategies (strategy_core declared s) (strategies_core declared ss)

  -- what stands after else: id where nothing does
  pub otherwise_core : (Bytes → ℕ → Bool) → OptionalStrategy → NamedStrategy
  otherwise_core declared no_strategy = core.id
  otherwise_core declared (one_strategy s) = strategy_core declared s

  -- ?p; where(s); !t
  pub rule_core : (Bytes → ℕ → Bool) → RuleTree → NamedStrategy
  rule_core declared (rewrites p t no_strategy) =
      in_turn (core.match (matched p)) (build_after (applications t) (results declared 0 t) (built 0 t) ∷ [])
  rule_core declared (rewrites p t (one_strategy s)) =
      in_turn (core.match (matched p))
      (where_core (strategy_core declared s) ∷ build_after (applications t) (results declared 0 t) (built 0 t) ∷ [])

  -- the items of a congruence of n parts, from the ith on
  pub parts : (Bytes → ℕ → Bool) → ℕ → ℕ → StrategyTrees → List NamedStrategy
  parts declared n i no_strategies = []
  parts declared n i (more_strategies s ss) = part_of n i (strategy_core declared s) ++ parts declared n (suc i) ss

  -- the items that give the results of the outermost <..> of a build, where i results come first
  pub results : (Bytes → ℕ → Bool) → ℕ → PatternTree → List NamedStrategy
  results declared i (variable x) = []
  results declared i wildcard = []
  results declared i (alias x p) = results declared i p
  results declared i (integer z) = []
  results declared i (quoted text) = []
  results declared i (application f ps) = results_among declared i ps
  results declared i (grouped p) = results declared i p
  results declared i (tuple ps) = results_among declared i ps
  results declared i (list ps p) = results_among declared i ps ++ results_of_rest declared (i + applications_among ps) p
  results declared i (annotated p qs) = results declared i p ++ results_among declared (i + applications p) qs
  results declared i (applied s) = result_of i (strategy_core declared s ∷ [])
  results declared i (applied_to s p) =
      result_of i (build_after (applications p) (results declared 0 p) (built 0 p) ∷ strategy_core declared s ∷ [])

  pub results_among : (Bytes → ℕ → Bool) → ℕ → PatternTrees → List NamedStrategy
  results_among declared i no_patterns = []
  results_among declared i (more_patterns p ps) = results declared i p ++ results_among declared (i + applications p) ps

  pub results_of_rest : (Bytes → ℕ → Bool) → ℕ → OptionalPattern → List NamedStrategy
  results_of_rest declared i no_pattern = []
  results_of_rest declared i (one_pattern p) = results declared i p

  -- the alternatives of a let, whose variables are those of the strategy around it
  pub alternatives : (Bytes → ℕ → Bool) → DefinitionTrees → List Alternative
  alternatives declared no_definitions = []
  alternatives declared (more_definitions d ds) = alternative_core declared d ∷ alternatives declared ds

  pub alternative_core : (Bytes → ℕ → Bool) → DefinitionTree → Alternative
  alternative_core declared (definition (head f parameters) s) =
      record {
        name = f;
        strategies = strategy_names parameters;
        terms = term_names parameters;
        body =
            strategy_core declared s;
      }

-- ---- files

-- an alternative at top level is in a scope of its variables, but its term parameters
abbrev pub top_core : (Bytes → ℕ → Bool) → FormTree → Alternative
top_core declared (rule_form (head f parameters) r) = record {
  name = f;
  strategies = strategy_names parameters;
  terms = term_names parameters;
  body = scoped (each_once (without (term_names parameters) (free_in_rule r))) (rule_core declared r);
}
top_core declared (strategy_form (definition (head f parameters) s)) = record {
  name = f;
  strategies = strategy_names parameters;
  terms = term_names parameters;
  body = scoped (each_once (without (term_names parameters) (free_in s))) (strategy_core declared s);
}

-- the rules and definitions of a section, and of sections, in the order of the text
abbrev pub forms_of_section : SectionTree → List FormTree
forms_of_section (signature parts) = []
forms_of_section (rules tops) = map (λ top. top.form) tops
forms_of_section (strategies tops) = map (λ top. top.form) tops

abbrev pub forms_among : List SectionTree → List FormTree
forms_among [] = []
forms_among (section ∷ sections) = forms_of_section section ++ forms_among sections

-- the program of a file
abbrev pub program_core : (Bytes → ℕ → Bool) → FileTree → NamedDefinitions
program_core declared f = definitions_of_all (map (top_core declared) (forms_among f.sections))
