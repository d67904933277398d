-- Variables: which names a pattern has, and which of a strategy no scope, no rule in backslashes and no term parameter
-- binds.
use Rattle.std.specs.Prelude.{not, List, [], ◌∷◌, ◌++◌, filter}
use Rattle.std.specs.List.{list_any}
use Rattle.std.specs.Str.{bytes_eq}
use Rattle.str_syntax.specs.Arity.{term_names}
use Rattle.str_syntax.specs.Trees.{Bytes, head, PatternTree, variable, wildcard, alias, integer, quoted, application, grouped, tuple, list, annotated, applied, applied_to, PatternTrees, no_patterns, more_patterns, OptionalPattern, no_pattern, one_pattern, StrategyTree, plain_sequence, left_choice, guarded_choice, StrategyTrees, no_strategies, more_strategies, OptionalStrategy, no_strategy, one_strategy, SequenceTree, last, then, StepTree, plain_step, matching, PrimaryTree, identity, failure, match, build, apply, parenthesized, scope, operator, conditional, recursive, let_in, primitive, lambda, call, tuple_congruence, list_congruence, ArgumentTree, no_arguments, strategy_arguments, all_arguments, RuleTree, rewrites, DefinitionTree, definition, DefinitionTrees, no_definitions, more_definitions}

-- each of the names once, in the order of first occurrences
abbrev pub each_once : List Bytes → List Bytes
each_once [] = []
each_once (x ∷ xs) = x ∷ filter (λ y. not (bytes_eq x y)) (each_once xs)

-- the names of the second list that are not in the first
abbrev pub without : List Bytes → List Bytes → List Bytes
without bound xs = filter (λ x. not (list_any (bytes_eq x) bound)) xs

abbrev mutual
  -- the names of a pattern, in the order of the text
  pub names_of : PatternTree → List Bytes
  names_of (variable x) = x ∷ []
  names_of wildcard = []
  names_of (alias x p) = x ∷ names_of p
  names_of (integer z) = []
  names_of (quoted text) = []
  names_of (application f ps) = names_among ps
  names_of (grouped p) = names_of p
  names_of (tuple ps) = names_among ps
  names_of (list ps p) = names_among ps ++ names_of_rest p
  names_of (annotated p qs) = names_of p ++ names_among qs
  names_of (applied s) = free_in s
  names_of (applied_to s p) = free_in s ++ names_of p

  pub names_among : PatternTrees → List Bytes
  names_among no_patterns = []
  names_among (more_patterns p ps) = names_of p ++ names_among ps

  pub names_of_rest : OptionalPattern → List Bytes
  names_of_rest no_pattern = []
  names_of_rest (one_pattern p) = names_of p

  -- the names of a strategy that nothing in it binds, in the order of the text
  pub free_in : StrategyTree → List Bytes
  free_in (plain_sequence q) = free_in_sequence q
  free_in (left_choice q s) = free_in_sequence q ++ free_in s
  free_in (guarded_choice q s t) = free_in_sequence q ++ (free_in s ++ free_in t)

  pub free_among : StrategyTrees → List Bytes
  free_among no_strategies = []
  free_among (more_strategies s ss) = free_in s ++ free_among ss

  pub free_in_optional : OptionalStrategy → List Bytes
  free_in_optional no_strategy = []
  free_in_optional (one_strategy s) = free_in s

  pub free_in_sequence : SequenceTree → List Bytes
  free_in_sequence (last s) = free_in_step s
  free_in_sequence (then s q) = free_in_step s ++ free_in_sequence q

  pub free_in_step : StepTree → List Bytes
  free_in_step (plain_step s) = free_in_primary s
  free_in_step (matching s p) = free_in_primary s ++ names_of p

  pub free_in_primary : PrimaryTree → List Bytes
  free_in_primary identity = []
  free_in_primary failure = []
  free_in_primary (match p) = names_of p
  free_in_primary (build p) = names_of p
  free_in_primary (apply s p) = free_in s ++ names_of p
  free_in_primary (parenthesized s) = free_in s
  free_in_primary (scope xs s) = without xs (free_in s)
  free_in_primary (operator o s) = free_in s
  free_in_primary (conditional s t u) = free_in s ++ (free_in t ++ free_in_optional u)
  free_in_primary (recursive f s) = free_in s
  free_in_primary (let_in ds s) = free_in_definitions ds ++ free_in s
  free_in_primary (primitive name ps) = names_among ps
  free_in_primary (lambda r) = without (left_names r) (free_in_rule r)
  free_in_primary (call f arguments) = free_in_arguments arguments
  free_in_primary (tuple_congruence ss) = free_among ss
  free_in_primary (list_congruence ss s) = free_among ss ++ free_in_optional s

  pub free_in_arguments : ArgumentTree → List Bytes
  free_in_arguments no_arguments = []
  free_in_arguments (strategy_arguments ss) = free_among ss
  free_in_arguments (all_arguments ss ps) = free_among ss ++ names_among ps

  -- the names of a rule, which binds none
  pub free_in_rule : RuleTree → List Bytes
  free_in_rule (rewrites p t s) = names_of p ++ (names_of t ++ free_in_optional s)

  -- the names of a rule's left side, which a rule in backslashes binds
  pub left_names : RuleTree → List Bytes
  left_names (rewrites p t s) = names_of p

  -- a definition binds its term parameters
  pub free_in_definition : DefinitionTree → List Bytes
  free_in_definition (definition (head f parameters) s) = without (term_names parameters) (free_in s)

  pub free_in_definitions : DefinitionTrees → List Bytes
  free_in_definitions no_definitions = []
  free_in_definitions (more_definitions d ds) = free_in_definition d ++ free_in_definitions ds
