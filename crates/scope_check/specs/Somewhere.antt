-- The nodes of a file, and whether one of them is such, with what is seen where it stands.
use Rattle.std.specs.Prelude.{Bool, false, ◌||◌, List}
use Rattle.std.specs.List.{list_any}
use Rattle.scope_check.specs.declared.side.Side.{Side}
use Rattle.scope_check.specs.declared.side.Side.TheVariants.{Match, Build}
use Rattle.scope_check.specs.Seen.{Seen, nothing, in_rec, in_let, in_body, heads_in, tops_in, top_heads, at_top}
use Rattle.str_syntax.specs.declared.definition.Origin.{Origin}
use Rattle.str_syntax.specs.declared.definition.Origin.TheVariants as origins
use Rattle.str_syntax.specs.Trees.{HeadTree, PatternTree, variable, wildcard, alias, integer, quoted, application, grouped, tuple, list, annotated, applied, applied_to, PatternTrees, no_patterns, more_patterns, OptionalPattern, no_pattern, one_pattern, StrategyTree, plain_sequence, left_choice, guarded_choice, StrategyTrees, no_strategies, more_strategies, OptionalStrategy, no_strategy, one_strategy, SequenceTree, last, then, StepTree, plain_step, matching, PrimaryTree, identity, failure, match, build, apply, parenthesized, scope, operator, conditional, recursive, let_in, primitive, lambda, call, tuple_congruence, list_congruence, ArgumentTree, no_arguments, strategy_arguments, all_arguments, RuleTree, rewrites, DefinitionTree, definition, DefinitionTrees, no_definitions, more_definitions, FormTree, rule_form, strategy_form, TopTree, FileTree}

pub data Node : Type 0 where
  -- a pattern of a match or of a build
  pattern : Side → PatternTree → Node
  -- a strategy that no operator splits
  strategy : PrimaryTree → Node
  -- the name and the parameters of a rule or a definition, and where that comes from
  heading : Origin → HeadTree → Node
  -- the heads of all rules and definitions at top level, or of the definitions of one let
  group : List HeadTree → Node

-- whether a node is such, with what is seen where it stands
abbrev pub Test : Type 0
Test = Seen → Node → Bool

abbrev mutual
  -- the pattern or a part of it is such
  pub in_pattern : Test → Side → Seen → PatternTree → Bool
  in_pattern P m L (variable x) = P L (pattern m (variable x))
  in_pattern P m L wildcard = P L (pattern m wildcard)
  in_pattern P m L (alias x p) = P L (pattern m (alias x p)) || in_pattern P m L p
  in_pattern P m L (integer z) = P L (pattern m (integer z))
  in_pattern P m L (quoted text) = P L (pattern m (quoted text))
  in_pattern P m L (application f ps) = P L (pattern m (application f ps)) || in_patterns P m L ps
  in_pattern P m L (grouped p) = P L (pattern m (grouped p)) || in_pattern P m L p
  in_pattern P m L (tuple ps) = P L (pattern m (tuple ps)) || in_patterns P m L ps
  in_pattern P m L (list ps p) = P L (pattern m (list ps p)) || (in_patterns P m L ps || in_optional_pattern P m L p)
  in_pattern P m L (annotated p qs) = P L (pattern m (annotated p qs)) || (in_pattern P m L p || in_patterns P m L qs)
  in_pattern P m L (applied s) = P L (pattern m (applied s)) || in_strategy P L s
  in_pattern P m L (applied_to s p) = P L (pattern m (applied_to s p)) || (in_strategy P L s || in_pattern P m L p)

  pub in_patterns : Test → Side → Seen → PatternTrees → Bool
  in_patterns P m L no_patterns = false
  in_patterns P m L (more_patterns p ps) = in_pattern P m L p || in_patterns P m L ps

  pub in_optional_pattern : Test → Side → Seen → OptionalPattern → Bool
  in_optional_pattern P m L no_pattern = false
  in_optional_pattern P m L (one_pattern p) = in_pattern P m L p

  pub in_strategy : Test → Seen → StrategyTree → Bool
  in_strategy P L (plain_sequence q) = in_sequence P L q
  in_strategy P L (left_choice q s) = in_sequence P L q || in_strategy P L s
  in_strategy P L (guarded_choice q s t) = in_sequence P L q || (in_strategy P L s || in_strategy P L t)

  pub in_strategies : Test → Seen → StrategyTrees → Bool
  in_strategies P L no_strategies = false
  in_strategies P L (more_strategies s ss) = in_strategy P L s || in_strategies P L ss

  pub in_optional_strategy : Test → Seen → OptionalStrategy → Bool
  in_optional_strategy P L no_strategy = false
  in_optional_strategy P L (one_strategy s) = in_strategy P L s

  pub in_sequence : Test → Seen → SequenceTree → Bool
  in_sequence P L (last s) = in_step P L s
  in_sequence P L (then s q) = in_step P L s || in_sequence P L q

  pub in_step : Test → Seen → StepTree → Bool
  in_step P L (plain_step s) = in_primary P L s
  in_step P L (matching s p) = in_primary P L s || in_pattern P Match L p

  pub in_primary : Test → Seen → PrimaryTree → Bool
  in_primary P L identity = P L (strategy identity)
  in_primary P L failure = P L (strategy failure)
  in_primary P L (match p) = P L (strategy (match p)) || in_pattern P Match L p
  in_primary P L (build p) = P L (strategy (build p)) || in_pattern P Build L p
  in_primary P L (apply s p) = P L (strategy (apply s p)) || (in_strategy P L s || in_pattern P Build L p)
  in_primary P L (parenthesized s) = P L (strategy (parenthesized s)) || in_strategy P L s
  in_primary P L (scope xs s) = P L (strategy (scope xs s)) || in_strategy P L s
  in_primary P L (operator o s) = P L (strategy (operator o s)) || in_strategy P L s
  in_primary P L (conditional s t u) =
      P L (strategy (conditional s t u)) || (in_strategy P L s || (in_strategy P L t || in_optional_strategy P L u))
  in_primary P L (recursive f s) = P L (strategy (recursive f s)) || in_strategy P (in_rec f L) s
  in_primary P L (let_in ds s) =
      P L (strategy (let_in ds s)) ||
      (P L (group (heads_in ds)) || (in_definitions P (in_let ds L) ds || in_strategy P (in_let ds L) s))
  in_primary P L (primitive f ps) = P L (strategy (primitive f ps)) || in_patterns P Build L ps
  in_primary P L (lambda r) = P L (strategy (lambda r)) || in_rule P L r
  in_primary P L (call f arguments) = P L (strategy (call f arguments)) || in_arguments P L arguments
  in_primary P L (tuple_congruence ss) = P L (strategy (tuple_congruence ss)) || in_strategies P L ss
  in_primary P L (list_congruence ss s) =
      P L (strategy (list_congruence ss s)) || (in_strategies P L ss || in_optional_strategy P L s)

  pub in_arguments : Test → Seen → ArgumentTree → Bool
  in_arguments P L no_arguments = false
  in_arguments P L (strategy_arguments ss) = in_strategies P L ss
  in_arguments P L (all_arguments ss ps) = in_strategies P L ss || in_patterns P Build L ps

  pub in_rule : Test → Seen → RuleTree → Bool
  in_rule P L (rewrites l r s) = in_pattern P Match L l || (in_pattern P Build L r || in_optional_strategy P L s)

  -- its body sees its strategy parameters
  pub in_definition : Test → Origin → Seen → DefinitionTree → Bool
  in_definition P o L (definition h s) = P L (heading o h) || in_strategy P (in_body h L) s

  -- the definitions of a let are the file's own
  pub in_definitions : Test → Seen → DefinitionTrees → Bool
  in_definitions P L no_definitions = false
  in_definitions P L (more_definitions d ds) = in_definition P origins.File L d || in_definitions P L ds

abbrev pub in_form : Test → Origin → Seen → FormTree → Bool
in_form P o L (rule_form h r) = P L (heading o h) || in_rule P (in_body h L) r
in_form P o L (strategy_form d) = in_definition P o L d

abbrev pub in_top : Test → Seen → TopTree → Bool
in_top P L t = in_form P t.origin L t.form

-- some node of the file is such
abbrev pub in_file : Test → FileTree → Bool
in_file P file = P nothing (group (top_heads file)) || list_any (in_top P (at_top file)) (tops_in file.sections)
