-- The headline does not rest on this file.
-- What the trees in the code stand for.
use Rattle.std.specs.Prelude.{List, [], ◌∷◌, map, Option, Some, None, Box}
use Rattle.std.specs.declared.alloc.Global.{Global}
use Rattle.str_syntax.specs.declared.sort.Sort.{Sort}
use Rattle.str_syntax.specs.declared.sort.Sort.TheOpen as sort_forms
use Rattle.str_syntax.specs.declared.sort.Sort.TheOpen.{Sort-F}
use Rattle.str_syntax.specs.declared.sort.Sort.TheFolds.{fold-Sort}
use Rattle.str_syntax.specs.declared.sort.Declaration.{Declaration}
use Rattle.str_syntax.specs.declared.sort.Declaration.TheVariants as declaration_forms
use Rattle.str_syntax.specs.declared.sort.SignaturePart.{SignaturePart}
use Rattle.str_syntax.specs.declared.sort.SignaturePart.TheVariants as part_forms
use Rattle.str_syntax.specs.declared.strategy.Parameters.{Parameters}
use Rattle.str_syntax.specs.declared.strategy.Parameters.TheVariants as parameter_forms
use Rattle.str_syntax.specs.declared.strategy.DefinitionHead.{DefinitionHead}
use Rattle.str_syntax.specs.declared.strategy.Arguments.{Arguments}
use Rattle.str_syntax.specs.declared.strategy.Pattern.{Pattern}
use Rattle.str_syntax.specs.declared.strategy.Primary.{Primary}
use Rattle.str_syntax.specs.declared.strategy.Rule.{Rule}
use Rattle.str_syntax.specs.declared.strategy.Sequence.{Sequence}
use Rattle.str_syntax.specs.declared.strategy.Step.{Step}
use Rattle.str_syntax.specs.declared.strategy.Strategy.{Strategy}
use Rattle.str_syntax.specs.declared.strategy.StrategyDefinition.{StrategyDefinition}
use Rattle.str_syntax.specs.declared.strategy.Arguments.TheOpen as forms
use Rattle.str_syntax.specs.declared.strategy.Arguments.TheOpen.{Arguments-F, Pattern-F, Primary-F, Rule-F, Sequence-F, Step-F, Strategy-F, StrategyDefinition-F}
use Rattle.str_syntax.specs.declared.strategy.Arguments.TheFolds.{fold-Arguments, fold-Pattern, fold-Primary, fold-Rule, fold-Sequence, fold-Step, fold-Strategy, fold-StrategyDefinition}
use Rattle.str_syntax.specs.declared.definition.RuleDefinition.{RuleDefinition}
use Rattle.str_syntax.specs.declared.definition.DefinitionForm.{DefinitionForm}
use Rattle.str_syntax.specs.declared.definition.DefinitionForm.TheVariants as definition_forms
use Rattle.str_syntax.specs.declared.definition.Definition.{Definition}
use Rattle.str_syntax.specs.declared.definition.Section.{Section}
use Rattle.str_syntax.specs.declared.definition.Section.TheVariants as section_forms
use Rattle.str_syntax.specs.declared.definition.File.{File}
use Rattle.str_syntax.specs.Trees.{ParameterTree, absent, strategies_only, with_terms, HeadTree, head, PatternTree, variable, wildcard, alias, integer, quoted, application, grouped, tuple, list, annotated, applied, applied_to, PatternTrees, no_patterns, more_patterns, OptionalPattern, no_pattern, one_pattern, StrategyTree, plain_sequence, left_choice, guarded_choice, StrategyTrees, no_strategies, more_strategies, OptionalStrategy, no_strategy, one_strategy, SequenceTree, last, then, StepTree, plain_step, matching, PrimaryTree, identity, failure, match, build, apply, parenthesized, scope, operator, conditional, recursive, let_in, primitive, lambda, call, tuple_congruence, list_congruence, ArgumentTree, no_arguments, strategy_arguments, all_arguments, RuleTree, rewrites, DefinitionTree, definition, DefinitionTrees, no_definitions, more_definitions, SortTree, sort, sort_of, SortTrees, no_sorts, more_sorts, DeclarationTree, constant, constructor, injection, SignatureTree, sorts, constructors, FormTree, rule_form, strategy_form, TopTree, SectionTree, signature, rules, strategies, FileTree}

abbrev pub patterns_in : List PatternTree → PatternTrees
patterns_in [] = no_patterns
patterns_in (p ∷ ps) = more_patterns p (patterns_in ps)

abbrev pub strategies_in : List StrategyTree → StrategyTrees
strategies_in [] = no_strategies
strategies_in (s ∷ ss) = more_strategies s (strategies_in ss)

abbrev pub definitions_in : List DefinitionTree → DefinitionTrees
definitions_in [] = no_definitions
definitions_in (d ∷ ds) = more_definitions d (definitions_in ds)

abbrev pub sorts_in : List SortTree → SortTrees
sorts_in [] = no_sorts
sorts_in (a ∷ more) = more_sorts a (sorts_in more)

abbrev pub parameters_of : Parameters → ParameterTree
parameters_of parameter_forms.Absent = absent
parameters_of (parameter_forms.Strategies fs) = strategies_only fs.items
parameters_of (parameter_forms.WithTerms fs xs) = with_terms fs.items xs.items

abbrev pub head_of : DefinitionHead → HeadTree
head_of h = head h.name (parameters_of h.parameters)

abbrev pub optional_pattern : Option (Box PatternTree Global) → OptionalPattern
optional_pattern None = no_pattern
optional_pattern (Some p) = one_pattern p.value

abbrev pub optional_strategy : Option (Box StrategyTree Global) → OptionalStrategy
optional_strategy None = no_strategy
optional_strategy (Some s) = one_strategy s.value

-- one level of each tree, where the trees in it are known
abbrev pub argument_step : Arguments-F ArgumentTree PatternTree PrimaryTree SequenceTree StepTree StrategyTree RuleTree
    DefinitionTree → ArgumentTree
argument_step forms.Absent = no_arguments
argument_step (forms.Strategies ss) = strategy_arguments (strategies_in ss.items)
argument_step (forms.WithTerms ss ps) = all_arguments (strategies_in ss.items) (patterns_in ps.value.items)

abbrev pub pattern_step : Pattern-F ArgumentTree PatternTree PrimaryTree SequenceTree StepTree StrategyTree RuleTree
    DefinitionTree → PatternTree
pattern_step (forms.Variable x) = variable x
pattern_step (forms.Wildcard _) = wildcard
pattern_step (forms.Alias x p) = alias x p.value
pattern_step (forms.Integer z) = integer z
pattern_step (forms.Quoted text) = quoted text
pattern_step (forms.Application f ps) = application f (patterns_in ps.items)
pattern_step (forms.Pattern::Parenthesized p) = grouped p.value
pattern_step (forms.Tuple ps) = tuple (patterns_in ps.items)
pattern_step (forms.List ps p) = list (patterns_in ps.items) (optional_pattern p)
pattern_step (forms.Annotated p ps) = annotated p.value (patterns_in ps.items)
pattern_step (forms.Applied s) = applied s.value
pattern_step (forms.AppliedTo s p) = applied_to s.value p.value

abbrev pub primary_step : Primary-F ArgumentTree PatternTree PrimaryTree SequenceTree StepTree StrategyTree RuleTree
    DefinitionTree → PrimaryTree
primary_step forms.Id = identity
primary_step forms.Fail = failure
primary_step (forms.Match p) = match p
primary_step (forms.Build p) = build p
primary_step (forms.Apply s p) = apply s.value p.value
primary_step (forms.Primary::Parenthesized s) = parenthesized s.value
primary_step (forms.Scope xs s) = scope xs.items s.value
primary_step (forms.Operator o s) = operator o s.value
primary_step (forms.If s t u) = conditional s.value t.value (optional_strategy u)
primary_step (forms.Recursive x s) = recursive x s.value
primary_step (forms.Let ds s) = let_in (definitions_in ds.items) s.value
primary_step (forms.Primitive name ps) = primitive name (patterns_in ps.items)
primary_step (forms.Lambda r) = lambda r.value
primary_step (forms.Call f arguments) = call f arguments
primary_step (forms.TupleCongruence ss) = tuple_congruence (strategies_in ss.items)
primary_step (forms.ListCongruence ss s) = list_congruence (strategies_in ss.items) (optional_strategy s)

abbrev pub rule_step : Rule-F ArgumentTree PatternTree PrimaryTree SequenceTree StepTree StrategyTree RuleTree
    DefinitionTree → RuleTree
rule_step r = rewrites r.left.value r.right.value (optional_strategy r.condition)

abbrev pub sequence_step : Sequence-F ArgumentTree PatternTree PrimaryTree SequenceTree StepTree StrategyTree RuleTree
    DefinitionTree → SequenceTree
sequence_step (forms.Last s) = last s
sequence_step (forms.Then s q) = then s q.value

abbrev pub step_step : Step-F ArgumentTree PatternTree PrimaryTree SequenceTree StepTree StrategyTree RuleTree
    DefinitionTree → StepTree
step_step (forms.Plain at s) = plain_step s.value
step_step (forms.Matching at s there p) = matching s.value p.value

abbrev pub strategy_step : Strategy-F ArgumentTree PatternTree PrimaryTree SequenceTree StepTree StrategyTree RuleTree
    DefinitionTree → StrategyTree
strategy_step (forms.Sequence q) = plain_sequence q
strategy_step (forms.LeftChoice q s) = left_choice q s.value
strategy_step (forms.GuardedChoice q s t) = guarded_choice q s.value t.value

abbrev pub definition_step : StrategyDefinition-F ArgumentTree PatternTree PrimaryTree SequenceTree StepTree
    StrategyTree RuleTree DefinitionTree → DefinitionTree
definition_step d = definition (head_of d.head) d.body.value

abbrev pub arguments_of : Arguments → ArgumentTree
arguments_of = fold-Arguments ArgumentTree PatternTree PrimaryTree SequenceTree StepTree StrategyTree RuleTree
    DefinitionTree argument_step pattern_step primary_step sequence_step step_step strategy_step rule_step
    definition_step

abbrev pub pattern_of : Pattern → PatternTree
pattern_of = fold-Pattern ArgumentTree PatternTree PrimaryTree SequenceTree StepTree StrategyTree RuleTree
    DefinitionTree argument_step pattern_step primary_step sequence_step step_step strategy_step rule_step
    definition_step

abbrev pub primary_of : Primary → PrimaryTree
primary_of = fold-Primary ArgumentTree PatternTree PrimaryTree SequenceTree StepTree StrategyTree RuleTree
    DefinitionTree argument_step pattern_step primary_step sequence_step step_step strategy_step rule_step
    definition_step

abbrev pub rule_of : Rule → RuleTree
rule_of = fold-Rule ArgumentTree PatternTree PrimaryTree SequenceTree StepTree StrategyTree RuleTree DefinitionTree
    argument_step pattern_step primary_step sequence_step step_step strategy_step rule_step definition_step

abbrev pub sequence_of : Sequence → SequenceTree
sequence_of = fold-Sequence ArgumentTree PatternTree PrimaryTree SequenceTree StepTree StrategyTree RuleTree
    DefinitionTree argument_step pattern_step primary_step sequence_step step_step strategy_step rule_step
    definition_step

abbrev pub step_of : Step → StepTree
step_of = fold-Step ArgumentTree PatternTree PrimaryTree SequenceTree StepTree StrategyTree RuleTree DefinitionTree
    argument_step pattern_step primary_step sequence_step step_step strategy_step rule_step definition_step

abbrev pub strategy_of : Strategy → StrategyTree
strategy_of = fold-Strategy ArgumentTree PatternTree PrimaryTree SequenceTree StepTree StrategyTree RuleTree
    DefinitionTree argument_step pattern_step primary_step sequence_step step_step strategy_step rule_step
    definition_step

abbrev pub definition_of : StrategyDefinition → DefinitionTree
definition_of = fold-StrategyDefinition ArgumentTree PatternTree PrimaryTree SequenceTree StepTree StrategyTree RuleTree
    DefinitionTree argument_step pattern_step primary_step sequence_step step_step strategy_step rule_step
    definition_step

abbrev pub optional_pattern_of : Option (Box Pattern Global) → OptionalPattern
optional_pattern_of None = no_pattern
optional_pattern_of (Some p) = one_pattern (pattern_of p.value)

abbrev pub optional_strategy_of : Option (Box Strategy Global) → OptionalStrategy
optional_strategy_of None = no_strategy
optional_strategy_of (Some s) = one_strategy (strategy_of s.value)

abbrev pub patterns_of : List Pattern → PatternTrees
patterns_of ps = patterns_in (map pattern_of ps)

abbrev pub strategies_of : List Strategy → StrategyTrees
strategies_of ss = strategies_in (map strategy_of ss)

abbrev pub definitions_of : List StrategyDefinition → DefinitionTrees
definitions_of ds = definitions_in (map definition_of ds)

abbrev pub sort_step : Sort-F SortTree → SortTree
sort_step (sort_forms.Named a) = sort a
sort_step (sort_forms.Applied a parts) = sort_of a (sorts_in parts.items)

abbrev pub sort_tree_of : Sort → SortTree
sort_tree_of = fold-Sort SortTree sort_step

abbrev pub sorts_of : List Sort → SortTrees
sorts_of parts = sorts_in (map sort_tree_of parts)

abbrev pub declaration_of : Declaration → DeclarationTree
declaration_of (declaration_forms.Constant c a) = constant c (sort_tree_of a)
declaration_of (declaration_forms.Constructor c parts a) = constructor c (sorts_of parts.items) (sort_tree_of a)
declaration_of (declaration_forms.Injection parts a) = injection (sorts_of parts.items) (sort_tree_of a)

abbrev pub signature_of : SignaturePart → SignatureTree
signature_of (part_forms.Sorts parts) = sorts (sorts_of parts.items)
signature_of (part_forms.Constructors declarations) = constructors (map declaration_of declarations.items)

abbrev pub rule_definition_of : RuleDefinition → FormTree
rule_definition_of d = rule_form (head_of d.head) (rule_of d.rule)

abbrev pub form_of : DefinitionForm → FormTree
form_of (definition_forms.Rule d) = rule_definition_of d
form_of (definition_forms.Strategy d) = strategy_form (definition_of d)

abbrev pub top_of : Definition → TopTree
top_of d = record { origin = d.origin; form = form_of d.form }

abbrev pub section_of : Section → SectionTree
section_of (section_forms.Signature parts) = signature (map signature_of parts.items)
section_of (section_forms.Rules definitions) = rules (map top_of definitions.items)
section_of (section_forms.Strategies definitions) = strategies (map top_of definitions.items)

abbrev pub file_of : File → FileTree
file_of f = record { sections = map section_of f.sections.items }
