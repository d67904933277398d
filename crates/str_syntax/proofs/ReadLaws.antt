-- What each form of the code stands for.
use Rattle.std.proofs.Common.{◌≡◌, ℕ, ℤ, List, Option, Some, None, refl, sym, ◌∙◌, ap, Vec, Box, Global}
use Rattle.str_syntax.specs.declared.strategy.Arguments.{Arguments}
use Rattle.str_syntax.specs.declared.strategy.Arguments.TheVariants as argument_forms
use Rattle.str_syntax.specs.declared.strategy.Pattern.{Pattern}
use Rattle.str_syntax.specs.declared.strategy.Pattern.TheVariants as patterns
use Rattle.str_syntax.specs.declared.strategy.Strategy.{Strategy}
use Rattle.str_syntax.specs.declared.strategy.Strategy.TheVariants as choices
use Rattle.str_syntax.specs.declared.strategy.Sequence.{Sequence}
use Rattle.str_syntax.specs.declared.strategy.Sequence.TheVariants as sequences
use Rattle.str_syntax.specs.declared.strategy.Step.{Step}
use Rattle.str_syntax.specs.declared.strategy.Step.TheVariants as steps
use Rattle.str_syntax.specs.declared.strategy.Primary.{Primary}
use Rattle.str_syntax.specs.declared.strategy.Primary.TheVariants as primaries
use Rattle.str_syntax.specs.declared.strategy.Rule.{Rule}
use Rattle.str_syntax.specs.declared.strategy.StrategyDefinition.{StrategyDefinition}
use Rattle.str_syntax.specs.declared.strategy.Operator.{Operator}
use Rattle.str_syntax.specs.declared.strategy.Arguments.TheOpen as forms
use Rattle.str_syntax.specs.declared.strategy.Arguments.TheFolds.{fold-roll-Arguments, fold-roll-Pattern, fold-roll-Primary, fold-roll-Rule, fold-roll-Sequence, fold-roll-Step, fold-roll-Strategy, fold-roll-StrategyDefinition, map-Arguments, map-Pattern, map-Primary, map-Rule, map-Sequence, map-Step, map-Strategy}
use Rattle.str_syntax.specs.declared.strategy.Arguments.TheViews.{roll-Arguments, roll-Pattern, roll-Primary, roll-Rule, roll-Sequence, roll-Step, roll-Strategy, roll-StrategyDefinition}
use Rattle.str_syntax.specs.declared.sort.Sort.{Sort}
use Rattle.str_syntax.specs.declared.sort.Sort.TheVariants as sorts
use Rattle.str_syntax.specs.declared.sort.Sort.TheOpen as sort_forms
use Rattle.str_syntax.specs.declared.sort.Sort.TheFolds.{fold-roll-Sort, map-Sort}
use Rattle.str_syntax.specs.declared.sort.Sort.TheViews.{roll-Sort}
use Rattle.str_syntax.specs.Trees.{ArgumentTree, PatternTree, PrimaryTree, RuleTree, SequenceTree, StepTree, StrategyTree, DefinitionTree, definition, SortTree, sort, sort_of, variable, wildcard, alias, integer, quoted, application, grouped, tuple, list, annotated, applied, applied_to, plain_sequence, left_choice, guarded_choice, last, then, plain_step, matching, identity, failure, match, build, apply, parenthesized, scope, operator, conditional, recursive, let_in, primitive, lambda, call, tuple_congruence, list_congruence, no_arguments, strategy_arguments, all_arguments, rewrites}
use Rattle.str_syntax.specs.Views.{argument_step, pattern_step, primary_step, rule_step, sequence_step, step_step, strategy_step, definition_step, arguments_of, pattern_of, primary_of, rule_of, sequence_of, step_of, strategy_of, definition_of, optional_pattern_of, optional_strategy_of, patterns_of, strategies_of, definitions_of, head_of, sort_step, sort_tree_of, sorts_of}

pattern_roll : (x : forms.Pattern-F Arguments Pattern Primary Sequence Step Strategy Rule StrategyDefinition) →
    pattern_of (roll-Pattern x) ≡
    pattern_step (map-Pattern Arguments Pattern Primary Sequence Step Strategy Rule StrategyDefinition ArgumentTree
    PatternTree PrimaryTree SequenceTree StepTree StrategyTree RuleTree DefinitionTree arguments_of pattern_of
    primary_of sequence_of step_of strategy_of rule_of definition_of x)
pattern_roll = fold-roll-Pattern ArgumentTree PatternTree PrimaryTree SequenceTree StepTree StrategyTree RuleTree
    DefinitionTree argument_step pattern_step primary_step sequence_step step_step strategy_step rule_step
    definition_step

pub reads_variable : (x : List ℕ) → pattern_of (patterns.Variable x) ≡ variable x
reads_variable x = ap pattern_of (sym (patterns.rolls-Variable x)) ∙ pattern_roll (forms.Variable x)

pub reads_wildcard : (offset : ℕ) → pattern_of (patterns.Wildcard offset) ≡ wildcard
reads_wildcard offset = ap pattern_of (sym (patterns.rolls-Wildcard offset)) ∙ pattern_roll (forms.Wildcard offset)

pub reads_alias : (x : List ℕ) (p : Box Pattern Global) → pattern_of (patterns.Alias x p) ≡ alias x (pattern_of p.value)
reads_alias x p = ap pattern_of (sym (patterns.rolls-Alias x p)) ∙ pattern_roll (forms.Alias x p)

pub reads_integer : (z : ℤ) → pattern_of (patterns.Integer z) ≡ integer z
reads_integer z = ap pattern_of (sym (patterns.rolls-Integer z)) ∙ pattern_roll (forms.Integer z)

pub reads_quoted : (text : List ℕ) → pattern_of (patterns.Quoted text) ≡ quoted text
reads_quoted text = ap pattern_of (sym (patterns.rolls-Quoted text)) ∙ pattern_roll (forms.Quoted text)

pub reads_application : (f : List ℕ) (ps : Vec Pattern Global) →
    pattern_of (patterns.Application f ps) ≡ application f (patterns_of ps.items)
reads_application f ps = ap pattern_of (sym (patterns.rolls-Application f ps)) ∙ pattern_roll (forms.Application f ps)

pub reads_grouped : (p : Box Pattern Global) → pattern_of (patterns.Parenthesized p) ≡ grouped (pattern_of p.value)
reads_grouped p = ap pattern_of (sym (patterns.rolls-Parenthesized p)) ∙ pattern_roll (forms.Pattern::Parenthesized p)

pub reads_tuple : (ps : Vec Pattern Global) → pattern_of (patterns.Tuple ps) ≡ tuple (patterns_of ps.items)
reads_tuple ps = ap pattern_of (sym (patterns.rolls-Tuple ps)) ∙ pattern_roll (forms.Tuple ps)

pub reads_list : (ps : Vec Pattern Global) (o : Option (Box Pattern Global)) →
    pattern_of (patterns.List ps o) ≡ list (patterns_of ps.items) (optional_pattern_of o)
reads_list ps None = ap pattern_of (sym (patterns.rolls-List ps None)) ∙ pattern_roll (forms.List ps None)
reads_list ps (Some p) = ap pattern_of (sym (patterns.rolls-List ps (Some p))) ∙ pattern_roll (forms.List ps (Some p))

pub reads_annotated : (p : Box Pattern Global) (ps : Vec Pattern Global) →
    pattern_of (patterns.Annotated p ps) ≡ annotated (pattern_of p.value) (patterns_of ps.items)
reads_annotated p ps = ap pattern_of (sym (patterns.rolls-Annotated p ps)) ∙ pattern_roll (forms.Annotated p ps)

pub reads_applied : (s : Box Strategy Global) → pattern_of (patterns.Applied s) ≡ applied (strategy_of s.value)
reads_applied s = ap pattern_of (sym (patterns.rolls-Applied s)) ∙ pattern_roll (forms.Applied s)

pub reads_applied_to : (s : Box Strategy Global) (p : Box Pattern Global) →
    pattern_of (patterns.AppliedTo s p) ≡ applied_to (strategy_of s.value) (pattern_of p.value)
reads_applied_to s p = ap pattern_of (sym (patterns.rolls-AppliedTo s p)) ∙ pattern_roll (forms.AppliedTo s p)

strategy_roll : (x : forms.Strategy-F Arguments Pattern Primary Sequence Step Strategy Rule StrategyDefinition) →
    strategy_of (roll-Strategy x) ≡
    strategy_step (map-Strategy Arguments Pattern Primary Sequence Step Strategy Rule StrategyDefinition
    ArgumentTree PatternTree PrimaryTree SequenceTree StepTree StrategyTree RuleTree DefinitionTree arguments_of
    pattern_of primary_of sequence_of step_of strategy_of rule_of definition_of x)
strategy_roll = fold-roll-Strategy ArgumentTree PatternTree PrimaryTree SequenceTree StepTree StrategyTree RuleTree
    DefinitionTree argument_step pattern_step primary_step sequence_step step_step strategy_step rule_step
    definition_step

pub reads_plain_sequence : (q : Sequence) → strategy_of (choices.Sequence q) ≡ plain_sequence (sequence_of q)
reads_plain_sequence q = ap strategy_of (sym (choices.rolls-Sequence q)) ∙ strategy_roll (forms.Sequence q)

pub reads_left_choice : (q : Sequence) (s : Box Strategy Global) →
    strategy_of (choices.LeftChoice q s) ≡ left_choice (sequence_of q) (strategy_of s.value)
reads_left_choice q s = ap strategy_of (sym (choices.rolls-LeftChoice q s)) ∙ strategy_roll (forms.LeftChoice q s)

pub reads_guarded_choice : (q : Sequence) (s : Box Strategy Global) (t : Box Strategy Global) →
    strategy_of (choices.GuardedChoice q s t) ≡
    guarded_choice (sequence_of q) (strategy_of s.value) (strategy_of t.value)
reads_guarded_choice q s t = ap strategy_of (sym (choices.rolls-GuardedChoice q s t)) ∙
    strategy_roll (forms.GuardedChoice q s t)

sequence_roll : (x : forms.Sequence-F Arguments Pattern Primary Sequence Step Strategy Rule StrategyDefinition) →
    sequence_of (roll-Sequence x) ≡
    sequence_step (map-Sequence Arguments Pattern Primary Sequence Step Strategy Rule StrategyDefinition
    ArgumentTree PatternTree PrimaryTree SequenceTree StepTree StrategyTree RuleTree DefinitionTree arguments_of
    pattern_of primary_of sequence_of step_of strategy_of rule_of definition_of x)
sequence_roll = fold-roll-Sequence ArgumentTree PatternTree PrimaryTree SequenceTree StepTree StrategyTree RuleTree
    DefinitionTree argument_step pattern_step primary_step sequence_step step_step strategy_step rule_step
    definition_step

pub reads_last : (s : Step) → sequence_of (sequences.Last s) ≡ last (step_of s)
reads_last s = ap sequence_of (sym (sequences.rolls-Last s)) ∙ sequence_roll (forms.Last s)

pub reads_then : (s : Step) (q : Box Sequence Global) →
    sequence_of (sequences.Then s q) ≡ then (step_of s) (sequence_of q.value)
reads_then s q = ap sequence_of (sym (sequences.rolls-Then s q)) ∙ sequence_roll (forms.Then s q)

step_roll : (x : forms.Step-F Arguments Pattern Primary Sequence Step Strategy Rule StrategyDefinition) →
    step_of (roll-Step x) ≡ step_step
    (map-Step Arguments Pattern Primary Sequence Step Strategy Rule StrategyDefinition ArgumentTree PatternTree
    PrimaryTree SequenceTree StepTree StrategyTree RuleTree DefinitionTree arguments_of pattern_of primary_of
    sequence_of step_of strategy_of rule_of definition_of x)
step_roll = fold-roll-Step ArgumentTree PatternTree PrimaryTree SequenceTree StepTree StrategyTree RuleTree
    DefinitionTree argument_step pattern_step primary_step sequence_step step_step strategy_step rule_step
    definition_step

pub reads_plain_step : (at : ℕ) (s : Box Primary Global) → step_of (steps.Plain at s) ≡ plain_step (primary_of s.value)
reads_plain_step at s = ap step_of (sym (steps.rolls-Plain at s)) ∙ step_roll (forms.Plain at s)

pub reads_matching : (at : ℕ) (s : Box Primary Global) (there : ℕ) (p : Box Pattern Global) →
    step_of (steps.Matching at s there p) ≡ matching (primary_of s.value) (pattern_of p.value)
reads_matching at s there p = ap step_of (sym (steps.rolls-Matching at s there p)) ∙
    step_roll (forms.Matching at s there p)

primary_roll : (x : forms.Primary-F Arguments Pattern Primary Sequence Step Strategy Rule StrategyDefinition) →
    primary_of (roll-Primary x) ≡
    primary_step (map-Primary Arguments Pattern Primary Sequence Step Strategy Rule StrategyDefinition ArgumentTree
    PatternTree PrimaryTree SequenceTree StepTree StrategyTree RuleTree DefinitionTree arguments_of pattern_of
    primary_of sequence_of step_of strategy_of rule_of definition_of x)
primary_roll = fold-roll-Primary ArgumentTree PatternTree PrimaryTree SequenceTree StepTree StrategyTree RuleTree
    DefinitionTree argument_step pattern_step primary_step sequence_step step_step strategy_step rule_step
    definition_step

pub reads_identity : primary_of primaries.Id ≡ identity
reads_identity = ap primary_of (sym primaries.rolls-Id) ∙ primary_roll forms.Id

pub reads_failure : primary_of primaries.Fail ≡ failure
reads_failure = ap primary_of (sym primaries.rolls-Fail) ∙ primary_roll forms.Fail

pub reads_match : (p : Pattern) → primary_of (primaries.Match p) ≡ match (pattern_of p)
reads_match p = ap primary_of (sym (primaries.rolls-Match p)) ∙ primary_roll (forms.Match p)

pub reads_build : (p : Pattern) → primary_of (primaries.Build p) ≡ build (pattern_of p)
reads_build p = ap primary_of (sym (primaries.rolls-Build p)) ∙ primary_roll (forms.Build p)

pub reads_apply : (s : Box Strategy Global) (p : Box Pattern Global) →
    primary_of (primaries.Apply s p) ≡ apply (strategy_of s.value) (pattern_of p.value)
reads_apply s p = ap primary_of (sym (primaries.rolls-Apply s p)) ∙ primary_roll (forms.Apply s p)

pub reads_parenthesized : (s : Box Strategy Global) →
    primary_of (primaries.Parenthesized s) ≡ parenthesized (strategy_of s.value)
reads_parenthesized s = ap primary_of (sym (primaries.rolls-Parenthesized s)) ∙
    primary_roll (forms.Primary::Parenthesized s)

pub reads_scope : (xs : Vec (List ℕ) Global) (s : Box Strategy Global) →
    primary_of (primaries.Scope xs s) ≡ scope xs.items (strategy_of s.value)
reads_scope xs s = ap primary_of (sym (primaries.rolls-Scope xs s)) ∙ primary_roll (forms.Scope xs s)

pub reads_operator : (o : Operator) (s : Box Strategy Global) →
    primary_of (primaries.Operator o s) ≡ operator o (strategy_of s.value)
reads_operator o s = ap primary_of (sym (primaries.rolls-Operator o s)) ∙ primary_roll (forms.Operator o s)

pub reads_conditional : (s t : Box Strategy Global) (o : Option (Box Strategy Global)) →
    primary_of (primaries.If s t o) ≡ conditional (strategy_of s.value) (strategy_of t.value) (optional_strategy_of o)
reads_conditional s t None = ap primary_of (sym (primaries.rolls-If s t None)) ∙ primary_roll (forms.If s t None)
reads_conditional s t (Some u) =
    ap primary_of (sym (primaries.rolls-If s t (Some u))) ∙ primary_roll (forms.If s t (Some u))

pub reads_recursive : (x : List ℕ) (s : Box Strategy Global) →
    primary_of (primaries.Recursive x s) ≡ recursive x (strategy_of s.value)
reads_recursive x s = ap primary_of (sym (primaries.rolls-Recursive x s)) ∙ primary_roll (forms.Recursive x s)

pub reads_let : (ds : Vec StrategyDefinition Global) (s : Box Strategy Global) →
    primary_of (primaries.Let ds s) ≡ let_in (definitions_of ds.items) (strategy_of s.value)
reads_let ds s = ap primary_of (sym (primaries.rolls-Let ds s)) ∙ primary_roll (forms.Let ds s)

pub reads_primitive : (name : List ℕ) (ps : Vec Pattern Global) →
    primary_of (primaries.Primitive name ps) ≡ primitive name (patterns_of ps.items)
reads_primitive name ps = ap primary_of (sym (primaries.rolls-Primitive name ps)) ∙
    primary_roll (forms.Primitive name ps)

pub reads_lambda : (r : Box Rule Global) → primary_of (primaries.Lambda r) ≡ lambda (rule_of r.value)
reads_lambda r = ap primary_of (sym (primaries.rolls-Lambda r)) ∙ primary_roll (forms.Lambda r)

pub reads_call : (f : List ℕ) (a : Arguments) → primary_of (primaries.Call f a) ≡ call f (arguments_of a)
reads_call f a = ap primary_of (sym (primaries.rolls-Call f a)) ∙ primary_roll (forms.Call f a)

pub reads_tuple_congruence : (ss : Vec Strategy Global) →
    primary_of (primaries.TupleCongruence ss) ≡ tuple_congruence (strategies_of ss.items)
reads_tuple_congruence ss = ap primary_of (sym (primaries.rolls-TupleCongruence ss)) ∙
    primary_roll (forms.TupleCongruence ss)

pub reads_list_congruence : (ss : Vec Strategy Global) (o : Option (Box Strategy Global)) →
    primary_of (primaries.ListCongruence ss o) ≡ list_congruence (strategies_of ss.items) (optional_strategy_of o)
reads_list_congruence ss None = ap primary_of (sym (primaries.rolls-ListCongruence ss None)) ∙
    primary_roll (forms.ListCongruence ss None)
reads_list_congruence ss (Some s) = ap primary_of (sym (primaries.rolls-ListCongruence ss (Some s))) ∙
    primary_roll (forms.ListCongruence ss (Some s))

-- the parts of a rule, where the condition is known
rule_parts : (x : forms.Rule-F Arguments Pattern Primary Sequence Step Strategy Rule StrategyDefinition)
    (o : Option (Box Strategy Global)) →
    rule_step (map-Rule Arguments Pattern Primary Sequence Step Strategy Rule StrategyDefinition ArgumentTree
    PatternTree PrimaryTree SequenceTree StepTree StrategyTree RuleTree DefinitionTree arguments_of pattern_of
    primary_of sequence_of step_of strategy_of rule_of definition_of
    (record { left = x.left; right = x.right; condition = o }))
    ≡ rewrites (pattern_of x.left.value) (pattern_of x.right.value) (optional_strategy_of o)
rule_parts x None = refl
rule_parts x (Some s) = refl

-- a rule made of its parts
pub reads_made_rule : (x : forms.Rule-F Arguments Pattern Primary Sequence Step Strategy Rule StrategyDefinition) →
    rule_of (roll-Rule x) ≡ rewrites (pattern_of x.left.value) (pattern_of x.right.value)
    (optional_strategy_of x.condition)
reads_made_rule x = fold-roll-Rule ArgumentTree PatternTree PrimaryTree SequenceTree StepTree StrategyTree RuleTree
    DefinitionTree argument_step pattern_step primary_step sequence_step step_step strategy_step rule_step
    definition_step x ∙ rule_parts x x.condition

-- a definition made of its parts
pub reads_made_definition : (x : forms.StrategyDefinition-F Arguments Pattern Primary Sequence Step Strategy Rule
    StrategyDefinition) →
    definition_of (roll-StrategyDefinition x) ≡ definition (head_of x.head) (strategy_of x.body.value)
reads_made_definition x = fold-roll-StrategyDefinition ArgumentTree PatternTree PrimaryTree SequenceTree StepTree
    StrategyTree RuleTree DefinitionTree argument_step pattern_step primary_step sequence_step step_step strategy_step
    rule_step definition_step x

argument_roll : (x : forms.Arguments-F Arguments Pattern Primary Sequence Step Strategy Rule StrategyDefinition) →
    arguments_of (roll-Arguments x) ≡
    argument_step (map-Arguments Arguments Pattern Primary Sequence Step Strategy Rule StrategyDefinition
    ArgumentTree PatternTree PrimaryTree SequenceTree StepTree StrategyTree RuleTree DefinitionTree arguments_of
    pattern_of primary_of sequence_of step_of strategy_of rule_of definition_of x)
argument_roll = fold-roll-Arguments ArgumentTree PatternTree PrimaryTree SequenceTree StepTree StrategyTree RuleTree
    DefinitionTree argument_step pattern_step primary_step sequence_step step_step strategy_step rule_step
    definition_step

pub reads_no_arguments : arguments_of argument_forms.Absent ≡ no_arguments
reads_no_arguments = ap arguments_of (sym argument_forms.rolls-Absent) ∙ argument_roll forms.Absent

pub reads_strategy_arguments : (ss : Vec Strategy Global) →
    arguments_of (argument_forms.Strategies ss) ≡ strategy_arguments (strategies_of ss.items)
reads_strategy_arguments ss = ap arguments_of (sym (argument_forms.rolls-Strategies ss)) ∙
    argument_roll (forms.Strategies ss)

pub reads_all_arguments : (ss : Vec Strategy Global) (ps : Box (Vec Pattern Global) Global) →
    arguments_of (argument_forms.WithTerms ss ps) ≡ all_arguments (strategies_of ss.items) (patterns_of ps.value.items)
reads_all_arguments ss ps = ap arguments_of (sym (argument_forms.rolls-WithTerms ss ps)) ∙
    argument_roll (forms.WithTerms ss ps)

-- the three ways in which a call is written
pub reads_plain_call : (f : List ℕ) → primary_of (primaries.Call f argument_forms.Absent) ≡ call f no_arguments
reads_plain_call f = reads_call f _ ∙ ap (call f) reads_no_arguments

pub reads_call_with : (f : List ℕ) (ss : Vec Strategy Global) →
    primary_of (primaries.Call f (argument_forms.Strategies ss)) ≡ call f (strategy_arguments (strategies_of ss.items))
reads_call_with f ss = reads_call f _ ∙ ap (call f) (reads_strategy_arguments ss)

pub reads_call_with_terms : (f : List ℕ) (ss : Vec Strategy Global) (ps : Box (Vec Pattern Global) Global) →
    primary_of (primaries.Call f (argument_forms.WithTerms ss ps)) ≡
    call f (all_arguments (strategies_of ss.items) (patterns_of ps.value.items))
reads_call_with_terms f ss ps = reads_call f _ ∙ ap (call f) (reads_all_arguments ss ps)

sort_roll : (x : sort_forms.Sort-F Sort) →
    sort_tree_of (roll-Sort x) ≡ sort_step (map-Sort Sort SortTree sort_tree_of x)
sort_roll = fold-roll-Sort SortTree sort_step

pub reads_sort : (a : List ℕ) → sort_tree_of (sorts.Named a) ≡ sort a
reads_sort a = ap sort_tree_of (sym (sorts.rolls-Named a)) ∙ sort_roll (sort_forms.Named a)

pub reads_sort_of : (a : List ℕ) (parts : Vec Sort Global) →
    sort_tree_of (sorts.Applied a parts) ≡ sort_of a (sorts_of parts.items)
reads_sort_of a parts = ap sort_tree_of (sym (sorts.rolls-Applied a parts)) ∙ sort_roll (sort_forms.Applied a parts)

-- what each tree stands for
pub ruleset reads = (
  reads_variable,
  reads_wildcard,
  reads_alias,
  reads_integer,
  reads_quoted,
  reads_application,
  reads_grouped,
  reads_tuple,
  reads_list,
  reads_annotated,
  reads_applied,
  reads_applied_to,
  reads_plain_sequence,
  reads_left_choice,
  reads_guarded_choice,
  reads_last,
  reads_then,
  reads_plain_step,
  reads_matching,
  reads_identity,
  reads_failure,
  reads_match,
  reads_build,
  reads_apply,
  reads_parenthesized,
  reads_scope,
  reads_operator,
  reads_conditional,
  reads_recursive,
  reads_let,
  reads_primitive,
  reads_lambda,
  reads_call,
  reads_tuple_congruence,
  reads_list_congruence,
  reads_no_arguments,
  reads_strategy_arguments,
  reads_all_arguments,
  reads_made_rule,
  reads_made_definition,
  reads_sort,
  reads_sort_of,
)
