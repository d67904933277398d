use Rattle.std.proofs.Common.{◌+◌, ◌-◌, ◌*◌, length, map}
use Rattle.str_syntax.specs.Views.{definition_of, pattern_of, strategy_of}
use Rattle.str_parser.proofs.LetLaws.{PartlyDefinitions}
use Rattle.str_parser.proofs.PatternLists.{PartlyPatterns}
use Rattle.str_parser.proofs.StrategyLists.{PartlyStrategies}
use Rattle.str_parser.proofs.+phrase.Given as goal

-- each call is of a part one level further in, or of one that is lower in this order

abbrev pub decreases-descent::strategy : goal.decreases-descent::strategy
decreases-descent::strategy l = 10 * (201 - l.level) + 5

abbrev pub decreases-descent::left_choice : goal.decreases-descent::left_choice
decreases-descent::left_choice l = 10 * (201 - l.level)

abbrev pub decreases-descent::guarded_choice : goal.decreases-descent::guarded_choice
decreases-descent::guarded_choice l = 10 * (201 - l.level)

abbrev pub decreases-descent::sequence : goal.decreases-descent::sequence
decreases-descent::sequence l = 10 * (201 - l.level) + 4

abbrev pub decreases-descent::then : goal.decreases-descent::then
decreases-descent::then l = 10 * (201 - l.level)

abbrev pub decreases-descent::step : goal.decreases-descent::step
decreases-descent::step l = 10 * (201 - l.level) + 3

abbrev pub decreases-descent::matching : goal.decreases-descent::matching
decreases-descent::matching l = 10 * (201 - l.level)

abbrev pub decreases-descent::strategy_before : goal.decreases-descent::strategy_before
decreases-descent::strategy_before l = 10 * (201 - l.level) + 6

abbrev pub decreases-descent::strategy_before_keyword : goal.decreases-descent::strategy_before_keyword
decreases-descent::strategy_before_keyword l = 10 * (201 - l.level) + 6

abbrev pub decreases-descent::strategies : goal.decreases-descent::strategies
decreases-descent::strategies l = 10 * (201 - l.level) + 6

abbrev pub decreases-primary::primary : goal.decreases-primary::primary
decreases-primary::primary l = 10 * (201 - l.level) + 2

abbrev pub decreases-primary::primary_after_mark : goal.decreases-primary::primary_after_mark
decreases-primary::primary_after_mark l = 10 * (201 - l.level) + 1

abbrev pub decreases-primary::primary_after_keyword : goal.decreases-primary::primary_after_keyword
decreases-primary::primary_after_keyword l = 10 * (201 - l.level) + 1

abbrev pub decreases-primary::pattern_match : goal.decreases-primary::pattern_match
decreases-primary::pattern_match l = 10 * (201 - l.level)

abbrev pub decreases-primary::pattern_build : goal.decreases-primary::pattern_build
decreases-primary::pattern_build l = 10 * (201 - l.level)

abbrev pub decreases-primary::strategy_application : goal.decreases-primary::strategy_application
decreases-primary::strategy_application l = 10 * (201 - l.level)

abbrev pub decreases-primary::scope : goal.decreases-primary::scope
decreases-primary::scope l = 10 * (201 - l.level)

abbrev pub decreases-primary::operand : goal.decreases-primary::operand
decreases-primary::operand l = 10 * (201 - l.level) + 7

abbrev pub decreases-primary::operator_call : goal.decreases-primary::operator_call
decreases-primary::operator_call l = 10 * (201 - l.level)

abbrev pub decreases-primary::recursion : goal.decreases-primary::recursion
decreases-primary::recursion l = 10 * (201 - l.level)

abbrev pub decreases-primary::conditional : goal.decreases-primary::conditional
decreases-primary::conditional l = 10 * (201 - l.level)

abbrev pub decreases-primary::conditional_end : goal.decreases-primary::conditional_end
decreases-primary::conditional_end l = 10 * (201 - l.level) + 7

abbrev pub decreases-congruence::strategies_in_parentheses : goal.decreases-congruence::strategies_in_parentheses
decreases-congruence::strategies_in_parentheses l = 10 * (201 - l.level)

abbrev pub decreases-congruence::list_congruence : goal.decreases-congruence::list_congruence
decreases-congruence::list_congruence l = 10 * (201 - l.level)

abbrev pub decreases-congruence::list_end : goal.decreases-congruence::list_end
decreases-congruence::list_end l = 10 * (201 - l.level) + 7

abbrev pub decreases-call::call : goal.decreases-call::call
decreases-call::call l = 10 * (201 - l.level)

abbrev pub decreases-call::arguments : goal.decreases-call::arguments
decreases-call::arguments l = 10 * (201 - l.level) + 9

abbrev pub decreases-call::arguments_inside : goal.decreases-call::arguments_inside
decreases-call::arguments_inside l = 10 * (201 - l.level) + 8

abbrev pub decreases-call::any_strategies : goal.decreases-call::any_strategies
decreases-call::any_strategies l = 10 * (201 - l.level) + 7

abbrev pub decreases-call::primitive : goal.decreases-call::primitive
decreases-call::primitive l = 10 * (201 - l.level)

abbrev pub decreases-call::primitive_patterns : goal.decreases-call::primitive_patterns
decreases-call::primitive_patterns l = 10 * (201 - l.level) + 6

abbrev pub decreases-let_in::let_in : goal.decreases-let_in::let_in
decreases-let_in::let_in l = 10 * (201 - l.level)

abbrev pub decreases-let_in::definitions : goal.decreases-let_in::definitions
decreases-let_in::definitions l = 10 * (201 - l.level) + 7

abbrev pub decreases-let_in::definition : goal.decreases-let_in::definition
decreases-let_in::definition l = 10 * (201 - l.level) + 6

abbrev pub decreases-rule::lambda : goal.decreases-rule::lambda
decreases-rule::lambda l = 10 * (201 - l.level)

abbrev pub decreases-rule::rule : goal.decreases-rule::rule
decreases-rule::rule l = 10 * (201 - l.level) + 7

abbrev pub decreases-rule::condition : goal.decreases-rule::condition
decreases-rule::condition l = 10 * (201 - l.level) + 6

abbrev pub decreases-pattern::pattern : goal.decreases-pattern::pattern
decreases-pattern::pattern l = 10 * (201 - l.level) + 4

abbrev pub decreases-pattern::alias : goal.decreases-pattern::alias
decreases-pattern::alias l = 10 * (201 - l.level)

abbrev pub decreases-pattern::applied_strategy : goal.decreases-pattern::applied_strategy
decreases-pattern::applied_strategy l = 10 * (201 - l.level)

abbrev pub decreases-pattern::with_annotations : goal.decreases-pattern::with_annotations
decreases-pattern::with_annotations l = 10 * (201 - l.level) + 3

abbrev pub decreases-pattern::plain_pattern : goal.decreases-pattern::plain_pattern
decreases-pattern::plain_pattern l = 10 * (201 - l.level) + 2

abbrev pub decreases-pattern::pattern_after_mark : goal.decreases-pattern::pattern_after_mark
decreases-pattern::pattern_after_mark l = 10 * (201 - l.level) + 1

abbrev pub decreases-pattern::variable_or_application : goal.decreases-pattern::variable_or_application
decreases-pattern::variable_or_application l = 10 * (201 - l.level)

abbrev pub decreases-pattern::pattern_in_parentheses : goal.decreases-pattern::pattern_in_parentheses
decreases-pattern::pattern_in_parentheses l = 10 * (201 - l.level)

abbrev pub decreases-pattern::list : goal.decreases-pattern::list
decreases-pattern::list l = 10 * (201 - l.level)

abbrev pub decreases-pattern::list_end : goal.decreases-pattern::list_end
decreases-pattern::list_end l = 10 * (201 - l.level) + 6

abbrev pub decreases-pattern::patterns_before : goal.decreases-pattern::patterns_before
decreases-pattern::patterns_before l = 10 * (201 - l.level) + 6

abbrev pub decreases-pattern::patterns : goal.decreases-pattern::patterns
decreases-pattern::patterns l = 10 * (201 - l.level) + 5

abbrev pub invariant-pattern::patterns-loop-following : goal.invariant-pattern::patterns-loop-following
invariant-pattern::patterns-loop-following l =
    PartlyPatterns l.fn.in_match l.fn.level (map pattern_of l.parts.items) l.fn.input l.rest

abbrev pub decreases-pattern::patterns-loop-following : goal.decreases-pattern::patterns-loop-following
decreases-pattern::patterns-loop-following l = length l.rest

abbrev pub invariant-descent::strategies-loop-following : goal.invariant-descent::strategies-loop-following
invariant-descent::strategies-loop-following l =
    PartlyStrategies l.fn.level (map strategy_of l.parts.items) l.fn.input l.rest

abbrev pub decreases-descent::strategies-loop-following : goal.decreases-descent::strategies-loop-following
decreases-descent::strategies-loop-following l = length l.rest

abbrev pub invariant-let_in::definitions-definitions : goal.invariant-let_in::definitions-definitions
invariant-let_in::definitions-definitions l =
    PartlyDefinitions l.fn.level (map definition_of l.found.items) l.fn.input l.rest

abbrev pub decreases-let_in::definitions-definitions : goal.decreases-let_in::definitions-definitions
decreases-let_in::definitions-definitions l = length l.rest
