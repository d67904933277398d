-- The parameters of a definition, and how many there are; how many arguments a call has.
use Rattle.std.specs.Prelude.{ℕ, suc, List, [], length}
use Rattle.str_syntax.specs.Trees.{Bytes, ParameterTree, absent, strategies_only, with_terms, PatternTrees, no_patterns, more_patterns, StrategyTrees, no_strategies, more_strategies, ArgumentTree, no_arguments, strategy_arguments, all_arguments}

abbrev pub strategy_names : ParameterTree → List Bytes
strategy_names absent = []
strategy_names (strategies_only fs) = fs
strategy_names (with_terms fs xs) = fs

abbrev pub term_names : ParameterTree → List Bytes
term_names absent = []
term_names (strategies_only fs) = []
term_names (with_terms fs xs) = xs

abbrev pub strategy_parameters : ParameterTree → ℕ
strategy_parameters ps = length (strategy_names ps)

abbrev pub term_parameters : ParameterTree → ℕ
term_parameters ps = length (term_names ps)

abbrev pub number_of_patterns : PatternTrees → ℕ
number_of_patterns no_patterns = 0
number_of_patterns (more_patterns p ps) = suc (number_of_patterns ps)

abbrev pub number_of_strategies : StrategyTrees → ℕ
number_of_strategies no_strategies = 0
number_of_strategies (more_strategies s ss) = suc (number_of_strategies ss)

abbrev pub given_strategies : ArgumentTree → ℕ
given_strategies no_arguments = 0
given_strategies (strategy_arguments ss) = number_of_strategies ss
given_strategies (all_arguments ss ps) = number_of_strategies ss

abbrev pub given_terms : ArgumentTree → ℕ
given_terms no_arguments = 0
given_terms (strategy_arguments ss) = 0
given_terms (all_arguments ss ps) = number_of_patterns ps
