-- The trees of a list are as many as its elements.
use Rattle.std.proofs.Common.{◌≡◌, List, [], ◌∷◌, length, suc, refl, ap}
use Rattle.str_syntax.specs.declared.strategy.Pattern.{Pattern}
use Rattle.str_syntax.specs.declared.strategy.Strategy.{Strategy}
use Rattle.str_syntax.specs.Views.{patterns_of, strategies_of}
use Rattle.str_syntax.specs.Arity.{number_of_patterns, number_of_strategies}
use Rattle.str_syntax.proofs.ReadLaws.{reads_no_arguments, reads_strategy_arguments, reads_all_arguments}

pub patterns_counted : (ps : List Pattern) → number_of_patterns (patterns_of ps) ≡ length ps
patterns_counted [] = refl
patterns_counted (p ∷ ps) = ap suc (patterns_counted ps)

pub strategies_counted : (ss : List Strategy) → number_of_strategies (strategies_of ss) ≡ length ss
strategies_counted [] = refl
strategies_counted (s ∷ ss) = ap suc (strategies_counted ss)

pub ruleset counted = (
  patterns_counted,
  strategies_counted,
  reads_no_arguments,
  reads_strategy_arguments,
  reads_all_arguments,
)
