-- The headline does not rest on this file.
-- What it is for a program over coordinates to be in range: each coordinate leads to what is wanted of it.
use Rattle.std.specs.Prelude.{◌≡◌, ℕ, zero, suc, ◌<◌}
use Rattle.core_lang.specs.Resolved.{ResolvedStrategy, ResolvedStrategies, ResolvedDefinitions}
use Rattle.core_lang.specs.declared.coordinate.Coordinate.{Coordinate}
use Rattle.core_lang.specs.Program.{Pattern, anything, variable, alias, integer, applied, list, like, annotated, Patterns, no_patterns, more_patterns, Elements, no_elements, the_rest, more_elements, id, fail, seq, choice, match, build, scope, all, one, some, with_definitions, call, primitive, no_strategies, more_strategies, no_definitions, more_definitions, strategies_count, patterns_count}

-- the layers that a part of a program over coordinates stands in, innermost first
pub data Layers : Type 0 where
  no_layers : Layers
  -- of a scope or a definition: the numbers of its strategy parameters and of its variables
  layer_of : (parameters variables : ℕ) → Layers → Layers
  layer_of_definitions : ResolvedDefinitions → Layers → Layers

-- the layers without this number of the innermost ones
abbrev pub outside : Layers → ℕ → Layers
outside L zero = L
outside no_layers (suc i) = no_layers
outside (layer_of m k L) (suc i) = outside L i
outside (layer_of_definitions ds L) (suc i) = outside L i

-- the innermost layer has a variable at this position
abbrev pub IsVariable : Layers → ℕ → Type 0
IsVariable no_layers i = ⊥
IsVariable (layer_of m k L) i = i < k
IsVariable (layer_of_definitions ds L) i = ⊥

-- there is a definition at this position, with m strategy parameters and k term parameters
abbrev pub IsDefinition : ResolvedDefinitions → ℕ → ℕ → ℕ → Type 0
IsDefinition no_definitions i m k = ⊥
IsDefinition (more_definitions y m' k' s ds) zero m k = (m ≡ m') × (k ≡ k')
IsDefinition (more_definitions y m' k' s ds) (suc i) m k = IsDefinition ds i m k

-- the innermost layer has at this position what can be called with m strategies and k terms: a definition with as many
-- parameters, or a strategy parameter, which is called without arguments
abbrev pub IsCallee : Layers → ℕ → ℕ → ℕ → Type 0
IsCallee no_layers i m k = ⊥
IsCallee (layer_of m' k' L) i m k = (i < m') × (m ≡ 0) × (k ≡ 0)
IsCallee (layer_of_definitions ds L) i m k = IsDefinition ds i m k

-- a coordinate that leads to a variable
abbrev pub VariableInRange : Layers → Coordinate → Type 0
VariableInRange L y = IsVariable (outside L y.layers_up) y.slot

abbrev mutual
  pub PatternInRange : Layers → Pattern Coordinate → Type 0
  PatternInRange L anything = Unit {0}
  PatternInRange L (variable y) = VariableInRange L y
  PatternInRange L (alias y p) = VariableInRange L y × PatternInRange L p
  PatternInRange L (integer z) = Unit {0}
  PatternInRange L (applied f ps) = PatternsInRange L ps
  PatternInRange L (list ps) = ElementsInRange L ps
  PatternInRange L (like p y) = PatternInRange L p × VariableInRange L y
  PatternInRange L (annotated p qs) = PatternInRange L p × PatternsInRange L qs

  pub PatternsInRange : Layers → Patterns Coordinate → Type 0
  PatternsInRange L no_patterns = Unit {0}
  PatternsInRange L (more_patterns p ps) = PatternInRange L p × PatternsInRange L ps

  pub ElementsInRange : Layers → Elements Coordinate → Type 0
  ElementsInRange L no_elements = Unit {0}
  ElementsInRange L (the_rest p) = PatternInRange L p
  ElementsInRange L (more_elements p ps) = PatternInRange L p × ElementsInRange L ps

abbrev mutual
  pub StrategyInRange : Layers → ResolvedStrategy → Type 0
  StrategyInRange L id = Unit {0}
  StrategyInRange L fail = Unit {0}
  StrategyInRange L (seq s1 s2) = StrategyInRange L s1 × StrategyInRange L s2
  StrategyInRange L (choice s1 s2 s3) = StrategyInRange L s1 × StrategyInRange L s2 × StrategyInRange L s3
  StrategyInRange L (match p) = PatternInRange L p
  StrategyInRange L (build p) = PatternInRange L p
  StrategyInRange L (scope k s) = StrategyInRange (layer_of 0 k L) s
  StrategyInRange L (all s) = StrategyInRange L s
  StrategyInRange L (one s) = StrategyInRange L s
  StrategyInRange L (some s) = StrategyInRange L s
  StrategyInRange L (with_definitions ds s) = DefinitionsInRange (layer_of_definitions ds L) ds ×
      StrategyInRange (layer_of_definitions ds L) s
  StrategyInRange L (call y ss ps) =
      IsCallee (outside L y.layers_up) y.slot (strategies_count ss) (patterns_count ps) × StrategiesInRange L ss ×
      PatternsInRange L ps
  StrategyInRange L (primitive f ps) = PatternsInRange L ps

  pub StrategiesInRange : Layers → ResolvedStrategies → Type 0
  StrategiesInRange L no_strategies = Unit {0}
  StrategiesInRange L (more_strategies s ss) = StrategyInRange L s × StrategiesInRange L ss

  -- each body in the layers and one of its parameters
  pub DefinitionsInRange : Layers → ResolvedDefinitions → Type 0
  DefinitionsInRange L no_definitions = Unit {0}
  DefinitionsInRange L (more_definitions y m k s ds) = StrategyInRange (layer_of m k L) s × DefinitionsInRange L ds

-- a program whose main is the ith definition: each definition is in range, in the layer of them all, and main has no
-- parameters
pub record InRange (C : ResolvedDefinitions) (i : ℕ) : Type 0 where
  pub each : DefinitionsInRange (layer_of_definitions C no_layers) C
  pub main : IsDefinition C i 0 0
