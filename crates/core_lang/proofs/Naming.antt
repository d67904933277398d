-- Names for a program over coordinates: each variable, parameter and definition has one of its own, by a number.
use Rattle.std.specs.Prelude.{ℕ, zero, suc, ◌+◌, List, [], ◌∷◌}
use Rattle.core_lang.specs.Named.{NamedStrategy, NamedStrategies, NamedDefinitions, Name}
use Rattle.core_lang.specs.Resolved.{ResolvedStrategy, ResolvedStrategies, ResolvedDefinitions}
use Rattle.core_lang.specs.declared.coordinate.Coordinate.{Coordinate}
use Rattle.core_lang.specs.Program.{Pattern, anything, variable, alias, integer, applied, list, like, annotated, Patterns, no_patterns, more_patterns, Elements, no_elements, the_rest, more_elements, id, fail, seq, choice, match, build, scope, all, one, some, with_definitions, call, primitive, no_strategies, more_strategies, no_definitions, more_definitions}
use Rattle.core_lang.specs.Resolution.{Scopes, nowhere, names, defined}
use Rattle.core_lang.specs.InRange.{Layers, no_layers, layer_of, layer_of_definitions, outside}

abbrev pub definitions_count : ResolvedDefinitions → ℕ
definitions_count no_definitions = 0
definitions_count (more_definitions y m k s ds) = suc (definitions_count ds)

-- the first number that no name of these layers has
abbrev pub free : Layers → ℕ
free no_layers = 0
free (layer_of m k L) = m + k + free L
free (layer_of_definitions ds L) = definitions_count ds + free L

-- the name that has a number
module _ (named : ℕ → Name) where
  -- the names of k numbers, from b on
  abbrev pub names_from : ℕ → ℕ → List Name
  names_from b zero = []
  names_from b (suc k) = named b ∷ names_from (suc b) k

  -- the name of what is at a place: the numbers of a layer begin where those of the layers outside it end
  abbrev pub name_of : Layers → Coordinate → Name
  name_of L y = named (free (outside L (suc y.layers_up)) + y.slot)

  abbrev mutual
    pub pattern_named : Layers → Pattern Coordinate → Pattern Name
    pattern_named L anything = anything
    pattern_named L (variable y) = variable (name_of L y)
    pattern_named L (alias y p) = alias (name_of L y) (pattern_named L p)
    pattern_named L (integer z) = integer z
    pattern_named L (applied f ps) = applied f (patterns_named L ps)
    pattern_named L (list ps) = list (elements_named L ps)
    pattern_named L (like p y) = like (pattern_named L p) (name_of L y)
    pattern_named L (annotated p qs) = annotated (pattern_named L p) (patterns_named L qs)

    pub patterns_named : Layers → Patterns Coordinate → Patterns Name
    patterns_named L no_patterns = no_patterns
    patterns_named L (more_patterns p ps) = more_patterns (pattern_named L p) (patterns_named L ps)

    pub elements_named : Layers → Elements Coordinate → Elements Name
    elements_named L no_elements = no_elements
    elements_named L (the_rest p) = the_rest (pattern_named L p)
    elements_named L (more_elements p ps) = more_elements (pattern_named L p) (elements_named L ps)

  abbrev mutual
    pub strategy_named : Layers → ResolvedStrategy → NamedStrategy
    strategy_named L id = id
    strategy_named L fail = fail
    strategy_named L (seq s1 s2) = seq (strategy_named L s1) (strategy_named L s2)
    strategy_named L (choice s1 s2 s3) = choice (strategy_named L s1) (strategy_named L s2) (strategy_named L s3)
    strategy_named L (match p) = match (pattern_named L p)
    strategy_named L (build p) = build (pattern_named L p)
    strategy_named L (scope k s) = scope (names_from (free L) k) (strategy_named (layer_of 0 k L) s)
    strategy_named L (all s) = all (strategy_named L s)
    strategy_named L (one s) = one (strategy_named L s)
    strategy_named L (some s) = some (strategy_named L s)
    strategy_named L (with_definitions ds s) =
        with_definitions (definitions_named (layer_of_definitions ds L) (free L) ds)
        (strategy_named (layer_of_definitions ds L) s)
    strategy_named L (call y ss ps) = call (name_of L y) (strategies_named L ss) (patterns_named L ps)
    strategy_named L (primitive f ps) = primitive f (patterns_named L ps)

    pub strategies_named : Layers → ResolvedStrategies → NamedStrategies
    strategies_named L no_strategies = no_strategies
    strategies_named L (more_strategies s ss) = more_strategies (strategy_named L s) (strategies_named L ss)

    -- definitions in their layer, with names from a number on
    pub definitions_named : Layers → ℕ → ResolvedDefinitions → NamedDefinitions
    definitions_named L b no_definitions = no_definitions
    definitions_named L b (more_definitions y m k s ds) =
        more_definitions (named b) (names_from (free L) m) (names_from (free L) k) (strategy_named (layer_of m k L) s)
        (definitions_named L (suc b) ds)

  -- the same layers, with names
  abbrev pub scopes_named : Layers → Scopes
  scopes_named no_layers = nowhere
  scopes_named (layer_of m k L) = names (names_from (free L) m) (names_from (free L) k) (scopes_named L)
  scopes_named (layer_of_definitions ds L) =
      defined (definitions_named (layer_of_definitions ds L) (free L) ds) (scopes_named L)
