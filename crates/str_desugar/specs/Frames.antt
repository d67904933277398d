-- The headline does not rest on this file.
-- Layers as the code keeps them: of a layer of definitions only what a call asks for, and for each identifier one
-- coordinate.
use Rattle.std.specs.Prelude.{ℕ, Bool, suc, ◌&&◌, ◌==◌, Option, Some, None, List, [], ◌∷◌, length, if◌then◌else◌}
use Rattle.std.specs.Option.{option_map}
use Rattle.core_lang.specs.declared.coordinate.Coordinate.{Coordinate}
use Rattle.core_lang.specs.Named.{NamedStrategy, NamedStrategies, NamedDefinitions, Name, same_name, position_of, parameter_position}
use Rattle.core_lang.specs.Resolved.{ResolvedStrategy, ResolvedStrategies, ResolvedDefinitions, here}
use Rattle.core_lang.specs.Resolution.{Scopes, nowhere, names, defined, one_layer_up}
use Rattle.core_lang.specs.Program.{Pattern, anything, variable, alias, integer, applied, list, like, annotated, Patterns, no_patterns, more_patterns, Elements, no_elements, the_rest, more_elements, id, fail, seq, choice, match, build, scope, all, one, some, with_definitions, call, primitive, no_strategies, more_strategies, no_definitions, more_definitions, strategies_count, patterns_count}

-- the name of a definition, and how many strategy and term parameters it has
pub record NamedKey : Type 0 where
  pub name : Name
  pub strategies : ℕ
  pub terms : ℕ

-- the layers around a part of a program, innermost first
pub data Frames : Type 0 where
  outermost : Frames
  of_names : (parameters variables : List Name) → Frames → Frames
  of_definitions : List NamedKey → Frames → Frames

abbrev pub keys_of : NamedDefinitions → List NamedKey
keys_of no_definitions = []
keys_of (more_definitions f fs xs s ds) = record { name = f; strategies = length fs; terms = length xs } ∷ keys_of ds

-- a call with m strategies and k terms is of the definition with this key
abbrev pub is_called : Name → ℕ → ℕ → NamedKey → Bool
is_called f m k d = same_name f d.name && ((m == d.strategies) && (k == d.terms))

-- the position of the first key with this name and these numbers
abbrev pub key_position : List NamedKey → Name → ℕ → ℕ → Option ℕ
key_position [] f m k = None
key_position (d ∷ ds) f m k =
    if is_called f m k d then Some 0 else option_map (λ i. suc i) (key_position ds f m k)

abbrev pub frames_of : Scopes → Frames
frames_of nowhere = outermost
frames_of (names fs xs S) = of_names fs xs (frames_of S)
frames_of (defined ds S) = of_definitions (keys_of ds) (frames_of S)

-- here where there is a position, and else one layer further out
abbrev pub here_or_up : Option ℕ → Coordinate → Coordinate
here_or_up (Some i) y = here i
here_or_up None y = one_layer_up y

-- the coordinate of a variable, by the innermost layer that has it
abbrev pub variable_at : Frames → Name → Coordinate
variable_at outermost x = here 0
variable_at (of_names fs xs F) x = here_or_up (position_of x xs) (variable_at F x)
variable_at (of_definitions ds F) x = one_layer_up (variable_at F x)

-- the coordinate of what a call with m strategies and k terms is of
abbrev pub callee_at : Frames → Name → ℕ → ℕ → Coordinate
callee_at outermost f m k = here 0
callee_at (of_names fs xs F) f m k = here_or_up (parameter_position fs f m k) (callee_at F f m k)
callee_at (of_definitions ds F) f m k = here_or_up (key_position ds f m k) (callee_at F f m k)

-- the layers around the innermost one
abbrev pub around : Frames → Option Frames
around outermost = None
around (of_names fs xs F) = Some F
around (of_definitions ds F) = Some F

-- the slot of a variable in the innermost layer
abbrev pub variable_slot : Frames → Name → Option ℕ
variable_slot outermost x = None
variable_slot (of_names fs xs F) x = position_of x xs
variable_slot (of_definitions ds F) x = None

-- the slot in the innermost layer of what a call with m strategies and k terms is of
abbrev pub callee_slot : Frames → Name → ℕ → ℕ → Option ℕ
callee_slot outermost f m k = None
callee_slot (of_names fs xs F) f m k = parameter_position fs f m k
callee_slot (of_definitions ds F) f m k = key_position ds f m k

-- ---- each form over coordinates

abbrev mutual
  pub pattern_at : Frames → Pattern Name → Pattern Coordinate
  pattern_at F anything = anything
  pattern_at F (variable x) = variable (variable_at F x)
  pattern_at F (alias x p) = alias (variable_at F x) (pattern_at F p)
  pattern_at F (integer z) = integer z
  pattern_at F (applied f ps) = applied f (patterns_at F ps)
  pattern_at F (list ps) = list (elements_at F ps)
  pattern_at F (like p x) = like (pattern_at F p) (variable_at F x)
  pattern_at F (annotated p qs) = annotated (pattern_at F p) (patterns_at F qs)

  pub patterns_at : Frames → Patterns Name → Patterns Coordinate
  patterns_at F no_patterns = no_patterns
  patterns_at F (more_patterns p ps) = more_patterns (pattern_at F p) (patterns_at F ps)

  pub elements_at : Frames → Elements Name → Elements Coordinate
  elements_at F no_elements = no_elements
  elements_at F (the_rest p) = the_rest (pattern_at F p)
  elements_at F (more_elements p ps) = more_elements (pattern_at F p) (elements_at F ps)

abbrev mutual
  pub strategy_at : Frames → NamedStrategy → ResolvedStrategy
  strategy_at F id = id
  strategy_at F fail = fail
  strategy_at F (seq s1 s2) = seq (strategy_at F s1) (strategy_at F s2)
  strategy_at F (choice s1 s2 s3) = choice (strategy_at F s1) (strategy_at F s2) (strategy_at F s3)
  strategy_at F (match p) = match (pattern_at F p)
  strategy_at F (build p) = build (pattern_at F p)
  strategy_at F (scope xs s) = scope (length xs) (strategy_at (of_names [] xs F) s)
  strategy_at F (all s) = all (strategy_at F s)
  strategy_at F (one s) = one (strategy_at F s)
  strategy_at F (some s) = some (strategy_at F s)
  strategy_at F (with_definitions ds s) =
      with_definitions (definitions_at (of_definitions (keys_of ds) F) ds)
      (strategy_at (of_definitions (keys_of ds) F) s)
  strategy_at F (call f ss ps) =
      call (callee_at F f (strategies_count ss) (patterns_count ps)) (strategies_at F ss) (patterns_at F ps)
  strategy_at F (primitive f ps) = primitive f (patterns_at F ps)

  pub strategies_at : Frames → NamedStrategies → ResolvedStrategies
  strategies_at F no_strategies = no_strategies
  strategies_at F (more_strategies s ss) = more_strategies (strategy_at F s) (strategies_at F ss)

  pub definitions_at : Frames → NamedDefinitions → ResolvedDefinitions
  definitions_at F no_definitions = no_definitions
  definitions_at F (more_definitions f fs xs s ds) =
      more_definitions (here 0) (length fs) (length xs) (strategy_at (of_names fs xs F) s) (definitions_at F ds)
