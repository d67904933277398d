-- Programs over names: what a definition file means.
use Rattle.std.specs.Prelude.{ℕ, suc, ◌+◌, ◌==◌, ◌&&◌, Bool, false, Option, Some, None, List, [], ◌∷◌, length, if◌then◌else◌}
use Rattle.std.specs.Option.{option_or, option_map, option_and_then}
use Rattle.std.specs.Str.{bytes_eq}
use Rattle.term_model.specs.Term.{Tree}
use Rattle.core_lang.specs.Program.{Strategy, Strategies, call, no_strategies, no_patterns, Definitions, no_definitions, more_definitions}
use Rattle.core_lang.specs.Environment.{Environment, Closures, outermost, layer, definitions, Callee, Reading, closure_at, definition_at}
use Rattle.term_model.specs.Flat.{Meaning}
use Rattle.core_lang.specs.Ending.{Ending}
use Rattle.core_lang.specs.Derivation.{Derives}

-- a name that a file spells, or one that the equations bring, which no file can spell
pub data Name : Type 0 where
  written : List ℕ → Name
  brought : ℕ → Name

-- parts of programs over names: a binder binds a list of names
abbrev pub NamedStrategy : Type 0
NamedStrategy = Strategy Name (List Name)

abbrev pub NamedStrategies : Type 0
NamedStrategies = Strategies Name (List Name)

abbrev pub NamedDefinitions : Type 0
NamedDefinitions = Definitions Name (List Name)

abbrev pub NamedEnvironment : Type 0
NamedEnvironment = Environment Name (List Name)

abbrev pub NamedClosures : Type 0
NamedClosures = Closures Name (List Name)

abbrev pub NamedCallee : Type 0
NamedCallee = Callee Name (List Name)

-- two names are the same
abbrev pub same_name : Name → Name → Bool
same_name (written xs) (written ys) = bytes_eq xs ys
same_name (brought i) (brought j) = i == j
same_name (written xs) (brought j) = false
same_name (brought i) (written ys) = false

-- the position of a name in a list, the first that has it
abbrev pub position_of : Name → List Name → Option ℕ
position_of x [] = None
position_of x (y ∷ ys) = if same_name x y then Some 0 else option_map (λ i. suc i) (position_of x ys)

-- a call with m strategies and k terms is of a strategy parameter only where it has no arguments
abbrev pub parameter_position : List Name → Name → ℕ → ℕ → Option ℕ
parameter_position fs f m k = if (m == 0) && (k == 0) then position_of f fs else None

-- a call is of the first definition with its name, m strategy parameters and k term parameters
abbrev pub definition_position : NamedDefinitions → Name → ℕ → ℕ → Option ℕ
definition_position no_definitions f m k = None
definition_position (more_definitions g fs xs s ds) f m k =
    if same_name f g && ((m == length fs) && (k == length xs)) then Some 0
    else option_map (λ i. suc i) (definition_position ds f m k)

-- the place of a variable, by the innermost layer that has it
abbrev pub place_named : NamedEnvironment → Name → Option ℕ
place_named outermost x = None
place_named (layer base fs xs cs V) x = option_or (option_map (λ i. base + i) (position_of x xs)) (place_named V x)
place_named (definitions ds V) x = place_named V x

-- what a call is of, by the innermost layer that has it; a definition with the environment from its own layer on
abbrev pub callee_named : NamedEnvironment → Name → ℕ → ℕ → Option NamedCallee
callee_named outermost f m k = None
callee_named (layer base fs xs cs V) f m k =
    option_or (option_and_then (closure_at cs) (parameter_position fs f m k)) (callee_named V f m k)
callee_named (definitions ds V) f m k =
    option_or (option_and_then (definition_at ds (definitions ds V)) (definition_position ds f m k))
    (callee_named V f m k)

-- the reading by names
abbrev pub by_names : Reading Name (List Name)
by_names = record { count = length; none = []; place_of = place_named; callee_of = callee_named }

-- the program P rewrites the term so, by n nodes: by the call of its main without arguments, in the layer of its
-- definitions alone, without bindings
abbrev pub Rewrites : Meaning → NamedDefinitions → Name → Tree → Ending Tree → ℕ → Type 0
Rewrites M P main t o n = Derives by_names M (definitions P outermost) (call main no_strategies no_patterns) t [] o n
