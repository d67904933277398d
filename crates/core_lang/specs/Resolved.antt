-- The headline does not rest on this file.
-- The reading by coordinates: every identifier says how many layers up it is, and its position there.
use Rattle.std.specs.Prelude.{ℕ, zero, suc, ◌+◌, nat_lt, Option, Some, None, [], if◌then◌else◌}
use Rattle.term_model.specs.Term.{Tree}
use Rattle.term_model.specs.Flat.{Meaning}
use Rattle.core_lang.specs.Program.{Strategy, Strategies, Definitions, call, no_strategies, no_patterns}
use Rattle.core_lang.specs.Ending.{Ending}
use Rattle.core_lang.specs.Derivation.{Derives}
use Rattle.core_lang.specs.declared.coordinate.Coordinate.{Coordinate}
use Rattle.core_lang.specs.Environment.{Environment, Closures, outermost, layer, definitions, Callee, Reading, closure_at, definition_at}

-- parts of programs over coordinates: a binder is the number of what it binds
abbrev pub ResolvedStrategy : Type 0
ResolvedStrategy = Strategy Coordinate ℕ

abbrev pub ResolvedStrategies : Type 0
ResolvedStrategies = Strategies Coordinate ℕ

abbrev pub ResolvedDefinitions : Type 0
ResolvedDefinitions = Definitions Coordinate ℕ

abbrev pub ResolvedEnvironment : Type 0
ResolvedEnvironment = Environment Coordinate ℕ

abbrev pub ResolvedClosures : Type 0
ResolvedClosures = Closures Coordinate ℕ

abbrev pub ResolvedCallee : Type 0
ResolvedCallee = Callee Coordinate ℕ

-- a position in the innermost layer
abbrev pub here : ℕ → Coordinate
here i = record { layers_up = 0; slot = i }

-- the environment without this number of its innermost layers
abbrev pub layers_up : ResolvedEnvironment → ℕ → ResolvedEnvironment
layers_up V zero = V
layers_up outermost (suc i) = outermost
layers_up (layer base m k cs V) (suc i) = layers_up V i
layers_up (definitions ds V) (suc i) = layers_up V i

-- the place of the variable at a position of the innermost layer
abbrev pub place_in : ResolvedEnvironment → ℕ → Option ℕ
place_in outermost i = None
place_in (layer base m k cs V) i = if nat_lt i k then Some (base + i) else None
place_in (definitions ds V) i = None

-- what is called at a position of the innermost layer: a strategy parameter, or a definition
abbrev pub callee_in : ResolvedEnvironment → ℕ → Option ResolvedCallee
callee_in outermost i = None
callee_in (layer base m k cs V) i = closure_at cs i
callee_in (definitions ds V) i = definition_at ds (definitions ds V) i

-- the reading by coordinates
abbrev pub by_coordinates : Reading Coordinate ℕ
by_coordinates = record {
  count = λ k. k;
  none = 0;
  place_of = λ V y. place_in (layers_up V y.layers_up) y.slot;
  callee_of = λ V y m k. callee_in (layers_up V y.layers_up) y.slot;
}

-- the program C rewrites the term so, by n nodes: by the call of its ith definition without arguments, in the layer of
-- its definitions alone, without bindings
abbrev pub RewritesByCoordinates : Meaning → ResolvedDefinitions → ℕ → Tree → Ending Tree → ℕ → Type 0
RewritesByCoordinates M C i t o n =
    Derives by_coordinates M (definitions C outermost) (call (here i) no_strategies no_patterns) t [] o n
