-- The headline does not rest on this file.
-- The environment that linked layers stand for.
use Rattle.std.specs.Prelude.{ℕ, ◌≤◌, ◌+◌, nat_lt, if◌then◌else◌, List, [], ◌∷◌, Option, Some, None}
use Rattle.core_lang.specs.declared.coordinate.Coordinate.{Coordinate}
use Rattle.core_lang.specs.Environment.{Environment, outermost, layer, definitions, Closures, no_closures, more_closures}
use Rattle.core_lang.specs.Program.{Strategy}
use Rattle.core_lang.specs.Views.{definitions_of, strategy_of}
use Rattle.core_eval.specs.declared.frame.Frame.{Frame}
use Rattle.core_eval.specs.declared.frame.Closure.{Closure}
use Rattle.core_eval.specs.declared.frame.Frame.TheOpen.{Frame-F, Closure-F, Outermost, Definitions, Layer}
use Rattle.core_eval.specs.declared.frame.Frame.TheFolds.{fold-Frame, fold-Closure}

-- a strategy with its environment
pub record Closed : Type 0 where
  pub strategy : Strategy Coordinate ℕ
  pub environment : Environment Coordinate ℕ

abbrev pub closures_in : List Closed → Closures Coordinate ℕ
closures_in [] = no_closures
closures_in (c ∷ cs) = more_closures c.strategy c.environment (closures_in cs)

abbrev pub frame_step : Frame-F (Environment Coordinate ℕ) Closed → Environment Coordinate ℕ
frame_step Outermost = outermost
frame_step (Definitions ds up) = definitions (definitions_of ds.now) up.now
frame_step (Layer base m k cs up) = layer base m k (closures_in cs.now) up.now

abbrev pub closure_step : Closure-F (Environment Coordinate ℕ) Closed → Closed
closure_step c = record { strategy = strategy_of c.strategy.now; environment = c.frame.now }

abbrev pub environment_of : Frame → Environment Coordinate ℕ
environment_of = fold-Frame (Environment Coordinate ℕ) Closed frame_step closure_step

abbrev pub closure_of : Closure → Closed
closure_of = fold-Closure (Environment Coordinate ℕ) Closed frame_step closure_step

-- the place of a variable of a layer that begins at a base and has this number of variables
abbrev pub variable_place : (base count slot : ℕ) → Option ℕ
variable_place base count slot = if nat_lt slot count then Some (base + slot) else None

-- no place, or one past this number of places
abbrev pub IsPast : Option ℕ → ℕ → Type 0
IsPast None n = Unit {0}
IsPast (Some i) n = n ≤ i
