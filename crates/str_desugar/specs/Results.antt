-- The headline does not rest on this file.
-- What the calls that make core strategies return, in a word.
use Rattle.std.specs.Prelude.{◌≡◌, ℕ, Result, IfOk, Box}
use Rattle.std.specs.declared.alloc.Global.{Global}
use Rattle.core_lang.specs.Program.{Strategy}
use Rattle.core_lang.specs.declared.coordinate.Coordinate.{Coordinate}
use Rattle.core_lang.specs.declared.program.CoreStrategy.{CoreStrategy}
use Rattle.core_lang.specs.Views as views

-- the call returns this strategy of the core, unless it fails
abbrev pub ReturnsCore : {E : Type 0} → Result (Box CoreStrategy Global) E → Strategy Coordinate ℕ → Type 0
ReturnsCore result strategy = IfOk result (λ made. views.strategy_of made.value ≡ strategy)
