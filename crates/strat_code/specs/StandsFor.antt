-- The headline does not rest on this file.
-- What it is for code to stand for a program.
use Rattle.std.specs.Prelude.{ℕ, None, List}
use Rattle.core_lang.specs.Program.{call, no_strategies, no_patterns}
use Rattle.core_lang.specs.Resolved.{ResolvedDefinitions, here}
use Rattle.strat_code.specs.Code.{Entry, Code, At, finish}
use Rattle.strat_code.specs.Context.{top, defining, Specialization}
use Rattle.strat_code.specs.Ranges.{Ranges, Bodies, Specializations}

-- the code stands for the program whose main is the ith definition: it begins with the call of main and the end of the
-- run, and each definition has an entry
pub record StandsFor (code : Code) (P : ResolvedDefinitions) (i : ℕ) : Type 0 where
  pub entries : List Entry
  pub specializations : List Specialization
  pub bodies : Bodies code specializations (defining P entries top) P entries
  pub specialization_bodies : Specializations code specializations specializations
  pub begins : Ranges code specializations None (defining P entries top) 0 0 (call (here i) no_strategies no_patterns) 1
  pub ends : At code 1 finish
