-- The headline does not rest on this file.
-- Where alternatives begin with matches.
use Rattle.std.specs.Prelude.{◌≡◌, ℕ, ◌<◌, ◌≤◌, List, Some, slice_get}
use Rattle.core_lang.specs.declared.program.CorePattern.{CorePattern}
use Rattle.strat_code.specs.declared.instr.Instr.{Instr}
use Rattle.strat_code.specs.declared.instr.Instr.TheVariants as forms

-- at an address from one up to another there is a match
pub record IsMatchWithin (instrs : List Instr) (start after address : ℕ) : Type 0 where
  pub first : start ≤ address
  pub last : address < after
  pub nodes : ℕ
  pub pattern : CorePattern
  pub is : slice_get instrs address ≡ Some (forms.Match nodes pattern)
