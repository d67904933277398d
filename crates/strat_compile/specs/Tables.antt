-- The headline does not rest on this file.
-- Which tables instructions select from.
use Rattle.std.specs.Prelude.{◌≡◌, ◌<◌, ℕ, Bool, true, nat_lt, IsTrue, List, length, map, Vec}
use Rattle.std.specs.List.{list_all}
use Rattle.std.specs.declared.alloc.Global.{Global}
use Rattle.strat_code.specs.Code as model
use Rattle.strat_code.specs.CodeOf.{case_of, table_at}
use Rattle.strat_code.specs.declared.instr.Case.{Case}
use Rattle.strat_code.specs.declared.instr.Instr.{Instr}
use Rattle.strat_code.specs.declared.instr.Instr.TheVariants as forms

-- whether the table that the instruction selects from, if it does, is among the first n
abbrev pub has_table : (n : ℕ) → Instr → Bool
has_table n (forms.Count k) = true
has_table n (forms.GiveUp k) = true
has_table n (forms.Match k p) = true
has_table n (forms.Build k p) = true
has_table n (forms.Enter k m) = true
has_table n forms.Leave = true
has_table n (forms.Extend k m) = true
has_table n (forms.Shrink m) = true
has_table n (forms.Try k a) = true
has_table n (forms.Commit k a) = true
has_table n (forms.Select k j m a) = nat_lt j n
has_table n (forms.Jump a) = true
has_table n (forms.Traverse k m a) = true
has_table n forms.PartDone = true
has_table n (forms.CallDefinition k h a m to us ps) = true
has_table n (forms.CallClosure k y) = true
has_table n forms.EndDefinition = true
has_table n forms.EndArgument = true
has_table n (forms.ApplyPrimitive k f ps) = true
has_table n forms.Finish = true

-- the instruction selects from no table
abbrev pub SelectsNot : Instr → Type 0
SelectsNot v = IsTrue (has_table 0 v)

-- each table that the instructions select from is there
abbrev pub HaveTables : List (Vec Case Global) → List Instr → Type 0
HaveTables tables instrs = IsTrue (list_all (has_table (length tables)) instrs)

-- the table at a position has these cases
pub record IsTable (tables : List (Vec Case Global)) (j : ℕ) (cs : List model.Case) : Type 0 where
  pub there : j < length tables
  pub cases : map case_of (table_at tables j) ≡ cs
