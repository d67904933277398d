-- The headline does not rest on this file.
-- What the instructions of a loaded program are of those of code.
use Rattle.std.specs.Prelude.{◌≡◌, ℕ, Bool, Some, List, length, map, slice_get, Vec}
use Rattle.std.specs.declared.alloc.Global.{Global}
use Rattle.term_model.specs.Symbol.{Symbol}
use Rattle.term_model.specs.PrimNames.{NameKey}
use Rattle.core_lang.specs.declared.program.CorePattern.{CorePattern}
use Rattle.core_lang.specs.Views.{pattern_of}
use Rattle.strat_code.specs.Code.{nodes_of}
use Rattle.strat_code.specs.CodeOf.{instr_of}
use Rattle.strat_code.specs.declared.instr.Argument.{Argument}
use Rattle.strat_code.specs.declared.instr.Case.{Case}
use Rattle.strat_code.specs.declared.instr.Instr.{Instr}
use Rattle.strat_code.specs.declared.instr.Instr.TheVariants as forms
use Rattle.strat_patterns.specs.Loaded.{IsLoaded, AreLoaded}
use Rattle.strat_machine.specs.Tables.{IsPosition, AreLoadedTables}
use Rattle.strat_machine.specs.declared.program.Action.{Action}
use Rattle.strat_machine.specs.declared.program.Action.TheVariants as actions
use Rattle.strat_machine.specs.declared.program.LoadedInstr.{LoadedInstr}
use Rattle.strat_machine.specs.declared.program.LoadedProgram.{LoadedProgram}

module _ {N : Type 0} (knows : N → Bool) (symbol_of : N → Symbol) (keys : List NameKey) where
  -- the action is that of the instruction: its patterns are loaded, and its primitive, of these, is looked up
  abbrev pub IsAction : Action N → Instr → Type 0
  IsAction actions.Count v = (n : ℕ) × (v ≡ forms.Count n)
  IsAction actions.GiveUp v = (n : ℕ) × (v ≡ forms.GiveUp n)
  IsAction (actions.Match p) v = (n : ℕ) × (q : CorePattern) × (v ≡ forms.Match n q) ×
      IsLoaded knows symbol_of p (pattern_of q)
  IsAction (actions.Build p) v = (n : ℕ) × (q : CorePattern) × (v ≡ forms.Build n q) ×
      IsLoaded knows symbol_of p (pattern_of q)
  IsAction (actions.Enter k) v = (n : ℕ) × (v ≡ forms.Enter n k)
  IsAction actions.Leave v = v ≡ forms.Leave
  IsAction (actions.Extend k) v = (n : ℕ) × (v ≡ forms.Extend n k)
  IsAction (actions.Shrink k) v = v ≡ forms.Shrink k
  IsAction (actions.Try a) v = (n : ℕ) × (v ≡ forms.Try n a)
  IsAction (actions.Commit a) v = (n : ℕ) × (v ≡ forms.Commit n a)
  IsAction (actions.Select j k a) v = (n : ℕ) × (v ≡ forms.Select n j k a)
  IsAction (actions.Jump a) v = v ≡ forms.Jump a
  IsAction (actions.Traverse kind a) v = (n : ℕ) × (v ≡ forms.Traverse n kind a)
  IsAction actions.PartDone v = v ≡ forms.PartDone
  IsAction (actions.CallDefinition c us ps) v =
      (n : ℕ) × (xs : Vec Argument Global) × (qs : Vec CorePattern Global) ×
      (v ≡ forms.CallDefinition n c.frames c.entry c.room c.next_address xs qs) × (us.items ≡ xs.items) ×
      AreLoaded knows symbol_of ps.items (map pattern_of qs.items)
  IsAction (actions.CallClosure y) v = (n : ℕ) × (v ≡ forms.CallClosure n y)
  IsAction actions.EndDefinition v = v ≡ forms.EndDefinition
  IsAction actions.EndArgument v = v ≡ forms.EndArgument
  IsAction (actions.ApplyPrimitive at ps) v =
      (n : ℕ) × (f : Vec ℕ Global) × (qs : Vec CorePattern Global) × (v ≡ forms.ApplyPrimitive n f qs) ×
      IsPosition keys at (f.items, length ps.items) × AreLoaded knows symbol_of ps.items (map pattern_of qs.items)
  IsAction actions.Finish v = v ≡ forms.Finish

  -- the instruction is loaded: it is charged the same nodes, whatever tables there are
  pub record IsLoadedInstr (x : LoadedInstr N) (v : Instr) : Type 0 where
    pub nodes : (ts : List (Vec Case Global)) → x.nodes ≡ nodes_of (instr_of ts v)
    pub action : IsAction x.action v

  -- each instruction is loaded, address by address
  pub record AreLoadedInstrs (xs : List (LoadedInstr N)) (vs : List Instr) : Type 0 where
    pub long : length xs ≡ length vs
    pub each : (i : ℕ) (x : LoadedInstr N) (v : Instr) → slice_get xs i ≡ Some x → slice_get vs i ≡ Some v →
        IsLoadedInstr x v

  pub record IsLoadedProgram (number_of : N →
      ℕ) (l : LoadedProgram N) (ts : List (Vec Case Global)) (vs : List Instr) : Type 0 where
    pub instrs : AreLoadedInstrs l.instrs.items vs
    pub tables : AreLoadedTables knows symbol_of number_of l.tables.items ts
