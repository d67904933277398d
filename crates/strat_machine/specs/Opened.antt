-- The headline does not rest on this file.
-- A traversal begins with a first portion of the parts of its term.
use Rattle.std.specs.Prelude.{ℕ, suc, ◌+◌, ◌≤◌, min, List, [], ◌∷◌, length}
use Rattle.term_model.specs.Flat.{Meaning}
use Rattle.term_model.specs.Space.{Space}
use Rattle.term_model.specs.TermParts.{parts_of}
use Rattle.strat_code.specs.Code.{Code}
use Rattle.strat_steps.specs.Marks.{Holds}
use Rattle.strat_steps.specs.References.{RefRecord, ref_call, ref_choice, ref_all, ref_one, ref_some, RefState, ref_running, ref_failing, ref_rewritten, ref_stopped}
use Rattle.strat_steps.specs.ReferenceSteps.{StepRef}
use Rattle.strat_machine.specs.declared.portions.TheConstants.{FIRST_PORTION}

module _ {W R Y N : Type 0} (S : Space W R Y N) (w : W) where
  -- n parts of the term are a first portion or more: all parts, where they are fewer than such a portion may have
  abbrev pub HasOpened : R → ℕ → Type 0
  HasOpened t n = min FIRST_PORTION (length (parts_of (S.term_of w t))) ≤ n

  -- in a traversal, so many parts are done, tried, or left with a reference
  abbrev pub IsOpened : RefRecord R Y → Type 0
  IsOpened (ref_call a h) = Unit {0}
  IsOpened (ref_choice a t s m) = Unit {0}
  IsOpened (ref_all body next t done rest) = HasOpened t (length done + suc (length rest))
  IsOpened (ref_one body next t done u rest s m) = HasOpened t (length done + suc (length rest))
  IsOpened (ref_some body next t done u rest found s m) = HasOpened t (length done + suc (length rest))

  abbrev pub AllOpened : List (RefRecord R Y) → Type 0
  AllOpened [] = Unit {0}
  AllOpened (r ∷ K) = IsOpened r × AllOpened K

  abbrev pub StateOpened : RefState R Y → Type 0
  StateOpened (ref_running i p t e F T b K l) = AllOpened K
  StateOpened (ref_failing e F T b K l) = AllOpened K
  StateOpened (ref_rewritten t l) = Unit {0}
  StateOpened (ref_stopped r l) = Unit {0}

-- a step, after which each traversal has its first portion if each had it before
pub record StepOpened {W R Y N : Type 0} (S : Space W R Y N) (code : Code) (M : Meaning) (w : W) (m : RefState R Y)
    (w1 : W) (m1 : RefState R Y) : Type 0 where
  pub step : StepRef S code M w m w1 m1
  pub opened : Holds S w m → StateOpened S w m → StateOpened S w1 m1
