-- The headline does not rest on this file.
-- Outcomes of runs over references into a space.
use Rattle.std.specs.Prelude.{ℕ}
use Rattle.term_model.specs.Flat.{Meaning}
use Rattle.term_model.specs.Term.{Tree}
use Rattle.core_lang.specs.declared.run.Outcome.{Outcome}
use Rattle.core_lang.specs.declared.run.Outcome.TheVariants.{Rewritten, Failed, Oversize, Spent}
use Rattle.core_lang.specs.declared.run.Run.{Run}
use Rattle.strat_code.specs.Code.{Code}
use Rattle.strat_steps.specs.State.{run_failed, run_oversize, run_spent}
use Rattle.strat_steps.specs.Run.{start_ref}
use Rattle.term_model.specs.Space.{Space, Keeps, MakesNone}
use Rattle.strat_steps.specs.References.{RefState, ref_rewritten, ref_stopped}
use Rattle.strat_steps.specs.ReferenceSteps.{StepsRef}

-- the same outcome, with the tree of its reference
abbrev pub outcome_tree : {R : Type 0} → (R → Tree) → Outcome R → Outcome Tree
outcome_tree f (Rewritten r) = Rewritten (f r)
outcome_tree f Failed = Failed
outcome_tree f Oversize = Oversize
outcome_tree f Spent = Spent

-- its reference, if it has one, stands
abbrev pub OutcomeStands : {R : Type 0} → (R → Type 0) → Outcome R → Type 0
OutcomeStands Stands (Rewritten r) = Stands r
OutcomeStands Stands Failed = Unit {0}
OutcomeStands Stands Oversize = Unit {0}
OutcomeStands Stands Spent = Unit {0}

-- the machine has ended with this outcome
abbrev pub end_ref : {R Y : Type 0} → Outcome R → (left : ℕ) → RefState R Y
end_ref (Rewritten r) l = ref_rewritten r l
end_ref Failed l = ref_stopped run_failed l
end_ref Oversize l = ref_stopped run_oversize l
end_ref Spent l = ref_stopped run_spent l

-- the names of the code are brought into the space, which makes no term, and from there the machine has come to this
-- outcome by as many steps as the run has
pub record Ran {W R Y N : Type 0} (S : Space W R Y N) (code : Code) (M : Meaning) (w : W) (t : R) (budget : ℕ) (w1 : W)
    (run : Run R) : Type 0 where
  pub loaded : W
  pub kept : Keeps S w loaded
  pub none : MakesNone S w loaded
  pub left : ℕ
  pub steps : StepsRef S code M run.steps loaded (start_ref t budget) w1 (end_ref run.outcome left)
