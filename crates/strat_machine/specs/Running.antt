-- The headline does not rest on this file.
-- A run of the Rust machine: steps from its start to its end.
use Rattle.std.specs.Prelude.{◌≡◌, ℕ, ◌-◌, []}
use Rattle.term_model.specs.Flat.{Meaning}
use Rattle.core_lang.specs.declared.run.Outcome.{Outcome}
use Rattle.core_lang.specs.declared.run.Outcome.TheVariants as outcomes
use Rattle.strat_code.specs.Code.{Code}
use Rattle.strat_steps.specs.Run.{start_ref}
use Rattle.term_model.specs.Space.{Space, KeepsNames}
use Rattle.strat_steps.specs.ReferenceSteps.{StepsRef}
use Rattle.strat_machine.specs.Opened.{StateOpened}
use Rattle.strat_machine.specs.RecordStack.{records_of}
use Rattle.strat_machine.specs.Stacks.{state_of}
use Rattle.strat_machine.specs.declared.stacks.Stacks.{Stacks}
use Rattle.strat_machine.specs.declared.stacks.Position.{Position}
use Rattle.strat_machine.specs.declared.stacks.Next.{Next}
use Rattle.strat_machine.specs.declared.stacks.Next.TheVariants as nexts

-- nothing is on the stacks
pub record IsClear {R Y : Type 0} (m : Stacks R Y) : Type 0 where
  pub frames : m.frames ≡ []
  pub places : m.places ≡ record { slots = []; trail = []; barrier = 0 }
  pub records : records_of m.records ≡ []

-- the run has not ended
abbrev pub GoesOn : Next → Type 0
GoesOn nexts.Running = Unit {0}
GoesOn nexts.Failing = Unit {0}
GoesOn _ = ⊥

-- a run has ended with some outcome
abbrev pub HasEnded : Next → Type 0
HasEnded nexts.Rewritten = Unit {0}
HasEnded nexts.Failed = Unit {0}
HasEnded nexts.Oversize = Unit {0}
HasEnded nexts.Spent = Unit {0}
HasEnded _ = ⊥

-- a run has ended with this outcome
abbrev pub IsOutcomeAt : {R : Type 0} → Next → Position R → Outcome R → Type 0
IsOutcomeAt next p (outcomes.Rewritten t) = (next ≡ nexts.Rewritten) × (p.term ≡ t)
IsOutcomeAt next p outcomes.Failed = next ≡ nexts.Failed
IsOutcomeAt next p outcomes.Oversize = next ≡ nexts.Oversize
IsOutcomeAt next p outcomes.Spent = next ≡ nexts.Spent

-- the nodes of a run with this outcome that leaves so much of a budget; all of it, where it is spent
abbrev pub rules_of : {R : Type 0} → Outcome R → (budget left : ℕ) → ℕ
rules_of (outcomes.Rewritten t) b l = b - l
rules_of outcomes.Failed b l = b - l
rules_of outcomes.Oversize b l = b - l
rules_of outcomes.Spent b l = b

-- n steps have led from the start of a run to this, where each traversal has its first portion, and names are known as
-- at the start
pub record UnderWay {W R Y N : Type 0} (S : Space W R Y N) (code : Code) (M : Meaning) (w : W) (t : R) (budget k : ℕ)
    (w1 : W) (next : Next) (p : Position R) (m1 : Stacks R Y) : Type 0 where
  pub steps : StepsRef S code M k w (start_ref t budget) w1 (state_of next p m1)
  pub opened : StateOpened S w1 (state_of next p m1)
  pub names : KeepsNames S w w1

-- some steps have led from the start of a run to this
pub record HasReached {W R Y N : Type 0} (S : Space W R Y N) (code : Code) (M : Meaning) (w : W) (t : R) (budget : ℕ)
    (w1 : W) (next : Next) (p : Position R) (m1 : Stacks R Y) : Type 0 where
  pub taken : ℕ
  pub way : UnderWay S code M w t budget taken w1 next p m1
