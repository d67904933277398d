-- The headline does not rest on this file.
-- What the memory of the Rust machine is seen as, over a space of terms.
use Rattle.std.specs.Prelude.{◌≡◌, ℕ, List, ◌∷◌, length}
use Rattle.term_model.specs.Flat.{Meaning}
use Rattle.strat_code.specs.Code.{Instr, Code}
use Rattle.strat_steps.specs.State as state
use Rattle.term_model.specs.Space.{Space, IsMark}
use Rattle.strat_steps.specs.References.{RefRecord, RefState, ref_choice, ref_running, ref_failing, ref_rewritten, ref_stopped}
use Rattle.strat_steps.specs.ReferenceSteps.{Does}
use Rattle.strat_steps.specs.Marks.{Safe}
use Rattle.strat_machine.specs.Opened.{StepOpened}
use Rattle.strat_machine.specs.RecordStack.{records_of, saved_of, with_record}
use Rattle.strat_patterns.specs.declared.building.Built.{Built}
use Rattle.strat_patterns.specs.declared.building.Built.TheVariants as built
use Rattle.strat_machine.specs.declared.records.Saved.{Saved}
use Rattle.strat_machine.specs.declared.records.Record.{Record}
use Rattle.strat_machine.specs.declared.stacks.Stacks.{Stacks}
use Rattle.strat_machine.specs.declared.stacks.Position.{Position}
use Rattle.strat_machine.specs.declared.stacks.Next.{Next}
use Rattle.strat_machine.specs.declared.stacks.Next.TheVariants as nexts

-- the machine at a position, with this to do next
abbrev pub state_of : {R Y : Type 0} → Next → Position R → Stacks R Y → RefState R Y
state_of nexts.Running p m = ref_running p.address p.frame p.term m.places.slots m.frames m.places.trail
    m.places.barrier (records_of m.records) m.left
state_of nexts.Failing p m = ref_failing m.places.slots m.frames m.places.trail m.places.barrier (records_of m.records)
    m.left
state_of nexts.Rewritten p m = ref_rewritten p.term m.left
state_of nexts.Failed p m = ref_stopped state.run_failed m.left
state_of nexts.Oversize p m = ref_stopped state.run_oversize m.left
state_of nexts.Spent p m = ref_stopped state.run_spent m.left
state_of nexts.Stuck p m = ref_stopped state.stuck m.left

-- performing the instruction at an address, which is paid for, in the frame and on the term of a position leads to this
abbrev pub Performs : {W R Y N : Type 0} → Space W R Y N → Meaning → Instr → (address : ℕ) → Position R → W →
    Stacks R Y → W → Next → Position R → Stacks R Y → Type 0
Performs S M v i p w m w1 next q m1 =
    Does S M w v i p.frame p.term m.places.slots m.frames m.places.trail m.places.barrier (records_of m.records)
    m.left w1 (state_of next q m1)

-- how a run goes on with what was built
abbrev pub next_with : {R : Type 0} → Built R → Next
next_with (built.Made r) = nexts.Running
next_with built.NoInstance = nexts.Failing
next_with built.Oversize = nexts.Oversize

abbrev pub position_with : {R : Type 0} → Position R → Built R → Position R
position_with p (built.Made r) = record p { term = r }
position_with p built.NoInstance = p
position_with p built.Oversize = p

-- what holds of the stacks with these records
abbrev pub IsSafe : {W R Y N : Type 0} → Space W R Y N → W → Stacks R Y → List (RefRecord R Y) → Type 0
IsSafe S w m K = Safe S w m.places.slots m.places.trail m.places.barrier K

-- the step after a failure, with these records, leads to this
abbrev pub FailsTo : {W R Y N : Type 0} → Space W R Y N → Code → Meaning → W → Stacks R Y → List (RefRecord R Y) → W →
    Next → Position R → Stacks R Y → Type 0
FailsTo S code M w m K w1 next p m1 =
    StepOpened S code M w (ref_failing m.places.slots m.frames m.places.trail m.places.barrier K m.left)
    w1 (state_of next p m1)

-- a part is tried on: the machine runs the code for it, with a record that has a new mark
pub record TriesPart {W R Y N : Type 0} (S : Space W R Y N) (w : W) (m : Stacks R Y) (record_of : Saved → Y →
    Record R Y) (body here : ℕ) (part : R) (p : Position R) (m1 : Stacks R Y) : Type 0 where
  pub saved : Saved
  pub mark : Y
  pub saves : saved_of saved ≡ state.saved here (length m.frames) (length m.places.trail) m.places.barrier
  pub marks : IsMark S w mark
  pub leads : state_of nexts.Running p m1 ≡
      ref_running body here part m.places.slots m.frames m.places.trail (length m.places.slots)
      (with_record (record_of saved mark) m.records) m.left

-- a choice record is put on, and the machine runs on, from whatever address
pub record PutsChoice {W R Y N : Type 0} (S : Space W R Y N) (w : W) (m : Stacks R Y) (otherwise : ℕ) (p : Position R)
    (m1 : Stacks R Y) : Type 0 where
  pub mark : Y
  pub marks : IsMark S w mark
  pub leads : (next : ℕ) → state_of nexts.Running (record p { address = next }) m1 ≡
      ref_running next p.frame p.term m.places.slots m.frames m.places.trail (length m.places.slots)
      (ref_choice otherwise p.term (state.saved p.frame (length m.frames) (length m.places.trail) m.places.barrier)
      mark ∷ records_of m.records) m.left
