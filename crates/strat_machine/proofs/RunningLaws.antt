-- A run of the Rust machine, from its start on.
use Rattle.std.proofs.Common.{◌≡◌, ◌⊎◌, inl, inr, ℕ, suc, ◌+◌, ◌*◌, ◌≤◌, ◌<◌, List, length, refl, sym, ◌∙◌, subst, arith}
use Rattle.std.proofs.lemmas.Bool.{cases_order}
use Rattle.std.specs.declared.vec.Vec.{Vec}
use Rattle.std.specs.declared.alloc.Global.{Global}
use Rattle.term_model.specs.Flat.{Meaning}
use Rattle.term_model.specs.PrimNames.{NameKey}
use Rattle.term_model.specs.Term.{Tree}
use Rattle.core_lang.specs.declared.run.Outcome.{Outcome}
use Rattle.core_lang.specs.declared.run.Outcome.TheVariants as outcomes
use Rattle.strat_code.specs.Code.{Code}
use Rattle.strat_code.specs.CodeOf.{IsCode, code_of}
use Rattle.strat_code.specs.declared.instr.Case.{Case}
use Rattle.strat_code.specs.declared.instr.Instr.{Instr}
use Rattle.term_model.specs.Space.{Space, KeepsNames, Stands}
use Rattle.strat_steps.specs.References.{ref_running, ref_rewritten, state_tree}
use Rattle.strat_steps.specs.ReferenceSteps.{StepsRef, no_step_ref}
use Rattle.strat_steps.specs.Outcomes.{end_ref}
use Rattle.strat_steps.specs.Run.{start_ref}
use Rattle.strat_machine.specs.Running.{IsClear, GoesOn, HasEnded, IsOutcomeAt, UnderWay}
use Rattle.strat_steps.specs.Marks.{Holds, Lasts}
use Rattle.strat_steps.specs.Step.{IsGoing}
use Rattle.strat_machine.specs.Opened.{AllOpened, StepOpened}
use Rattle.strat_machine.specs.Stacks.{state_of}
use Rattle.strat_machine.specs.Actions.{IsLoadedProgram}
use Rattle.strat_machine.specs.declared.program.LoadedInstr.{LoadedInstr}
use Rattle.strat_machine.specs.declared.program.LoadedProgram.{LoadedProgram}
use Rattle.strat_machine.proofs.ActionLaws.{steps_out}
use Rattle.term_model.proofs.SpaceLaws.{names_then}
use Rattle.strat_steps.specs.Counted.{StateCounted}
use Rattle.strat_machine.specs.declared.stacks.Stacks.{Stacks}
use Rattle.strat_machine.specs.declared.stacks.Position.{Position}
use Rattle.strat_machine.specs.declared.stacks.Next.{Next}
use Rattle.strat_machine.specs.declared.stacks.Next.TheVariants as nexts
use Rattle.strat_steps.proofs.CountedLaws.{steps_keep, steps_then}
use Rattle.strat_steps.proofs.EndLaws.{holds_at_start, ended_in_time, rewritten_says, stopped_says}
use Rattle.strat_steps.proofs.ReferencesLast.{steps_last}

-- clear stacks are where a run begins
pub started : {W R Y N : Type 0} (S : Space W R Y N) (code : Code) (M : Meaning) (w : W) (t : R) (budget : ℕ)
    (m : Stacks R Y) → IsClear m →
    UnderWay S code M w t budget 0 w nexts.Running (record { address = 0; frame = 0; term = t })
    (record m { left = budget })
started S code M w t budget m h =
    let same : state_of nexts.Running (record { address = 0; frame = 0; term = t }) (record m { left = budget }) ≡
    start_ref t budget = λ i. ref_running 0 0 t (h.places i).slots (h.frames i)
    (h.places i).trail (h.places i).barrier (h.records i) budget in
    record {
      steps = subst (λ s. StepsRef S code M 0 w (start_ref t budget) w s) (sym same) no_step_ref;
      opened = subst (AllOpened S w) (sym h.records) tt;
      names =
          record { known = λ n x. x; symbols = λ n x. refl };
    }

going_state : {R Y : Type 0} (f : R → Tree) (next : Next) (p : Position R) (m : Stacks R Y) → GoesOn next →
    IsGoing (state_tree f (state_of next p m))
going_state f nexts.Running p m h = tt
going_state f nexts.Failing p m h = tt
going_state f _ p m h = absurd h

lasts_stands : {W R Y N : Type 0} (S : Space W R Y N) (r : R) (w : W) (next : Next) (p : Position R) (m : Stacks R Y) →
    Lasts S r w (state_of next p m) → Stands S w r
lasts_stands S r w nexts.Running p m h = h.0
lasts_stands S r w nexts.Failing p m h = h.0
lasts_stands S r w nexts.Rewritten p m h = h
lasts_stands S r w nexts.Failed p m h = h
lasts_stands S r w nexts.Oversize p m h = h
lasts_stands S r w nexts.Spent p m h = h
lasts_stands S r w nexts.Stuck p m h = h

-- neither going on nor failing
pub goes_on_not : (next : Next) → (next ≡ nexts.Running → ⊥) → (next ≡ nexts.Failing → ⊥) → GoesOn next → ⊥
goes_on_not nexts.Running running failing h = running refl
goes_on_not nexts.Failing running failing h = failing refl
goes_on_not _ running failing h = absurd h

-- a run has come to a position
module _ {W R Y N : Type 0} {S : Space W R Y N} {code : Code} {M : Meaning} {w w1 : W} {t : R} {budget k : ℕ}
    {next : Next} {p : Position R} {m : Stacks R Y} where
  pub way_at : {after : Next} → next ≡ after → UnderWay S code M w t budget k w1 next p m →
      UnderWay S code M w t budget k w1 after p m
  way_at is u = subst (λ n. UnderWay S code M w t budget k w1 n p m) is u

  pub way_holds : UnderWay S code M w t budget k w1 next p m → Stands S w t → Holds S w1 (state_of next p m)
  way_holds u st = (steps_keep u.steps (holds_at_start S w t budget st) tt).0

  pub way_counted : UnderWay S code M w t budget k w1 next p m → Stands S w t →
      StateCounted (state_tree (S.term_of w1) (state_of next p m))
  way_counted u st = (steps_keep u.steps (holds_at_start S w t budget st) tt).1

  pub way_lasts : UnderWay S code M w t budget k w1 next p m → (r : R) → Stands S w r → Lasts S r w1 (state_of next p m)
  way_lasts u r st = (steps_last r u.steps (st, tt)).1

  pub way_terms : UnderWay S code M w t budget k w1 next p m → (r : R) → Stands S w r → S.term_of w1 r ≡ S.term_of w r
  way_terms u r st = (steps_last r u.steps (st, tt)).0

  pub way_kept : UnderWay S code M w t budget k w1 next p m → (r : R) → Stands S w r → Stands S w1 r ×
      (S.term_of w1 r ≡ S.term_of w r)
  way_kept u r st = (lasts_stands S r w1 next p m (way_lasts u r st), way_terms u r st)

  -- after one step more, which may have met a refused growth
  pub kept_on : UnderWay S code M w t budget k w1 next p m → {w2 : W} →
      ((r : R) → Lasts S r w1 (state_of next p m) → Stands S w2 r × (S.term_of w2 r ≡ S.term_of w1 r)) → (r : R) →
      Stands S w r →
      Stands S w2 r × (S.term_of w2 r ≡ S.term_of w r)
  kept_on u lasting r st = let l = lasting r (way_lasts u r st) in (l.0, l.1 ∙ way_terms u r st)

  pub way_on : UnderWay S code M w t budget k w1 next p m → Stands S w t → {w2 : W} {after : Next} {q : Position R}
      {m2 : Stacks R Y} → StepOpened S code M w1 (state_of next p m) w2 (state_of after q m2) → KeepsNames S w1 w2 →
      UnderWay S code M w t budget (k + 1) w2 after q m2
  way_on u st {w2} {after} {q} {m2} x names =
      let one : suc k ≡ k + 1 = omega arith in
      record {
        steps = subst (λ n. StepsRef S code M n w (start_ref t budget) w2 (state_of after q m2))
            one (steps_then u.steps x.step);
        opened = x.opened (way_holds u st) u.opened;
        names = names_then u.names names;
      }

  -- the code stands for some program
  module _ {prims : List NameKey} (is : IsCode code prims) (st : Stands S w t) where
    pub in_time : UnderWay S code M w t budget k w1 next p m → GoesOn next → k < 3 * budget + 1
    in_time u going = ended_in_time is.program is.main is.stands st u.steps (going_state (S.term_of w1) next p m going)

-- a run has come to its end
module _ {W R Y N : Type 0} {S : Space W R Y N} {code : Code} {M : Meaning} {w w1 : W} {t : R} {budget k : ℕ}
    {prims : List NameKey} (is : IsCode code prims) (st : Stands S w t) (m : Stacks R Y) where
  never_stuck : (p : Position R) → StepsRef S code M k w (start_ref t budget) w1 (state_of nexts.Stuck p m) → ⊥
  never_stuck p x = stopped_says is.program is.main is.stands st x

  pub has_ended : (next : Next) (p : Position R) → StepsRef S code M k w (start_ref t budget) w1 (state_of next p m) →
      (GoesOn next → ⊥) → HasEnded next
  has_ended nexts.Running p x none = none tt
  has_ended nexts.Failing p x none = none tt
  has_ended nexts.Rewritten p x none = tt
  has_ended nexts.Failed p x none = tt
  has_ended nexts.Oversize p x none = tt
  has_ended nexts.Spent p x none = tt
  has_ended nexts.Stuck p x none = never_stuck p x

  -- the run has ended with this outcome
  pub ended_with : (next : Next) (p : Position R) (o : Outcome R) → IsOutcomeAt next p o →
      StepsRef S code M k w (start_ref t budget) w1 (state_of next p m) →
      StepsRef S code M k w (start_ref t budget) w1 (end_ref o m.left)
  ended_with next p (outcomes.Rewritten u) h x =
      subst (λ v. StepsRef S code M k w (start_ref t budget) w1 (ref_rewritten v m.left))
      h.1 (subst (λ n. StepsRef S code M k w (start_ref t budget) w1 (state_of n p m)) h.0 x)
  ended_with next p outcomes.Failed h x =
      subst (λ n. StepsRef S code M k w (start_ref t budget) w1 (state_of n p m)) h x
  ended_with next p outcomes.Oversize h x =
      subst (λ n. StepsRef S code M k w (start_ref t budget) w1 (state_of n p m)) h x
  ended_with next p outcomes.Spent h x = subst (λ n. StepsRef S code M k w (start_ref t budget) w1 (state_of n p m)) h x

  left_low : (o : Outcome R) → StepsRef S code M k w (start_ref t budget) w1 (end_ref o m.left) →
      (o ≡ outcomes.Spent → ⊥) → m.left ≤ budget
  left_low (outcomes.Rewritten u) x other = let h = (rewritten_says is.program is.main is.stands st x).1.paid in
      omega arith
  left_low outcomes.Failed x other = let h = (stopped_says is.program is.main is.stands st x).paid in omega arith
  left_low outcomes.Oversize x other = let h = (stopped_says is.program is.main is.stands st x).paid in omega arith
  left_low outcomes.Spent x other = absurd (other refl)

  pub left_within : (next : Next) (p : Position R) (o : Outcome R) → IsOutcomeAt next p o →
      StepsRef S code M k w (start_ref t budget) w1 (state_of next p m) → (o ≡ outcomes.Spent → ⊥) → m.left ≤ budget
  left_within next p o at x = left_low o (ended_with next p o at x)

-- a run that goes on is at an address of the code
module _ {W R Y N : Type 0} {S : Space W R Y N} {M : Meaning} {w w1 : W} {t : R} {budget k : ℕ}
    {prims keys : List NameKey} {l : LoadedProgram N} {ts : List (Vec Case Global)} {vs : List Instr}
    (is : IsCode (code_of ts vs) prims) (st : Stands S w t)
    (loaded : IsLoadedProgram (S.knows w1) (S.symbol_of w1) keys S.number_of l ts vs) where
  pub in_code : (p : Position R) (m : Stacks R Y) (xs : List (LoadedInstr N)) → xs ≡ l.instrs.items →
      UnderWay S (code_of ts vs) M w t budget k w1 nexts.Running p m → p.address < length xs
  in_code p m xs same u = within (cases_order p.address (length xs))
    where
      past : length xs ≤ p.address → ⊥
      past h = never_stuck is st m p (steps_then u.steps (steps_out S M loaded p m xs same h))

      within : (p.address ≡ length xs) ⊎ ((p.address < length xs) ⊎ (length xs < p.address)) → p.address < length xs
      within (inl end) = absurd (past (omega arith))
      within (inr (inl inside)) = inside
      within (inr (inr beyond)) = absurd (past (omega arith))
