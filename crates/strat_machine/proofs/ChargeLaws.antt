-- What the steps of a run take off the budget, and what instructions are charged for them.
use Rattle.std.proofs.Common.{◌≡◌, ℕ, ◌-◌, ◌≤◌, List, length, refl, sym, ◌∙◌, subst, arith}
use Rattle.std.specs.Prelude.{Bool, sum}
use Rattle.std.specs.declared.alloc.Global.{Global}
use Rattle.std.specs.declared.vec.Vec.{Vec}
use Rattle.term_model.specs.Flat.{Meaning}
use Rattle.term_model.specs.PrimNames.{NameKey}
use Rattle.term_model.specs.Space.{Space, Stands}
use Rattle.strat_code.specs.Code.{Case, Instr, Code}
use Rattle.strat_code.specs.CodeOf.{IsCode, code_of}
use Rattle.strat_code.specs.declared.instr.Case as coded
use Rattle.strat_code.specs.declared.instr.Instr as instr
use Rattle.strat_steps.specs.State.{Frame}
use Rattle.strat_steps.specs.References.{Places, RefRecord, RefState, ref_running, ref_failing, ref_rewritten, ref_stopped}
use Rattle.strat_steps.specs.ReferenceSteps.{Does, sticks, leaves_code, OnAll, OnOne, OnSome, Selecting, StepRef, all_goes_on, all_oversize, all_whole, answers, answers_none, answers_oversize, begins_all, begins_one, begins_some, builds, builds_none, builds_oversize, calls, calls_closure, calls_none, calls_oversize, cannot_pay, commits, counts, ends_argument, ends_definition, ends_definition_low, enters, extends, fails_all, fails_call, fails_choice, fails_one_last, fails_one_next, fails_some_last, fails_some_next, fails_some_none, fails_whole, finishes, gives_up_so, jumps, leaves, leaves_low, matches, matches_not, one_goes_on, one_none, part_of_all, part_of_one, part_of_one_oversize, part_of_some, performs, selects, selects_spent, selects_later, selects_none, selects_this, shrinks, shrinks_low, some_goes_on, some_none, some_oversize, some_whole, tries}
use Rattle.strat_machine.specs.Accounts.{Charges, IsCharged}
use Rattle.strat_machine.specs.Actions.{IsLoadedProgram}
use Rattle.strat_machine.specs.Running.{GoesOn, UnderWay}
use Rattle.strat_machine.specs.Stacks.{state_of}
use Rattle.strat_machine.specs.declared.program.LoadedProgram.{LoadedProgram}
use Rattle.strat_machine.specs.declared.stacks.Next.{Next}
use Rattle.strat_machine.specs.declared.stacks.Next.TheVariants as nexts
use Rattle.strat_machine.specs.declared.stacks.Position.{Position}
use Rattle.strat_machine.specs.declared.stacks.Stacks.{Stacks}
use Rattle.strat_machine.proofs.RunningLaws.{in_code}

-- what is left of the budget
abbrev left_in : {R Y : Type 0} → RefState R Y → ℕ
left_in (ref_running i p t e F T b K l) = l
left_in (ref_failing e F T b K l) = l
left_in (ref_rewritten t l) = l
left_in (ref_stopped r l) = l

left_of : {R Y : Type 0} (next : Next) (p : Position R) (m : Stacks R Y) → left_in (state_of next p m) ≡ m.left
left_of nexts.Running p m = refl
left_of nexts.Failing p m = refl
left_of nexts.Rewritten p m = refl
left_of nexts.Failed p m = refl
left_of nexts.Oversize p m = refl
left_of nexts.Spent p m = refl
left_of nexts.Stuck p m = refl

module _ {W R Y N : Type 0} {S : Space W R Y N} where
  selecting_pays : {w : W} {last p b : ℕ} {t : R} {e : Places R} {F : List Frame} {T : List ℕ}
      {K : List (RefRecord R Y)} {cs : List Case} {l : ℕ} {m1 : RefState R Y} →
      Selecting S w last p t e F T b K cs l m1 → left_in m1 ≤ l
  selecting_pays selects_none = omega arith
  selecting_pays (selects_this can mark) = omega arith
  selecting_pays (selects_later can pays x) = let more = selecting_pays x in omega arith
  selecting_pays (selects_spent can at_once) = omega arith

  all_pays : {w w1 : W} {body after p b l : ℕ} {t : R} {e : Places R} {F : List Frame} {T : List ℕ}
      {K : List (RefRecord R Y)} {done rest : List R} {m1 : RefState R Y} →
      OnAll S w body after p t e F T b K l done rest w1 m1 → left_in m1 ≤ l
  all_pays (all_goes_on is) = omega arith
  all_pays (all_whole none g su h) = omega arith
  all_pays (all_oversize none g h) = omega arith

  one_pays : {w : W} {body after p b l : ℕ} {t : R} {e : Places R} {F : List Frame} {T : List ℕ}
      {K : List (RefRecord R Y)} {done rest : List R} {m1 : RefState R Y} →
      OnOne S w body after p t e F T b K l done rest m1 → left_in m1 ≤ l
  one_pays (one_goes_on is mark) = omega arith
  one_pays (one_none none) = omega arith

  some_pays : {w w1 : W} {body after p b l : ℕ} {t : R} {e : Places R} {F : List Frame} {T : List ℕ}
      {K : List (RefRecord R Y)} {done rest : List R} {found : Bool} {m1 : RefState R Y} →
      OnSome S w body after p t e F T b K l done found rest w1 m1 → left_in m1 ≤ l
  some_pays (some_goes_on is mark) = omega arith
  some_pays (some_whole none g su h) = omega arith
  some_pays (some_oversize none g h) = omega arith
  some_pays (some_none none) = omega arith

  does_pays : {M : Meaning} {w w1 : W} {v : Instr} {i p b l : ℕ} {t : R} {e : Places R} {F : List Frame} {T : List ℕ}
      {K : List (RefRecord R Y)} {m1 : RefState R Y} → Does S M w v i p t e F T b K l w1 m1 → left_in m1 ≤ l
  does_pays counts = omega arith
  does_pays gives_up_so = omega arith
  does_pays jumps = omega arith
  does_pays enters = omega arith
  does_pays (leaves is low) = omega arith
  does_pays extends = omega arith
  does_pays (shrinks low) = omega arith
  does_pays calls_closure = omega arith
  does_pays ends_argument = omega arith
  does_pays (ends_definition is low) = omega arith
  does_pays (leaves_low is low) = omega arith
  does_pays (shrinks_low low) = omega arith
  does_pays (ends_definition_low is low) = omega arith
  does_pays finishes = omega arith
  does_pays (sticks h) = omega arith
  does_pays (matches g k x h) = omega arith
  does_pays (matches_not g k x h) = omega arith
  does_pays (builds g u h) = omega arith
  does_pays (builds_none g h) = omega arith
  does_pays (answers g u h) = omega arith
  does_pays (answers_none g h) = omega arith
  does_pays (calls rs g all is) = omega arith
  does_pays (calls_none g is) = omega arith
  does_pays (builds_oversize g h) = omega arith
  does_pays (answers_oversize g h) = omega arith
  does_pays (calls_oversize g is) = omega arith
  does_pays (tries mark) = omega arith
  does_pays commits = omega arith
  does_pays (selects x) = selecting_pays x
  does_pays (begins_all is all x) = all_pays x
  does_pays (begins_one is all x) = one_pays x
  does_pays (begins_some is all x) = some_pays x
  does_pays (part_of_all x) = all_pays x
  does_pays (part_of_some x) = some_pays x
  does_pays (part_of_one g sx is) = omega arith
  does_pays (part_of_one_oversize g is) = omega arith

  step_pays : {code : Code} {M : Meaning} {w w1 : W} {m m1 : RefState R Y} → StepRef S code M w m w1 m1 →
      left_in m1 ≤ left_in m
  step_pays (performs rest at cost x) = let less = does_pays x in omega arith
  step_pays (cannot_pay at cost) = omega arith
  step_pays (leaves_code none) = omega arith
  step_pays fails_whole = omega arith
  step_pays fails_call = omega arith
  step_pays fails_all = omega arith
  step_pays (fails_choice back) = omega arith
  step_pays (fails_one_last back none) = omega arith
  step_pays (fails_one_next back is mark) = omega arith
  step_pays (fails_some_none back none) = omega arith
  step_pays (fails_some_last back none) = omega arith
  step_pays (fails_some_next back is mark) = omega arith

  fail_pays : {code : Code} {M : Meaning} {w w1 : W} {e : Places R} {F : List Frame} {T : List ℕ} {b l : ℕ}
      {K : List (RefRecord R Y)} {m1 : RefState R Y} → StepRef S code M w (ref_failing e F T b K l) w1 m1 →
      left_in m1 ≡ l
  fail_pays fails_whole = refl
  fail_pays fails_call = refl
  fail_pays fails_all = refl
  fail_pays (fails_choice back) = refl
  fail_pays (fails_one_last back none) = refl
  fail_pays (fails_one_next back is mark) = refl
  fail_pays (fails_some_none back none) = refl
  fail_pays (fails_some_last back none) = refl
  fail_pays (fails_some_next back is mark) = refl

  module _ {code : Code} {M : Meaning} {w w1 : W} (next after : Next) (p q : Position R) (m m1 : Stacks R Y)
      (x : StepRef S code M w (state_of next p m) w1 (state_of after q m1)) where
    -- no step leaves more of the budget
    pub left_less : m1.left ≤ m.left
    left_less =
        let a = left_of next p m in let b = left_of after q m1 in
        let c : left_in (state_of after q m1) ≤ left_in (state_of next p m) = step_pays x in omega arith

    -- to deal with a failure costs nothing
    pub left_same : next ≡ nexts.Failing → m1.left ≡ m.left
    left_same is = sym (left_of after q m1) ∙
        fail_pays (subst (λ v. StepRef S code M w (state_of v p m) w1 (state_of after q m1)) is x)

pub charged_at_start : (n budget : ℕ) (numbers : List ℕ) → sum numbers ≡ 0 →
    IsCharged n budget (length numbers) numbers budget
charged_at_start n budget numbers none = record {
  long = refl;
  most = omega arith;
  all = λ all. omega arith;
}

-- after one step more
module _ {W R Y N : Type 0} {S : Space W R Y N} {M : Meaning} {w w1 w2 : W} {t : R} {budget k : ℕ}
    {prims keys : List NameKey} {l : LoadedProgram N} {ts : List (Vec coded.Case Global)} {vs : List instr.Instr}
    (is : IsCode (code_of ts vs) prims) (st : Stands S w t)
    (loaded : IsLoadedProgram (S.knows w1) (S.symbol_of w1) keys S.number_of l ts vs) where
  pub charged_more : {next : Next} {p : Position R} {m : Stacks R Y} (after : Next) (q : Position R)
      (m1 : Stacks R Y) →
      UnderWay S (code_of ts vs) M w t budget k w1 next p m → GoesOn next →
      StepRef S (code_of ts vs) M w1 (state_of next p m) w2 (state_of after q m1) →
      {many : ℕ} {old new : List ℕ} (charged : ℕ) → charged ≡ m.left - m1.left → Charges old p.address charged new →
      IsCharged (length vs) budget many old m.left → IsCharged (length vs) budget many new m1.left
  charged_more {next = nexts.Running} {p = p} {m = m} after q m1 u going x {many} {old} {new} charged paid now before =
      let less : m1.left ≤ m.left = left_less nexts.Running after p q m m1 x in
      let inside = in_code is st loaded p m l.instrs.items refl u in
      let as_many = loaded.instrs.long in
      let a = now.most in let b = before.most in let c = now.long in let d = before.long in record {
        long = omega arith;
        most = omega arith;
        all =
            λ all. let e = now.all (omega arith) in let f = before.all all in omega arith;
      }
  charged_more {next = nexts.Failing} {p = p} {m = m} after q m1 u going x charged paid now before =
      let same : m1.left ≡ m.left = left_same nexts.Failing after p q m m1 x refl in
      let a = now.most in let b = before.most in let c = now.long in let d = before.long in
      let g = now.least in record {
        long = omega arith;
        most = omega arith;
        all =
            λ all. let f = before.all all in omega arith;
      }
  charged_more {next = _} after q m1 u going x charged paid now before = absurd going

-- the same at an equal address
pub charges_at : {old new : List ℕ} {i j n : ℕ} → i ≡ j → Charges old i n new → Charges old j n new
charges_at {old} {new} {n = n} same h = subst (λ k. Charges old k n new) same h
