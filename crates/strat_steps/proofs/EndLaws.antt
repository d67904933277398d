-- How a loop over steps ends: in time, and with what the program comes to.
use Rattle.std.proofs.Common.{◌≡◌, ℕ, ◌+◌, ◌*◌, ◌≤◌, ◌<◌, refl, subst, arith}
use Rattle.term_model.specs.Term.{Tree}
use Rattle.term_model.specs.Flat.{Meaning}
use Rattle.core_lang.specs.Resolved.{ResolvedDefinitions}
use Rattle.strat_code.specs.Code.{Code}
use Rattle.strat_code.specs.StandsFor.{StandsFor}
use Rattle.strat_steps.specs.State.{Result, rewritten, run_failed, run_oversize, run_spent, stuck, State, ended}
use Rattle.strat_steps.specs.Step.{IsGoing, Steps, no_step, more_steps}
use Rattle.strat_steps.specs.Run.{start, start_ref, Says}
use Rattle.term_model.specs.Space.{Space, Stands}
use Rattle.strat_steps.specs.References.{RefState, ref_rewritten, ref_stopped, state_tree}
use Rattle.strat_steps.specs.ReferenceSteps.{StepsRef}
use Rattle.strat_steps.specs.Marks.{Holds, nothing_covered}
use Rattle.strat_steps.proofs.ReferenceSteps.{steps_so}
use Rattle.strat_steps.proofs.RunLaws.{runs, ahead}

-- a run that has ended stays
record Stayed (n : ℕ) (r s : Result) (l k : ℕ) : Type 0 where
  none : n ≡ 0
  result : s ≡ r
  left : k ≡ l

stays : {code : Code} {M : Meaning} {n l k : ℕ} {r s : Result} → Steps code M n (ended r l) (ended s k) →
    Stayed n r s l k
stays no_step = record { none = refl; result = refl; left = refl }
stays (more_steps going h x) = absurd (going)

-- no run takes longer
few_steps : (M : Meaning) (P : ResolvedDefinitions) (i : ℕ) (t : Tree) (budget : ℕ) (r : Result) (left steps : ℕ) →
    Says M P i t budget r left steps → steps ≤ 3 * budget + 1
few_steps M P i t budget (rewritten u) left steps s = let a = s.1.few in let b = s.1.paid in omega arith
few_steps M P i t budget run_failed left steps s = let a = s.few in let b = s.paid in omega arith
few_steps M P i t budget run_oversize left steps s = let a = s.few in let b = s.paid in omega arith
few_steps M P i t budget run_spent left steps s = s.1
few_steps M P i t budget stuck left steps s = absurd s

going_on : {code : Code} {M : Meaning} {n left : ℕ} {m : State} {r : Result} → IsGoing m →
    Steps code M n m (ended r left) → 0 < n
going_on going no_step = absurd going
going_on going (more_steps g h x) = omega arith

module _ {code : Code} {M : Meaning} (P : ResolvedDefinitions) (i : ℕ) (stands : StandsFor code P i) (t : Tree)
    (budget : ℕ) where
  -- the steps that lead to an end say what the program does
  pub end_says : {k l : ℕ} {r : Result} → Steps code M k (start t budget) (ended r l) → Says M P i t budget r l k
  end_says {k} {l} {r} x =
      let run = runs code M P i stands t budget in
      let a = ahead x run.run in
      let s = stays a.lead in
      let are = a.are in let none = s.none in
      let same : run.steps ≡ k = omega arith in
      subst (λ v. Says M P i t budget v l k)
      s.result (subst (λ n. Says M P i t budget run.result n k)
      s.left (subst (λ n. Says M P i t budget run.result run.left n) same run.says))

  -- after that number of steps a run has ended
  pub ends_in_time : {k : ℕ} {m : State} → Steps code M k (start t budget) m → IsGoing m → k < 3 * budget + 1
  ends_in_time x going =
      let run = runs code M P i stands t budget in
      let a = ahead x run.run in
      let more = going_on going a.lead in
      let few = few_steps M P i t budget run.result run.left run.steps run.says in
      let are = a.are in
      omega arith

pub holds_at_start : {W R Y N : Type 0} (S : Space W R Y N) (w : W) (t : R) (budget : ℕ) → Stands S w t →
    Holds S w (start_ref t budget)
holds_at_start S w t budget st =
    (st, record { places = tt; records = tt; covered = nothing_covered; low = omega arith })

module _ {W R Y N : Type 0} {S : Space W R Y N} {code : Code} {M : Meaning} (P : ResolvedDefinitions) (i : ℕ)
    (stands : StandsFor code P i) {w w1 : W} {t : R} {budget : ℕ} (st : Stands S w t) where
  pub rewritten_says : {k l : ℕ} {u : R} → StepsRef S code M k w (start_ref t budget) w1 (ref_rewritten u l) →
      Says M P i (S.term_of w t) budget (rewritten (S.term_of w1 u)) l k
  rewritten_says x = end_says P i stands (S.term_of w t) budget (steps_so x (holds_at_start S w t budget st)).0

  pub stopped_says : {k l : ℕ} {r : Result} → StepsRef S code M k w (start_ref t budget) w1 (ref_stopped r l) →
      Says M P i (S.term_of w t) budget r l k
  stopped_says x = end_says P i stands (S.term_of w t) budget (steps_so x (holds_at_start S w t budget st)).0

  pub ended_in_time : {k : ℕ} {m : RefState R Y} → StepsRef S code M k w (start_ref t budget) w1 m →
      IsGoing (state_tree (S.term_of w1) m) → k < 3 * budget + 1
  ended_in_time x going = ends_in_time P i stands (S.term_of w t)
      budget (steps_so x (holds_at_start S w t budget st)).0 going
