-- Where a run of the machine through a range ends, and how such runs are put together.
use Rattle.std.proofs.Common.{◌≡◌, ℕ, suc, ◌+◌, ◌*◌, ◌-◌, ◌≤◌, ◌<◌, List, [], ◌∷◌, length, take, ◌++◌, refl, ◌∙◌, ap, arith, subst}
use Rattle.term_model.specs.Term.{Tree}
use Rattle.term_model.specs.Flat.{Meaning}
use Rattle.core_lang.specs.Environment.{Bindings}
use Rattle.core_lang.specs.Ending.{ok, failure, excess, stop}
use Rattle.core_lang.specs.Settled.{Verdict, ends, spent}
use Rattle.strat_code.specs.Code.{Instr, nodes_of, Code, At}
use Rattle.strat_steps.specs.State.{Frame, Record, run_oversize, run_spent, State, running, failing, ended}
use Rattle.strat_steps.specs.Step.{performed, effect, next, IsGoing, Steps, no_step, more_steps}
use Rattle.core_lang.specs.Going.{IsEnd, IsHalt}
use Rattle.strat_steps.specs.Trail.{Restores}
use Rattle.strat_steps.proofs.TrailLaws.{if_less, if_more, restores_then}

pub append_assoc : {A : Type 0} (l m n : List A) → l ++ (m ++ n) ≡ (l ++ m) ++ n
append_assoc [] m n = refl
append_assoc (i ∷ l) m n = ap (λ k. i ∷ k) (append_assoc l m n)

-- From a state the machine comes to the end of a range with the ending, in the frame p and with the records K; or it
-- fails with these records; or it halts. The trail leads back to the places e, in fewer steps than the room has over
-- what is left.
pub data Lands (code : Code) (M : Meaning) (to p : ℕ) (e : Bindings) (F : List Frame) (T : List ℕ) (b : ℕ)
    (K : List Record) (start : State) (room : ℕ) : Verdict Tree → ℕ → Type 0 where
  lands_ok : {k c : ℕ} {u : Tree} {f : Bindings} {U : List ℕ} (new : List ℕ) →
      Steps code M k start (running to p u f F U b K c) → U ≡ new ++ T → Restores b e new f → length f ≡ length e →
      k + 1 + 3 * c ≤ room → Lands code M to p e F T b K start room (ends (ok u f)) c
  lands_failed : {k c : ℕ} {f : Bindings} {G : List Frame} {U : List ℕ} (new : List ℕ) →
      Steps code M k start (failing f G U b K c) → U ≡ new ++ T → Restores b e new f → take (length F) G ≡ F →
      k + 1 + 3 * c ≤ room → Lands code M to p e F T b K start room (ends (stop failure)) c
  lands_oversize : {k c : ℕ} → Steps code M k start (ended run_oversize c) → k + 1 + 3 * c ≤ room →
      Lands code M to p e F T b K start room (ends (stop excess)) c
  lands_spent : {k l c : ℕ} → Steps code M k start (ended run_spent l) → k ≤ room + 1 →
      Lands code M to p e F T b K start room spent c

module _ {code : Code} {M : Meaning} where
  pub steps_then : {k n : ℕ} {m m1 m2 : State} → Steps code M k m m1 → Steps code M n m1 m2 → Steps code M (k + n) m m2
  steps_then {n = n} {m2 = m2} (no_step {m = m}) y = subst (λ i. Steps code M i m m2) (omega arith) y
  steps_then {n = n} {m2 = m2} (more_steps {k = k} {m = m} g h x) y =
      subst (λ i. Steps code M i m m2) (let q : suc (k + n) ≡ suc k + n = omega arith in
      q) (more_steps g h (steps_then x y))

  pub one_step : (m m1 : State) → IsGoing m → next code M m ≡ m1 → Steps code M 1 m m1
  one_step m m1 g h = more_steps g h no_step

  -- an instruction that is paid for has its effect
  pub paid_step : {i p l : ℕ} (rest : ℕ)
      {v : Instr} {t : Tree} {e : Bindings} {F : List Frame} {T : List ℕ} {b : ℕ} {K : List Record} → At code i v →
      l ≡ nodes_of v + rest →
      Steps code M 1 (running i p t e F T b K l) (effect M v i p t e F T b K rest)
  paid_step {i} {p} {l} rest {v} {t} {e} {F} {T} {b} {K} at h =
      one_step (running i p t e F T b K l) (effect M v i p t e F T b K rest) tt
      (ap (λ o. performed M o i p t e F T b K l) at ∙
      if_more (ended run_spent l) (effect M v i p t e F T b K (l - nodes_of v)) l (nodes_of v) (omega arith)
      ∙ ap (λ r. effect M v i p t e F T b K r) (let q : l - nodes_of v ≡ rest = omega arith in q))

  -- or the budget is spent
  pub spent_step : {i p l : ℕ} {v : Instr} {t : Tree} {e : Bindings} {F : List Frame} {T : List ℕ} {b : ℕ}
      {K : List Record} → At code i v → l < nodes_of v →
      Steps code M 1 (running i p t e F T b K l) (ended run_spent l)
  spent_step {i} {p} {l} {v} {t} {e} {F} {T} {b} {K} at h = one_step (running i p t e F T b K l) (ended run_spent l) tt
      (ap (λ o. performed M o i p t e F T b K l) at ∙
      if_less (ended run_spent l) (effect M v i p t e F T b K (l - nodes_of v)) l (nodes_of v) h)

  -- with more room
  pub wider : {to p : ℕ} {e : Bindings} {F : List Frame} {T : List ℕ} {b : ℕ} {K : List Record} {start : State} {r : ℕ}
      {q : Verdict Tree} {c : ℕ} (room : ℕ) → r ≤ room →
      Lands code M to p e F T b K start r q c → Lands code M to p e F T b K start room q c
  wider room h (lands_ok new x u back same bound) = lands_ok new x u back same (omega arith)
  wider room h (lands_failed new x u back same bound) = lands_failed new x u back same (omega arith)
  wider room h (lands_oversize x bound) = lands_oversize x (omega arith)
  wider room h (lands_spent x bound) = lands_spent x (omega arith)

  -- after further steps, from earlier places
  pub onward : {to p : ℕ} {e f : Bindings} {F : List Frame} {T U : List ℕ} {b : ℕ} {K : List Record} {start m : State}
      {k r : ℕ} {q : Verdict Tree} {c : ℕ} (new : List ℕ) →
      Steps code M k start m → U ≡ new ++ T → Restores b e new f → length f ≡ length e →
      Lands code M to p f F U b K m r q c → Lands code M to p e F T b K start (k + r) q c
  onward {e = e} {f = f} {T = T} {b = b} A x is back same (lands_ok {f = g} B y is' back' same' bound) =
      lands_ok (B ++ A) (steps_then x y) (is' ∙ ap (λ l. B ++ l) is ∙
      append_assoc B A T) (restores_then b e f g A B back back') (same' ∙ same) (omega arith)
  onward {e = e} {f = f} {T = T} {b = b} A x is back same (lands_failed {f = g} B y is' back' same' bound) =
      lands_failed (B ++ A) (steps_then x y) (is' ∙ ap (λ l. B ++ l) is ∙
      append_assoc B A T) (restores_then b e f g A B back back') same' (omega arith)
  onward A x is back same (lands_oversize y bound) = lands_oversize (steps_then x y) (omega arith)
  onward A x is back same (lands_spent y bound) = lands_spent (steps_then x y) (omega arith)

  -- after one step
  pub step_on : {to p : ℕ} {e : Bindings} {F : List Frame} {T : List ℕ} {b : ℕ} {K : List Record} {start m : State}
      {r : ℕ} {q : Verdict Tree} {c : ℕ} →
      Steps code M 1 start m → Lands code M to p e F T b K m r q c → Lands code M to p e F T b K start (1 + r) q c
  step_on h x = onward [] h refl refl refl x

  -- whatever comes after, where nothing does
  pub end_lands : {to to' p p' : ℕ} {e : Bindings} {F : List Frame} {T : List ℕ} {b : ℕ} {K : List Record}
      {start : State} {r : ℕ} {q : Verdict Tree} {c : ℕ} → IsEnd q →
      Lands code M to p e F T b K start r q c → Lands code M to' p' e F T b K start r q c
  end_lands h (lands_ok new x u back same bound) = absurd (h)
  end_lands h (lands_failed new x u back same bound) = lands_failed new x u back same bound
  end_lands h (lands_oversize x bound) = lands_oversize x bound
  end_lands h (lands_spent x bound) = lands_spent x bound

  pub halt_lands : {to to' p p' : ℕ} {e e' : Bindings} {F F' : List Frame} {T T' : List ℕ} {b b' : ℕ}
      {K K' : List Record} {start : State} {r : ℕ} {q : Verdict Tree} {c : ℕ} → IsHalt q →
      Lands code M to p e F T b K start r q c → Lands code M to' p' e' F' T' b' K' start r q c
  halt_lands h (lands_ok new x u back same bound) = absurd (h)
  halt_lands h (lands_failed new x u back same bound) = absurd (h)
  halt_lands h (lands_oversize x bound) = lands_oversize x bound
  halt_lands h (lands_spent x bound) = lands_spent x bound
