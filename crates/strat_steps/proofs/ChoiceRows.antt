-- Ranges of choices.
use Rattle.std.proofs.Common.{◌≡◌, ℕ, suc, ◌+◌, ◌*◌, ◌≤◌, List, [], ◌∷◌, length, ◌++◌, refl, ◌∙◌, ap, arith}
use Rattle.term_model.specs.Term.{Tree}
use Rattle.term_model.specs.Flat.{Meaning}
use Rattle.core_lang.specs.Program.{id, choice}
use Rattle.core_lang.specs.Environment.{Bindings}
use Rattle.core_lang.specs.Ending.{ok, failure, stop}
use Rattle.core_lang.specs.Resolved.{ResolvedStrategy, ResolvedEnvironment, by_coordinates}
use Rattle.core_lang.specs.Settled.{Verdict, ends, spent}
use Rattle.strat_code.specs.Code.{commit, Code, At}
use Rattle.strat_code.specs.Ranges.{choice_range, else_range, select_range}
use Rattle.strat_code.specs.Context.{Specialization}
use Rattle.strat_steps.specs.State.{Frame, saved, Record, choice_record, State, running, failing}
use Rattle.strat_steps.specs.Binding.{trimmed}
use Rattle.core_lang.specs.Going.{IsHalt, Goes, go_spent, go_id}
use Rattle.strat_steps.proofs.TrailLaws.{trimmed_new, restores_lower, restores_trimmed}
use Rattle.strat_steps.proofs.Landing.{Lands, lands_ok, lands_failed, lands_spent, steps_then, one_step, paid_step, spent_step, wider, onward, step_on, halt_lands}
use Rattle.strat_steps.proofs.Simulates.{restored, on_top_same, Simulates, SimulatesChain, here_lands, jumped}

module _ {code : Code} {M : Meaning} where
  -- a choice has chosen its second strategy
  pub chosen : {j a to to1 p : ℕ} {e f : Bindings} {F : List Frame} {T : List ℕ} {bar : ℕ} {K : List Record}
      {start : State} {t u : Tree} {d c r r2 : ℕ} {q : Verdict Tree} (n rest z : ℕ) →
      Lands code M j p e F T (length e) (choice_record a t (saved p (length F) (length T) bar) ∷ K)
      start r (ends (ok u f)) d → At code j (commit n to1) → d ≡ n + rest → bar ≤ length e →
      ((U : List ℕ) → length f ≡ length e → Lands code M to p f F U bar K (running to1 p u f F U bar K rest) r2 q c) →
      r2 ≤ 3 * d + z → Lands code M to p e F T bar K start (r + z) q c
  chosen {e = e} {f = f} {T = T} {bar = bar} {r =
      r} n rest z (lands_ok {U = U} new x is back same bound) at cost low others room =
      let less = trimmed_new Tree bar new T in
      wider (r + z) (omega arith)
      (onward less.kept (steps_then x (paid_step rest at cost)) (ap (trimmed (length T) bar) is ∙ less.are)
      (restores_trimmed bar e f new T (trimmed (length T) bar (new ++ T))
      less (restores_lower bar (length e) e f new low back)) same (others (trimmed (length T) bar U) same))

  pub chosen_spent : {j to p : ℕ} {e f : Bindings} {F : List Frame} {T : List ℕ} {bar : ℕ} {K K' : List Record}
      {start : State} {u : Tree} {c r : ℕ} (n to1 : ℕ) →
      Lands code M j p e F T (length e) K' start r (ends (ok u f)) 0 → At code j (commit (suc n) to1) →
      Lands code M to p e F T bar K start r spent c
  chosen_spent n to1 (lands_ok new x is back same bound) at =
      lands_spent (steps_then x (spent_step at (omega arith))) (omega arith)

  -- a choice goes on with its third strategy
  pub otherwise_lands : {j a to p : ℕ} {e : Bindings} {F : List Frame} {T : List ℕ} {bar : ℕ} {K : List Record}
      {start : State} {t : Tree} {d c r r2 : ℕ} {q : Verdict Tree} (z : ℕ) →
      Lands code M j p e F T (length e) (choice_record a t (saved p (length F) (length T) bar) ∷ K)
      start r (ends (stop failure)) d →
      Lands code M to p e F T bar K (running a p t e F T bar K d) r2 q c → r2 ≤ 3 * d + z →
      Lands code M to p e F T bar K start (r + z) q c
  otherwise_lands {a = a} {p = p} {e = e} {F = F} {T = T} {bar = bar} {K = K} {t = t} {d = d} {r =
      r} z (lands_failed {f = f} {G = G} {U = U} new x is back same bound) other room =
      wider (r + z) (omega arith)
      (onward [] (steps_then x
      (one_step (failing f G U (length e) (choice_record a t (saved p (length F) (length T) bar) ∷ K) d)
      (running a p t e F T bar K d) tt
      (restored (λ g H A. running a p t g H A bar K d) e f F G T U new is back same))) refl refl refl other)

  -- the second strategy is id, whose node is that of commit
  pub id_chosen : {V : ResolvedEnvironment} {j a to p : ℕ} {e f : Bindings} {F : List Frame} {T : List ℕ} {bar : ℕ}
      {K : List Record} {start : State} {t u : Tree} {d c r : ℕ} {q : Verdict Tree} →
      Lands code M j p e F T (length e) (choice_record a t (saved p (length F) (length T) bar) ∷ K)
      start r (ends (ok u f)) d → At code j (commit 1 to) → bar ≤ length e →
      Goes by_coordinates M V id u f d q c → Lands code M to p e F T bar K start r q c
  id_chosen {to = to} y at low go_spent = chosen_spent 0 to y at
  id_chosen {to = to} {p = p} {f = f} {F = F} {bar = bar} {K = K} {u = u} {r = r} y at low (go_id {c = c}) =
      wider r (omega arith) (chosen 1 c 0 y at (omega arith) low (λ U h. here_lands to p u f F U bar K c) (omega arith))

module _ (code : Code) (I : List Specialization) (M : Meaning) where
  pub choice_halt_row : {V : ResolvedEnvironment} {s1 s2 s3 : ResolvedStrategy} {t : Tree} {e : Bindings} {c : ℕ}
      {q : Verdict Tree} (b : ℕ) →
      Simulates code I M V s1 t e b q c → IsHalt q → SimulatesChain code I M V (choice s1 s2 s3) t e (suc b) q c →
      Simulates code I M V (choice s1 s2 s3) t e (suc b) q c
  choice_halt_row {t = t} {e = e} b g1 h gs w C i x to p F T bar K l (choice_range {j = j} {k = k} at r1 at1 r2 at2 r3)
      rep on_top low is =
      wider (3 * suc b) (omega arith) (step_on (paid_step b at (omega arith))
      (halt_lands h (g1 w C (suc i) 0 j p F T (length e)
      (choice_record (suc k) t (saved p (length F) (length T) bar) ∷ K) b r1 rep on_top (omega arith)
      (omega arith))))
  choice_halt_row {t = t} {e = e} b g1 h gs w C i x to p F T bar K l (else_range {j = j} at r1 at1 r3)
      rep on_top low is =
      wider (3 * suc b) (omega arith) (step_on (paid_step b at (omega arith))
      (halt_lands h (g1 w C (suc i) 0 j p F T (length e)
      (choice_record (suc j) t (saved p (length F) (length T) bar) ∷ K) b r1 rep on_top (omega arith)
      (omega arith))))
  choice_halt_row b g1 h gs w C i x to p F T bar K l (select_range {last = last} {cs = cs} at choices)
      rep on_top low is =
      wider (3 * suc b) (omega arith)
      (step_on (paid_step b at (omega arith)) (gs w C cs last to p F T bar K b choices rep on_top low refl))

  pub else_row : {V : ResolvedEnvironment} {s1 s2 s3 : ResolvedStrategy} {t : Tree} {e : Bindings} {c : ℕ}
      {q : Verdict Tree} (b d : ℕ) →
      Simulates code I M V s1 t e b (ends (stop failure)) d → Simulates code I M V s3 t e d q c →
      SimulatesChain code I M V (choice s1 s2 s3) t e (suc b) q c →
      Simulates code I M V (choice s1 s2 s3) t e (suc b) q c
  else_row {t = t} {e = e} b d g1 g3 gs w C i x to p F T bar K l (choice_range {j = j} {k = k} at r1 at1 r2 at2 r3)
      rep on_top low is =
      wider (3 * suc b) (omega arith) (step_on (paid_step b at (omega arith))
      (otherwise_lands 0 (g1 w C (suc i) 0 j p F T (length e)
      (choice_record (suc k) t (saved p (length F) (length T) bar) ∷ K) b r1 rep on_top (omega arith) (omega arith))
      (g3 w C (suc k) 0 to p F T bar K d r3 rep on_top low (omega arith)) (omega arith)))
  else_row {t = t} {e = e} b d g1 g3 gs w C i x to p F T bar K l (else_range {j = j} at r1 at1 r3) rep on_top low is =
      wider (3 * suc b) (omega arith) (step_on (paid_step b at (omega arith))
      (otherwise_lands 0 (g1 w C (suc i) 0 j p F T (length e)
      (choice_record (suc j) t (saved p (length F) (length T) bar) ∷ K) b r1 rep on_top (omega arith) (omega arith))
      (g3 w C (suc j) 0 to p F T bar K d r3 rep on_top low (omega arith)) (omega arith)))
  else_row b d g1 g3 gs w C i x to p F T bar K l (select_range {last = last} {cs = cs} at choices) rep on_top low is =
      wider (3 * suc b) (omega arith)
      (step_on (paid_step b at (omega arith)) (gs w C cs last to p F T bar K b choices rep on_top low refl))

  pub then_row : {V : ResolvedEnvironment} {s1 s2 s3 : ResolvedStrategy} {t u : Tree} {e f : Bindings} {c : ℕ}
      {q : Verdict Tree} (b d : ℕ) →
      Simulates code I M V s1 t e b (ends (ok u f)) d → Goes by_coordinates M V s2 u f d q c →
      Simulates code I M V s2 u f d q c → SimulatesChain code I M V (choice s1 s2 s3) t e (suc b) q c →
      Simulates code I M V (choice s1 s2 s3) t e (suc b) q c
  then_row {t = t} {e = e} {f =
      f} b d g1 y g2 gs w C i x to p F T bar K l (choice_range {j = j} {k = k} at r1 at1 r2 at2 r3) rep on_top low is =
      wider (3 * suc b) (omega arith) (step_on (paid_step b at (omega arith))
      (chosen 0 d 1 (g1 w C (suc i) 0 j p F T (length e)
      (choice_record (suc k) t (saved p (length F) (length T) bar) ∷ K) b r1 rep on_top (omega arith) (omega arith))
      at1 (omega arith) low
      (λ U same. jumped (g2 w C (suc j) 0 k p F U bar K d r2 rep (on_top_same e f same on_top) (omega arith)
      (omega arith)) at2) (omega arith)))
  then_row {t = t} {e = e} {f =
      f} b d g1 y g2 gs w C i x to p F T bar K l (else_range {j = j} at r1 at1 r3) rep on_top low is =
      wider (3 * suc b) (omega arith) (step_on (paid_step b at (omega arith))
      (id_chosen (g1 w C (suc i) 0 j p F T (length e) (choice_record (suc j) t (saved p (length F) (length T) bar) ∷ K)
      b r1 rep on_top (omega arith) (omega arith)) at1 low y))
  then_row b d g1 y g2 gs w C i x to p F T bar K l (select_range {last = last} {cs = cs} at choices) rep on_top low is =
      wider (3 * suc b) (omega arith)
      (step_on (paid_step b at (omega arith)) (gs w C cs last to p F T bar K b choices rep on_top low refl))
