-- A run of the code of a program ends as the program does, and in no other way.
use Rattle.std.proofs.Common.{◌≡◌, ℕ, suc, ◌+◌, ◌*◌, ◌≤◌, ◌<◌, [], refl, sym, ◌∙◌, arith, subst}
use Rattle.std.specs.Prelude.{None}
use Rattle.term_model.specs.Term.{Tree}
use Rattle.term_model.specs.Flat.{Meaning}
use Rattle.core_lang.specs.Program.{call, no_strategies, no_patterns}
use Rattle.core_lang.specs.Environment.{outermost, definitions}
use Rattle.core_lang.specs.Ending.{Ending}
use Rattle.core_lang.specs.Resolved.{ResolvedDefinitions, here, by_coordinates, RewritesByCoordinates}
use Rattle.core_lang.specs.Settled.{Verdict, ends, spent, Settled, settled, unsettled}
use Rattle.strat_code.specs.Code.{Code}
use Rattle.strat_code.specs.Context.{top, defining}
use Rattle.strat_steps.specs.State.{Result, rewritten, run_failed, run_oversize, run_spent, State, failing, ended}
use Rattle.strat_steps.specs.Step.{Steps, no_step, more_steps}
use Rattle.strat_code.specs.StandsFor.{StandsFor}
use Rattle.strat_steps.specs.Run.{start, EndsSo, Says}
use Rattle.strat_steps.proofs.Representation.{of_top, of_definitions}
use Rattle.strat_steps.proofs.Landing.{Lands, lands_ok, lands_failed, lands_oversize, lands_spent, steps_then, one_step, paid_step}
use Rattle.strat_steps.proofs.Simulates.{never_on_top}
use Rattle.strat_steps.proofs.Simulation.{simulates}
use Rattle.core_lang.proofs.GoingLaws.{settled_so, goes}

-- a run ends with this result
pub record Runs (code : Code) (M : Meaning) (P : ResolvedDefinitions) (i : ℕ) (t : Tree) (budget : ℕ) : Type 0 where
  pub result : Result
  pub left : ℕ
  pub steps : ℕ
  pub run : Steps code M steps (start t budget) (ended result left)
  pub says : Says M P i t budget result left steps

module _ {M : Meaning} {P : ResolvedDefinitions} {i : ℕ} {t : Tree} {budget : ℕ} where
  ends_so : {o : Ending Tree} {left : ℕ} (steps : ℕ) →
      Settled by_coordinates M (definitions P outermost) (call (here i) no_strategies no_patterns) t [] budget (ends o)
      left → steps + 3 * left ≤ 3 * budget + 1 →
      EndsSo M P i t budget o left steps
  ends_so steps (settled {n = n} x h) room = record { nodes = n; derived = x; paid = h; few = omega arith }

  none_so : {left : ℕ} (steps : ℕ) →
      Settled by_coordinates M (definitions P outermost) (call (here i) no_strategies no_patterns)
      t [] budget spent left → steps ≤ 3 * budget + 1 →
      ((o : Ending Tree) (n : ℕ) → RewritesByCoordinates M P i t o n → budget < n) × (steps ≤ 3 * budget + 1)
  none_so steps (unsettled lacks) room = (lacks, room)

module _ {code : Code} {M : Meaning} {P : ResolvedDefinitions} {i : ℕ} {t : Tree} {budget : ℕ} where
  of_landing : StandsFor code P i → {q : Verdict Tree} {left : ℕ} →
      Lands code M 1 0 [] [] [] 0 [] (start t budget) (3 * budget) q left →
      Settled by_coordinates M (definitions P outermost) (call (here i) no_strategies no_patterns) t [] budget q left →
      Runs code M P i t budget
  of_landing stands (lands_ok {k = k} {c = c} {u = u} {f = f} new x is back same bound) known =
      record {
        result = rewritten u;
        left = c;
        steps = k + 1;
        run =
            steps_then x (paid_step c stands.ends (omega arith));
        says = (f, ends_so (k + 1) known (omega arith));
      }
  of_landing stands (lands_failed {k = k} {c = c} {f = f} {G = G} {U = U} new x is back same bound) known =
      record {
        result = run_failed;
        left = c;
        steps = k + 1;
        run =
            steps_then x (one_step (failing f G U 0 [] c) (ended run_failed c) tt refl);
        says =
            ends_so (k + 1) known (omega arith);
      }
  of_landing stands (lands_oversize {k = k} {c = c} x bound) known =
      record { result = run_oversize; left = c; steps = k; run = x; says = ends_so k known (omega arith) }
  of_landing stands (lands_spent {k = k} {l = l} x bound) known =
      record { result = run_spent; left = l; steps = k; run = x; says = none_so k known (omega arith) }

-- each run ends, and says what the program does
pub runs : (code : Code) (M : Meaning) (P : ResolvedDefinitions) (i : ℕ) → StandsFor code P i →
    (t : Tree) (budget : ℕ) → Runs code M P i t budget
runs code M P i stands t budget =
    let going = goes budget (definitions P outermost) (call (here i) no_strategies no_patterns) t [] in
    of_landing stands (simulates code stands.specializations stands.specialization_bodies M going.fact None
    (defining P stands.entries top) 0 0 1 0 [] [] 0 [] budget stands.begins (of_definitions stands.bodies of_top)
    never_on_top (omega arith) (omega arith)) (settled_so going.fact)

-- where some steps lead from the beginning, as many less lead to the end
pub record Ahead (code : Code) (M : Meaning) (k j : ℕ) (m : State) (r : Result) (left : ℕ) : Type 0 where
  pub rest : ℕ
  pub are : k ≡ j + rest
  pub lead : Steps code M rest m (ended r left)

ahead_on : {code : Code} {M : Meaning} {k j : ℕ} {m : State} {r : Result} {left : ℕ} → Ahead code M k j m r left →
    Ahead code M (suc k) (suc j) m r left
ahead_on h = let are = h.are in record { rest = h.rest; are = omega arith; lead = h.lead }

moved : {code : Code} {M : Meaning} {j : ℕ} {m m1 m2 : State} → m ≡ m1 → Steps code M j m m2 → Steps code M j m1 m2
moved {code} {M} {j} {m2 = m2} h x = subst (λ m. Steps code M j m m2) h x

pub ahead : {code : Code} {M : Meaning} {k j : ℕ} {m m1 : State} {r : Result} {left : ℕ} → Steps code M j m m1 →
    Steps code M k m (ended r left) → Ahead code M k j m1 r left
ahead {k = k} no_step y = record { rest = k; are = omega arith; lead = y }
ahead (more_steps g h x) no_step = absurd (g)
ahead (more_steps g h x) (more_steps g' h' y) = ahead_on (ahead x (moved (sym h' ∙ h) y))
