-- What the end of a run says of the program over names that the code stands for.
use Rattle.std.proofs.Common.{◌≡◌, ℕ, ◌+◌, ◌*◌, ◌-◌, ◌≤◌, ◌<◌, List, length, refl, subst, arith, Contains}
use Rattle.term_model.specs.Flat.{Meaning}
use Rattle.term_model.specs.PrimNames.{NameKey}
use Rattle.term_model.specs.NameSet.{key_at}
use Rattle.term_model.specs.Term.{Tree}
use Rattle.core_lang.specs.declared.run.Outcome.{Outcome}
use Rattle.core_lang.specs.declared.run.Outcome.TheVariants as outcomes
use Rattle.core_lang.specs.Ending.{Ending}
use Rattle.core_lang.specs.Named.{Name}
use Rattle.core_lang.specs.Primitives.{AnswerSame, AreOccurring, OccursInDefinitions}
use Rattle.core_lang.specs.Program.{Definitions}
use Rattle.core_lang.specs.Resolution.{ResolvesProgram}
use Rattle.core_lang.specs.Resolved.{ResolvedDefinitions}
use Rattle.core_lang.specs.Run.{EndsWithin, IsOutcome}
use Rattle.core_lang.proofs.MeaningLaws.{coordinates_changed, same_turned}
use Rattle.core_lang.proofs.Transport.{rewrites_to, rewrites_from}
use Rattle.core_lang.proofs.Unique.{unique}
use Rattle.prim_registry.specs.Registered.{registered}
use Rattle.prim_registry.proofs.RegisteredLaws.{registered_same, covered}
use Rattle.strat_code.specs.Code.{Code}
use Rattle.strat_code.specs.CodeOf.{IsCode}
use Rattle.strat_code.specs.StandsFor.{StandsFor}
use Rattle.strat_steps.specs.Outcomes.{OutcomeStands, end_ref, outcome_tree}
use Rattle.strat_steps.specs.ReferenceSteps.{StepsRef}
use Rattle.strat_steps.specs.Run.{EndsSo, start_ref}
use Rattle.strat_machine.specs.Running.{rules_of}
use Rattle.term_model.specs.Space.{Space, Stands}
use Rattle.strat_steps.proofs.EndLaws.{holds_at_start, rewritten_says, stopped_says}
use Rattle.strat_steps.proofs.ReferenceSteps.{steps_so}

-- a program whose primitives mean the same is resolved to the one that the code stands for
module _ {N M : Meaning} {P : Definitions Name (List Name)} {main : Name} {C : ResolvedDefinitions} {i : ℕ}
    (same : (f : List ℕ) (k : ℕ) → OccursInDefinitions f k C →
    AnswerSame N M f k) (resolved : ResolvesProgram P main C i) where
  ended_so : {t : Tree} {budget left steps : ℕ} {o : Ending Tree} → EndsSo N C i t budget o left steps →
      EndsWithin M P main t budget o (budget - left)
  ended_so {t} {budget} {left} {o = o} h =
      let paid = h.paid in
      let nodes : h.nodes ≡ budget - left = omega arith in
      let x = rewrites_from resolved (coordinates_changed N M C i same h.derived) in
      subst (λ n. EndsWithin M P main t budget o n)
      nodes (record {
        derived = x;
        within = omega arith;
        only = λ p n y. let q = unique y x in
            (q.outcome, q.nodes);
      })

  run_says : {W R Y X : Type 0} {S : Space W R Y X} {code : Code} → StandsFor code C i →
      {w w1 : W} {t : R} {budget k : ℕ} (left : ℕ) → Stands S w t → (o : Outcome R) →
      StepsRef S code N k w (start_ref t budget) w1 (end_ref o left) →
      IsOutcome M P main (S.term_of w t) budget (outcome_tree (S.term_of w1) o) (rules_of o budget left)
  run_says stands left st (outcomes.Rewritten u) x = let s = rewritten_says C i stands st x in (s.0, ended_so s.1)
  run_says stands left st outcomes.Failed x = ended_so (stopped_says C i stands st x)
  run_says stands left st outcomes.Oversize x = ended_so (stopped_says C i stands st x)
  run_says stands left st outcomes.Spent x =
      let s = stopped_says C i stands st x in (
        λ o n y. s.0 o n (coordinates_changed M N C i (λ f k h. same_turned N M f k (same f k h))
            (rewrites_to resolved y)),
        refl,
      )

-- the primitives of the program are registered
pub registered_says : (keys names : List NameKey) (M : Meaning)
    {P : Definitions Name (List Name)} {main : Name} {C : ResolvedDefinitions} {i : ℕ} → AreOccurring names C →
    ((j : ℕ) → j < length names → Contains keys (key_at names j)) → ResolvesProgram P main C i →
    {W R Y N : Type 0} {S : Space W R Y N} {code : Code} → StandsFor code C i →
    {w w1 : W} {t : R} {budget k : ℕ} (left : ℕ) → Stands S w t → (o : Outcome R) →
    StepsRef S code (registered keys M) k w (start_ref t budget) w1 (end_ref o left) →
    IsOutcome M P main (S.term_of w t) budget (outcome_tree (S.term_of w1) o) (rules_of o budget left)
registered_says keys names M {C = C} occurring each resolved stands left st o x =
    let same : (f : List ℕ) (k : ℕ) → OccursInDefinitions f k C → AnswerSame (registered keys M) M f k =
    λ f k h. registered_same keys M f k (covered keys names (f, k) each ((occurring f k).1 h)) in
    run_says same resolved stands left st o x

-- whatever program the code stands for
module _ {W R Y N : Type 0} {S : Space W R Y N} {code : Code} {M : Meaning} {w w1 : W} {t : R} {budget k : ℕ} where
  pub few_for_rules : {prims : List NameKey} → IsCode code prims → (left : ℕ) → Stands S w t → (o : Outcome R) →
      StepsRef S code M k w (start_ref t budget) w1 (end_ref o left) → k ≤ 3 * rules_of o budget left + 1
  few_for_rules is left st (outcomes.Rewritten u) x = let s = (rewritten_says is.program is.main is.stands st x).1 in
      let a = s.few in let b = s.paid in omega arith
  few_for_rules is left st outcomes.Failed x = let s = stopped_says is.program is.main is.stands st x in let a =
      s.few in let b = s.paid in omega arith
  few_for_rules is left st outcomes.Oversize x = let s = stopped_says is.program is.main is.stands st x in let a =
      s.few in let b = s.paid in omega arith
  few_for_rules is left st outcomes.Spent x = (stopped_says is.program is.main is.stands st x).1

  pub result_stands : (left : ℕ) → Stands S w t → (o : Outcome R) →
      StepsRef S code M k w (start_ref t budget) w1 (end_ref o left) → OutcomeStands (Stands S w1) o
  result_stands left st (outcomes.Rewritten u) x = (steps_so x (holds_at_start S w t budget st)).1
  result_stands left st outcomes.Failed x = tt
  result_stands left st outcomes.Oversize x = tt
  result_stands left st outcomes.Spent x = tt
