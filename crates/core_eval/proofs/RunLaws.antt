-- What the call of main says, and what a run returns.
use Rattle.std.proofs.Common.{◌≡◌, ℕ, ◌+◌, ◌-◌, List, [], refl, arith, subst}
use Rattle.term_model.specs.Flat.{Meaning}
use Rattle.term_model.specs.Term.{Tree}
use Rattle.core_lang.specs.declared.coordinate.Coordinate.{Coordinate}
use Rattle.core_lang.specs.declared.run.Outcome.{Outcome}
use Rattle.core_lang.specs.declared.run.Outcome.TheVariants.{Rewritten, Failed, Oversize, Spent}
use Rattle.core_lang.specs.Ending.{Ending}
use Rattle.core_lang.specs.Environment.{outermost, definitions, Bindings}
use Rattle.core_lang.specs.Named.{Name, by_names, Rewrites}
use Rattle.core_lang.specs.Program.{Definitions, call, no_strategies, no_patterns}
use Rattle.core_lang.specs.Resolution.{ResolvesProgram}
use Rattle.core_lang.specs.Resolved.{here}
use Rattle.core_lang.specs.Run.{EndsWithin, IsOutcome}
use Rattle.core_lang.specs.Settled.{Settled, settled, unsettled}
use Rattle.core_lang.proofs.SettledTransport.{run_settled}
use Rattle.core_lang.proofs.Unique.{unique}
use Rattle.core_eval.specs.Evaluates.{EvaluatesOn, verdict_of}

-- a run's outcome and its number of nodes, from what the call of main leaves of the budget
module _ (M : Meaning) {P : Definitions Name (List Name)} {main : Name} {t : Tree} {b n : ℕ} (c : ℕ) where
  ends_within : {o : Ending Tree} {m : ℕ} → Rewrites M P main t o m → b ≡ m + c → n ≡ b - c →
      EndsWithin M P main t b o n
  ends_within {o} {m} x h k =
      let same : m ≡ n = omega arith in
      subst (λ z. EndsWithin M P main t b o z) same
      (record { derived = x; within = omega arith; only = λ p i y. let q = unique y x in (q.outcome, q.nodes) })

  outcome_of : (r : Outcome Tree) (f : Bindings) →
      Settled by_names M (definitions P outermost) (call main no_strategies no_patterns) t [] b (verdict_of r f) c →
      (r ≡ Spent → n ≡ b) → ((r ≡ Spent → ⊥) → n ≡ b - c) → IsOutcome M P main t b r n
  outcome_of (Rewritten u) f (settled x h) spent_all others = (f, ends_within x h (others (λ e. cc)))
  outcome_of Failed f (settled x h) spent_all others = ends_within x h (others (λ e. cc))
  outcome_of Oversize f (settled x h) spent_all others = ends_within x h (others (λ e. cc))
  outcome_of Spent f (unsettled lacks) spent_all others = (lacks, spent_all refl)

pub run_outcome : (M : Meaning)
    {P : Definitions Name (List Name)} {main : Name} {C : Definitions Coordinate ℕ} {i : ℕ} {t : Tree} {b c n : ℕ}
    (r : Outcome Tree) →
    EvaluatesOn M (definitions C outermost) (call (here i) no_strategies no_patterns) t b r c →
    ResolvesProgram P main C i →
    (r ≡ Spent → n ≡ b) → ((r ≡ Spent → ⊥) → n ≡ b - c) → IsOutcome M P main t b r n
run_outcome M {c = c} r x resolved spent_all others =
    outcome_of M c r x.0 (run_settled resolved x.1.settled) spent_all others
