-- A run of a core whose primitives are registered: it is one with what they mean.
use Rattle.std.proofs.Common.{ℕ, ◌<◌, List, [], length, Contains}
use Rattle.term_model.specs.Flat.{Meaning}
use Rattle.term_model.specs.PrimNames.{NameKey}
use Rattle.term_model.specs.NameSet.{key_at}
use Rattle.term_model.specs.Term.{Tree}
use Rattle.core_lang.specs.declared.coordinate.Coordinate.{Coordinate}
use Rattle.core_lang.specs.declared.run.Outcome.{Outcome}
use Rattle.core_lang.specs.Environment.{outermost, definitions}
use Rattle.core_lang.specs.Primitives.{AnswerSame, AreOccurring, OccursInDefinitions}
use Rattle.core_lang.specs.Program.{Definitions, call, no_strategies, no_patterns}
use Rattle.core_lang.specs.Resolved.{by_coordinates, here}
use Rattle.core_lang.specs.Settled.{Verdict, Settled, settled, unsettled}
use Rattle.core_lang.proofs.MeaningLaws.{coordinates_changed, same_turned}
use Rattle.prim_registry.specs.Registered.{registered}
use Rattle.prim_registry.proofs.RegisteredLaws.{registered_same, covered}
use Rattle.core_eval.specs.Evaluates.{EvaluatesOn}

-- a run of a core whose primitives are registered
module _ {N M : Meaning} (C : Definitions Coordinate ℕ) (i : ℕ) (same : (f : List ℕ) (k : ℕ) →
    OccursInDefinitions f k C → AnswerSame N M f k) where
  settled_same : {t : Tree} {b c : ℕ} {v : Verdict Tree} →
      Settled by_coordinates N (definitions C outermost) (call (here i) no_strategies no_patterns) t [] b v c →
      Settled by_coordinates M (definitions C outermost) (call (here i) no_strategies no_patterns) t [] b v c
  settled_same (settled x h) = settled (coordinates_changed N M C i same x) h
  settled_same (unsettled lacks) =
      unsettled (λ o n y. lacks o n (coordinates_changed M N C i (λ f k h. same_turned N M f k (same f k h)) y))

pub run_covered : (keys names : List NameKey) (M : Meaning) (C : Definitions Coordinate ℕ) (i : ℕ)
    {t : Tree} {b c : ℕ} (r : Outcome Tree) →
    AreOccurring names C → ((j : ℕ) → j < length names → Contains keys (key_at names j)) →
    EvaluatesOn (registered keys M) (definitions C outermost) (call (here i) no_strategies no_patterns) t b r c →
    EvaluatesOn M (definitions C outermost) (call (here i) no_strategies no_patterns) t b r c
run_covered keys names M C i r occurring each x =
    let same : (f : List ℕ) (k : ℕ) → OccursInDefinitions f k C → AnswerSame (registered keys M) M f k =
    λ f k h. registered_same keys M f k (covered keys names (f, k) each ((occurring f k).1 h)) in
    (x.0, record { settled = settled_same C i same x.1.settled; left = x.1.left })
