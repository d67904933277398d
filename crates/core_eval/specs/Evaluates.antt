-- The headline does not rest on this file.
-- What an evaluation says.
use Rattle.std.specs.Prelude.{◌≡◌, ◌≤◌, ℕ, Option, Some, None, List, []}
use Rattle.term_model.specs.declared.made.Made.{Made}
use Rattle.term_model.specs.declared.made.Made.TheVariants as made
use Rattle.term_model.specs.Flat.{Meaning}
use Rattle.term_model.specs.Term.{Tree}
use Rattle.core_lang.specs.declared.coordinate.Coordinate.{Coordinate}
use Rattle.core_lang.specs.declared.run.Outcome.{Outcome}
use Rattle.core_lang.specs.declared.run.Outcome.TheVariants.{Rewritten, Failed, Oversize, Spent}
use Rattle.core_lang.specs.Ending.{Ending, ok, failed, oversize}
use Rattle.core_lang.specs.Environment.{Environment, Bindings}
use Rattle.core_lang.specs.Named.{Name}
use Rattle.core_lang.specs.Program.{Strategy, Definitions}
use Rattle.core_lang.specs.Resolved.{by_coordinates}
use Rattle.core_lang.specs.declared.run.Run.{Run}
use Rattle.core_lang.specs.Run.{IsOutcome}
use Rattle.core_lang.specs.Settled.{Verdict, ends, spent, Settled}

-- the greatest budget that the evaluator is given: each node of a derivation may be a call in a call
abbrev pub max_recursive_budget : ℕ
max_recursive_budget = 2_000

-- how a made term ends a build
abbrev pub made_ending : Option (Made Tree) → Bindings → Ending Tree
made_ending None e = failed
made_ending (Some (made.Fits t)) e = ok t e
made_ending (Some made.Oversize) e = oversize

abbrev pub verdict_of : Outcome Tree → Bindings → Verdict Tree
verdict_of (Rewritten t) e = ends (ok t e)
verdict_of Failed e = ends failed
verdict_of Oversize e = ends oversize
verdict_of Spent e = spent

-- with the primitives' meaning M: the strategy comes to this verdict from the budget b, and leaves the budget c
pub record Evaluates (M : Meaning) (V : Environment Coordinate ℕ) (s : Strategy Coordinate ℕ) (t : Tree) (e : Bindings)
    (b : ℕ) (v : Verdict Tree) (c : ℕ) : Type 0 where
  pub settled : Settled by_coordinates M V s t e b v c
  pub left : c ≤ b

-- with the primitives' meaning M: the same without bindings, with some or other at the end
abbrev pub EvaluatesOn : Meaning → Environment Coordinate ℕ → Strategy Coordinate ℕ → Tree → ℕ → Outcome Tree → ℕ →
    Type 0
EvaluatesOn M V s t b r c = (e : Bindings) × Evaluates M V s t [] b (verdict_of r e) c

-- a run by recursion: no machine takes a step
pub record IsRun (M : Meaning) (P : Definitions Name (List Name)) (main : Name) (t : Tree) (budget : ℕ)
    (run : Run Tree) : Type 0 where
  pub outcome : IsOutcome M P main t budget run.outcome run.rules
  pub steps : run.steps ≡ 0
