-- The headline does not rest on this file.
-- What a run of a program within a budget returns.
use Rattle.std.specs.Prelude.{◌≡◌, ℕ, ◌≤◌, ◌<◌, List}
use Rattle.term_model.specs.Flat.{Meaning}
use Rattle.term_model.specs.Term.{Tree}
use Rattle.core_lang.specs.declared.run.Outcome.{Outcome}
use Rattle.core_lang.specs.declared.run.Outcome.TheVariants.{Rewritten, Failed, Oversize, Spent}
use Rattle.core_lang.specs.Ending.{Ending, ok, failed, oversize}
use Rattle.core_lang.specs.Environment.{Bindings}
use Rattle.core_lang.specs.Named.{Name, Rewrites}
use Rattle.core_lang.specs.Program.{Definitions}

module _ (M : Meaning) (P : Definitions Name (List Name)) (main : Name) (t : Tree) (budget : ℕ) where
  -- the program rewrites the term so by n nodes, at most the budget, and in no other way
  pub record EndsWithin (o : Ending Tree) (n : ℕ) : Type 0 where
    pub derived : Rewrites M P main t o n
    pub within : n ≤ budget
    pub only : (p : Ending Tree) (m : ℕ) → Rewrites M P main t p m → (p ≡ o) × (m ≡ n)

  -- the outcome, and the number of nodes; where the budget is spent every derivation has more nodes
  abbrev pub IsOutcome : Outcome Tree → ℕ → Type 0
  IsOutcome (Rewritten u) n = (e : Bindings) × EndsWithin (ok u e) n
  IsOutcome Failed n = EndsWithin failed n
  IsOutcome Oversize n = EndsWithin oversize n
  IsOutcome Spent n = ((o : Ending Tree) (m : ℕ) → Rewrites M P main t o m → budget < m) × (n ≡ budget)
