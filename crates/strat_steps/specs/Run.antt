-- The headline does not rest on this file.
-- Where a run begins, and what its end says of the program that the code stands for.
use Rattle.std.specs.Prelude.{◌≡◌, ℕ, ◌+◌, ◌*◌, ◌≤◌, ◌<◌, []}
use Rattle.term_model.specs.Term.{Tree}
use Rattle.term_model.specs.Flat.{Meaning}
use Rattle.core_lang.specs.Environment.{Bindings}
use Rattle.core_lang.specs.Ending.{Ending, ok, failed, oversize}
use Rattle.core_lang.specs.Resolved.{ResolvedDefinitions, RewritesByCoordinates}
use Rattle.strat_steps.specs.State.{Result, rewritten, run_failed, run_oversize, run_spent, stuck, State, running}
use Rattle.strat_steps.specs.References.{RefState, ref_running}

-- where a run begins
abbrev pub start : Tree → ℕ → State
start t budget = running 0 0 t [] [] [] 0 [] budget

-- where a run over references begins
abbrev pub start_ref : {R Y : Type 0} → R → ℕ → RefState R Y
start_ref t budget = ref_running 0 0 t [] [] [] 0 [] budget

-- the program ends so by the nodes that were paid for, in few steps for them
pub record EndsSo (M : Meaning) (P : ResolvedDefinitions) (i : ℕ) (t : Tree) (budget : ℕ) (o : Ending Tree)
    (left steps : ℕ) : Type 0 where
  pub nodes : ℕ
  pub derived : RewritesByCoordinates M P i t o nodes
  pub paid : budget ≡ nodes + left
  pub few : steps ≤ 3 * nodes + 1

-- what the result of a run says
abbrev pub Says : Meaning → ResolvedDefinitions → ℕ → Tree → ℕ → Result → (left steps : ℕ) → Type 0
Says M P i t budget (rewritten u) left steps = (e : Bindings) × EndsSo M P i t budget (ok u e) left steps
Says M P i t budget run_failed left steps = EndsSo M P i t budget failed left steps
Says M P i t budget run_oversize left steps = EndsSo M P i t budget oversize left steps
Says M P i t budget run_spent left steps =
    ((o : Ending Tree) (n : ℕ) → RewritesByCoordinates M P i t o n → budget < n) × (steps ≤ 3 * budget + 1)
Says M P i t budget stuck left steps = ⊥
