-- Code has one meaning: two programs for which it stands do the same.
use Rattle.std.proofs.Common.{◌≡◌, ℕ, [], ◌∷◌, length, refl, sym, ◌∙◌, ap, arith, subst}
use Rattle.term_model.specs.Term.{Tree}
use Rattle.term_model.specs.Flat.{Meaning}
use Rattle.core_lang.specs.Environment.{Bindings}
use Rattle.core_lang.specs.Ending.{Ending, ok}
use Rattle.core_lang.specs.Resolved.{ResolvedDefinitions, RewritesByCoordinates}
use Rattle.core_lang.proofs.ExtensionLaws.{extends}
use Rattle.core_lang.proofs.Unique.{unique}
use Rattle.strat_code.specs.Code.{Code}
use Rattle.strat_code.specs.StandsFor.{StandsFor}
use Rattle.strat_steps.specs.State.{Result, rewritten, run_failed, run_oversize, run_spent, stuck}
use Rattle.strat_steps.specs.Run.{Says, EndsSo}
use Rattle.strat_steps.proofs.RunLaws.{runs}
use Rattle.strat_steps.proofs.EndLaws.{end_says}

no_places : (e : Bindings) → length e ≡ 0 → e ≡ []
no_places [] h = refl
no_places (v ∷ e) h = absurd (omega arith)

-- a run of main leaves no places
none_left : {M : Meaning} {R : ResolvedDefinitions} {k n : ℕ} {t u : Tree} {e : Bindings} →
    RewritesByCoordinates M R k t (ok u e) n → e ≡ []
none_left {e = e} x = no_places e (extends x).same_places

module _ {M : Meaning} {P Q : ResolvedDefinitions} {i j : ℕ} {t : Tree} where
  -- the same ending, by the nodes that were paid for
  same_end : {o p q : Ending Tree} {n left k : ℕ} → RewritesByCoordinates M P i t o n →
      EndsSo M P i t n p left k → EndsSo M Q j t n q left k → p ≡ q → RewritesByCoordinates M Q j t o n
  same_end {o} {p} {q} {n} {left} d x y same =
      let is = unique d x.derived in
      let a = is.nodes in let b = x.paid in let c = y.paid in
      let as_many : y.nodes ≡ n = omega arith in
      subst (λ m. RewritesByCoordinates M Q j t o m) as_many
      (subst (λ v. RewritesByCoordinates M Q j t v y.nodes) (sym (is.outcome ∙ same)) y.derived)

  -- a run within the nodes of a derivation of the first program ends, so it is not spent
  says_same : (r : Result) (left k : ℕ) {o : Ending Tree} {n : ℕ} → RewritesByCoordinates M P i t o n →
      Says M P i t n r left k → Says M Q j t n r left k → RewritesByCoordinates M Q j t o n
  says_same (rewritten u) left k d x y =
      same_end d x.1 y.1 (ap (λ f. ok u f) (none_left (x.1).derived ∙ sym (none_left (y.1).derived)))
  says_same run_failed left k d x y = same_end d x y refl
  says_same run_oversize left k d x y = same_end d x y refl
  says_same run_spent left k {o = o} {n = n} d x y = let less = x.0 o n d in absurd (omega arith)
  says_same stuck left k d x y = absurd x

-- where code stands for two programs, the one rewrites as the other does
pub one_meaning : (code : Code) (M : Meaning) (P Q : ResolvedDefinitions) (i j : ℕ) → StandsFor code P i →
    StandsFor code Q j → (t : Tree) (o : Ending Tree) (n : ℕ) → RewritesByCoordinates M P i t o n →
    RewritesByCoordinates M Q j t o n
one_meaning code M P Q i j p q t o n d =
    let run = runs code M P i p t n in
    says_same run.result run.left run.steps d run.says (end_says Q j q t n run.run)
