-- What asks for other roots than a term has fails.
use Rattle.std.proofs.Common.{◌≡◌, ℕ, suc, inl, inr, Option, List, [], ◌∷◌, ◌++◌, length, refl, ap, arith}
use Rattle.std.specs.Prelude.{false}
use Rattle.term_model.specs.Term.{Tree, end}
use Rattle.term_model.specs.Flat.{Meaning}
use Rattle.core_lang.specs.declared.coordinate.Coordinate.{Coordinate}
use Rattle.core_lang.specs.Program.{Patterns, no_patterns, call}
use Rattle.core_lang.specs.Environment.{layer, Bindings, closures_of, filled_places}
use Rattle.core_lang.specs.Ending.{failed}
use Rattle.core_lang.specs.Derivation.{Derives, by_fail, by_seq_stop, by_choice_else, by_scope, by_definitions, by_call, by_parameter, called}
use Rattle.core_lang.specs.Resolved.{ResolvedStrategy, ResolvedStrategies, ResolvedEnvironment, ResolvedCallee, by_coordinates}
use Rattle.core_lang.specs.Roots.{Root, has_root, begins_match}
use Rattle.core_lang.specs.Settled.{Verdict, ends, Settled, settled, unsettled}
use Rattle.core_lang.specs.Going.{Goes}
use Rattle.core_lang.proofs.RootLaws.{FailsBy, begins_fails}
use Rattle.core_lang.proofs.GoingLaws.{settled_so}
use Rattle.core_lang.proofs.Unique.{unique}
use Rattle.strat_code.specs.Code.{Code}
use Rattle.strat_code.specs.Context.{Context, Specialization}
use Rattle.strat_code.specs.Ranges.{AsksFor, asks_fail, asks_match, asks_seq, asks_choice, asks_scope, asks_let, asks_known, asks_inline}
use Rattle.strat_steps.specs.State.{Frame}
use Rattle.strat_steps.proofs.Representation.{Represents, of_hidden, of_no_definitions, Fits, nothing_known, fitting, ParameterIs, parameter_is, same_parameter, BodyIs, body_of, same_body_of, arguments_known}

-- the term has none of the roots
abbrev pub Lacks : List Root → Tree → Type 0
Lacks [] t = Unit {0}
Lacks (r ∷ rs) t = (has_root r t ≡ false) × Lacks rs t

lacks_first : (rs qs : List Root) (t : Tree) → Lacks (rs ++ qs) t → Lacks rs t
lacks_first [] qs t h = tt
lacks_first (r ∷ rs) qs t h = (h.0, lacks_first rs qs t h.1)

lacks_others : (rs qs : List Root) (t : Tree) → Lacks (rs ++ qs) t → Lacks qs t
lacks_others [] qs t h = h
lacks_others (r ∷ rs) qs t h = lacks_others rs qs t h.1

module _ (code : Code) (I : List Specialization) (M : Meaning) where
  known_fails : {V : ResolvedEnvironment} {D : Context} {y : Coordinate} {ss : ResolvedStrategies}
      {ps : Patterns Coordinate} {s : ResolvedStrategy} {t : Tree} {e : Bindings} {n : ℕ} {v : Option ResolvedCallee} →
      called by_coordinates V y ss ps ≡ v → ParameterIs code I s D v →
      ((W : ResolvedEnvironment) → Fits code I D W → Derives by_coordinates M W s t e failed n) →
      Derives by_coordinates M V (call y ss ps) t e failed (suc n)
  known_fails callee (parameter_is {W = W} fit) inside = by_parameter callee (inside W fit) (omega arith)

  body_fails : {V : ResolvedEnvironment} {D : Context} {y : Coordinate} {ss : ResolvedStrategies} {s : ResolvedStrategy}
      {t : Tree} {e : Bindings} {n : ℕ} {v : Option ResolvedCallee} →
      called by_coordinates V y ss no_patterns ≡ v → BodyIs code I D s v →
      ((m : ℕ) (W : ResolvedEnvironment) → Fits code I D W →
      Derives by_coordinates M (layer (length e) m 0 (closures_of by_coordinates V ss) W) s t (e ++
      filled_places end) failed n) →
      Derives by_coordinates M V (call y ss no_patterns) t e failed (suc n)
  body_fails callee (body_of {m = m} {W = W} fit) inside = by_call callee refl (inside m W fit) refl (omega arith)

  asks_fails : {C : Context} {s : ResolvedStrategy} {rs : List Root} {n : ℕ} → AsksFor C s rs n →
      {F : List Frame} {V : ResolvedEnvironment} {p : ℕ} {t : Tree} {e : Bindings} → Represents code I F C V p →
      Lacks rs t →
      Derives by_coordinates M V s t e failed n
  asks_fails asks_fail rep h = by_fail
  asks_fails asks_match rep h = begins_fails begins_match h.0
  asks_fails (asks_seq {n = n} a) rep h = by_seq_stop (asks_fails a rep h) (omega arith)
  asks_fails (asks_choice {rs = rs} {qs = qs} {n = n} {k = k} a b) {t = t} rep h =
      by_choice_else (asks_fails a rep (lacks_first rs qs t h)) (asks_fails b rep (lacks_others rs qs t h))
      (omega arith)
  asks_fails (asks_scope {n = n} a) rep h = by_scope (asks_fails a (of_hidden nothing_known rep) h) refl (omega arith)
  asks_fails (asks_let {n = n} a) rep h = by_definitions (asks_fails a (of_no_definitions rep) h) (omega arith)
  asks_fails (asks_known {D = D} {y = y} {s = s} k a) {F = F} rep h =
      known_fails refl (same_parameter rep y s D k) (λ W fit. asks_fails a {F = F} (fitting 0 fit) h)
  asks_fails (asks_inline {y = y} hides is args a) {F = F} rep h =
      body_fails refl (same_body_of rep y hides is)
      (λ m W fit. asks_fails a {F = F} (of_hidden (arguments_known rep args) (fitting 0 fit)) h)

  known_to_fail : {V : ResolvedEnvironment} {s : ResolvedStrategy} {t : Tree} {e : Bindings} {n b c : ℕ}
      {q : Verdict Tree} → Derives by_coordinates M V s t e failed n → Settled by_coordinates M V s t e b q c →
      FailsBy n b q c
  known_to_fail x (settled y h) = let q = unique y x in let same = q.nodes in inl (ap ends q.outcome, omega arith)
  known_to_fail x (unsettled lacks) = inr (refl, lacks _ _ x)

  -- with the budget threaded
  pub fails_by_roots : {C : Context} {s : ResolvedStrategy} {rs : List Root} {n : ℕ} → AsksFor C s rs n →
      {F : List Frame} {V : ResolvedEnvironment} {p : ℕ} {t : Tree} {e : Bindings} {b c : ℕ} {q : Verdict Tree} →
      Represents code I F C V p → Lacks rs t → Goes by_coordinates M V s t e b q c → FailsBy n b q c
  fails_by_roots a rep h x = known_to_fail (asks_fails a rep h) (settled_so x)
