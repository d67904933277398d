-- A pattern that asks for another root than a term has does not match it, and what begins with it fails.
use Rattle.std.proofs.Common.{◌≡◌, ℕ, ◌+◌, ◌<◌, ◌⊎◌, inl, inr, Option, Some, None, refl, sym, ◌∙◌, ap, arith}
use Rattle.std.specs.Prelude.{Bool, true, false, ◌&&◌, if◌then◌else◌}
use Rattle.term_model.specs.declared.term.Head.{Head}
use Rattle.term_model.specs.declared.term.Head.TheVariants as heads
use Rattle.term_model.specs.Term.{Tree, node, Trees, end, more}
use Rattle.term_model.specs.Same.{same_head}
use Rattle.term_model.specs.Flat.{Meaning}
use Rattle.core_lang.specs.Program.{Pattern, anything, variable, alias, integer, applied, list, like, annotated, Patterns, no_patterns, more_patterns, Elements, no_elements, the_rest, more_elements, Strategy}
use Rattle.core_lang.specs.Environment.{Environment, Bindings, Reading}
use Rattle.core_lang.specs.Matching.{Matches}
use Rattle.core_lang.specs.Ending.{failed}
use Rattle.core_lang.specs.Derivation.{Derives, by_seq_stop, by_no_match, by_scope}
use Rattle.core_lang.specs.Settled.{Verdict, ends, spent, Settled, settled, unsettled}
use Rattle.core_lang.specs.Going.{Goes}
use Rattle.core_lang.specs.Roots.{Root, any_root, integer_root, symbol_root, list_root, are_many, has_root, count_of_patterns, count_of_elements, is_open, root_of, Begins, begins_match, begins_seq, begins_scope}
use Rattle.core_lang.specs.Tried.{and_then, put_at, tried, tried_all, tried_elements}
use Rattle.core_lang.proofs.TriedLaws.{tried_none}
use Rattle.core_lang.proofs.Unique.{unique}
use Rattle.core_lang.proofs.GoingLaws.{settled_so}

then_none : (o : Option Bindings) (go : Bindings → Option Bindings) → ((e : Bindings) → go e ≡ None) →
    and_then o go ≡ None
then_none None go h = refl
then_none (Some e) go h = h e

both_none : (a b : Bool) (o : Option Bindings) → (a && b) ≡ false → (b ≡ false → o ≡ None) →
    (if a then o else None) ≡ None
both_none true b o h k = k h
both_none false b o h k = refl

-- annotations do not matter to a root
bare_root : (r : Root) (h : Head) (ts annos : Trees) → has_root r (node h ts annos) ≡ has_root r (node h ts end)
bare_root any_root h ts annos = refl
bare_root (integer_root z) h ts annos = refl
bare_root (symbol_root f n) h ts annos = refl
bare_root (list_root n o) h ts annos = refl

none_then : (o : Option Bindings) (go : Bindings → Option Bindings) → o ≡ None → and_then o go ≡ None
none_then None go h = refl
none_then (Some e) go h = absurd (cc)

module _ {X : Type 0} (place : X → Option ℕ) where
  all_none : (ps : Patterns X) (ts : Trees) (e : Bindings) → are_many (count_of_patterns ps) false ts ≡ false →
      tried_all place ps ts e ≡ None
  all_none no_patterns end e h = absurd (cc)
  all_none no_patterns (more t ts) e h = refl
  all_none (more_patterns p ps) end e h = refl
  all_none (more_patterns p ps) (more t ts) e h =
      then_none (tried place p t e) (λ f. tried_all place ps ts f) (λ f. all_none ps ts f h)

  elements_none : (ps : Elements X) (ts : Trees) (e : Bindings) →
      are_many (count_of_elements ps) (is_open ps) ts ≡ false → tried_elements place ps ts e ≡ None
  elements_none no_elements end e h = absurd (cc)
  elements_none no_elements (more t ts) e h = refl
  elements_none (the_rest p) ts e h = absurd (cc)
  elements_none (more_elements p ps) end e h = refl
  elements_none (more_elements p ps) (more t ts) e h =
      then_none (tried place p t e) (λ f. tried_elements place ps ts f) (λ f. elements_none ps ts f h)

  pub root_none : (p : Pattern X) (t : Tree) (e : Bindings) → has_root (root_of p) t ≡ false → tried place p t e ≡ None
  root_none anything t e h = absurd (cc)
  root_none (variable x) t e h = absurd (cc)
  root_none (alias x p) t e h = then_none (put_at (place x) t e) (λ f. tried place p t f) (λ f. root_none p t f h)
  root_none (integer z) (node h ts annos) e k = ap (λ b. if b then Some e else None) k
  root_none (applied f ps) (node h ts annos) e k =
      both_none (same_head h (heads.App f)) (are_many (count_of_patterns ps) false ts) (tried_all place ps ts e)
      k (λ m. all_none ps ts e m)
  root_none (list ps) (node h ts annos) e k =
      both_none (same_head h heads.List) (are_many (count_of_elements ps) (is_open ps) ts)
      (tried_elements place ps ts e) k (λ m. elements_none ps ts e m)
  root_none (like p x) t e h = absurd (cc)
  root_none (annotated p qs) (node h ts annos) e k =
      none_then (tried place p (node h ts end) e) (λ f. tried_all place qs annos f)
      (root_none p (node h ts end) e (sym (bare_root (root_of p) h ts annos) ∙ k))

  pub other_root : (p : Pattern X) (t : Tree) (e f : Bindings) → has_root (root_of p) t ≡ false →
      Matches place p e t f → ⊥
  other_root p t e f h = tried_none place (root_none p t e h) f

-- it fails with n nodes, or the budget is spent
abbrev pub FailsBy : ℕ → ℕ → Verdict Tree → ℕ → Type 0
FailsBy n b q c = ((q ≡ ends failed) × (b ≡ n + c)) ⊎ ((q ≡ spent) × (b < n))

module _ {X B : Type 0} {R : Reading X B} {M : Meaning} where
  pub begins_fails : {s : Strategy X B} {r : Root} {n : ℕ} → Begins s r n →
      {V : Environment X B} {t : Tree} {e : Bindings} → has_root r t ≡ false → Derives R M V s t e failed n
  begins_fails (begins_match {p = p}) {V} {t} {e} h =
      by_no_match (tried_none (R.place_of V) (root_none (R.place_of V) p t e h))
  begins_fails (begins_seq {n = n} s) h = by_seq_stop (begins_fails s h) (omega arith)
  begins_fails (begins_scope {n = n} s) h = by_scope (begins_fails s h) refl (omega arith)

  known_to_fail : {V : Environment X B} {s : Strategy X B} {t : Tree} {e : Bindings} {n b c : ℕ} {q : Verdict Tree} →
      Derives R M V s t e failed n → Settled R M V s t e b q c → FailsBy n b q c
  known_to_fail x (settled y h) = let q = unique y x in let same = q.nodes in inl (ap ends q.outcome, omega arith)
  known_to_fail x (unsettled lacks) = inr (refl, lacks _ _ x)

  -- with the budget threaded
  pub fails_at_root : {s : Strategy X B} {r : Root} {n : ℕ} → Begins s r n →
      {V : Environment X B} {t : Tree} {e : Bindings} {b c : ℕ} {q : Verdict Tree} → has_root r t ≡ false →
      Goes R M V s t e b q c → FailsBy n b q c
  fails_at_root begins h x = known_to_fail (begins_fails begins h) (settled_so x)
