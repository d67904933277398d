-- Primitives on two integers that the instances of patterns are.
use Rattle.std.proofs.Common.{◌≡◌, ◌≤◌, ℕ, ℤ, suc, Option, Some, None, List, [], ◌∷◌, length, get_or, map, refl, sym, ◌∙◌, ap, subst, arith}
use Rattle.std.specs.Prelude.{true, ◌&&◌}
use Rattle.std.specs.Option.{option_map, option_and_then, IfSome}
use Rattle.std.proofs.lemmas.List.{get_or_default}
use Rattle.term_model.specs.Flat.{FlatValue, Meaning, number, flat_of, with_flat}
use Rattle.term_model.specs.Flat as flat
use Rattle.term_model.specs.PrimNames.{NameKey}
use Rattle.term_model.specs.NameSet.{key_at}
use Rattle.term_model.specs.Space.{Space, Keeps}
use Rattle.term_model.specs.Term.{Tree, end, more, fits}
use Rattle.prim_registry.specs.Registered.{registered}
use Rattle.prim_registry.proofs.RegisteredLaws.{registered_call}
use Rattle.core_lang.specs.declared.coordinate.Coordinate.{Coordinate}
use Rattle.core_lang.specs.Building.{with_front, instance, instances}
use Rattle.core_lang.specs.Ending.{built, arguments, answered, if_fits}
use Rattle.core_lang.specs.Environment.{Bindings}
use Rattle.core_lang.specs.Program.{Pattern, Patterns}
use Rattle.core_lang.specs.Views.{patterns_in}
use Rattle.strat_code.specs.Code.{apply_primitive}
use Rattle.strat_steps.specs.State.{Frame, place_at, run_oversize}
use Rattle.strat_steps.specs.References.{Places, RefRecord, ref_running, ref_failing, ref_stopped}
use Rattle.strat_steps.specs.ReferenceSteps.{Does, answers, answers_none, answers_oversize}
use Rattle.strat_patterns.specs.Builds.{Builds}
use Rattle.strat_patterns.specs.declared.building.Built.TheVariants as built_forms
use Rattle.strat_patterns.proofs.BuiltLaws.{build_is_ok, build_fails, build_is_large}
use Rattle.strat_machine.specs.Calculating.{HasNumber}
use Rattle.strat_machine.specs.Tables.{IsPosition}
use Rattle.strat_machine.proofs.StepLaws.{does_to}

-- two patterns
pub two_are : {X : Type 0} (ps : List X) (l r : X) → 2 ≤ length ps → length ps ≤ 2 → l ≡ get_or ps 0 l →
    r ≡ get_or ps 1 r → ps ≡ l ∷ r ∷ []
two_are [] l r least most first second = absurd (omega arith)
two_are (p ∷ []) l r least most first second = absurd (omega arith)
two_are (p ∷ q ∷ []) l r least most first second = ap (λ x. x ∷ q ∷ []) (sym first) ∙ ap (λ x. l ∷ x ∷ []) (sym second)
two_are (p ∷ q ∷ s ∷ ps) l r least most first second = absurd (omega arith)

-- what is answered to two integers
answered_two : (A : List FlatValue → Option FlatValue) (o u : Option Tree) (y z : ℤ) (v : Option FlatValue) →
    (b : Bindings) → HasNumber o y → HasNumber u z → v ≡ A (number y ∷ number z ∷ []) →
    answered A (arguments (with_front o (with_front u (Some end))) b) ≡ built (option_map flat.term_of v) b
answered_two A o u y z v b h k call =
    let gives = λ (x : Option (List FlatValue)). built (option_map flat.term_of (option_and_then A x)) b in
    ap (λ x. answered A (arguments (with_front x (with_front u (Some end))) b)) h.is ∙
    (ap (λ x. answered A (arguments (with_front (Some h.term) (with_front x (Some end))) b)) k.is ∙
    (ap (λ x. answered A (if_fits (x && (fits k.term && true)) (more h.term (more k.term end)) b)) h.fit ∙
    (ap (λ x. answered A (if_fits (x && true) (more h.term (more k.term end)) b)) k.fit ∙
    (ap (λ x. gives (with_flat x (with_flat (flat_of k.term) (Some [])))) h.value ∙
    (ap (λ x. gives (with_flat (Some (number y)) (with_flat x (Some [])))) k.value ∙
    ap (λ x. built (option_map flat.term_of x) b) (sym call))))))

module _ {X : Type 0} (keys : List NameKey) (M : Meaning) (place : Coordinate → Option ℕ) (e : Bindings)
    (meant : X → Pattern Coordinate) (ps : List X) (l r : X) (at : Option ℕ) (i : ℕ) (y z : ℤ)
    (two : ps ≡ l ∷ r ∷ []) (is : at ≡ Some i)
    (h : HasNumber (instance place (meant l) e) y) (k : HasNumber (instance place (meant r) e) z) where
  -- what is answered to the instances of two patterns
  calculated : (f : List ℕ) (b : Bindings) (v : Option FlatValue) →
      v ≡ M (key_at keys i).0 (number y ∷ number z ∷ []) → IsPosition keys at (f, length ps) →
      answered (registered keys M f) (arguments (instances place (patterns_in (map meant ps)) e) b) ≡
      built (option_map flat.term_of v) b
  calculated f b v call position =
      let A = registered keys M f in
      let found : IsPosition keys (Some i) (f, length ps) = subst (λ o. IsPosition keys o (f, length ps)) is position in
      let there : IsPosition keys (Some i) (f, 2) = subst (λ qs. IsPosition keys (Some i) (f, length qs)) two found in
      let key = get_or_default keys i (f, 2) ([], 0) there.0 ∙ there.1 in
      ap (λ qs. answered A (arguments (instances place (patterns_in (map meant qs)) e) b)) two ∙
      answered_two A (instance place (meant l) e) (instance place (meant r) e) y z v b h k
      (registered_call keys M f (number y ∷ number z ∷ []) (key_at keys i) 2 v there.1 refl (i, there.0, key) call)

  -- the same of whatever is returned, if anything
  pub calculated_some : (result : Option (Option ℤ)) →
      IfSome result (λ v. option_map number v ≡ M (key_at keys i).0 (number y ∷ number z ∷ [])) →
      IfSome result (λ v. (f : List ℕ) (b : Bindings) → IsPosition keys at (f, length ps) →
      answered (registered keys M f) (arguments (instances place (patterns_in (map meant ps)) e) b) ≡
      built (option_map flat.term_of (option_map number v)) b)
  calculated_some None call = tt
  calculated_some (Some v) call = λ f b position. calculated f b (option_map number v) call position

-- what is asked for the places of the machine
asked_there : {R : Type 0} (A : List FlatValue → Option FlatValue) (place : Coordinate → Option ℕ) →
    (ps : Patterns Coordinate) (term_of : R → Tree) (o : Option Tree) (s e : Places R) → s ≡ e →
    ((g : Bindings) → answered A (arguments (instances place ps (map (option_map term_of) s)) g) ≡ built o g) →
    answered A (arguments (instances place ps (map (option_map term_of) e)) (map (option_map term_of) e)) ≡
    built o (map (option_map term_of) e)
asked_there A place ps term_of o s e same call =
    let g = map (option_map term_of) e in
    ap (λ x. answered A (arguments (instances place ps (map (option_map term_of) x)) g)) (sym same) ∙ call g

-- the step where the integers were found before anything was built
module _ {W R Y N : Type 0} {S : Space W R Y N} {M : Meaning} {w w1 : W} (n : ℕ) (f : List ℕ) {i b l : ℕ} (p : ℕ)
    (ps : Patterns Coordinate) (F : List Frame) {t : R} {e s : Places R} {T : List ℕ} {K : List (RefRecord R Y)}
    (o : Option Tree) (keeps : Keeps S w w1) (same : s ≡ e)
    (call : (g : Bindings) →
    answered (M f) (arguments (instances (place_at F p) ps (map (option_map (S.term_of w)) s)) g) ≡ built o g) where
  pub calculates_so : {next : ℕ} {u : R} → Builds S w1 o (built_forms.Made u) → next ≡ suc i →
      Does S M w (apply_primitive n f ps) i p t e F T b K l w1 (ref_running next p u e F T b K l)
  calculates_so {next} {u} h step =
      let asked = asked_there (M f) (place_at F p) ps (S.term_of w) o s e same call in
      does_to (answers keeps h.0 (asked ∙ build_is_ok S w1 o (map (option_map (S.term_of w)) e) u h))
      (ap (λ a. ref_running a p u e F T b K l) (sym step))

  pub calculates_nothing_so : Builds S w1 o built_forms.NoInstance →
      Does S M w (apply_primitive n f ps) i p t e F T b K l w1 (ref_failing e F T b K l)
  calculates_nothing_so h =
      let asked = asked_there (M f) (place_at F p) ps (S.term_of w) o s e same call in
      answers_none keeps (asked ∙ build_fails S w1 o (map (option_map (S.term_of w)) e) h)

  pub calculates_too_large_so : Builds S w1 o built_forms.Oversize →
      Does S M w (apply_primitive n f ps) i p t e F T b K l w1 (ref_stopped run_oversize l)
  calculates_too_large_so h =
      let asked = asked_there (M f) (place_at F p) ps (S.term_of w) o s e same call in
      answers_oversize keeps (asked ∙ build_is_large S w1 o (map (option_map (S.term_of w)) e) h)
