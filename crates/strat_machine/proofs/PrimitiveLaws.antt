-- Primitives that are applied to the instances of patterns, of the Rust machine.
use Rattle.std.proofs.Common.{◌≡◌, ◌<◌, ℕ, suc, Option, Some, None, List, [], ◌∷◌, length, drop, map, Contains, refl, sym, ◌∙◌, ap, subst}
use Rattle.std.specs.Option.{option_map, option_and_then, IfSome}
use Rattle.std.proofs.lemmas.List.{length-map, get_or_default}
use Rattle.term_model.specs.Flat.{FlatValue, Meaning, all_flat}
use Rattle.term_model.specs.Flat as flat
use Rattle.term_model.specs.PrimNames.{NameKey}
use Rattle.term_model.specs.NameSet.{key_at}
use Rattle.term_model.specs.Space.{Space, Keeps}
use Rattle.term_model.specs.Term.{Tree, Trees, trees_of}
use Rattle.prim_registry.specs.Registered.{registered}
use Rattle.prim_registry.proofs.RegisteredLaws.{registered_call, registered_none}
use Rattle.core_lang.specs.declared.coordinate.Coordinate.{Coordinate}
use Rattle.core_lang.specs.Building.{with_front, instance, instances}
use Rattle.core_lang.specs.Ending.{built, arguments, answered}
use Rattle.core_lang.specs.Environment.{Bindings}
use Rattle.core_lang.specs.Program.{Pattern, Patterns}
use Rattle.core_lang.specs.Views.{patterns_in}
use Rattle.strat_code.specs.Code.{apply_primitive}
use Rattle.strat_steps.specs.State.{Frame, place_at, run_oversize}
use Rattle.strat_machine.specs.Stacks.{Performs, next_with, position_with}
use Rattle.strat_patterns.specs.Builds.{Builds, AreArguments, Puts}
use Rattle.strat_machine.specs.Tables.{IsPosition}
use Rattle.strat_patterns.specs.declared.building.Built.{Built}
use Rattle.strat_patterns.specs.declared.building.Built.TheVariants as built_forms
use Rattle.strat_patterns.specs.declared.building.Pushed.{Pushed}
use Rattle.strat_patterns.specs.declared.building.Pushed.TheVariants as pushed
use Rattle.strat_machine.specs.declared.stacks.Stacks.{Stacks}
use Rattle.strat_machine.specs.declared.stacks.Position.{Position}
use Rattle.strat_machine.specs.declared.stacks.Next.{Next}
use Rattle.strat_machine.specs.declared.stacks.Next.TheVariants.{Running, Failing, Oversize}
use Rattle.strat_steps.specs.References.{Places, trees, RefRecord, ref_running, ref_failing, ref_stopped}
use Rattle.strat_steps.specs.ReferenceSteps.{Does, answers, answers_none, answers_oversize}
use Rattle.term_model.proofs.SpaceLaws.{keeps_then}
use Rattle.strat_machine.proofs.StepLaws.{does_to}
use Rattle.strat_patterns.proofs.ElementLaws.{put_are}
use Rattle.strat_patterns.proofs.ReferenceLists.{trees_are}
use Rattle.strat_patterns.proofs.BuiltLaws.{build_is_ok, build_fails, build_is_large, arguments_are_ok, arguments_fail, arguments_are_large}
use Rattle.strat_machine.proofs.PatternLaws.{arguments_as}
use Rattle.strat_machine.proofs.ReferenceFlats.{as_many_flat}

-- a primitive that is not registered returns nothing, and one that is registered what it means
module _ (keys : List NameKey) (M : Meaning) (f : List ℕ) (ts : List Tree) (n : ℕ) (many : length ts ≡ n) where
  nothing_called : (Contains keys (f, n) → ⊥) → option_and_then (registered keys M f) (all_flat (trees_of ts)) ≡ None
  nothing_called none = by (all_flat (trees_of ts)) refl
    where
      by : (o : Option (List FlatValue)) → o ≡ all_flat (trees_of ts) → option_and_then (registered keys M f) o ≡ None
      by None is = refl
      by (Some vs) is = sym (registered_none keys M f vs n (sym (as_many_flat ts vs is ∙ many)) none)

  was_called : (i : ℕ) (v : Option FlatValue) → i < length keys → key_at keys i ≡ (f, n) →
      v ≡ option_and_then (M (key_at keys i).0) (all_flat (trees_of ts)) →
      v ≡ option_and_then (registered keys M f) (all_flat (trees_of ts))
  was_called i v within key is = by (all_flat (trees_of ts)) refl is
    where
      by : (o : Option (List FlatValue)) → o ≡ all_flat (trees_of ts) → v ≡ option_and_then (M (key_at keys i).0) o →
          v ≡ option_and_then (registered keys M f) o
      by None is call = call
      by (Some vs) is call = registered_call keys M f vs (key_at keys i) n v key (sym (as_many_flat ts vs is ∙ many))
          (i, within, get_or_default keys i (f, n) ([], 0) within ∙ key) call

-- the same, at a position
module _ {R : Type 0} (keys : List NameKey) (M : Meaning) (f : List ℕ) (term_of : R →
    Tree) (rs : List R) (at : Option ℕ) (position : IsPosition keys at (f, length rs)) where
  pub not_called : at ≡ None → option_map flat.term_of
      (option_and_then (registered keys M f) (all_flat (trees_of (map term_of rs)))) ≡ None
  not_called is = ap (option_map flat.term_of)
      (nothing_called keys M f (map term_of rs) (length rs) (length-map rs term_of)
      (subst (λ o. IsPosition keys o (f, length rs)) is position))

  pub calculated_at : (i : ℕ) (v : Option FlatValue) → at ≡ Some i →
      v ≡ option_and_then (M (key_at keys i).0) (all_flat (trees_of (map term_of rs))) →
      option_map flat.term_of v ≡
      option_map flat.term_of (option_and_then (registered keys M f) (all_flat (trees_of (map term_of rs))))
  calculated_at i v is call =
      let there = subst (λ o. IsPosition keys o (f, length rs)) is position in
      ap (option_map flat.term_of)
      (was_called keys M f (map term_of rs) (length rs) (length-map rs term_of) i v there.0 there.1 call)

  pub called_at : (i : ℕ) (v : Option FlatValue) (t : Tree) → at ≡ Some i →
      v ≡ option_and_then (M (key_at keys i).0) (all_flat (trees_of (map term_of rs))) →
      option_map flat.term_of v ≡ Some t →
      option_map flat.term_of (option_and_then (registered keys M f) (all_flat (trees_of (map term_of rs)))) ≡ Some t
  called_at i v t is call made = sym (calculated_at i v is call) ∙ made

-- as many references as patterns
as_many_instances : {R : Type 0} (f : R → Tree) (place : Coordinate →
    Option ℕ) (e : Bindings) (ps : List (Pattern Coordinate)) (rs : List R) →
    instances place (patterns_in ps) e ≡ Some (trees f rs) → length rs ≡ length ps
as_many_instances f place e [] [] is = refl
as_many_instances f place e [] (r ∷ rs) is = absurd (cc)
as_many_instances f place e (p ∷ ps) rs is =
    by (instance place p e) (instances place (patterns_in ps) e)
    rs is (λ us same. as_many_instances f place e ps us same)
  where
    by : (o : Option Tree) (os : Option Trees) (rs : List _) → with_front o os ≡ Some (trees f rs) →
        ((us : List _) → os ≡ Some (trees f us) → length us ≡ length ps) → length rs ≡ suc (length ps)
    by None os rs is rest = absurd (cc)
    by (Some t) None rs is rest = absurd (cc)
    by (Some t) (Some ts) [] is rest = absurd (cc)
    by (Some t) (Some ts) (r ∷ rs) is rest = let same : ts ≡ trees f rs = cc in
        ap (λ n. suc n) (rest rs (ap (λ us. Some us) same))

pub as_many_put : {W R Y N : Type 0} {X : Type 0} (S : Space W R Y N) (w : W) (place : Coordinate →
    Option ℕ) (e : Bindings) (meant : X →
    Pattern Coordinate) (ps : List X) (old new : List R) (made : Pushed) (from : ℕ) (rs : List R) →
    Puts S w old new (λ rs. AreArguments S.term_of w (instances place (patterns_in (map meant ps)) e) rs made) →
    made ≡ pushed.All → from ≡ length old → rs ≡ drop from new → length ps ≡ length rs
as_many_put S w place e meant ps old new made from rs put is at same =
    let are = put_are (arguments_as S w refl is put) from at in
    sym (ap length same ∙ (as_many_instances (S.term_of w) place e (map meant ps) (drop from new) are.0 ∙
    length-map ps meant))

pub takes_them : (keys : List NameKey) (at : Option ℕ) {m n : ℕ} → m ≡ n →
    IfSome at (λ k. (k < length keys) × ((key_at keys k).1 ≡ m)) →
    IfSome at (λ k. (k < length keys) × ((key_at keys k).1 ≡ n))
takes_them keys at is h = subst (λ n. IfSome at (λ k. (k < length keys) × ((key_at keys k).1 ≡ n))) is h

-- what a primitive is asked for
asked : {W R Y N : Type 0} (S : Space W R Y N) (w : W) (answer : List FlatValue →
    Option FlatValue) (o : Option Trees) (e : Bindings) (old new : List R) (from : ℕ) (rs : List R) →
    Puts S w old new (λ us. AreArguments S.term_of w o us pushed.All) → from ≡ length old → rs ≡ drop from new →
    answered answer (arguments o e) ≡
    built (option_map flat.term_of (option_and_then answer (all_flat (trees_of (map (S.term_of w) rs))))) e
asked S w answer o e old new from rs put at slice =
    ap (answered answer) (arguments_are_ok S.term_of w o e (drop from new) (put_are put from at)) ∙
    ap (λ us. built (option_map flat.term_of (option_and_then answer (all_flat us))) e)
    (trees_are (S.term_of w) (drop from new) ∙ ap (λ ys. trees_of (map (S.term_of w) ys)) (sym slice))

module _ {W R Y N : Type 0} {S : Space W R Y N} {M : Meaning} {w w1 : W}
    (n : ℕ) (f : List ℕ) {i b l : ℕ} (p : ℕ) (ps : Patterns Coordinate) (F : List Frame)
    {t : R} {e s : Places R} {T : List ℕ} {K : List (RefRecord R Y)} {made : Pushed} {old new : List R}
    (keeps : Keeps S w w1) (same : s ≡ e)
    (put_so : Puts S w1 old new
    (λ rs. AreArguments S.term_of w1 (instances (place_at F p) ps (map (option_map (S.term_of w)) s)) rs made))
  where
    pub answers_none_so : made ≡ pushed.NoInstance →
        Does S M w (apply_primitive n f ps) i p t e F T b K l w1 (ref_failing e F T b K l)
    answers_none_so is =
        let x = arguments_as S w1 (ap (λ x. instances (place_at F p) ps (map (option_map (S.term_of w)) x)) same)
        is put_so in
        answers_none keeps (ap (answered (M f))
        (arguments_fail S.term_of w1 (instances (place_at F p) ps (map (option_map (S.term_of w)) e))
        (map (option_map (S.term_of w)) e) x.put x.are))

    pub answers_large_so : made ≡ pushed.Oversize →
        Does S M w (apply_primitive n f ps) i p t e F T b K l w1 (ref_stopped run_oversize l)
    answers_large_so is =
        let x = arguments_as S w1 (ap (λ x. instances (place_at F p) ps (map (option_map (S.term_of w)) x)) same)
        is put_so in
        answers_oversize keeps (ap (answered (M f))
        (arguments_are_large S.term_of w1 (instances (place_at F p) ps (map (option_map (S.term_of w)) e))
        (map (option_map (S.term_of w)) e) x.put x.are))

    module _ (w2 : W) (from : ℕ) (rs : List R) (is : made ≡ pushed.All) (at : from ≡ length old)
        (slice : rs ≡ drop from new) (later : Keeps S w1 w2) where
      pub answers_so : {next u : _} →
          Builds S w2 (option_map flat.term_of (option_and_then (M f) (all_flat (trees_of (map (S.term_of w1) rs)))))
          (built_forms.Made u) → next ≡ suc i →
          Does S M w (apply_primitive n f ps) i p t e F T b K l w2 (ref_running next p u e F T b K l)
      answers_so {next} {u} h step =
          does_to (answers (keeps_then keeps later)
          h.0 (asked S w1 (M f) (instances (place_at F p) ps (map (option_map (S.term_of w)) e))
          (map (option_map (S.term_of w)) e) old new from rs
          (arguments_as S w1 (ap (λ x. instances (place_at F p) ps (map (option_map (S.term_of w)) x)) same) is put_so)
          at slice ∙ build_is_ok S w2
          (option_map flat.term_of (option_and_then (M f) (all_flat (trees_of (map (S.term_of w1) rs)))))
          (map (option_map (S.term_of w)) e) u h))
          (ap (λ a. ref_running a p u e F T b K l) (sym step))

      pub answers_nothing_so : Builds S w2
          (option_map flat.term_of (option_and_then (M f) (all_flat (trees_of (map (S.term_of w1) rs)))))
          built_forms.NoInstance →
          Does S M w (apply_primitive n f ps) i p t e F T b K l w2 (ref_failing e F T b K l)
      answers_nothing_so h = answers_none (keeps_then keeps later)
          (asked S w1 (M f) (instances (place_at F p) ps (map (option_map (S.term_of w)) e))
          (map (option_map (S.term_of w)) e) old new from rs
          (arguments_as S w1 (ap (λ x. instances (place_at F p) ps (map (option_map (S.term_of w)) x)) same) is put_so)
          at slice ∙ build_fails S w2
          (option_map flat.term_of (option_and_then (M f) (all_flat (trees_of (map (S.term_of w1) rs)))))
          (map (option_map (S.term_of w)) e) h)

      pub answers_too_large_so : Builds S w2
          (option_map flat.term_of (option_and_then (M f) (all_flat (trees_of (map (S.term_of w1) rs)))))
          built_forms.Oversize →
          Does S M w (apply_primitive n f ps) i p t e F T b K l w2 (ref_stopped run_oversize l)
      answers_too_large_so h = answers_oversize (keeps_then keeps later)
          (asked S w1 (M f) (instances (place_at F p) ps (map (option_map (S.term_of w)) e))
          (map (option_map (S.term_of w)) e) old new from rs
          (arguments_as S w1 (ap (λ x. instances (place_at F p) ps (map (option_map (S.term_of w)) x)) same) is put_so)
          at slice ∙ build_is_large S w2
          (option_map flat.term_of (option_and_then (M f) (all_flat (trees_of (map (S.term_of w1) rs)))))
          (map (option_map (S.term_of w)) e) h)

-- the run goes on with what was built
pub goes_on_so : {W R Y N : Type 0} (S : Space W R Y N) (M : Meaning) (w w2 : W) (v : _) (i : ℕ) (p q : Position R)
    (m : Stacks R Y) (o : Option Tree) (next : Next) (b : Built R) →
    next ≡ next_with b → q ≡ position_with p b → Builds S w2 o b →
    ((u : R) → Builds S w2 o (built_forms.Made u) → Performs S M v i p w m w2 Running (record p { term = u }) m) →
    (Builds S w2 o built_forms.NoInstance → Performs S M v i p w m w2 Failing p m) →
    (Builds S w2 o built_forms.Oversize → Performs S M v i p w m w2 Oversize p m) →
    Performs S M v i p w m w2 next q m
goes_on_so S M w w2 v i p q m o next b is at built one none large =
    subst (λ x. Performs S M v i p w m w2 x q m) (sym is)
    (subst (λ x. Performs S M v i p w m w2 (next_with b) x m) (sym at) (by b built))
  where
    by : (x : Built _) → Builds S w2 o x → Performs S M v i p w m w2 (next_with x) (position_with p x) m
    by (built_forms.Made u) h = one u h
    by built_forms.NoInstance h = none h
    by built_forms.Oversize h = large h
