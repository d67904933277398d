-- A derivation keeps the places and what they hold: it only gives terms to places that have none.
use Rattle.std.proofs.Common.{◌≡◌, ℕ, zero, suc, ◌+◌, Option, Some, None, List, [], ◌∷◌, length, take, ◌++◌, refl, sym, ◌∙◌, arith, subst, length-append, length-take}
use Rattle.std.specs.Prelude.{Bool, true, false}
use Rattle.term_model.specs.Term.{Tree, Trees, fits, all_fit}
use Rattle.core_lang.specs.Program.{Strategy}
use Rattle.core_lang.specs.Environment.{Environment, Bindings, Reading}
use Rattle.core_lang.specs.Matching.{Holds}
use Rattle.core_lang.specs.Building.{instance, instances}
use Rattle.term_model.specs.Flat.{Meaning, FlatValue, all_flat, term_of}
use Rattle.std.specs.Option.{option_map, option_and_then}
use Rattle.core_lang.specs.Ending.{Ending, ok, keeping, in_front, if_fits, built, with_parts, rebuilt, arguments, answered, stop}
use Rattle.core_lang.specs.Derivation.{Derives, by_id, by_fail, by_seq, by_seq_stop, by_choice_then, by_choice_else, by_choice_oversize, by_match, by_no_match, by_build, by_scope, by_all, by_one, by_some, by_definitions, by_call, by_call_stop, by_parameter, by_primitive, DerivesAll, all_end, all_next, all_stop, DerivesOne, one_end, one_found, one_stop, one_next, DerivesSome, some_end, some_none, some_found, some_stays, some_stop}
use Rattle.core_lang.specs.Extension.{Extends, ExtendsTo}

pub extends_same : (e : Bindings) → Extends e e
extends_same e = record { same_places = refl; keeps = λ i u h. h }

pub extends_trans : {e f g : Bindings} → Extends e f → Extends f g → Extends e g
extends_trans a b = record { same_places = b.same_places ∙ a.same_places; keeps = λ i u h. b.keeps i u (a.keeps i u h) }

-- through one more derivation
then_to : {e f : Bindings} (o : Ending Tree) → Extends e f → ExtendsTo f o → ExtendsTo e o
then_to (ok t g) a b = extends_trans a b
then_to (stop q) a b = tt

then_all_to : {e f : Bindings} (t : Tree) (r : Ending Trees) → Extends e f → ExtendsTo f r → ExtendsTo e (in_front t r)
then_all_to t (ok ts g) a b = extends_trans a b
then_all_to t (stop q) a b = tt

fits_to : {A : Type 0} {e f : Bindings} (b : Bool) (v : A) → Extends e f → ExtendsTo e (if_fits b v f)
fits_to true v a = a
fits_to false v a = tt

built_to : {e f : Bindings} (v : Option Tree) → Extends e f → ExtendsTo e (built v f)
built_to None a = tt
built_to (Some t) a = fits_to (fits t) t a

rebuilt_to : (e : Bindings) (t : Tree) (r : Ending Trees) → ExtendsTo e r → ExtendsTo e (rebuilt t r)
rebuilt_to e t (ok ts f) a = built_to (Some (with_parts t ts)) a
rebuilt_to e t (stop q) a = tt

all_fit_to : (e : Bindings) (b : Bool) (ts : Trees) (answer : List FlatValue → Option FlatValue) →
    ExtendsTo e (answered answer (if_fits b ts e))
all_fit_to e true ts answer = built_to (option_map term_of (option_and_then answer (all_flat ts))) (extends_same e)
all_fit_to e false ts answer = tt

answered_to : (e : Bindings) (vs : Option Trees) (answer : List FlatValue → Option FlatValue) →
    ExtendsTo e (answered answer (arguments vs e))
answered_to e None answer = tt
answered_to e (Some ts) answer = all_fit_to e (all_fit ts) ts answer

-- what is held below the length is held by as many places
held_below : (e f : Bindings) (i : ℕ) (u : Tree) → Holds e i u → Holds f i u → Holds (take (length e) f) i u
held_below [] f i u h k = cc
held_below (v ∷ e) [] i u h k = cc
held_below (v ∷ e) (w ∷ f) zero u h k = k
held_below (v ∷ e) (w ∷ f) (suc i) u h k = held_below e f i u h k

held_in_front : (e g : Bindings) (i : ℕ) (u : Tree) → Holds e i u → Holds (e ++ g) i u
held_in_front [] g i u h = cc
held_in_front (v ∷ e) g zero u h = h
held_in_front (v ∷ e) g (suc i) u h = held_in_front e g i u h

-- new places are dropped again
dropped_to : (e g : Bindings) (o : Ending Tree) → ExtendsTo (e ++ g) o → ExtendsTo e (keeping (length e) o)
dropped_to e g (ok t f) a =
    let long : length f ≡ length e + length g = a.same_places ∙ length-append e g in
    record {
      same_places = simp length-take (omega arith);
      keeps = λ i u h. held_below e f i u h (a.keeps i u (held_in_front e g i u h));
    }
dropped_to e g (stop q) a = tt

module _ {X B : Type 0} {R : Reading X B} {M : Meaning} where
  mutual
    -- an ok derivation keeps the places, and what they hold
    pub extends_to : {V : Environment X B} {s : Strategy X B} {t : Tree} {e : Bindings} {o : Ending Tree} {n : ℕ} →
        Derives R M V s t e o n → ExtendsTo e o
    extends_to {e = e} by_id = extends_same e
    extends_to by_fail = tt
    extends_to {o = o} (by_seq x y h) = then_to o (extends_to x) (extends_to y)
    extends_to (by_seq_stop x h) = tt
    extends_to {o = o} (by_choice_then x y h) = then_to o (extends_to x) (extends_to y)
    extends_to (by_choice_else x y h) = extends_to y
    extends_to (by_choice_oversize x h) = tt
    extends_to (by_match m) = record { same_places = m.same_places; keeps = m.keeps }
    extends_to (by_no_match m) = tt
    extends_to {V = V} {e = e} (by_build {p = p} h) =
        subst (λ o. ExtendsTo e o) (sym h) (built_to (instance (R.place_of V) p e) (extends_same e))
    extends_to {e = e} (by_scope {o1 = p} x h k) = subst (λ o. ExtendsTo e o) (sym h) (dropped_to e _ p (extends_to x))
    extends_to {t = t} {e = e} (by_all {r = r} x h k) =
        subst (λ o. ExtendsTo e o) (sym h) (rebuilt_to e t r (all_extend_to x))
    extends_to {t = t} {e = e} (by_one {r = r} x h k) =
        subst (λ o. ExtendsTo e o) (sym h) (rebuilt_to e t r (one_extends_to x))
    extends_to {t = t} {e = e} (by_some {r = r} x h k) =
        subst (λ o. ExtendsTo e o) (sym h) (rebuilt_to e t r (some_extend_to x))
    extends_to (by_definitions x h) = extends_to x
    extends_to {e = e} (by_call {o1 = p} f us x h k) =
        subst (λ o. ExtendsTo e o) (sym h) (dropped_to e _ p (extends_to x))
    extends_to (by_call_stop f us) = tt
    extends_to (by_parameter f x h) = extends_to x
    extends_to {V = V} {e = e} (by_primitive {f = g} {ps = ps} h) =
        subst (λ o. ExtendsTo e o) (sym h) (answered_to e (instances (R.place_of V) ps e) (M g))

    pub all_extend_to : {V : Environment X B} {s : Strategy X B} {ts : Trees} {e : Bindings} {r : Ending Trees}
        {n : ℕ} → DerivesAll R M V s ts e r n → ExtendsTo e r
    all_extend_to {e = e} all_end = extends_same e
    all_extend_to {e = e} (all_next {t1 = u} {r1 = q} x y h k) =
        subst (λ r. ExtendsTo e r) (sym h) (then_all_to u q (extends_to x) (all_extend_to y))
    all_extend_to (all_stop x) = tt

    pub one_extends_to : {V : Environment X B} {s : Strategy X B} {ts : Trees} {e : Bindings} {r : Ending Trees}
        {n : ℕ} → DerivesOne R M V s ts e r n → ExtendsTo e r
    one_extends_to one_end = tt
    one_extends_to (one_found x) = extends_to x
    one_extends_to (one_stop x) = tt
    one_extends_to {e = e} (one_next {t = t} {r1 = q} x y h k) =
        subst (λ r. ExtendsTo e r) (sym h) (then_all_to t q (extends_same e) (one_extends_to y))

    pub some_extend_to : {V : Environment X B} {s : Strategy X B} {ts : Trees} {e : Bindings} {found : Bool}
        {r : Ending Trees} {n : ℕ} → DerivesSome R M V s ts e found r n → ExtendsTo e r
    some_extend_to {e = e} some_end = extends_same e
    some_extend_to some_none = tt
    some_extend_to {e = e} (some_found {t1 = u} {r1 = q} x y h k) =
        subst (λ r. ExtendsTo e r) (sym h) (then_all_to u q (extends_to x) (some_extend_to y))
    some_extend_to {e = e} (some_stays {t = t} {r1 = q} x y h k) =
        subst (λ r. ExtendsTo e r) (sym h) (then_all_to t q (extends_same e) (some_extend_to y))
    some_extend_to (some_stop x) = tt

  pub extends : {V : Environment X B} {s : Strategy X B} {t u : Tree} {e f : Bindings} {n : ℕ} →
      Derives R M V s t e (ok u f) n → Extends e f
  extends x = extends_to x
