-- What putting a term at a place gives, by what is at the place.
use Rattle.std.proofs.Common.{◌≡◌, ℕ, zero, suc, ◌<◌, ◌≤◌, Option, Some, None, [], ◌∷◌, length, get_or, sym, ◌∙◌, ap, arith, subst, refl}
use Rattle.std.specs.Prelude.{Bool, true, false, if◌then◌else◌, slice_set}
use Rattle.std.specs.Option.{option_map}
use Rattle.term_model.specs.Term.{Tree}
use Rattle.term_model.specs.Same.{same}
use Rattle.core_lang.specs.Environment.{Bindings}
use Rattle.core_lang.specs.Tried.{put}

pub put_past : (i : ℕ) (t : Tree) (e : Bindings) → length e ≤ i → put i t e ≡ None
put_past zero t [] h = refl
put_past (suc i) t [] h = refl
put_past zero t (v ∷ e) h = absurd (omega arith)
put_past (suc i) t (v ∷ e) h = ap (λ o. option_map (λ f. v ∷ f) o) (put_past i t e (omega arith))

in_front : (v : Option Tree) (b : Bool) (e : Bindings) →
    option_map (λ f. v ∷ f) (if b then Some e else None) ≡ if b then Some (v ∷ e) else None
in_front v true e = refl
in_front v false e = refl

pub put_held : (i : ℕ) (t u : Tree) (e : Bindings) (v : Option Tree) → i < length e → v ≡ get_or e i v → v ≡ Some u →
    put i t e ≡ if same u t then Some e else None
put_held i t u [] v h is at = absurd (omega arith)
put_held zero t u (w ∷ e) v h is at =
    let first : Some u ≡ w = sym at ∙ is in
    subst (λ z. put zero t (z ∷ e) ≡ (if same u t then Some (z ∷ e) else None)) first refl
put_held (suc i) t u (w ∷ e) v h is at = ap (λ o. option_map (λ f. w ∷ f) o) (put_held i t u e v (omega arith) is at) ∙
    in_front w (same u t) e

pub put_free : (i : ℕ) (t : Tree) (e : Bindings) (v : Option Tree) → i < length e → v ≡ get_or e i v → v ≡ None →
    put i t e ≡ Some (slice_set e i (Some t))
put_free i t [] v h is at = absurd (omega arith)
put_free zero t (w ∷ e) v h is at =
    let first : None ≡ w = sym at ∙ is in subst (λ z. put zero t (z ∷ e) ≡ Some (Some t ∷ e)) first refl
put_free (suc i) t (w ∷ e) v h is at = ap (λ o. option_map (λ f. w ∷ f) o) (put_free i t e v (omega arith) is at)
