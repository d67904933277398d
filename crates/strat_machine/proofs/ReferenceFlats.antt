-- References as flat values.
use Rattle.std.proofs.Common.{◌≡◌, ◌<◌, ℕ, ℤ, suc, Option, Some, None, List, [], ◌∷◌, ◌++◌, length, get_or, map, refl, sym, ◌∙◌, ap, arith}
use Rattle.std.specs.Prelude.{IsTrue}
use Rattle.std.proofs.lemmas.List.{get_or-map, length-map, map-append}
use Rattle.term_model.specs.declared.term.Head.TheVariants as heads
use Rattle.term_model.specs.Flat.{FlatValue, integer_of, flat_of, with_flat, all_flat}
use Rattle.term_model.specs.Space.{Space, Keeps}
use Rattle.term_model.specs.Term.{Tree, node, trees_of}
use Rattle.term_model.specs.TermParts.{head_of}
use Rattle.strat_steps.specs.References.{AllRefs}

-- the term of a reference among others
module _ {R : Type 0} (f : R → Tree) (rs : List R) (i : ℕ) where
  pub map_below : i < length rs → i < length (map f rs)
  map_below h = omega (arith, length-map rs f)

  pub map_read : (r : R) → i < length rs → r ≡ get_or rs i r → f r ≡ get_or (map f rs) i (f r)
  map_read r h is = ap f is ∙ sym (get_or-map f rs i r (f r) h)

-- integers
pub integer_at : (t : Tree) (z : ℤ) → head_of t ≡ heads.Int z → integer_of t ≡ Some z
integer_at (node h ts annos) z is = ap (λ g. integer_of (node g ts annos)) is

pub no_integer : (t : Tree) → ((z : ℤ) → head_of t ≡ heads.Int z → ⊥) → integer_of t ≡ None
no_integer (node (heads.Int z) ts annos) none = absurd (none z refl)
no_integer (node (heads.App f) ts annos) none = refl
no_integer (node heads.List ts annos) none = refl

-- as many flat values as terms
pub as_many_flat : (ts : List Tree) (vs : List FlatValue) → Some vs ≡ all_flat (trees_of ts) → length vs ≡ length ts
as_many_flat [] vs is = let same : vs ≡ [] = cc in ap length same
as_many_flat (t ∷ ts) vs is = by (flat_of t) (all_flat (trees_of ts)) vs is (λ us same. as_many_flat ts us same)
  where
    by : (o : Option FlatValue) (all : Option (List FlatValue)) (vs : List FlatValue) → Some vs ≡ with_flat o all →
        ((us : List FlatValue) → Some us ≡ all → length us ≡ length ts) → length vs ≡ suc (length ts)
    by None all vs is rest = absurd (cc)
    by (Some v) None vs is rest = absurd (cc)
    by (Some v) (Some us) vs is rest = let same : vs ≡ v ∷ us = cc in ap length same ∙ ap (λ n. suc n) (rest us refl)

-- references as a space grows
module _ {W R Y N : Type 0} {S : Space W R Y N} {w w1 : W} (keeps : Keeps S w w1) where
  pub standing_later : (rs : List R) → AllRefs (λ r. IsTrue (S.stands w r)) rs →
      AllRefs (λ r. IsTrue (S.stands w1 r)) rs
  standing_later [] h = tt
  standing_later (r ∷ rs) h = (keeps.standing r h.0, standing_later rs h.1)

  pub terms_later : (rs : List R) → AllRefs (λ r. IsTrue (S.stands w r)) rs →
      map (S.term_of w1) rs ≡ map (S.term_of w) rs
  terms_later [] h = refl
  terms_later (r ∷ rs) h = ap (λ t. t ∷ map (S.term_of w1) rs) (keeps.terms r h.0) ∙
      ap (λ ts. S.term_of w r ∷ ts) (terms_later rs h.1)

pub terms_push : {R : Type 0} (f : R → Tree) (rs new : List R) (r : R) → new ≡ rs ++ r ∷ [] →
    map f new ≡ map f rs ++ f r ∷ []
terms_push f rs new r is = ap (map f) is ∙ map-append f rs (r ∷ [])
