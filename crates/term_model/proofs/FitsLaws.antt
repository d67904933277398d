-- Laws of terms that fit, and of making them.
use Rattle.std.proofs.Common.{◌≡◌, ◌≤◌, List, [], ◌∷◌, ◌++◌, refl, sym, ◌∙◌, ap, arith}
use Rattle.std.specs.Prelude.{Bool, true, false, ◌&&◌, nat_le, if◌then◌else◌}
use Rattle.std.proofs.lemmas.Bool.{le-leb, leb-true, and_parts, false_from_ne_true}
use Rattle.term_model.specs.declared.term.Head.{Head}
use Rattle.term_model.specs.declared.made.Made.TheVariants as made
use Rattle.term_model.specs.Limits.{max_weight, max_depth}
use Rattle.term_model.specs.Term.{Tree, node, Trees, end, more, trees_of, weight, weights, depth, depths, fits, Fits, all_fit, made_of}
use Rattle.term_model.specs.TermParts.{parts_of, annos_of}
use Rattle.term_model.proofs.TermLemmas.{trees_of-list_of}

-- the test decides whether a term fits
pub fits-sound : (t : Tree) → fits t ≡ true → Fits t
fits-sound t e =
    let two : (nat_le (weight t) max_weight ≡ true) × (nat_le (depth t) max_depth ≡ true) = and_parts _ _ e in
    record { weight = leb-true _ _ two.0; depth = leb-true _ _ two.1 }

pub fits-complete : (t : Tree) → Fits t → fits t ≡ true
fits-complete t f =
    let light : nat_le (weight t) max_weight ≡ true = le-leb _ _ f.weight in
    let flat : nat_le (depth t) max_depth ≡ true = le-leb _ _ f.depth in
    rw (light, flat) refl

-- terms that are light and flat together fit each
pub all_fit_together : (ts : Trees) → weights ts ≤ max_weight → depths ts ≤ max_depth → all_fit ts ≡ true
all_fit_together end w d = refl
all_fit_together (more t ts) w d =
    let first : fits t ≡ true = fits-complete t (record { weight = omega arith; depth = omega arith }) in
    let others : all_fit ts ≡ true = all_fit_together ts (omega arith) (omega arith) in
    rw (first, others) refl

-- the parts of a term that fits, and its annotations, fit each
pub parts_fit : (t : Tree) → Fits t → all_fit (trees_of (parts_of t)) ≡ true
parts_fit (node h ts annos) f =
    let w = f.weight in
    let d = f.depth in
    ap all_fit (trees_of-list_of ts) ∙ all_fit_together ts (omega arith) (omega arith)

pub annos_fit : (t : Tree) → Fits t → all_fit (trees_of (annos_of t)) ≡ true
annos_fit (node h ts annos) f =
    let w = f.weight in
    let d = f.depth in
    ap all_fit (trees_of-list_of annos) ∙ all_fit_together annos (omega arith) (omega arith)

module _ (h : Head) (ts annos : Trees) where
  -- a part that does not fit makes the whole not fit
  pub large_part : all_fit ts ≡ false → fits (node h ts annos) ≡ false
  large_part e = false_from_ne_true (fits (node h ts annos)) (λ k. let all =
      sym (ap all_fit (trees_of-list_of ts)) ∙ parts_fit (node h ts annos) (fits-sound (node h ts annos) k) in cc)

  -- an annotation that does not fit does so, too
  pub large_annotation : all_fit annos ≡ false → fits (node h ts annos) ≡ false
  large_annotation e = false_from_ne_true (fits (node h ts annos)) (λ k. let all =
      sym (ap all_fit (trees_of-list_of annos)) ∙ annos_fit (node h ts annos) (fits-sound (node h ts annos) k) in cc)

  -- annotations make no term smaller
  pub bare_fits : fits (node h ts annos) ≡ true → fits (node h ts end) ≡ true
  bare_fits e =
      let f = fits-sound (node h ts annos) e in
      let w = f.weight in
      let d = f.depth in
      fits-complete (node h ts end) (record { weight = omega arith; depth = omega arith })

  pub bare_large : fits (node h ts end) ≡ false → fits (node h ts annos) ≡ false
  bare_large e = false_from_ne_true (fits (node h ts annos)) (λ k. let small = bare_fits k in cc)

-- terms and one more fit each where the terms do and this one does
pub all_fit-last : (ts : List Tree) (t : Tree) → all_fit (trees_of (ts ++ t ∷ [])) ≡ (all_fit (trees_of ts) && fits t)
all_fit-last [] t = go (fits t)
  where
    go : (b : Bool) → (b && true) ≡ b
    go true = refl
    go false = refl
all_fit-last (u ∷ us) t = go (fits u) (all_fit-last us t)
  where
    go : (b : Bool) → all_fit (trees_of (us ++ t ∷ [])) ≡ (all_fit (trees_of us) && fits t) →
        (b && all_fit (trees_of (us ++ t ∷ []))) ≡ ((b && all_fit (trees_of us)) && fits t)
    go true e = e
    go false e = refl

-- making a term that fits, and one that does not
pub made_fits : (t : Tree) → fits t ≡ true → made_of t ≡ made.Fits t
made_fits t e = ap (λ b. if b then made.Fits t else made.Oversize) e

pub made_large : (t : Tree) → fits t ≡ false → made_of t ≡ made.Oversize
made_large t e = ap (λ b. if b then made.Fits t else made.Oversize) e

-- what was made tells whether the term fits, and is the term
pub made_is : (t u : Tree) → made_of t ≡ made.Fits u → (u ≡ t) × (fits t ≡ true)
made_is t u e = by_test (fits t) e
  where
    by_test : (b : Bool) → (if b then made.Fits t else made.Oversize) ≡ made.Fits u → (u ≡ t) × (b ≡ true)
    by_test true e = (cc, refl)
    by_test false e = absurd (cc)

pub large_when : (t : Tree) → made_of t ≡ made.Oversize → fits t ≡ false
large_when t e = by_test (fits t) e
  where
    by_test : (b : Bool) → (if b then made.Fits t else made.Oversize) ≡ made.Oversize → b ≡ false
    by_test true e = absurd (cc)
    by_test false e = refl
