-- What building over references makes.
use Rattle.std.proofs.Common.{◌≡◌, ℕ, zero, suc, ◌-◌, arith, Option, Some, None, List, [], ◌∷◌, ◌++◌, length, map, drop, take, refl, sym, ◌∙◌, ap, subst}
use Rattle.std.specs.Prelude.{true, false, IsTrue, MatchOption, is_some, slice_get}
use Rattle.std.specs.Borrow.{Bor}
use Rattle.std.specs.Option.{option_map}
use Rattle.std.proofs.lemmas.Option.{slice_get-map}
use Rattle.std.proofs.lemmas.List.{length-drop}
use Rattle.std.proofs.Math.Seq.{take-length}
use Rattle.std.proofs.lemmas.Bool.{false_from_ne_true}
use Rattle.core_lang.specs.Building.{value_in, value_at, with_front, made_like, made_with, applied_to, list_term, elements_of}
use Rattle.core_lang.proofs.ElementLaws.{with_none}
use Rattle.term_model.specs.declared.term.Head.TheVariants as heads
use Rattle.term_model.specs.declared.made.Made.{Made}
use Rattle.term_model.specs.declared.made.Made.TheVariants as made
use Rattle.term_model.specs.Symbol.{Symbol}
use Rattle.term_model.specs.Space.{Space, Makes}
use Rattle.term_model.specs.Term.{Tree, node, Trees, end, more, term, list_of, trees_of, fits, Fits, all_fit}
use Rattle.term_model.specs.TermParts.{head_of, parts_of, annos_of}
use Rattle.term_model.proofs.FitsLaws.{fits-complete, fits-sound, large_part, large_annotation, bare_fits, bare_large}
use Rattle.term_model.proofs.TermLemmas.{trees_of-list_of}
use Rattle.strat_patterns.specs.Builds.{held, held_in, IsBare, made_built, large_with, in_front, Builds, AreBuilt, AreElements}
use Rattle.strat_patterns.specs.declared.building.Built.{Built}
use Rattle.strat_patterns.specs.declared.building.Built.TheVariants as built
use Rattle.strat_patterns.specs.declared.building.Pushed.{Pushed}
use Rattle.strat_patterns.specs.declared.building.Pushed.TheVariants as pushed
use Rattle.strat_patterns.specs.declared.building.Elements.{Elements}
use Rattle.strat_patterns.specs.declared.building.Elements.TheVariants as elements
use Rattle.strat_steps.specs.References.{Places, AllPlaces}

-- what a variable has
value_held : {R : Type 0} (f : R → Tree) (v : Option (Option R)) →
    value_at (option_map (option_map f) v) ≡ option_map f (held v)
value_held f None = refl
value_held f (Some v) = refl

value_is : {R : Type 0} (f : R → Tree) (o : Option ℕ) (e : Places R) →
    value_in o (map (option_map f) e) ≡ option_map f (held_in o e)
value_is f None e = refl
value_is f (Some i) e = ap value_at (slice_get-map (option_map f) e i) ∙ value_held f (slice_get e i)

place_stands : {R : Type 0} (P : R → Type 0) (e : Places R) (i : ℕ) (r : R) → AllPlaces P e →
    held (slice_get e i) ≡ Some r → P r
place_stands P [] i r h is = absurd (cc)
place_stands P (None ∷ e) zero r h is = absurd (cc)
place_stands P (Some u ∷ e) zero r h is = let q : u ≡ r = cc in subst P q h.0
place_stands P (None ∷ e) (suc i) r h is = place_stands P e i r h is
place_stands P (Some u ∷ e) (suc i) r h is = place_stands P e i r h.1 is

held_stands_in : {R : Type 0} (P : R → Type 0) (e : Places R) (o : Option ℕ) (r : R) → AllPlaces P e →
    held_in o e ≡ Some r → P r
held_stands_in P e None r h is = absurd (cc)
held_stands_in P e (Some i) r h is = place_stands P e i r h is

pub value_known : {W R Y N : Type 0} (S : Space W R Y N) (w : W) (o : Option ℕ) (e : Places R) (v : Option (Bor R)) →
    AllPlaces (λ r. IsTrue (S.stands w r)) e → MatchOption v (held_in o e ≡ None) (λ r. held_in o e ≡ Some r.now) →
    MatchOption v (value_in o (map (option_map (S.term_of w)) e) ≡ None) (λ r. IsTrue (S.stands w r.now) ×
    (value_in o (map (option_map (S.term_of w)) e) ≡ Some (S.term_of w r.now)))
value_known S w o e None h is = value_is (S.term_of w) o e ∙ ap (option_map (S.term_of w)) is
value_known S w o e (Some r) h is = (
  held_stands_in (λ u. IsTrue (S.stands w u)) e o r.now h is,
  value_is (S.term_of w) o e ∙
      ap (option_map (S.term_of w)) is,
)

pub some_held : {R : Type 0} (P : R → Type 0) (f : R → Tree) (o : Option Tree) (v : Option (Bor R)) →
    MatchOption v (o ≡ None) (λ r. P r.now × (o ≡ Some (f r.now))) → is_some v ≡ true → (t : Tree) × (o ≡ Some t)
some_held P f o None h is = absurd (cc)
some_held P f o (Some r) h is = (f r.now, h.1)

-- what was made is built
pub outcome_is : {W R Y N : Type 0} (S : Space W R Y N) (w : W) (o : Option Tree) (t : Tree) (m : Made R)
    (v : Built R) → Makes S w t m → o ≡ Some t → v ≡ made_built m → Builds S w o v
outcome_is S w o t m v h is same = subst (λ x. Builds S w o x) (sym same) (by_made m h)
  where
    by_made : (m : Made _) → Makes S w t m → Builds S w o (made_built m)
    by_made (made.Fits r) h = (
      h.0,
      is ∙
          ap (λ u. Some u) (sym h.1),
      subst (λ u. fits u ≡ true) (sym h.1) (fits-complete t h.2),
    )
    by_made made.Oversize h = (t, is, false_from_ne_true (fits t) (λ e. h (fits-sound t e)))

-- a slice to the end
slice_end : {X : Type 0} (n : ℕ) (xs : List X) → take (length xs - n) (drop n xs) ≡ drop n xs
slice_end n xs = ap (λ k. take k (drop n xs)) (sym (length-drop n xs)) ∙ take-length (drop n xs)

pub slice_is : {X : Type 0} (n : ℕ) (xs ys : List X) → xs ≡ ys → take (length xs - n) (drop n xs) ≡ drop n ys
slice_is n xs ys is = slice_end n xs ∙ ap (drop n) is

-- what has no annotations
no_annos : (xs : Trees) → list_of xs ≡ [] → xs ≡ end
no_annos end is = refl
no_annos (more x xs) is = absurd (cc)

pub bare_same : (t u : Tree) → length (annos_of t) ≡ 0 → u ≡ t → u ≡ term (head_of t) (parts_of t) []
bare_same (node h ts xs) u none is =
    is ∙ (ap (λ k. node h ts k) (no_annos xs (empty (list_of xs) none)) ∙
    ap (λ k. node h k end) (sym (trees_of-list_of ts)))
  where
    empty : (xs : List Tree) → length xs ≡ 0 → xs ≡ []
    empty [] h = refl
    empty (x ∷ xs) h = absurd (omega arith)

pub bare_fits_too : (t : Tree) → Fits t → Fits (term (head_of t) (parts_of t) [])
bare_fits_too (node h ts xs) f =
    subst (λ k. Fits (node h k end)) (sym (trees_of-list_of ts))
    (fits-sound (node h ts end) (bare_fits h ts xs (fits-complete (node h ts xs) f)))

with_nothing : (t : Tree) → annos_of t ≡ [] → made_with (Some t) (Some end) ≡ Some t
with_nothing (node h ts xs) bare = ap (λ k. Some (node h ts k)) (sym (no_annos xs bare))

-- what was made like a term is built
pub like_is : {W R Y N : Type 0} (S : Space W R Y N) (w w1 : W) (o : Option Tree) (v : Tree) (r : R) (m : Made R)
    (b : Built R) → o ≡ Some (S.term_of w r) →
    Makes S w1 (term (head_of (S.term_of w r)) (parts_of (S.term_of w r)) (annos_of v)) m → b ≡ made_built m →
    Builds S w1 (made_like o (Some v)) b
like_is S w w1 o v r m b is made same =
    outcome_is S w1 (made_like o (Some v)) (term (head_of (S.term_of w r)) (parts_of (S.term_of w r)) (annos_of v))
    m b made (ap (λ x. made_like x (Some v)) is ∙ one_like (S.term_of w r) v) same
  where
    one_like : (t u : Tree) → made_like (Some t) (Some u) ≡ Some (term (head_of t) (parts_of t) (annos_of u))
    one_like (node h ts xs) (node k us ys) = ap Some
        (ap (λ zs. node h zs ys) (sym (trees_of-list_of ts)) ∙
        ap (λ zs. node h (trees_of (list_of ts)) zs) (sym (trees_of-list_of ys)))

-- what does not fit without annotations does not fit with those of a term
pub large_like : {W R Y N : Type 0} (S : Space W R Y N) (w w1 : W) (o : Option Tree) (v : Tree) → IsBare o →
    Builds S w o built.Oversize → Builds S w1 (made_like o (Some v)) built.Oversize
large_like S w w1 (Some (node h ts xs)) (node k us ys) bare (t, is, large) =
    let same : t ≡ node h ts xs = cc in (
      node h ts ys,
      refl,
      bare_large h ts ys
          (subst (λ k. fits (node h ts k) ≡ false) (no_annos xs bare) (subst (λ u. fits u ≡ false) same large)),
    )
large_like S w w1 None v bare (t, is, large) = absurd (cc)

large_with_any : (t : Tree) (us : Trees) → annos_of t ≡ [] → fits t ≡ false → (u : Tree) ×
    (made_with (Some t) (Some us) ≡ Some u) × (fits u ≡ false)
large_with_any (node h ts xs) us bare large =
    (node h ts us, refl, bare_large h ts us (subst (λ k. fits (node h ts k) ≡ false) (no_annos xs bare) large))

-- annotations in the place of others
with_is : (t : Tree) (us : List Tree) →
    made_with (Some t) (Some (trees_of us)) ≡ Some (term (head_of t) (parts_of t) us)
with_is (node h ts xs) us = ap (λ k. Some (node h k (trees_of us))) (sym (trees_of-list_of ts))

large_with_these : (t : Tree) (us : Trees) → all_fit us ≡ false → (u : Tree) × (made_with (Some t) (Some us) ≡ Some u) ×
    (fits u ≡ false)
large_with_these (node h ts xs) us large = (node h ts us, refl, large_annotation h ts us large)

-- symbols applied to instances, and lists of them
pub front_end : (ts : List Tree) → in_front ts (Some end) ≡ Some (trees_of ts)
front_end [] = refl
front_end (t ∷ ts) = ap (λ o. with_front (Some t) o) (front_end ts)

module _ {W R Y N : Type 0} (S : Space W R Y N) (w w1 : W) (all : Option Trees →
    Option Trees) (rs : List R) (p : Pushed) (built_so : AreBuilt S.term_of w all rs p) where
  -- a term that is given annotations
  pub given_none : (t : Tree) → p ≡ pushed.NoInstance →
      Builds S w1 (made_with (Some t) (all (Some end))) built.NoInstance
  given_none t is = let none = subst (λ x. AreBuilt S.term_of w all rs x) is built_so in
      ap (made_with (Some t)) (none (Some end))

  pub given_large : (t : Tree) → p ≡ pushed.Oversize → Builds S w1 (made_with (Some t) (all (Some end))) built.Oversize
  given_large t is =
      let large = subst (λ x. AreBuilt S.term_of w all rs x) is built_so in
      let whole = large_with_these t (trees_of large.0) large.2 in
      (whole.0, ap (made_with (Some t)) (large.1 (Some end) ∙ front_end large.0) ∙ whole.1, whole.2)

  pub given_all : (t : Tree) (m : Made R) (v : Built R) → p ≡ pushed.All →
      Makes S w1 (term (head_of t) (parts_of t) (map (S.term_of w) rs)) m → v ≡ made_built m →
      Builds S w1 (made_with (Some t) (all (Some end))) v
  given_all t m v is k at =
      let fit = subst (λ x. AreBuilt S.term_of w all rs x) is built_so in
      outcome_is S w1 (made_with (Some t) (all (Some end))) (term (head_of t) (parts_of t) (map (S.term_of w) rs)) m v k
      (ap (made_with (Some t)) (fit.0 (Some end) ∙ front_end (map (S.term_of w) rs)) ∙
      with_is t (map (S.term_of w) rs)) at

  -- what was built without annotations
  module _ (o : Option Tree) (bare : IsBare o) (b : Built R) (made : Builds S w o b) where
    pub none_given : b ≡ built.NoInstance → Builds S w1 (made_with o (all (Some end))) built.NoInstance
    none_given is = ap (λ x. made_with x (all (Some end))) (subst (λ x. Builds S w o x) is made)

    pub large_given : (v : Built R) → b ≡ built.Oversize → v ≡ large_with p →
        Builds S w1 (made_with o (all (Some end))) v
    large_given v is at = subst (λ x. Builds S w1 (made_with o (all (Some end))) x) (sym at) (by_annos p built_so)
      where
        large : Builds S w o built.Oversize
        large = subst (λ x. Builds S w o x) is made

        with_these : (us : List Tree) → all (Some end) ≡ in_front us (Some end) →
            Builds S w1 (made_with o (all (Some end))) built.Oversize
        with_these us are =
            let whole = large_with_any large.0 (trees_of us) (subst IsBare large.1 bare) large.2 in (
              whole.0,
              ap (λ x. made_with x (all (Some end))) large.1 ∙
                  (ap (made_with (Some large.0)) (are ∙ front_end us) ∙ whole.1),
              whole.2,
            )

        by_annos : (p : Pushed) → AreBuilt S.term_of w all rs p →
            Builds S w1 (made_with o (all (Some end))) (large_with p)
        by_annos pushed.All h = with_these (map (S.term_of w) rs) (h.0 (Some end))
        by_annos pushed.NoInstance h = ap (made_with o) (h (Some end)) ∙ with_none o
        by_annos pushed.Oversize h = with_these h.0 (h.1 (Some end))

    pub nothing_given : (r : R) → b ≡ built.Made r → p ≡ pushed.All → length rs ≡ 0 →
        Builds S w (made_with o (all (Some end))) (built.Made r)
    nothing_given r is every few =
        let one = subst (λ x. Builds S w o x) is made in
        let fit = subst (λ x. AreBuilt S.term_of w all rs x) every built_so in (
          one.0,
          ap (λ x. made_with x (all (Some end))) one.1 ∙
              (ap (made_with (Some (S.term_of w r))) (fit.0 (Some end) ∙ nothing rs few) ∙
              with_nothing (S.term_of w r) (subst IsBare one.1 bare)),
          one.2,
        )
      where
        nothing : (rs : List R) → length rs ≡ 0 → in_front (map (S.term_of w) rs) (Some end) ≡ Some end
        nothing [] h = refl
        nothing (x ∷ xs) h = absurd (omega arith)

    pub one_given : (r : R) (v : Built R) → b ≡ built.Made r →
        Builds S w1 (made_with (Some (S.term_of w r)) (all (Some end))) v → Builds S w1 (made_with o (all (Some end))) v
    one_given r v is k =
        let one = subst (λ x. Builds S w o x) is made in
        subst (λ x. Builds S w1 (made_with x (all (Some end))) v) (sym one.1) k

module _ {W R Y N : Type 0} (S : Space W R Y N) (w w1 : W) (all : Option Trees →
    Option Trees) (rs : List R) (p : Pushed) (s : Symbol) where
  pub apply_none : p ≡ pushed.NoInstance → AreBuilt S.term_of w all rs p →
      Builds S w1 (applied_to (all (Some end)) s) built.NoInstance
  apply_none is h = let none = subst (λ x. AreBuilt S.term_of w all rs x) is h in
      ap (λ o. applied_to o s) (none (Some end))

  pub apply_large : p ≡ pushed.Oversize → AreBuilt S.term_of w all rs p →
      Builds S w1 (applied_to (all (Some end)) s) built.Oversize
  apply_large is h =
      let large = subst (λ x. AreBuilt S.term_of w all rs x) is h in (
        node (heads.App s) (trees_of large.0) end,
        ap (λ o. applied_to o s) (large.1 (Some end) ∙ front_end large.0),
        large_part (heads.App s) (trees_of large.0) end large.2,
      )

  pub apply_all : (xs : List R) (m : Made R) (v : Built R) → p ≡ pushed.All → AreBuilt S.term_of w all rs p → xs ≡ rs →
      Makes S w1 (term (heads.App s) (map (S.term_of w) xs) []) m → v ≡ made_built m →
      Builds S w1 (applied_to (all (Some end)) s) v
  apply_all xs m v is h same k at =
      let fit = subst (λ x. AreBuilt S.term_of w all rs x) is h in
      outcome_is S w1 (applied_to (all (Some end)) s) (term (heads.App s) (map (S.term_of w) xs) []) m v k
      (ap (λ o. applied_to o s) (fit.0 (Some end) ∙ front_end (map (S.term_of w) rs)) ∙
      ap (λ ys. Some (term (heads.App s) (map (S.term_of w) ys) [])) (sym same)) at

module _ {W R Y N : Type 0} (S : Space W R Y N) (w w1 : W) (all : Option Trees) (rs : List R) (e : Elements R) where
  pub list_no_instance : e ≡ elements.NoInstance → AreElements S w all rs e →
      Builds S w1 (list_term all) built.NoInstance
  list_no_instance is h = let none = subst (λ x. AreElements S w all rs x) is h in ap list_term none

  pub list_large : e ≡ elements.Oversize → AreElements S w all rs e → Builds S w1 (list_term all) built.Oversize
  list_large is h =
      let large = subst (λ x. AreElements S w all rs x) is h in
      (node heads.List large.0 end, ap list_term large.1, large_part heads.List large.0 end large.2)

  pub list_all : (xs : List R) (m : Made R) (v : Built R) → e ≡ elements.All → AreElements S w all rs e → xs ≡ rs →
      Makes S w1 (term heads.List (map (S.term_of w) xs) []) m → v ≡ made_built m → Builds S w1 (list_term all) v
  list_all xs m v is h same k at =
      let fit = subst (λ x. AreElements S w all rs x) is h in
      outcome_is S w1 (list_term all) (term heads.List (map (S.term_of w) xs) []) m v k (ap list_term fit ∙
      ap (λ ys. Some (term heads.List (map (S.term_of w) ys) [])) (sym same)) at

  pub list_open : (xs : List R) (tail : R) (m : Made R) (v : Built R) → e ≡ elements.Before tail →
      AreElements S w all rs e → xs ≡ rs →
      Makes S w1 (term heads.List (map (S.term_of w) xs ++ parts_of (S.term_of w tail)) []) m → v ≡ made_built m →
      Builds S w1 (list_term all) v
  list_open xs tail m v is h same k at =
      let fit = subst (λ x. AreElements S w all rs x) is h in
      outcome_is S w1 (list_term all) (term heads.List (map (S.term_of w) xs ++ parts_of (S.term_of w tail)) [])
      m v k (ap list_term fit.2 ∙
      ap (λ ys. Some (term heads.List (map (S.term_of w) ys ++ parts_of (S.term_of w tail)) [])) (sym same)) at

-- the elements of a list that a variable has
pub list_elements : (t u : Tree) → head_of t ≡ heads.List → u ≡ t → elements_of (Some t) ≡ Some (trees_of (parts_of u))
list_elements (node heads.List ts annos) u is same =
    ap (λ us. Some us) (sym (trees_of-list_of ts)) ∙ ap (λ x. Some (trees_of (parts_of x))) (sym same)
list_elements (node (heads.Int z) ts annos) u is same = absurd (cc)
list_elements (node (heads.App f) ts annos) u is same = absurd (cc)

pub no_list : (t : Tree) → (head_of t ≡ heads.List → ⊥) → elements_of (Some t) ≡ None
no_list (node heads.List ts annos) h = absurd (h refl)
no_list (node (heads.Int z) ts annos) h = refl
no_list (node (heads.App f) ts annos) h = refl
