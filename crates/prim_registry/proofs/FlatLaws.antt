-- Terms as flat values, one after another.
use Rattle.std.proofs.Common.{◌≡◌, ◌+◌, ◌<◌, ◌≤◌, ◌++◌, ℕ, ℤ, pos, zero, suc, add-one, arith, Option, Some, None, List, [], ◌∷◌, length, get_or, drop, take, map, refl, sym, ◌∙◌, ap}
use Rattle.std.proofs.Math.Seq.{drop-cons}
use Rattle.std.proofs.lemmas.List.{drop_all, map-append, take_more}
use Rattle.term_model.specs.declared.term.Head.{Head}
use Rattle.term_model.specs.declared.term.Head.TheVariants as heads
use Rattle.term_model.specs.declared.symbol.Kind.TheVariants as kinds
use Rattle.term_model.specs.Flat.{flat_of, with_flat, all_flat, integer_of, with_integer, integers_of, integers, numbers}
use Rattle.std.specs.Option.{option_map}
use Rattle.term_model.proofs.TermLemmas.{trees_of-list_of}
use Rattle.term_model.specs.Symbol.{Symbol, Plain, Quoted, Tuple}
use Rattle.term_model.specs.SymbolKinds.{kind_of}
use Rattle.term_model.specs.Term.{Tree, node, Trees, end, more, term, trees_of}
use Rattle.term_model.specs.TermParts.{head_of, parts_of}
use Rattle.prim_registry.specs.declared.flat.Flat.{Flat}
use Rattle.prim_registry.specs.Values.{value_of, values_of}

-- those that are done, and then the others
abbrev pub after : {B : Type 0} → List B → Option (List B) → Option (List B)
after done None = None
after done (Some vs) = Some (done ++ vs)

after_push : {B : Type 0} (done : List B) (v : B) (o with_one : Option (List B)) →
    ((vs : List B) → o ≡ Some vs → with_one ≡ Some (v ∷ vs)) → (o ≡ None → with_one ≡ None) →
    after done with_one ≡ after (done ++ v ∷ []) o
after_push {B} done v None w some none = ap (after done) (none refl)
after_push {B} done v (Some vs) w some none = ap (after done) (some vs refl) ∙ ap (λ xs. Some xs) (pushed done vs)
  where
    pushed : (xs ys : List B) → xs ++ v ∷ ys ≡ (xs ++ v ∷ []) ++ ys
    pushed [] ys = refl
    pushed (x ∷ xs) ys = ap (λ zs. x ∷ zs) (pushed xs ys)

after_all : {B : Type 0} (done : List B) → after done (Some []) ≡ Some done
after_all {B} done = ap (λ xs. Some xs) (nothing_more done)
  where
    nothing_more : (xs : List B) → xs ++ [] ≡ xs
    nothing_more [] = refl
    nothing_more (x ∷ xs) = ap (λ zs. x ∷ zs) (nothing_more xs)

-- what each term is, if it is anything, and what all are
module _ {B : Type 0} (each : Tree → Option B) (all : Trees → Option (List B)) (joined : Option B → Option (List B) →
    Option (List B))
    (nothing : all end ≡ Some []) (first : (t : Tree) (ts : Trees) → all (more t ts) ≡ joined (each t) (all ts))
    (no_first : (o : Option (List B)) → joined None o ≡ None) (no_rest : (v : B) →
    joined (Some v) None ≡ None) (one_first : (v : B) (vs : List B) → joined (Some v) (Some vs) ≡ Some (v ∷ vs))
    (ts : List Tree) (i : ℕ) (done : List B) (so_far : all (trees_of ts) ≡ after done (all (trees_of (drop i ts))))
  where
    module _ (t : Tree) (below : i < length ts) (is : t ≡ get_or ts i t) where
      cut : drop i ts ≡ t ∷ drop (i + 1) ts
      cut = rw add-one (drop-cons ts i t below ∙ ap (λ u. u ∷ drop (suc i) ts) (sym is))

      next : (v : Option B) → each t ≡ v → all (trees_of (drop i ts)) ≡ joined v (all (trees_of (drop (i + 1) ts)))
      next v at = ap (λ xs. all (trees_of xs)) cut ∙
          (first t (trees_of (drop (i + 1) ts)) ∙ ap (λ o. joined o (all (trees_of (drop (i + 1) ts)))) at)

      gathered_next : (v : B) (now : List B) → each t ≡ Some v → now ≡ done ++ v ∷ [] →
          all (trees_of ts) ≡ after now (all (trees_of (drop (i + 1) ts)))
      gathered_next v now at pushed =
          let rest = all (trees_of (drop (i + 1) ts)) in
          so_far ∙ (ap (after done) (next (Some v) at) ∙
          (after_push done v rest (joined (Some v) rest) (λ vs e. ap (joined (Some v)) e ∙
          one_first v vs) (λ e. ap (joined (Some v)) e ∙ no_rest v) ∙
          ap (λ xs. after xs rest) (sym pushed)))

      gathered_none : each t ≡ None → all (trees_of ts) ≡ None
      gathered_none at = so_far ∙ ap (after done) (next None at ∙ no_first (all (trees_of (drop (i + 1) ts))))

    gathered_all : length ts ≤ i → all (trees_of ts) ≡ Some done
    gathered_all past = so_far ∙ (ap (after done) (ap (λ xs. all (trees_of xs)) (drop_all i ts past) ∙ nothing) ∙
        after_all done)

gathered_start : {B : Type 0} (all : Trees → Option (List B)) (ts : List Tree) (done : List B) → done ≡ [] →
    all (trees_of ts) ≡ after done (all (trees_of ts))
gathered_start {B} all ts done is = by (all (trees_of ts)) ∙ ap (λ xs. after xs (all (trees_of ts))) (sym is)
  where
    by : (o : Option (List B)) → o ≡ after [] o
    by None = refl
    by (Some vs) = refl

-- integers, and flat values
module _ (ts : List Tree) (i : ℕ) (done : List ℤ)
    (so_far : integers_of (trees_of ts) ≡ after done (integers_of (trees_of (drop i ts)))) where
  pub integers_next : (t : Tree) → i < length ts → t ≡ get_or ts i t → (v : ℤ) (now : List ℤ) → integer_of t ≡ Some v →
      now ≡ done ++ v ∷ [] →
      integers_of (trees_of ts) ≡ after now (integers_of (trees_of (drop (i + 1) ts)))
  integers_next t below is v now at pushed =
      gathered_next integer_of integers_of with_integer refl (λ t ts. refl) (λ o. refl) (λ v. refl) (λ v vs. refl)
      ts i done so_far t below is v now at pushed

  pub integers_none : (t : Tree) → i < length ts → t ≡ get_or ts i t → integer_of t ≡ None →
      integers_of (trees_of ts) ≡ None
  integers_none t below is at =
      gathered_none integer_of integers_of with_integer refl (λ t ts. refl) (λ o. refl) (λ v. refl) (λ v vs. refl)
      ts i done so_far t below is at

  pub integers_all : length ts ≤ i → integers_of (trees_of ts) ≡ Some done
  integers_all past = gathered_all integer_of integers_of with_integer refl (λ t ts. refl) (λ o. refl) (λ v. refl)
      (λ v vs. refl) ts i done so_far past

module _ (ts : List Tree) (i : ℕ) (done : List Flat)
    (so_far : all_flat (trees_of ts) ≡ after (values_of done) (all_flat (trees_of (drop i ts)))) where
  pub flats_next : (t : Tree) → i < length ts → t ≡ get_or ts i t → (v : Flat) (now : List Flat) →
      flat_of t ≡ Some (value_of v) → now ≡ done ++ v ∷ [] →
      all_flat (trees_of ts) ≡ after (values_of now) (all_flat (trees_of (drop (i + 1) ts)))
  flats_next t below is v now at pushed =
      gathered_next flat_of all_flat with_flat refl (λ t ts. refl) (λ o. refl) (λ v. refl) (λ v vs. refl)
      ts i (values_of done) so_far t below is (value_of v) (values_of now) at
      (ap (map value_of) pushed ∙ map-append value_of done (v ∷ []))

  pub flats_none : (t : Tree) → i < length ts → t ≡ get_or ts i t → flat_of t ≡ None → all_flat (trees_of ts) ≡ None
  flats_none t below is at = gathered_none flat_of all_flat with_flat refl (λ t ts. refl) (λ o. refl) (λ v. refl)
      (λ v vs. refl) ts i (values_of done) so_far t below is at

  pub flats_all : length ts ≤ i → all_flat (trees_of ts) ≡ Some (values_of done)
  flats_all past = gathered_all flat_of all_flat with_flat refl (λ t ts. refl) (λ o. refl) (λ v. refl) (λ v vs. refl)
      ts i (values_of done) so_far past

pub integers_start : (ts : List Tree) (done : List ℤ) → done ≡ [] →
    integers_of (trees_of ts) ≡ after done (integers_of (trees_of ts))
integers_start = gathered_start integers_of

pub flats_start : (ts : List Tree) (done : List Flat) → done ≡ [] →
    all_flat (trees_of ts) ≡ after (values_of done) (all_flat (trees_of ts))
flats_start ts done is = gathered_start all_flat ts (values_of done) (ap (map value_of) is)

-- annotations are ignored
pub without_annotations : (h : Head) (ts annos : Trees) → flat_of (node h ts annos) ≡ flat_of (node h ts end)
without_annotations (heads.Int z) ts annos = refl
without_annotations heads.List ts annos = refl
without_annotations (heads.App (Plain bytes)) ts annos = refl
without_annotations (heads.App Tuple) ts annos = refl
without_annotations (heads.App (Quoted bytes)) end annos = refl
without_annotations (heads.App (Quoted bytes)) (more t ts) annos = refl

-- which symbols are strings
pub no_text : (s : Symbol) (ts : List Tree) → (kind_of s ≡ kinds.Quoted → ⊥) → None ≡ flat_of (term (heads.App s) ts [])
no_text (Plain bytes) ts h = refl
no_text (Quoted bytes) ts h = absurd (h refl)
no_text Tuple ts h = refl

pub text_with_parts : (s : Symbol) (ts : List Tree) → (ts ≡ [] → ⊥) → None ≡ flat_of (term (heads.App s) ts [])
text_with_parts (Plain bytes) ts h = refl
text_with_parts (Quoted bytes) [] h = absurd (h refl)
text_with_parts (Quoted bytes) (t ∷ ts) h = refl
text_with_parts Tuple ts h = refl

-- integers as terms
abbrev pub integer_term : ℤ → Tree
integer_term z = term (heads.Int z) [] []

pub integer_terms : (zs : List ℤ) → trees_of (map integer_term zs) ≡ integers zs
integer_terms [] = refl
integer_terms (z ∷ zs) = ap (more (integer_term z)) (integer_terms zs)

pub taken : (zs : List ℤ) (i : ℕ) → length zs ≤ i → take i zs ≡ zs
taken [] zero h = refl
taken [] (suc i) h = refl
taken (z ∷ zs) zero h = absurd (omega arith)
taken (z ∷ zs) (suc i) h = ap (λ us. z ∷ us) (taken zs i (omega arith))

pub one_more_integer : (zs : List ℤ) (i : ℕ) (ts us : List Tree) (t : Tree) → i < length zs →
    ts ≡ map integer_term (take i zs) → t ≡ integer_term (get_or zs i (pos 0)) → us ≡ ts ++ t ∷ [] →
    us ≡ map integer_term (take (i + 1) zs)
one_more_integer zs i ts us t below so_far is pushed =
    let longer : take (i + 1) zs ≡ take i zs ++ (get_or zs i (pos 0) ∷ []) = take_more zs i (pos 0) below in
    pushed ∙ (ap (λ xs. xs ++ t ∷ []) so_far ∙ (ap (λ u. map integer_term (take i zs) ++ u ∷ []) is ∙
    sym (ap (map integer_term) longer ∙ map-append integer_term (take i zs) (get_or zs i (pos 0) ∷ []))))

-- a list of integers, and a symbol
pub list_flat : (t : Tree) → head_of t ≡ heads.List → {ts : List Tree} → ts ≡ parts_of t → (o : Option (List ℤ)) →
    integers_of (trees_of ts) ≡ o → flat_of t ≡ option_map numbers o
list_flat (node (heads.Int z) ps annos) is same o at = absurd (cc)
list_flat (node (heads.App f) ps annos) is same o at = absurd (cc)
list_flat (node heads.List ps annos) is same o at =
    ap (option_map numbers) (ap integers_of (sym (ap trees_of same ∙ trees_of-list_of ps)) ∙ at)

pub symbol_flat : (t : Tree) {f : Symbol} → head_of t ≡ heads.App f → {ts : List Tree} → ts ≡ parts_of t →
    flat_of t ≡ flat_of (term (heads.App f) ts [])
symbol_flat (node h ps annos) {f} is same =
    without_annotations h ps annos ∙
    (ap (λ g. flat_of (node g ps end)) is ∙
    ap (λ us. flat_of (node (heads.App f) us end)) (sym (ap trees_of same ∙ trees_of-list_of ps)))
