-- A store that goes back, and a store with one chain more.
use Rattle.std.proofs.Common.{◌≡◌, ℕ, suc, ◌+◌, ◌<◌, ◌≤◌, List, [], ◌∷◌, ◌++◌, length, map, get_or, take, sym, ◌∙◌, ap, subst, All, arith, length-append, ◌⊎◌, inl, inr}
use Rattle.std.proofs.Math.Seq.{get_or-append_seam}
use Rattle.std.proofs.lemmas.List.{length-take-le, take-map, get_or-take, get_or_append_left}
use Rattle.term_model.specs.Symbol.{Symbol}
use Rattle.term_store.specs.Chains.{IsWhole}
use Rattle.term_model.specs.Blocks.{front_list, list_in}
use Rattle.term_store.specs.Plain.{term_at, IsPlain}
use Rattle.term_store.specs.Shapes.{shape_head, shape_parts, shape_annos}
use Rattle.term_store.specs.Store.{head_in, plain, plains, held, MayHave, IsShape, IsSize, IsSum, IsEntry, IsStore}
use Rattle.term_store.specs.declared.stored.StoredShape.{StoredShape}
use Rattle.term_store.specs.declared.stored.Extent.{Extent}
use Rattle.term_store.specs.declared.stored.Span.{Span}
use Rattle.term_store.proofs.PlainLemmas.{map_same, term_at-take}
use Rattle.term_store.proofs.StoreLemmas.{none_extent, length-plains, sum_kept, push_at}

-- a shape is plainly the same among chains that agree as far as it names them
pub plain_other : (symbols : List Symbol) (chains others : List (List ℕ)) (last : ℕ) (s : StoredShape) →
    ((j : ℕ) → j ≤ last → get_or others j [] ≡ get_or chains j []) → (shape_parts s).rest ≤ last →
    shape_annos s ≤ last → plain symbols others s ≡ plain symbols chains s
plain_other symbols chains others last s agree hr ha =
    let parts : list_in others (shape_parts s) ≡ list_in chains (shape_parts s) =
    ap (λ l. front_list (shape_parts s).front ++ l) (agree (shape_parts s).rest hr) in
    let annos_ : get_or others (shape_annos s) [] ≡ get_or chains (shape_annos s) [] = agree (shape_annos s) ha in
    λ w. record { head = head_in symbols (shape_head s); parts = parts w; annos = annos_ w }

pub shape_other : (symbols : List Symbol) (chains others : List (List ℕ)) (k last : ℕ) (s : StoredShape) →
    ((j : ℕ) → j ≤ last → get_or others j [] ≡ get_or chains j []) → IsShape symbols chains k last s →
    IsShape symbols others k last s
shape_other symbols chains others k last s agree is = record {
  head = is.head;
  rest = is.rest;
  annos = is.annos;
  whole = subst IsWhole (sym (agree (shape_parts s).rest is.rest)) is.whole;
  none = is.none;
  places = subst (IsPlain k) (sym (plain_other symbols chains others last s agree is.rest is.annos)) is.places;
  bare = subst (MayHave (shape_head s))
      (sym (ap (λ l. front_list (shape_parts s).front ++ l) (agree (shape_parts s).rest is.rest))) is.bare;
}

-- the first shapes among chains that agree as far as they name them
module _ (symbols : List Symbol) (chains : List (List ℕ)) (shapes : List StoredShape) (extents : List Extent)
    (spans : List Span) (store : IsStore symbols chains shapes extents spans) (n last : ℕ)
    (within : n ≤ length shapes) (there : last < length chains) (bound : (k : ℕ) (e : Extent) → k < n →
    (get_or extents k e).chains ≤ last) (early : (j : ℕ) → j ≤ last → All (λ i. i < n) (get_or chains j [])) where
  cut : List (List ℕ)
  cut = take (last + 1) chains

  agree : (j : ℕ) → j ≤ last → get_or (take (last + 1) chains) j [] ≡ get_or chains j []
  agree j h = get_or-take (last + 1) chains j [] (omega arith)

  length_shapes : length (take n shapes) ≡ n
  length_shapes = length-take-le n shapes within

  length_chains : length (take (last + 1) chains) ≡ last + 1
  length_chains = length-take-le (last + 1) chains (omega arith)

  same_plains : plains symbols (take (last + 1) chains) (take n shapes) ≡ take n (plains symbols chains shapes)
  same_plains =
      map_same (plain symbols (take (last + 1) chains)) (plain symbols chains) (take n shapes) (λ k d h.
      let kn : k < n = subst (λ m. k < m) length_shapes h in
      let is = store.entries k d none_extent (omega (arith, kn, within)) in
      let far : (get_or extents k none_extent).chains ≤ last = bound k none_extent kn in
      let same : get_or (take n shapes) k d ≡ get_or shapes k d = get_or-take n shapes k d kn in
      let hr : (shape_parts (get_or shapes k d)).rest ≤ last = let r = is.shape.rest in omega (arith, r, far) in
      let ha : shape_annos (get_or shapes k d) ≤ last = let r = is.shape.annos in omega (arith, r, far) in
      subst (λ (x : StoredShape). plain symbols (take (last + 1) chains) x ≡ plain symbols chains x) (sym same)
      (plain_other symbols chains (take (last + 1) chains) last (get_or shapes k d) agree hr ha))
      ∙ sym (take-map (plain symbols chains) n shapes)

  pub held_cut : (i : ℕ) → i < n →
      held symbols (take (last + 1) chains) (take n shapes) i ≡ held symbols chains shapes i
  held_cut i h = ap (λ ps. term_at ps i) same_plains ∙
      term_at-take (plains symbols chains shapes) n i (let l = length-plains symbols chains shapes in
      omega (arith, l, within)) h

  pub store_take : IsStore symbols (take (last + 1) chains) (take n shapes) (take n extents) (take last spans)
  store_take = record {
    as_many = let l = store.as_many in length-take-le n extents (omega (arith, l, within)) ∙ sym length_shapes;
    spanned = let l = store.spanned in ap (λ k. k + 1) (length-take-le last spans (omega (arith, l, there))) ∙
        sym length_chains;
    empty = agree 0 (omega arith) ∙ store.empty;
    entries = λ k d e h.
        let kn : k < n = subst (λ m. k < m) length_shapes h in
        let is = store.entries k d e (omega (arith, kn, within)) in
        let far : (get_or extents k e).chains ≤ last = bound k e kn in
        let entry : IsEntry symbols (take (last + 1) chains) (take n shapes) k (get_or shapes k d)
        (get_or extents k e) = record {
          shape = shape_other symbols chains (take (last + 1) chains) k _ _ (λ j le. agree j (omega (arith, le, far)))
              is.shape;
          last = omega (arith, far, length_chains);
          early = λ j le. subst (All (λ i. i < k)) (sym (agree j (omega (arith, le, far)))) (is.early j le);
          among = is.among;
          known = is.known;
          size = subst (λ t. IsSize t (get_or extents k e)) (sym (held_cut k kn)) is.size;
        } in
        subst (λ (x : StoredShape). IsEntry symbols (take (last + 1) chains) (take n shapes)
        k x (get_or (take n extents) k e)) (sym (get_or-take n shapes k d kn))
        (subst (λ (x : Extent). IsEntry symbols (take (last + 1) chains) (take n shapes) k (get_or shapes k d) x)
        (sym (get_or-take n extents k e kn)) entry);
    ordered = λ i j e le h.
        let jn : j < n = subst (λ m. j < m) length_shapes h in
        let fact = store.ordered i j e le (omega (arith, jn, within)) in
        subst (λ (x : Extent). x.chains ≤ (get_or (take n extents) j e).chains)
        (sym (get_or-take n extents i e (omega (arith, le, jn))))
        (subst (λ (x : Extent). (get_or extents i e).chains ≤ x.chains) (sym (get_or-take n extents j e jn)) fact);
    in_turn = λ i j e le h.
        let jn : j < n = subst (λ m. j < m) length_shapes h in
        let fact = store.in_turn i j e le (omega (arith, jn, within)) in
        subst (λ (x : Extent). x.symbols ≤ (get_or (take n extents) j e).symbols)
        (sym (get_or-take n extents i e (omega (arith, le, jn))))
        (subst (λ (x : Extent). (get_or extents i e).symbols ≤ x.symbols) (sym (get_or-take n extents j e jn))
        fact);
    last = λ k e h.
        let kn : k < n = subst (λ m. k < m) length_shapes h in
        subst (λ (x : Extent). x.chains < length (take (last + 1) chains)) (sym (get_or-take n extents k e kn)) (let b =
        bound k e kn in omega (arith, b, length_chains));
    standing = λ j h.
        let jl : j ≤ last = omega (arith, h, length_chains) in
        subst (λ m. All (λ i. i < m) (get_or (take (last + 1) chains) j [])) (sym length_shapes)
        (subst (All (λ i. i < n)) (sym (agree j jl)) (early j jl));
    sums = λ j d h.
        let l = store.spanned in
        let jl : j < last = let m = length-take-le last spans (omega (arith, l, there)) in omega (arith, h, m) in
        let is = store.sums j d (omega (arith, jl, l, there)) in
        let same : IsSum (map (held symbols (take (last + 1) chains) (take n shapes)) (get_or chains (suc j) []))
        (get_or spans j d) =
        sum_kept (held symbols chains shapes) (held symbols (take (last + 1) chains) (take n shapes))
        (get_or chains (suc j) []) (get_or spans j d)
        (λ k x inside. held_cut _ (early (suc j) (omega (arith, jl)) k x inside)) is in
        subst (λ (x : Span). IsSum
        (map (held symbols (take (last + 1) chains) (take n shapes)) (get_or (take (last + 1) chains) (suc j) []))
        x) (sym (get_or-take last spans j d jl))
        (subst (λ ps. IsSum (map (held symbols (take (last + 1) chains) (take n shapes)) ps) (get_or spans j d))
        (sym (agree (suc j) (omega (arith, jl)))) same);
  }

-- a store with one chain more
module _ (symbols : List Symbol) (chains : List (List ℕ)) (shapes : List StoredShape) (extents : List Extent)
    (spans : List Span) (store : IsStore symbols chains shapes extents spans) (xs : List ℕ) (sp : Span)
    (stand : All (λ i. i < length shapes) xs) (sum : IsSum (map (held symbols chains shapes) xs) sp) where
  agree_more : (j : ℕ) → j < length chains → get_or (chains ++ xs ∷ []) j [] ≡ get_or chains j []
  agree_more j h = get_or_append_left chains (xs ∷ []) [] j h

  more_plains : plains symbols (chains ++ xs ∷ []) shapes ≡ plains symbols chains shapes
  more_plains =
      map_same (plain symbols (chains ++ xs ∷ [])) (plain symbols chains) shapes (λ k d h.
      let is = store.entries k d none_extent h in
      plain_other symbols chains (chains ++ xs ∷ []) (get_or extents k none_extent).chains (get_or shapes k d)
      (λ j le. agree_more j (let l = is.last in omega (arith, le, l))) is.shape.rest is.shape.annos)

  pub held_more : (i : ℕ) → held symbols (chains ++ xs ∷ []) shapes i ≡ held symbols chains shapes i
  held_more i = ap (λ ps. term_at ps i) more_plains

  more_chain : (j : ℕ) → j < length (chains ++ xs ∷ []) → All (λ i. i < length shapes) (get_or (chains ++ xs ∷ []) j [])
  more_chain j h = by (push_at chains xs j h)
    where
      by : ((j < length chains) × ((d : List ℕ) → get_or (chains ++ xs ∷ []) j d ≡ get_or chains j d)) ⊎
          ((j ≡ length chains) × ((d : List ℕ) → get_or (chains ++ xs ∷ []) j d ≡ xs)) →
          All (λ i. i < length shapes) (get_or (chains ++ xs ∷ []) j [])
      by (inl f) = subst (All (λ i. i < length shapes)) (sym (f.1 [])) (store.standing j f.0)
      by (inr f) = subst (All (λ i. i < length shapes)) (sym (f.1 [])) stand

  more_sum : (j : ℕ) (d : Span) → j < length (spans ++ sp ∷ []) →
      IsSum (map (held symbols (chains ++ xs ∷ []) shapes) (get_or (chains ++ xs ∷ []) (suc j) []))
      (get_or (spans ++ sp ∷ []) j d)
  more_sum j d h = by (push_at spans sp j h)
    where
      long : length (chains ++ xs ∷ []) ≡ length chains + 1
      long = length-append chains (xs ∷ [])

      up : (ts : List ℕ) (x : Span) → IsSum (map (held symbols chains shapes) ts) x →
          IsSum (map (held symbols (chains ++ xs ∷ []) shapes) ts) x
      up ts x is = sum_kept (held symbols chains shapes) (held symbols (chains ++ xs ∷ []) shapes)
          ts x (λ k y inside. held_more _) is

      by : ((j < length spans) × ((d : Span) → get_or (spans ++ sp ∷ []) j d ≡ get_or spans j d)) ⊎
          ((j ≡ length spans) × ((d : Span) → get_or (spans ++ sp ∷ []) j d ≡ sp)) →
          IsSum (map (held symbols (chains ++ xs ∷ []) shapes) (get_or (chains ++ xs ∷ []) (suc j) []))
          (get_or (spans ++ sp ∷ []) j d)
      by (inl f) =
          let l = store.spanned in
          let below = f.0 in
          let is = up _ _ (store.sums j d f.0) in
          subst (λ (x : Span). IsSum
          (map (held symbols (chains ++ xs ∷ []) shapes) (get_or (chains ++ xs ∷ []) (suc j) [])) x) (sym (f.1 d))
          (subst (λ ts. IsSum (map (held symbols (chains ++ xs ∷ []) shapes) ts) (get_or spans j d))
          (sym (agree_more (suc j) (omega (arith, l, below)))) is)
      by (inr f) =
          let l = store.spanned in
          let at = f.0 in
          let place : suc j ≡ length chains = omega (arith, l, at) in
          let there : get_or (chains ++ xs ∷ []) (suc j) [] ≡ xs =
          subst (λ m. get_or (chains ++ xs ∷ []) m [] ≡ xs) (sym place) (get_or-append_seam chains xs [] []) in
          subst (λ (x : Span). IsSum
          (map (held symbols (chains ++ xs ∷ []) shapes) (get_or (chains ++ xs ∷ []) (suc j) [])) x) (sym (f.1 d))
          (subst (λ ts. IsSum (map (held symbols (chains ++ xs ∷ []) shapes) ts) sp) (sym there) (up xs sp sum))

  pub store_more : IsStore symbols (chains ++ xs ∷ []) shapes extents (spans ++ sp ∷ [])
  store_more = record {
    as_many = store.as_many;
    spanned = let l = store.spanned in simp length-append (omega (arith, l));
    empty = agree_more 0 (let l = store.spanned in omega (arith, l)) ∙ store.empty;
    entries = λ k d e h.
        let is = store.entries k d e h in
        let far = is.last in
        record {
          shape = shape_other symbols chains (chains ++ xs ∷ []) k _ _ (λ j le. agree_more j (omega (arith, le, far)))
              is.shape;
          last = simp length-append (omega (arith, far));
          early = λ j le. subst (All (λ i. i < k)) (sym (agree_more j (omega (arith, le, far)))) (is.early j le);
          among = is.among;
          known = is.known;
          size = subst (λ t. IsSize t (get_or extents k e)) (sym (held_more k)) is.size;
        };
    ordered = store.ordered;
    in_turn = store.in_turn;
    last = λ k e h. let far = store.last k e h in simp length-append (omega (arith, far));
    standing = more_chain;
    sums = more_sum;
  }
