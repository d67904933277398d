-- A store among other symbols that agree as far as its shapes name them.
use Rattle.std.proofs.Common.{Bool, true, false, if◌then◌else◌, ◌≡◌, ℕ, suc, ◌+◌, ◌<◌, ◌≤◌, List, [], ◌∷◌, ◌++◌, length, get_or, take, refl, sym, ◌∙◌, ap, subst, arith, length-append}
use Rattle.std.specs.Prelude.{Result, Ok, Err, IfOk, OnErr}
use Rattle.std.proofs.lemmas.Bool.{ltb-true}
use Rattle.std.proofs.lemmas.List.{length-take-le, get_or-take, get_or_append_left}
use Rattle.term_model.specs.declared.term.Head.TheVariants as heads
use Rattle.term_model.specs.Symbol.{Symbol, Tuple}
use Rattle.term_model.specs.Blocks.{list_in}
use Rattle.term_store.specs.Plain.{term_at, IsPlain}
use Rattle.term_store.specs.Shapes.{shape_head, shape_parts, shape_annos}
use Rattle.term_store.specs.Store.{head_in, plain, plains, held, IsAmong, IsShape, IsSize, IsStore, IsLast, AreNamed}
use Rattle.term_store.specs.Space.{count, term_of}
use Rattle.term_store.specs.declared.store.StoreSpace.{StoreSpace}
use Rattle.term_store.specs.declared.stored.StoredHead.{StoredHead}
use Rattle.term_store.specs.declared.stored.StoredHead.TheVariants as stored
use Rattle.term_store.specs.declared.stored.StoredShape.{StoredShape}
use Rattle.term_store.specs.declared.stored.Extent.{Extent}
use Rattle.term_store.specs.declared.stored.Span.{Span}
use Rattle.term_store.proofs.PlainLemmas.{map_same}
use Rattle.term_store.proofs.StoreLemmas.{none_shape, none_extent, sum_kept}
use Rattle.term_store.proofs.StoreChanges.{store_take, held_cut}

-- two lists of symbols that agree on the first ones
pub record Agree (symbols others : List Symbol) (count : ℕ) : Type 0 where
  pub long : count ≤ length others
  pub same : (n : ℕ) → n < count → get_or others n Tuple ≡ get_or symbols n Tuple

-- a head is the same among symbols that agree as far as it names them
head_other : (symbols others : List Symbol) (count : ℕ) (h : StoredHead) → Agree symbols others count →
    IsAmong count h → head_in others h ≡ head_in symbols h
head_other symbols others count (stored.Int z) agree is = refl
head_other symbols others count (stored.Symbol n) agree is = ap heads.App (agree.same n (ltb-true n count is))
head_other symbols others count stored.List agree is = refl

-- a head among the first symbols is among more
pub among_more : (few many : ℕ) (h : StoredHead) → few ≤ many → IsAmong few h → IsAmong many h
among_more few many (stored.Int z) le is = is
among_more few many (stored.Symbol n) le is = let below : n < few = ltb-true n few is in grind (arith, below)
among_more few many stored.List le is = is

plain_among : (symbols others : List Symbol) (chains : List (List ℕ)) (count : ℕ) (s : StoredShape) →
    Agree symbols others count → IsAmong count (shape_head s) → plain others chains s ≡ plain symbols chains s
plain_among symbols others chains count s agree is =
    let heads_ : head_in others (shape_head s) ≡ head_in symbols (shape_head s) =
    head_other symbols others count (shape_head s) agree is in
    λ w. record { head = heads_ w; parts = list_in chains (shape_parts s); annos = get_or chains (shape_annos s) [] }

-- a shape among symbols that agree as far as it names them
shape_among : (symbols others : List Symbol) (chains : List (List ℕ)) (count k last : ℕ) (s : StoredShape) →
    Agree symbols others count → IsAmong count (shape_head s) → IsShape symbols chains k last s →
    IsShape others chains k last s
shape_among symbols others chains count k last s agree among is = record {
  head = among_more count (length others) (shape_head s) agree.long among;
  rest = is.rest;
  annos = is.annos;
  whole = is.whole;
  none = is.none;
  places = subst (IsPlain k) (sym (plain_among symbols others chains count s agree among)) is.places;
  bare = is.bare;
}

-- a store among symbols that agree as far as its extents say that its shapes name them
module _ (symbols others : List Symbol) (chains : List (List ℕ)) (shapes : List StoredShape) (extents : List Extent)
    (spans : List Span) (store : IsStore symbols chains shapes extents spans) (count : ℕ)
    (bound : (k : ℕ) (e : Extent) → k < length shapes →
    (get_or extents k e).symbols ≤ count) (agree : Agree symbols others count) where
  named_at : (k : ℕ) (d : StoredShape) → k < length shapes → IsAmong count (shape_head (get_or shapes k d))
  named_at k d h = among_more (get_or extents k none_extent).symbols count (shape_head (get_or shapes k d))
      (bound k none_extent h) (store.entries k d none_extent h).among

  among_plains : plains others chains shapes ≡ plains symbols chains shapes
  among_plains = map_same (plain others chains) (plain symbols chains)
      shapes (λ k d h. plain_among symbols others chains count (get_or shapes k d) agree (named_at k d h))

  pub held_among : (i : ℕ) → held others chains shapes i ≡ held symbols chains shapes i
  held_among i = ap (λ ps. term_at ps i) among_plains

  pub store_among : IsStore others chains shapes extents spans
  store_among = record {
    as_many = store.as_many;
    spanned = store.spanned;
    empty = store.empty;
    entries = λ k d e h.
        let is = store.entries k d e h in
        let far : (get_or extents k e).symbols ≤ count = bound k e h in
        let long : count ≤ length others = agree.long in
        record {
          shape = shape_among symbols others chains count k _ _ agree (named_at k d h) is.shape;
          last = is.last;
          early = is.early;
          among = is.among;
          known = omega (arith, far, long);
          size = subst (λ t. IsSize t (get_or extents k e)) (sym (held_among k)) is.size;
        };
    ordered = store.ordered;
    in_turn = store.in_turn;
    last = store.last;
    standing = store.standing;
    sums = λ j d h. sum_kept (held symbols chains shapes) (held others chains shapes) (get_or chains (suc j) [])
        (get_or spans j d) (λ k x inside. held_among _) (store.sums j d h);
  }

-- after an insertion the symbols before agree
pub inserted : {T E : Type 0} (r : Result T E) (b : Bool) (old new : List Symbol) (x : Symbol) →
    IfOk r (λ _. new ≡ (if b then old else old ++ x ∷ [])) → OnErr r (new ≡ old) → Agree old new (length old)
inserted {T = T} {E = E} r b old new x done refused = by r b done refused
  where
    stays : new ≡ old → Agree old new (length old)
    stays e = subst (λ l. Agree old l (length old)) (sym e) (record { long = omega arith; same = λ n h. refl })

    by : (r : Result T E) (b : Bool) → IfOk r (λ _. new ≡ (if b then old else old ++ x ∷ [])) → OnErr r (new ≡ old) →
        Agree old new (length old)
    by (Ok v) true done refused = stays done
    by (Ok v) false done refused = subst (λ l. Agree old l (length old)) (sym done) (record {
      long = simp length-append (omega arith);
      same = λ n h. get_or_append_left old (x ∷ []) Tuple n h;
    })
    by (Err e) b done refused = stays refused

-- each shape of a store names symbols of the store
pub names_known : (s : StoreSpace) (k : ℕ) (e : Extent) → k < count s →
    (get_or s.extents.items k e).symbols ≤ length s.symbols.keys
names_known s k e h = (s.store.entries k none_shape e h).known

-- a store with more symbols
pub store_named : (s : StoreSpace) (others : List Symbol) → Agree s.symbols.keys others (length s.symbols.keys) →
    IsStore others s.chains s.shapes.keys s.extents.items s.spans.items
store_named s others agree = store_among s.symbols.keys others s.chains s.shapes.keys s.extents.items s.spans.items
    s.store (length s.symbols.keys) (names_known s) agree

pub held_named : (s : StoreSpace) (others : List Symbol) (k : ℕ) → Agree s.symbols.keys others (length s.symbols.keys) →
    held others s.chains s.shapes.keys k ≡ term_of s k
held_named s others k agree = held_among s.symbols.keys others s.chains s.shapes.keys s.extents.items s.spans.items
    s.store (length s.symbols.keys) (names_known s) agree k

-- a store that goes back to its first shapes, with enough symbols for all that those shapes name
module _ (s : StoreSpace) (mark last few kept : ℕ) (within : mark ≤ count s)
    (chains_ : IsLast s.chains s.extents.items mark last) (names : AreNamed s.symbols.keys s.extents.items mark few)
    (enough : few ≤ kept) (there : kept ≤ length s.symbols.keys) where
  back_agrees : Agree s.symbols.keys (take kept s.symbols.keys) few
  back_agrees = record {
    long = let l = length-take-le kept s.symbols.keys there in omega (arith, l, enough);
    same = λ n h. get_or-take kept s.symbols.keys n Tuple (omega (arith, h, enough));
  }

  back_bound : (k : ℕ) (e : Extent) → k < length (take mark s.shapes.keys) →
      (get_or (take mark s.extents.items) k e).symbols ≤ few
  back_bound k e h =
      let below : k < mark = subst (λ m. k < m) (length-take-le mark s.shapes.keys within) h in
      subst (λ (x : Extent). x.symbols ≤ few) (sym (get_or-take mark s.extents.items k e below)) (names.bound k e below)

  back_store : IsStore s.symbols.keys (take (last + 1) s.chains) (take mark s.shapes.keys) (take mark s.extents.items)
      (take last s.spans.items)
  back_store = store_take s.symbols.keys s.chains s.shapes.keys s.extents.items s.spans.items s.store mark last within
      chains_.there chains_.bound chains_.early

  pub store_back : IsStore (take kept s.symbols.keys) (take (last + 1) s.chains) (take mark s.shapes.keys)
      (take mark s.extents.items) (take last s.spans.items)
  store_back = store_among s.symbols.keys (take kept s.symbols.keys) (take (last + 1) s.chains)
      (take mark s.shapes.keys) (take mark s.extents.items) (take last s.spans.items)
      back_store few back_bound back_agrees

  pub held_back : (k : ℕ) → k < mark →
      held (take kept s.symbols.keys) (take (last + 1) s.chains) (take mark s.shapes.keys) k ≡ term_of s k
  held_back k h =
      held_among s.symbols.keys (take kept s.symbols.keys) (take (last + 1) s.chains) (take mark s.shapes.keys)
      (take mark s.extents.items) (take last s.spans.items) back_store few back_bound back_agrees k
      ∙ held_cut s.symbols.keys s.chains s.shapes.keys s.extents.items s.spans.items s.store mark last within
      chains_.there chains_.bound chains_.early k h
