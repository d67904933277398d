use Rattle.std.proofs.Common.{rules, ◌≡◌, ◌<◌, ◌≤◌, ◌+◌, ◌∷◌, ◌++◌, [], length, get_or, arith, subst, sym, ap, ◌∙◌, refl, length-append}
use Rattle.std.specs.Prelude.{max}
use Rattle.term_model.specs.Limits.{max_depth}
use Rattle.term_store.specs.declared.stored.StoredShape.{StoredShape}
use Rattle.term_store.specs.declared.stored.Extent.{Extent}
use Rattle.term_store.specs.Space.{shape_term}
use Rattle.term_store.specs.Store.{IsStore, IsShape, IsSize}
use Rattle.term_store.proofs.StoreLemmas.{store_push, held_at, held_kept, held_pushed, new_keys, old_keys}
use Rattle.term_store.proofs.MakingLemmas.{shape_next, shape_size}
use Rattle.term_store.proofs.store.StoreSpace.intern.Goals as goal

pub invariant_of-self-then-not-added : goal.invariant_of-self-then-not-added
invariant_of-self-then-not-added c =
    let s = c.args.self.now in
    let shape : StoredShape = c.args.shape in
    let new = c.insert.new.self.keys in
    let keys : new ≡ s.shapes.keys =
    old_keys c.in_ok-at.added s.shapes.keys (s.shapes.keys ++ shape ∷ []) new (search rules)
    c.in_ok-at.ensures.keys in
    let items : c.reserve.new.self.items ≡ s.extents.items = c.reserve.ensures.items in
    record {
      store = rw (keys, items) s.store;
      small = c.insert.ensures.small ∙ s.small;
      sized =
          c.reserve.ensures.small ∙ s.sized;
      within = s.within;
    }

pub returns-then-not-added-clause-made : goal.returns-then-not-added-clause-made
returns-then-not-added-clause-made c =
    let s = c.args.self.now in
    let shape : StoredShape = c.args.shape in
    let new = c.insert.new.self.keys in
    let keys : new ≡ s.shapes.keys =
    old_keys c.in_ok-at.added s.shapes.keys (s.shapes.keys ++ shape ∷ []) new (search rules)
    c.in_ok-at.ensures.keys in
    let is : get_or new c.in_ok-at.at shape ≡ shape = c.in_ok-at.ensures.placed shape in
    let within : c.in_ok-at.at < length new = c.in_ok-at.ensures.within in
    let flat : 1 + max c.bare_size-bare.result.depth c.span-annos.result.depth ≤ max_depth =
    subst (λ d. 1 + d ≤ max_depth) c.max-depth.ensures c.if-depth-gt-MAX_DEPTH.false in
    let size = shape_size s shape c.annos.result c.bare_size-bare.result.weight c.bare_size-bare.result.depth 0 0
    c.span-annos.result
    c.annos.ensures c.bare_size-bare.ensures c.span-annos.ensures c.if-weight-gt-MAX_WEIGHT.false flat in (
      within,
      rw keys (held_at s.symbols.keys s.chains s.shapes.keys s.extents.items s.spans.items c.in_ok-at.at shape
          s.store (rw keys at within) (rw keys at is)),
      size.fits,
    )

pub invariant_of-self-2 : goal.invariant_of-self-2
invariant_of-self-2 c =
    let s = c.args.self.now in
    let shape : StoredShape = c.args.shape in
    let new = c.insert.new.self.keys in
    let keys : new ≡ s.shapes.keys ++ shape ∷ [] =
    new_keys c.in_ok-at.added s.shapes.keys (s.shapes.keys ++ shape ∷ []) new (search rules)
    c.in_ok-at.ensures.keys in
    let e : Extent = record {
      weight = 1 + (c.bare_size-bare.result.weight + c.span-annos.result.weight);
      depth =
          1 + c.max-depth.result;
      chains = c.len-chains.result;
      symbols = c.len-symbols.result;
    } in
    let items : c.push_reserved.new.self.items ≡ s.extents.items ++ e ∷ [] =
    c.push_reserved.ensures.items ∙ ap (λ xs. xs ++ e ∷ []) c.reserve.ensures.items in
    let long : c.len-chains.result + 1 ≡ length s.chains = c.len-chains.ensures.len in
    let is : IsShape s.symbols.keys s.chains (length s.shapes.keys) c.len-chains.result shape =
    shape_next s shape c.len-chains.result long c.requires in
    let flat : 1 + max c.bare_size-bare.result.depth c.span-annos.result.depth ≤ max_depth =
    subst (λ d. 1 + d ≤ max_depth) c.max-depth.ensures c.if-depth-gt-MAX_DEPTH.false in
    let size : IsSize (shape_term s shape) e =
    subst (λ d. IsSize (shape_term s shape)
    (record {
      weight = 1 + (c.bare_size-bare.result.weight + c.span-annos.result.weight);
      depth = 1 + d;
      chains =
          c.len-chains.result;
      symbols = c.len-symbols.result;
    })) (sym c.max-depth.ensures)
    (shape_size s shape c.annos.result c.bare_size-bare.result.weight c.bare_size-bare.result.depth c.len-chains.result
    c.len-symbols.result c.span-annos.result
    c.annos.ensures c.bare_size-bare.ensures c.span-annos.ensures c.if-weight-gt-MAX_WEIGHT.false flat) in
    record {
      store = rw (keys, items)
          (store_push s.symbols.keys s.chains s.shapes.keys s.extents.items s.spans.items shape e s.store is long
          c.len-symbols.ensures.len size);
      small = c.insert.ensures.small ∙ s.small;
      sized =
          c.push_reserved.ensures.small ∙ (c.reserve.ensures.small ∙ s.sized);
      within = s.within;
    }

pub returns-clause-keeps : goal.returns-clause-keeps
returns-clause-keeps c =
    let s = c.args.self.now in
    let shape : StoredShape = c.args.shape in
    let new = c.insert.new.self.keys in
    let keys : new ≡ s.shapes.keys ++ shape ∷ [] =
    new_keys c.in_ok-at.added s.shapes.keys (s.shapes.keys ++ shape ∷ []) new (search rules)
    c.in_ok-at.ensures.keys in
    record {
      more = rw keys (simp length-append (omega arith));
      terms = λ k h. rw keys (held_kept s.symbols.keys s.chains s.shapes.keys (shape ∷ []) k h);
      more_symbols = omega arith;
      symbols = λ n h. refl;
      named = omega arith;
    }

pub returns-clause-made : goal.returns-clause-made
returns-clause-made c =
    let s = c.args.self.now in
    let shape : StoredShape = c.args.shape in
    let new = c.insert.new.self.keys in
    let keys : new ≡ s.shapes.keys ++ shape ∷ [] =
    new_keys c.in_ok-at.added s.shapes.keys (s.shapes.keys ++ shape ∷ []) new (search rules)
    c.in_ok-at.ensures.keys in
    let e : Extent = record {
      weight = 1 + (c.bare_size-bare.result.weight + c.span-annos.result.weight);
      depth =
          1 + c.max-depth.result;
      chains = c.len-chains.result;
      symbols = c.len-symbols.result;
    } in
    let long : c.len-chains.result + 1 ≡ length s.chains = c.len-chains.ensures.len in
    let is : IsShape s.symbols.keys s.chains (length s.shapes.keys) c.len-chains.result shape =
    shape_next s shape c.len-chains.result long c.requires in
    let flat : 1 + max c.bare_size-bare.result.depth c.span-annos.result.depth ≤ max_depth =
    subst (λ d. 1 + d ≤ max_depth) c.max-depth.ensures c.if-depth-gt-MAX_DEPTH.false in
    let size : IsSize (shape_term s shape) e =
    subst (λ d. IsSize (shape_term s shape)
    (record {
      weight = 1 + (c.bare_size-bare.result.weight + c.span-annos.result.weight);
      depth = 1 + d;
      chains =
          c.len-chains.result;
      symbols = c.len-symbols.result;
    })) (sym c.max-depth.ensures)
    (shape_size s shape c.annos.result c.bare_size-bare.result.weight c.bare_size-bare.result.depth c.len-chains.result
    c.len-symbols.result c.span-annos.result
    c.annos.ensures c.bare_size-bare.ensures c.span-annos.ensures c.if-weight-gt-MAX_WEIGHT.false flat) in
    let pushed : IsStore s.symbols.keys s.chains (s.shapes.keys ++ shape ∷ []) (s.extents.items ++ e ∷ [])
    s.spans.items = store_push s.symbols.keys s.chains s.shapes.keys s.extents.items s.spans.items shape e s.store
    is long c.len-symbols.ensures.len size in
    let there : get_or new c.in_ok-at.at shape ≡ shape = c.in_ok-at.ensures.placed shape in
    let within : c.in_ok-at.at < length new = c.in_ok-at.ensures.within in (
      within,
      rw keys (held_pushed s.symbols.keys s.chains s.shapes.keys s.extents.items (s.extents.items ++ e ∷ [])
          s.spans.items c.in_ok-at.at shape pushed is.places (rw keys at within) (rw keys at there)),
      size.fits,
    )
