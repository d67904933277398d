-- The store is cut as `store_back` says, and the symbols that are kept include those of names.
use Rattle.std.proofs.Common.{◌≡◌, ◌≤◌, ◌+◌, ◌∙◌, ap, refl, length, take, arith}
use Rattle.std.specs.Prelude.{max}
use Rattle.std.proofs.lemmas.List.{length-take-le, get_or-take}
use Rattle.term_model.specs.Symbol.{Tuple}
use Rattle.term_store.specs.declared.stored.Extent.{Extent}
use Rattle.term_store.proofs.SymbolLaws.{store_back, held_back}
use Rattle.term_store.proofs.store.StoreSpace.cut.Goals as goal

pub last_extent-last-requires-clause-some : goal.last_extent-last-requires-clause-some
last_extent-last-requires-clause-some c =
    let s = c.args.self.now in
    let small = s.small in
    let far = c.requires.small in
    omega (arith, small, far)

pub truncate-requires-2 : goal.truncate-requires-2
truncate-requires-2 c =
    let s = c.args.self.now in
    let small = s.small in
    let sized = s.sized in
    let far = c.requires.small in
    omega (arith, small, sized, far)

pub invariant_of-self : goal.invariant_of-self
invariant_of-self c =
    let s = c.args.self.now in
    let few = c.last_extent-last.result.symbols in
    let kept = c.max-symbols.result in
    let names = c.last_extent-last.ensures.symbols in
    let is = c.max-symbols.ensures in
    let known = names.there in
    let there : kept ≤ length s.symbols.keys = omega (arith, is, known) in
    let long : length c.truncate-5.new.self.keys ≡ kept =
    ap length c.truncate-5.ensures.keys ∙ length-take-le kept s.symbols.keys there in
    record {
      store = rw (
        c.truncate.ensures.keys,
        c.truncate-2.ensures.items,
        c.truncate-3.ensures,
        c.truncate-4.ensures.items,
        c.truncate-5.ensures.keys,
      )
          (store_back s c.args.mark c.last_extent-last.result.chains few kept (omega (arith, c.requires.within))
          c.last_extent-last.ensures.chains names (omega (arith, is)) there);
      small = c.truncate.ensures.small ∙ s.small;
      sized = c.truncate-2.ensures.small ∙ s.sized;
      within = omega (arith, is, long);
    }

pub returns : goal.returns
returns c =
    let s = c.args.self.now in
    let few = c.last_extent-last.result.symbols in
    let kept = c.max-symbols.result in
    let names = c.last_extent-last.ensures.symbols in
    let is = c.max-symbols.ensures in
    let known = names.there in
    let there : kept ≤ length s.symbols.keys = omega (arith, is, known) in
    record {
      count = ap length c.truncate.ensures.keys ∙
          length-take-le c.args.mark s.shapes.keys (omega (arith, c.requires.within));
      terms = λ k h. rw (c.truncate.ensures.keys, c.truncate-3.ensures, c.truncate-5.ensures.keys)
          (held_back s c.args.mark c.last_extent-last.result.chains few kept (omega (arith, c.requires.within))
          c.last_extent-last.ensures.chains names (omega (arith, is)) there k h);
      extents = c.truncate-2.ensures.items;
      chains = c.truncate-3.ensures ∙
          ap (λ (x : Extent). take (x.chains + 1) s.chains) c.last_extent-last.ensures.extent;
      spans = c.truncate-4.ensures.items ∙
          ap (λ (x : Extent). take x.chains s.spans.items) c.last_extent-last.ensures.extent;
      kept = c.truncate-5.ensures.keys ∙ (ap (λ n. take n s.symbols.keys) is ∙
          ap (λ (x : Extent). take (max x.symbols s.named) s.symbols.keys) c.last_extent-last.ensures.extent);
      named = refl;
      symbols = λ n h. rw c.truncate-5.ensures.keys (get_or-take kept s.symbols.keys n Tuple (omega (arith, is, h)));
    }
