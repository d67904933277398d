-- The last of the first shapes came when the most chains and symbols were there.
use Rattle.std.proofs.Common.{◌<◌, ◌≤◌, ◌-◌, length, get_or, arith, subst, sym}
use Rattle.std.proofs.lemmas.List.{get_or_default}
use Rattle.term_store.specs.declared.stored.Extent.{Extent}
use Rattle.term_store.specs.Extents.{small_extent}
use Rattle.term_store.specs.Space.{last_extent}
use Rattle.term_store.specs.Store.{IsLast, AreNamed}
use Rattle.term_store.proofs.StoreLemmas.{none_shape}
use Rattle.term_store.proofs.store.StoreSpace.last_extent.Goals as goal

pub returns-clause-extent : goal.returns-clause-extent
returns-clause-extent c = c.get.ensures small_extent

pub returns-clause-chains : goal.returns-clause-chains
returns-clause-chains c =
    let s = c.args.self.now in
    let store = s.store in
    let at = c.args.places - 1 in
    let below : at < length s.shapes.keys = omega (arith, c.requires.some, c.requires.within) in
    let many = store.as_many in
    let is : IsLast s.chains s.extents.items c.args.places (last_extent s c.args.places).chains =
    record {
      there = store.last at small_extent below;
      bound = λ k e h. subst (λ (x : Extent). (get_or s.extents.items k e).chains ≤ x.chains)
          (get_or_default s.extents.items at e small_extent (omega (arith, below, many)))
          (store.ordered k at e (omega (arith, h)) below);
      early = λ j h k d within. let one = (store.entries at none_shape small_extent below).early j h k d within in
          omega (arith, one);
    } in
    subst (λ (x : Extent). IsLast s.chains s.extents.items c.args.places x.chains) (sym (c.get.ensures small_extent)) is

pub returns-clause-symbols : goal.returns-clause-symbols
returns-clause-symbols c =
    let s = c.args.self.now in
    let store = s.store in
    let at = c.args.places - 1 in
    let below : at < length s.shapes.keys = omega (arith, c.requires.some, c.requires.within) in
    let many = store.as_many in
    let is : AreNamed s.symbols.keys s.extents.items c.args.places (last_extent s c.args.places).symbols =
    record {
      there = (store.entries at none_shape small_extent below).known;
      bound = λ k e h. subst (λ (x : Extent). (get_or s.extents.items k e).symbols ≤ x.symbols)
          (get_or_default s.extents.items at e small_extent (omega (arith, below, many)))
          (store.in_turn k at e (omega (arith, h)) below);
    } in
    subst (λ (x : Extent). AreNamed s.symbols.keys s.extents.items c.args.places x.symbols)
    (sym (c.get.ensures small_extent)) is
