use Rattle.std.proofs.Common.{◌∙◌}
use Rattle.term_store.proofs.StoreLemmas.{none_shape, none_extent}
use Rattle.term_store.proofs.store.StoreSpace.extent.Goals as goal

pub returns : goal.returns
returns c =
    let s = c.args.self.now in
    let is = (s.store.entries c.args.at none_shape none_extent c.requires).size in
    record {
      weight = c.size.ensures.weight none_extent ∙ is.weight;
      depth =
          c.size.ensures.depth none_extent ∙ is.depth;
      fits = is.fits;
    }
