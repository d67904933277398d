use Rattle.std.proofs.Common.{List, ℕ, ap, map}
use Rattle.term_model.specs.Blocks.{list_in}
use Rattle.term_store.specs.Space.{term_of}
use Rattle.term_store.proofs.LendingLaws.{same_places}
use Rattle.term_store.proofs.store.StoreSpace.are_same.Goals as goal

pub returns : goal.returns
returns c =
    let s = c.args.self.now in
    let xs : List ℕ = list_in s.chains c.args.block in
    let are = c.distinct.ensures in (
      λ same. ap (map (term_of s)) (c.is_of.ensures.0 same),
      λ equal. c.is_of.ensures.1
          (same_places s are.symbols are.chains are.shapes xs c.args.places.now c.requires.block.stand c.requires.stand
          equal),
    )
