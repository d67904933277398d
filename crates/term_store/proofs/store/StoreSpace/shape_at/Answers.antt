use Rattle.term_store.proofs.ShapeLaws.{shape_is}
use Rattle.term_store.proofs.store.StoreSpace.shape_at.Goals as goal

pub returns : goal.returns
returns c = shape_is c.args.self.now c.args.at c.get.result c.requires (c.get.ensures c.get.result)
