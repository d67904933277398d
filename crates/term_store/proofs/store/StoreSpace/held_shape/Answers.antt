use Rattle.term_store.proofs.ShapeLaws.{shape_is}
use Rattle.term_store.proofs.store.StoreSpace.held_shape.Goals as goal

pub returns-in-Some : goal.returns-in-Some
returns-in-Some c = shape_is c.args.self.now c.args.at c.in-Some.shape.now c.requires
    (c.in-Some.ensures c.in-Some.shape.now)
