use Rattle.std.proofs.Common.{◌∙◌, ap, length, sym}
use Rattle.term_model.specs.Blocks.{list_in}
use Rattle.term_store.specs.Shapes.{shape_head, shape_parts}
use Rattle.term_store.proofs.LawsOfSpace.{list_at}
use Rattle.term_store.proofs.space.StoreSpaceTermSpace.list_len.Goals as goal

pub returns-in-List : goal.returns-in-List
returns-in-List c = list_at c.args.self.now c.args.at.now c.len_in.result c.shape_at.result c.shape_at.ensures
    (ap shape_head c.in-List.is) (c.len_in.ensures ∙
    ap (λ x. length (list_in c.args.self.now.chains (shape_parts x))) (sym c.in-List.is))
