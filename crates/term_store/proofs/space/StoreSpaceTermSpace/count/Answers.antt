use Rattle.std.proofs.Common.{◌∙◌, ap, length, sym}
use Rattle.term_model.specs.Blocks.{list_in}
use Rattle.term_model.specs.TermParts.{parts_of}
use Rattle.term_store.proofs.LawsOfSpace.{counted}
use Rattle.term_store.proofs.ShapeLaws.{integer_standing}
use Rattle.term_store.proofs.space.StoreSpaceTermSpace.count.Goals as goal

pub returns-in-None : goal.returns-in-None
returns-in-None c =
    let s = c.args.self.now in
    sym (ap (λ t. length (parts_of t)) (integer_standing s c.args.at.now c.requires c.in-None.ensures))

pub returns-in-Some : goal.returns-in-Some
returns-in-Some c = counted c.args.self.now c.args.at.now c.len_in.result c.in-Some.shape.now c.in-Some.ensures
    (c.len_in.ensures ∙ ap (λ b. length (list_in c.args.self.now.chains b)) c.parts.ensures)
