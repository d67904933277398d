use Rattle.std.proofs.Common.{◌∙◌, ap, map, sym}
use Rattle.term_model.specs.TermParts.{parts_of}
use Rattle.term_store.specs.Space.{term_of}
use Rattle.term_store.proofs.ShapeLaws.{integer_standing}
use Rattle.term_store.proofs.space.StoreSpaceTermSpace.parts.Goals as goal

pub returns-in-None-clause-parts : goal.returns-in-None-clause-parts
returns-in-None-clause-parts c =
    let s = c.args.self.now in
    ap (map (term_of s)) c.of_slice.ensures ∙
    sym (ap parts_of (integer_standing s c.args.at.now c.requires c.in-None.ensures))
