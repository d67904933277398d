use Rattle.std.proofs.Common.{◌≡◌, ◌∙◌, ap, false, sym, true}
use Rattle.term_model.specs.TermParts.{head_of}
use Rattle.term_model.specs.declared.term.Head.TheVariants as heads
use Rattle.term_store.specs.Space.{symbol_at}
use Rattle.term_store.proofs.ShapeLaws.{integer_standing}
use Rattle.term_store.proofs.space.StoreSpaceTermSpace.is_app.Goals as goal

pub returns-in-None : goal.returns-in-None
returns-in-None c =
    let s = c.args.self.now in
    let is = c.in-None.ensures in
    let integer = integer_standing s c.args.at.now c.requires.stands is in (
      λ yes. absurd (let clash : false ≡ true = yes in cc),
      λ applied. let clash : heads.Int is.0 ≡ heads.App (symbol_at s c.args.name.now) =
          sym (ap head_of integer) ∙ applied.head in cc,
    )
