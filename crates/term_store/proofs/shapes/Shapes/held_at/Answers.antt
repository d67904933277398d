use Rattle.std.proofs.Common.{◌-◌, arith, ◌∙◌, subst}
use Rattle.std.proofs.lemmas.Grind.{common_steps}
use Rattle.std.proofs.lemmas.Option.{get_or_from_slice_get}
use Rattle.term_store.specs.Places.{PlacedShapes, integer_at, HasInteger, IsPlaced}
use Rattle.term_store.specs.declared.stored.StoredShape.{StoredShape}
use Rattle.term_store.proofs.PlaceLaws.{small_at, held_at}
use Rattle.term_store.proofs.shapes.Shapes.held_at.Goals as goal

pub returns-then-at-self : goal.returns-then-at-self
returns-then-at-self c =
    subst (λ (p : PlacedShapes). HasInteger p c.args.at) c.self.view_is (
      integer_at c.self.inside.negative c.args.at,
      λ d. small_at c.self.inside.negative c.self.inside.small c.self.inside.held.keys c.args.at d c.if-at-self.true,
    )

pub returns : goal.returns
returns c =
    let x : StoredShape = c.unwrap.result.now in
    subst (λ (p : PlacedShapes). IsPlaced p c.args.at x) c.self.view_is
    (λ d. held_at c.self.inside.negative c.self.inside.small c.self.inside.held.keys c.args.at d
    (omega (arith, c.if-at-self.false)) ∙
    get_or_from_slice_get c.self.inside.held.keys (c.args.at - c.self.inside.small)
    x d (grind (arith, common_steps)))
