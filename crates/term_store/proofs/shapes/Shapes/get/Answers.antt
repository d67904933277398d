use Rattle.std.proofs.Common.{rules, ◌≡◌, ◌-◌, arith, sym, ◌∙◌, ap, subst}
use Rattle.std.proofs.lemmas.Grind.{common_steps}
use Rattle.std.proofs.lemmas.Option.{get_or_from_slice_get}
use Rattle.term_store.specs.Places.{PlacedShapes, IsPlaced}
use Rattle.term_store.specs.declared.stored.StoredShape.{StoredShape}
use Rattle.term_store.specs.declared.stored.StoredShape.TheVariants as forms
use Rattle.term_store.proofs.PlaceLaws.{small_at, held_at}
use mir.Val.{to_z, of_z}
use Rattle.std.specs.Int.{w64}
use Rattle.term_store.proofs.shapes.Shapes.get.Goals as goal

pub returns-then-at-self : goal.returns-then-at-self
returns-then-at-self c =
    let z : to_z w64 (of_z w64 c.integer_of.result) ≡ c.integer_of.result = search rules in
    subst (λ (p : PlacedShapes). IsPlaced p c.args.at (forms.Int 0 (to_z w64 (of_z w64 c.integer_of.result))))
    c.self.view_is
    (λ d. small_at c.self.inside.negative c.self.inside.small c.self.inside.held.keys c.args.at d c.if-at-self.true ∙
    ap (forms.Int 0) (sym (z ∙ c.integer_of.ensures)))

pub returns : goal.returns
returns c =
    let x : StoredShape = c.unwrap.result.now in
    subst (λ (p : PlacedShapes). IsPlaced p c.args.at x) c.self.view_is
    (λ d. held_at c.self.inside.negative c.self.inside.small c.self.inside.held.keys c.args.at d
    (omega (arith, c.if-at-self.false)) ∙
    get_or_from_slice_get c.self.inside.held.keys (c.args.at - c.self.inside.small)
    x d (grind (arith, common_steps)))
