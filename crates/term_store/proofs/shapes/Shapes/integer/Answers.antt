use Rattle.std.proofs.Common.{rules, ◌≡◌, sym, ◌∙◌, ap, subst}
use Rattle.term_store.specs.Places.{PlacedShapes, IsPlaced}
use Rattle.term_store.specs.declared.stored.StoredShape.TheVariants as forms
use Rattle.term_store.proofs.PlaceLaws.{small_at}
use mir.Val.{to_z, of_z}
use Rattle.std.specs.Int.{w64}
use Rattle.term_store.proofs.shapes.Shapes.integer.Goals as goal

pub returns-then-at-self : goal.returns-then-at-self
returns-then-at-self c =
    let z : to_z w64 (of_z w64 c.integer_of.result) ≡ c.integer_of.result = search rules in
    subst (λ (p : PlacedShapes). IsPlaced p c.args.at (forms.Int 0 (to_z w64 (of_z w64 c.integer_of.result))))
    c.self.view_is
    (λ d. small_at c.self.inside.negative c.self.inside.small c.self.inside.held.keys c.args.at d c.if-at-self.true ∙
    ap (forms.Int 0) (sym (z ∙ c.integer_of.ensures)))
