use Rattle.std.proofs.Common.{rules, ◌≡◌, subst}
use mir.Val.{to_z, of_z}
use Rattle.std.specs.Int.{w64}
use Rattle.term_store.specs.Places.{IsPlaced}
use Rattle.term_store.specs.declared.stored.StoredShape.TheVariants as forms
use Rattle.term_store.proofs.ShapeLaws.{integer_term}
use Rattle.term_store.proofs.space.StoreSpaceTermSpace.int.Goals as goal

pub returns-in-Some-clause-term : goal.returns-in-Some-clause-term
returns-in-Some-clause-term c =
    let s = c.args.self.now in
    let z : to_z w64 (of_z w64 c.args.value) ≡ c.args.value = search rules in
    let placed : IsPlaced s.shapes c.in-Some.place (forms.Int 0 c.args.value) =
    subst (λ v. IsPlaced s.shapes c.in-Some.place (forms.Int 0 v)) z c.in-Some.ensures.placed in
    integer_term s c.in-Some.place c.args.value c.in-Some.ensures.within placed
