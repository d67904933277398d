use Rattle.std.proofs.Common.{rules, ◌≡◌, ◌<◌, sym, ◌∙◌, ap, subst}
use Rattle.term_store.specs.Places.{PlacedShapes, integer_at, IsPlaced}
use Rattle.term_store.specs.declared.stored.StoredShape.{StoredShape}
use Rattle.term_store.specs.declared.stored.StoredShape.TheVariants as forms
use Rattle.term_store.proofs.PlaceLaws.{small_at}
use Rattle.std.specs.Prelude.{Option, Some, None, MatchOption, ⊤, ℕ, ℤ, List, ◌++◌}
use Rattle.term_store.specs.Places.{integers, IsLarge}
use mir.Val.{to_z, of_z}
use Rattle.std.specs.Int.{w64}
use Rattle.term_store.proofs.shapes.Shapes.place_of.Goals as goal

placed : (negative small : ℕ) (held : List StoredShape) (value : ℤ) (found : Option ℕ) →
    MatchOption found ⊤ (λ p. p < small) →
    MatchOption found (IsLarge negative small value) (λ p. value ≡ integer_at negative p)
    → MatchOption found ⊤ (λ p. IsPlaced (record { small = small; keys = integers negative small ++ held })
    p (forms.Int 0 value))
placed negative small held value None within is = tt
placed negative small held value (Some p) within is =
    λ d. small_at negative small held p d within ∙ ap (forms.Int 0) (sym is)

pub returns-clause-placed : goal.returns-clause-placed
returns-clause-placed c =
    let z : to_z w64 (of_z w64 c.args.value) ≡ c.args.value = search rules in
    let is = subst (λ v. MatchOption c.small_place.result (IsLarge c.self.inside.negative c.self.inside.small v)
    (λ p. v ≡ integer_at c.self.inside.negative p)) z c.small_place.ensures.placed in
    subst (λ (p : PlacedShapes). MatchOption c.small_place.result ⊤ (λ k. IsPlaced p k (forms.Int 0 c.args.value)))
    c.self.view_is
    (placed c.self.inside.negative c.self.inside.small c.self.inside.held.keys c.args.value c.small_place.result
    c.small_place.ensures.within is)
