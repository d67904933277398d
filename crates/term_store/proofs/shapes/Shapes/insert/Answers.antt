use Rattle.std.proofs.Common.{◌≡◌, sym, ◌∙◌, subst}
use Rattle.std.proofs.lemmas.Option.{get_or_from_slice_get}
use Rattle.term_store.specs.Places.{PlacedShapes, IsPlaced}
use Rattle.term_store.proofs.PlaceLaws.{small_at}
use Rattle.term_store.proofs.StoreLemmas.{shape_equal}
use Rattle.term_store.proofs.PlaceLaws.{numbered_at, large_inserted}
use Rattle.term_store.proofs.shapes.Shapes.insert.Goals as goal

pub returns-in-Some-clause-placed : goal.returns-in-Some-clause-placed
returns-in-Some-clause-placed c =
    subst (λ (p : PlacedShapes). IsPlaced p c.in-Some.place c.args.shape) c.self.view_is
    (λ d. small_at c.self.inside.negative c.self.inside.small c.self.inside.held.keys c.in-Some.place d
    c.in-Some.ensures.within ∙ sym c.in-Some.ensures.placed)

pub invariant_of-self-2 : goal.invariant_of-self-2
invariant_of-self-2 c =
    large_inserted c.self.inside.negative c.self.inside.small c.self.inside.held.keys c.insert_full.new.self.keys
    c.args.shape _ c.self.invariant c.in_default.ensures.placed c.in_ok-number.ensures.keys

pub returns-clause-placed : goal.returns-clause-placed
returns-clause-placed c =
    let stored = c.in_ok-number.ensures.stored in
    let same : c.args.shape ≡ stored.0 = shape_equal c.args.shape stored.0 stored.2 in
    λ d. numbered_at c.self.inside.negative c.self.inside.small c.insert_full.new.self.keys c.in_ok-number.number d ∙
    (get_or_from_slice_get c.insert_full.new.self.keys c.in_ok-number.number stored.0 d stored.1 ∙ sym same)
