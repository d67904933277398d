use Rattle.std.proofs.Common.{rules, ◌≡◌, ◌+◌, length, arith, subst}
use Rattle.term_store.specs.Places.{PlacedShapes}
use Rattle.term_store.specs.Store.{AreDistinct}
use Rattle.term_store.proofs.ChainLemmas.{distinct_places}
use Rattle.term_store.proofs.PlaceLaws.{length-keys, distinct_keys}
use Rattle.term_store.proofs.shapes.Shapes.len.Goals as goal

pub returns-clause-len : goal.returns-clause-len
returns-clause-len c =
    let l = length-keys c.self.inside.negative c.self.inside.small c.self.inside.held.keys in
    let n = c.len.ensures.len in
    subst (λ (p : PlacedShapes). c.self.inside.small + c.len.result ≡ length p.keys)
    c.self.view_is (omega (arith, l, n))

pub returns-clause-distinct : goal.returns-clause-distinct
returns-clause-distinct c =
    subst (λ (p : PlacedShapes). AreDistinct p.keys) c.self.view_is
    (distinct_keys c.self.inside.negative c.self.inside.small c.self.inside.held.keys c.self.invariant
    (distinct_places _ (λ x. search rules) c.self.inside.held.keys c.len.ensures.unique))
