use Rattle.std.proofs.Common.{◌≡◌, ◌≤◌, ◌-◌, length, arith, subst}
use Rattle.term_store.specs.Places.{PlacedShapes}
use Rattle.term_store.proofs.PlaceLaws.{length-keys}
use Rattle.term_store.proofs.shapes.Shapes.held.Goals as goal

pub returns-clause-held : goal.returns-clause-held
returns-clause-held c =
    let l = length-keys c.self.inside.negative c.self.inside.small c.self.inside.held.keys in
    let n = c.len.ensures.len in
    subst (λ (p : PlacedShapes). c.len.result ≡ length p.keys - p.small) c.self.view_is (omega (arith, l, n))

pub returns-clause-small : goal.returns-clause-small
returns-clause-small c =
    let l = length-keys c.self.inside.negative c.self.inside.small c.self.inside.held.keys in
    subst (λ (p : PlacedShapes). p.small ≤ length p.keys) c.self.view_is (omega (arith, l))
