use Rattle.std.proofs.Common.{◌≡◌, ◌≤◌, ◌++◌, ◌∙◌, ap, take, arith}
use Rattle.term_store.specs.Extents.{small_extents, held_extents}
use Rattle.term_store.proofs.ExtentLaws.{extents-take}
use Rattle.term_store.proofs.extents.Extents.truncate.Goals as goal

pub returns-clause-items : goal.returns-clause-items
returns-clause-items c =
    let e = c.self.inside in
    let seen : small_extents e.small ++ held_extents e.epochs.items 0 e.sizes.items ≡ c.args.self.now.items =
    ap (λ v. v.items) c.self.view_is in
    let small : e.small ≡ c.args.self.now.small = ap (λ v. v.small) c.self.view_is in
    let within : e.small ≤ c.args.count = omega (arith, small, c.requires) in
    rw c.truncate.ensures.items
    (extents-take e.small c.args.count e.epochs.items c.cut.new.epochs.items e.sizes.items within c.cut.ensures) ∙
    ap (take c.args.count) seen
