use Rattle.std.proofs.Common.{◌≡◌, ◌∷◌, [], ◌++◌, ◌∙◌, ap, length, arith}
use Rattle.term_store.specs.Extents.{small_extents, held_extents, no_epoch, epoch_at, AreSameBelow, HasCounts}
use Rattle.term_store.proofs.ExtentLaws.{extents-push}
use Rattle.term_store.proofs.extents.Extents.push_reserved.Goals as goal

pub returns-clause-items : goal.returns-clause-items
returns-clause-items c =
    let e = c.self.inside in
    let seen : small_extents e.small ++ held_extents e.epochs.items 0 e.sizes.items ≡ c.args.self.now.items =
    ap (λ v. v.items) c.self.view_is in
    let number : c.len-number.result ≡ length e.sizes.items = omega (arith, c.len-number.ensures) in
    let same : AreSameBelow (length e.sizes.items) e.epochs.items c.put_counts.new.epochs.items =
    rw number at c.put_counts.ensures.same in
    let counts : HasCounts (epoch_at no_epoch c.put_counts.new.epochs.items (length e.sizes.items)) c.args.extent =
    rw number at c.put_counts.ensures.counts in
    rw c.push_reserved.ensures.items
    (extents-push e.small e.epochs.items c.put_counts.new.epochs.items e.sizes.items c.args.extent same counts)
    ∙ ap (λ xs. xs ++ c.args.extent ∷ []) seen
