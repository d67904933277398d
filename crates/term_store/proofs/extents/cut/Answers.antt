use Rattle.std.proofs.Common.{◌≡◌, ◌≤◌, ◌<◌, ◌-◌, length, get_or, take, vec_len, ap, sym, ◌∙◌, arith}
use Rattle.term_store.specs.declared.extents.Epoch.{Epoch}
use Rattle.term_store.proofs.ExtentLaws.{same_popped}
use Rattle.term_store.proofs.extents.cut.Goals as goal

pub loop-epochs-preserved : goal.loop-epochs-preserved
loop-epochs-preserved c =
    let d : Epoch = c.index.result.now in
    let count : c.len-in-loop-epochs.result ≡ length c.loop-epochs.epochs.items =
    omega (arith, c.len-in-loop-epochs.ensures) in
    let some : 0 < length c.loop-epochs.epochs.items = omega (arith, c.len.ensures, c.loop-epochs-test.true) in
    let is : d ≡ get_or c.loop-epochs.epochs.items (length c.loop-epochs.epochs.items - 1) d =
    c.index.ensures ∙ ap (λ k. get_or c.loop-epochs.epochs.items (k - 1) d) count in
    let first = ap (λ (f : Epoch). f.first) is in
    let late : c.args.number ≤ (get_or c.loop-epochs.epochs.items (length c.loop-epochs.epochs.items - 1) d).first =
    omega (arith, first, c.if-index-number.false) in
    let long : vec_len c.loop-epochs.epochs ≡ length c.loop-epochs.epochs.items =
    sym c.len-in-loop-epochs.ensures ∙ count in
    let rest = c.pop-epoch.ensures.rest ∙ ap (λ k. take (k - 1) c.loop-epochs.epochs.items) long in
    same_popped c.args.number c.args.epochs.now.items c.loop-epochs.epochs.items c.pop-epoch.new.self.items d
    c.loop-epochs.invariant some late rest
