use Rattle.std.proofs.Common.{refl, arith}
use Rattle.strat_machine.proofs.CompactLaws.{newest_in, advances}
use Rattle.strat_machine.proofs.compact_records.CompactRecords.advance_all.Goals as goal

pub returns : goal.returns
returns g c =
    let item = c.in_ok-newest.ensures.item in
    let zero = c.if-newest-eq0.false in
    advances c.self.inside.checkpoints c.self.inside.traversed.items c.count_newest.new.traversed.items
    c.in_ok-newest.newest.now _ _ _ c.self.inside.records _ _ _ _ c.self.view_is c.in_ok-newest_item.ensures
    c.in-All.is (newest_in _ _ _ c.deref.ensures.value item.3.0 item.1) (omega arith)
    c.in_ok-done.ensures.1 refl c.in_ok-part.ensures c.count_newest.ensures
