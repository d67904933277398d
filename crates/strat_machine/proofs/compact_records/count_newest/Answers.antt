use Rattle.std.proofs.Common.{◌≡◌, length, arith}
use Rattle.strat_machine.proofs.CompactLaws.{counts_set}
use Rattle.strat_machine.proofs.compact_records.count_newest.Goals as goal

pub returns : goal.returns
returns g c v rest is =
    let k = c.len-count.ensures in
    let many : c.len-count.result ≡ length c.args.traversed.now.items = omega arith in
    counts_set _ _ _ _ _ v rest is many c.index_mut-newest.ensures.value
