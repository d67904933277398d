use Rattle.std.proofs.Common.{◌≡◌, length}
use Rattle.strat_machine.proofs.compact_records.CompactRecords.count_calls.Given as goal

abbrev pub invariant-loop-waiting : goal.invariant-loop-waiting
invariant-loop-waiting g l = length l.counts.items ≡ length l.fn.counts.items
