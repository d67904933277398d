use Rattle.std.proofs.Common.{◌≡◌, ℕ, [], length}
use Rattle.strat_machine.specs.Indexing.{group_at}
use Rattle.strat_machine.proofs.index.empty_groups.Given as goal

abbrev pub invariant-loop-i : goal.invariant-loop-i
invariant-loop-i l = (length l.groups.items ≡ l._i) × ((k : ℕ) → group_at l.groups.items k ≡ [])
