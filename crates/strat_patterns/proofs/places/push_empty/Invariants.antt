use Rattle.std.proofs.Common.{◌≡◌, ◌≤◌, ◌+◌, ◌-◌, ◌++◌, None}
use Rattle.std.specs.Prelude.{replicate, vec_len, vec_capacity}
use Rattle.strat_patterns.proofs.places.push_empty.Given as goal

abbrev pub invariant-loop-i : goal.invariant-loop-i
invariant-loop-i g l =
    (l.slots.items ≡ l.initial.slots.items ++ replicate l._i None) ×
    (vec_len l.slots + (l.count - l._i) ≤ vec_capacity l.slots)
