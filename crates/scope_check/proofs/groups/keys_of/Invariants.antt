use Rattle.std.proofs.Common.{◌≡◌, map, take}
use Rattle.scope_check.specs.Seen.{Key, among, key_of}
use Rattle.scope_check.specs.Tables.{heads_of}
use Rattle.scope_check.proofs.groups.keys_of.Given as goal

abbrev pub invariant-loop-head : goal.invariant-loop-head
invariant-loop-head l = (k : Key) → among l.keys k ≡ among (map key_of (heads_of (take l.head-index l.heads))) k
