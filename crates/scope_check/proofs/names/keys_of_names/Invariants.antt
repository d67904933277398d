use Rattle.std.proofs.Common.{◌≡◌, map, take}
use Rattle.scope_check.specs.Seen.{Key, among, plain_key}
use Rattle.scope_check.proofs.names.keys_of_names.Given as goal

abbrev pub invariant-loop-name : goal.invariant-loop-name
invariant-loop-name l = (k : Key) → among l.keys k ≡ among (map plain_key (take l.name-index l.names)) k
