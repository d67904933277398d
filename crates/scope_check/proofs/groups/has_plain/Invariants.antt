use Rattle.std.proofs.Common.{◌≡◌, false, map, take}
use Rattle.scope_check.specs.Seen.{among, key_of, plain_key}
use Rattle.scope_check.specs.Tables.{heads_of}
use Rattle.scope_check.proofs.groups.has_plain.Given as goal

abbrev pub invariant-loop-head : goal.invariant-loop-head
invariant-loop-head l = among (map key_of (heads_of (take l.head-index l.heads))) (plain_key l.name) ≡ false
