use Rattle.std.proofs.Common.{◌≡◌, drop}
use Rattle.std.specs.List.{list_any}
use Rattle.scope_check.specs.Complaint.{clash}
use Rattle.scope_check.specs.Found.{found_if, joined}
use Rattle.scope_check.specs.Seen.{among, key_of}
use Rattle.scope_check.specs.Tables.{heads_of}
use Rattle.scope_check.proofs.library.find_among.Given as goal

abbrev pub invariant-loop-head : goal.invariant-loop-head
invariant-loop-head l =
    joined l.findings (found_if clash (list_any (λ h. among l.keys (key_of h))
    (heads_of (drop l.head-index l.heads)))) ≡
    joined l.initial.findings (found_if clash (list_any (λ h. among l.keys (key_of h)) (heads_of l.heads)))
