use Rattle.std.proofs.Common.{◌≡◌}
use Rattle.scope_check.proofs.clashes.place_clashes.Given as goal

abbrev pub invariant-loop-name : goal.invariant-loop-name
invariant-loop-name l = l.findings ≡ l.initial.findings
