use Rattle.scope_check.proofs.AlternativeLaws.{Judging}
use Rattle.scope_check.proofs.alternatives.find_in_group.Given as goal

abbrev pub invariant-loop-head : goal.invariant-loop-head
invariant-loop-head l = Judging l.heads l.head-index l.groups.by_key l.refused l.initial.findings l.findings
