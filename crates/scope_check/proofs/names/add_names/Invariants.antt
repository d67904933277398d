use Rattle.scope_check.proofs.NameLaws.{Noting}
use Rattle.scope_check.proofs.names.add_names.Given as goal

abbrev pub invariant-loop-name : goal.invariant-loop-name
invariant-loop-name l = Noting l.initial.keys l.names l.name-index l.keys l.initial.findings l.findings
