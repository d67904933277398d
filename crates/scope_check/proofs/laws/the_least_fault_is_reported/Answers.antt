use Rattle.scope_check.specs.Complaint.{occurs}
use Rattle.scope_check.proofs.LeastLaws.{least}
use Rattle.scope_check.proofs.laws.the_least_fault_is_reported.Goals as goal

pub returns-clause-some : goal.returns-clause-some
returns-clause-some c = λ has file main fault is. least (occurs has file main) fault is
