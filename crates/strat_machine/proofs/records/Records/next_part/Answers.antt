use Rattle.strat_machine.proofs.FailLaws.{part_taken}
use Rattle.strat_machine.proofs.records.Records.next_part.Goals as goal

pub returns-clause-part : goal.returns-clause-part
returns-clause-part g c = part_taken _ _ _ _ c.if-count-eq0.false c.pop.ensures
