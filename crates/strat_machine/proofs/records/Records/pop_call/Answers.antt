use Rattle.strat_machine.proofs.CompactLaws.{call_popped}
use Rattle.strat_machine.proofs.records.Records.pop_call.Goals as goal

pub returns : goal.returns
returns g c = call_popped _ _ _ _ _ c.pop_call.ensures
