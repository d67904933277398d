use Rattle.strat_machine.proofs.CompactLaws.{choice_dropped}
use Rattle.strat_machine.proofs.records.Records.drop_choice.Goals as goal

pub returns : goal.returns
returns g c = choice_dropped _ _ _ _ _ c.drop_choice.ensures
