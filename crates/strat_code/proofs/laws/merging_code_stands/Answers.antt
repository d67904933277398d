use Rattle.strat_code.proofs.WorkedLaws.{merging_stands}
use Rattle.strat_code.proofs.laws.merging_code_stands.Goals as goal

pub returns : goal.returns
returns c = record { stands = merging_stands }
