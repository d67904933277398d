use Rattle.strat_code.proofs.WorkedLaws.{walking_stands}
use Rattle.strat_code.proofs.laws.walking_code_stands.Goals as goal

pub returns : goal.returns
returns c = record { stands = walking_stands }
