use Rattle.strat_code.proofs.WorkedLaws.{small_stands, small_is_code}
use Rattle.strat_code.proofs.laws.small_code_stands.Goals as goal

pub returns : goal.returns
returns c = record { stands = small_stands; is_code = small_is_code }
