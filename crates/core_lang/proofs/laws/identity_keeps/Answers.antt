use Rattle.core_lang.specs.Derivation.{by_id}
use Rattle.core_lang.proofs.laws.identity_keeps.Goals as goal

pub returns : goal.returns
returns c = record { named = λ M t. by_id; placed = λ M t. by_id }
