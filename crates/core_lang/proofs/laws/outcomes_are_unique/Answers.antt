use Rattle.core_lang.proofs.Unique.{unique}
use Rattle.core_lang.proofs.laws.outcomes_are_unique.Goals as goal

pub returns : goal.returns
returns c start = record {
  each_reading = λ R M V s t e o o1 n n1 x y. let q = unique x y in (q.outcome, q.nodes);
  named = λ M V s t e o o1 n n1 x y. let q = unique x y in (q.outcome, q.nodes);
}
