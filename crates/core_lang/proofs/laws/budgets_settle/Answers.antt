use Rattle.core_lang.proofs.GoingLaws.{settles}
use Rattle.core_lang.proofs.laws.budgets_settle.Goals as goal

pub returns : goal.returns
returns c start = record {
  each_reading = λ R M V s t e b. let q = settles b V s t e in (q.how, q.left, q.fact);
  named = λ M V s t e b. let q = settles b V s t e in (q.how, q.left, q.fact);
}
