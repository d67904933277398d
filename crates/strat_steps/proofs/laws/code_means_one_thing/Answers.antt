use Rattle.strat_steps.proofs.OneMeaning.{one_meaning}
use Rattle.strat_steps.proofs.laws.code_means_one_thing.Goals as goal

pub returns : goal.returns
returns c = record {
  same = λ code M P Q i j p q t o n.
      ((λ d. one_meaning code M P Q i j p q t o n d), λ d. one_meaning code M Q P j i q p t o n d);
}
