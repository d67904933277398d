use Rattle.strat_steps.proofs.ReferenceSteps.{step_so, steps_so}
use Rattle.strat_steps.proofs.ReferencesLast.{steps_last}
use Rattle.strat_steps.proofs.laws.references_step.Goals as goal

pub returns : goal.returns
returns c = record {
  step = λ code M w w1 m m1 x h. step_so x h;
  run = λ code M k w w1 m m1 x h. steps_so x h;
  lasts =
      λ code M k r w w1 m m1 x h. steps_last r x h;
}
