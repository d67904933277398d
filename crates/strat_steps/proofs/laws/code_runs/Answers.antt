use Rattle.strat_steps.proofs.RunLaws.{runs}
use Rattle.strat_steps.proofs.laws.code_runs.Goals as goal

pub returns : goal.returns
returns c = record {
  runs = λ code M P i stands t budget. let r = runs code M P i stands t budget in
      (r.result, r.left, r.steps, r.run, r.says);
}
