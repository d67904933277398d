use Rattle.strat_steps.specs.ReferenceSteps.{ends_argument}
use Rattle.strat_machine.proofs.StepLaws.{ends_no_argument, after_call}
use Rattle.strat_machine.proofs.steps.leave_argument.Goals as goal

pub returns-in_default : goal.returns-in_default
returns-in_default g c = λ M w i. ends_no_argument c.in_default.ensures

pub returns : goal.returns
returns g c = λ M w i. after_call c.in-Some.ensures ends_argument
