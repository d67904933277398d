use Rattle.std.proofs.Common.{sym, ap, refl}
use Rattle.strat_steps.specs.ReferenceSteps.{commits}
use Rattle.strat_machine.proofs.StepLaws.{does_to, same_run, commits_nothing, commits_this}
use Rattle.strat_machine.proofs.steps.commit_choice.Goals as goal

pub returns-in_default : goal.returns-in_default
returns-in_default g c = λ M w n i. commits_nothing c.in_default.ensures

pub returns : goal.returns
returns g c = λ M w n i.
    let places = c.trim.ensures in
    commits_this c.in-Some.ensures
    (does_to commits (same_run refl refl (ap (λ v. v.slots) (sym places)) refl (ap (λ v. v.trail) (sym places))
    (ap (λ v. v.barrier) (sym places)) refl))
