use Rattle.std.proofs.Common.{sym, ap, refl}
use Rattle.strat_machine.proofs.OpenedLaws.{choice_failed}
use Rattle.strat_machine.proofs.FailLaws.{step_to, same_running}
use Rattle.strat_machine.proofs.failing.fail_choice.Goals as goal

pub returns-clause-step : goal.returns-clause-step
returns-clause-step g c = λ code M.
    let places = c.go_back.ensures in
    step_to (choice_failed c.back_to.ensures)
    (same_running (ap (λ v. v.slots) (sym places)) (sym c.cut.ensures) (ap (λ v. v.trail) (sym places))
    (ap (λ v. v.barrier) (sym places)) refl)
