use Rattle.std.proofs.Common.{sym, ap, refl, arith}
use Rattle.strat_steps.specs.ReferenceSteps.{leaves, leaves_low}
use Rattle.strat_machine.proofs.StepLaws.{does_to, same_run, no_frame, some_frame, leaves_nothing}
use Rattle.strat_machine.proofs.steps.leave_scope.Goals as goal

pub returns-in_default : goal.returns-in_default
returns-in_default g c = λ M w i next. leaves_nothing (no_frame _ c.in_default.ensures)

pub returns-then-base-barrier : goal.returns-then-base-barrier
returns-then-base-barrier g c = λ M w i next.
    let k = c.barrier.ensures in let l = c.if-base-barrier.true in
    leaves_low (some_frame _ _ _ c.in-Some.ensures).1 (omega arith)

pub returns : goal.returns
returns g c = λ M w i next.
    let k = c.barrier.ensures in let l = c.if-base-barrier.false in
    let places = c.cut.ensures in
    does_to (leaves (some_frame _ _ _ c.in-Some.ensures).1 (omega arith))
    (same_run (sym next) refl (ap (λ v. v.slots) (sym places)) (sym c.cut-2.ensures) (ap (λ v. v.trail) (sym places))
    (ap (λ v. v.barrier) (sym places)) refl)
