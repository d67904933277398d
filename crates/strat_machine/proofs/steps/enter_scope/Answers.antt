use Rattle.std.proofs.Common.{sym, ◌∙◌, ap, ◌++◌, ◌∷◌, [], refl}
use Rattle.strat_steps.specs.State.{frame}
use Rattle.strat_steps.specs.ReferenceSteps.{enters}
use Rattle.strat_machine.proofs.StepLaws.{does_to, same_run}
use Rattle.strat_machine.proofs.steps.enter_scope.Goals as goal

pub returns : goal.returns
returns g c = λ M w n i next.
    let m = c.args.stacks.now in
    let places = c.in_ok-extend.ensures in
    does_to enters
    (same_run (sym next) (sym c.len-inner.ensures) (ap (λ v. v.slots) (sym places))
    (ap (λ k. m.frames ++ frame k c.args.position.now.frame [] ∷ []) (sym c.len.ensures) ∙
    sym c.in_ok-push_scope.ensures.pushed)
    (ap (λ v. v.trail) (sym places)) (ap (λ v. v.barrier) (sym places)) refl)
