use Rattle.std.proofs.Common.{sym, ap, refl}
use Rattle.std.proofs.lemmas.Result.{on_ok_weaker}
use Rattle.strat_steps.specs.ReferenceSteps.{extends}
use Rattle.strat_machine.proofs.StepLaws.{does_to, same_run}
use Rattle.strat_machine.proofs.steps.extend_scope.Goals as goal

pub returns : goal.returns
returns g c = on_ok_weaker c.extend.result (λ places M w n i next.
    does_to extends (same_run (sym next) refl (ap (λ v. v.slots) (sym places)) refl (ap (λ v. v.trail) (sym places))
    (ap (λ v. v.barrier) (sym places)) refl)) c.extend.ensures
