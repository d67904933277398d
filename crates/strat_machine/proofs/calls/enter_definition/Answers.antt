use Rattle.std.proofs.Common.{◌∷◌, [], ◌++◌, map, refl, ◌∙◌, ap}
use Rattle.strat_code.specs.CodeOf.{argument_of}
use Rattle.strat_steps.specs.State.{frame, closed}
use Rattle.strat_machine.specs.RecordStack.{records_in}
use Rattle.strat_machine.proofs.StepLaws.{same_run}
use Rattle.strat_machine.proofs.calls.enter_definition.Goals as goal

pub returns : goal.returns
returns g c =
    let m = c.args.stacks.now in
    let F = m.frames in
    let us = map argument_of c.args.arguments.now in
    let more = c.in_ok-extend.ensures in
    same_run refl c.len-inner.ensures (ap (λ v. v.slots) more)
    (c.in_ok-push_call.ensures.pushed ∙
    ap (λ u. F ++ frame c.args.base u (closed F c.args.position.now.frame us) ∷ []) c.frames_up-up.ensures)
    (ap (λ v. v.trail) more) (ap (λ v. v.barrier) more)
    (ap (λ rs. records_in rs m.records.done m.records.left) c.in_ok-push_call-2.ensures)
