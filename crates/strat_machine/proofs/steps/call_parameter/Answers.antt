use Rattle.std.proofs.Common.{sym, ap, ◌∙◌, ◌∷◌, refl}
use Rattle.strat_steps.specs.ReferenceSteps.{calls_closure}
use Rattle.strat_steps.specs.References.{ref_call}
use Rattle.strat_machine.specs.RecordStack.{records_in, records_of}
use Rattle.strat_machine.proofs.StepLaws.{does_to, same_run}
use Rattle.strat_machine.proofs.steps.call_parameter.Goals as goal

pub returns : goal.returns
returns g c = λ M w n i next.
    let closure = c.closure_of-closure.ensures in
    let K = records_of c.args.stacks.now.records in
    does_to calls_closure
    (same_run (ap (λ v. v.0) (sym closure)) (ap (λ v. v.1) (sym closure)) refl refl refl refl
    (ap (λ a. ref_call a c.args.position.now.frame ∷ K) (sym next) ∙
    ap (λ rs. records_in rs c.args.stacks.now.records.done c.args.stacks.now.records.left)
    (sym c.in_ok-push_call.ensures)))
