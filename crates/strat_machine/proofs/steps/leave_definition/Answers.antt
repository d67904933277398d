use Rattle.std.proofs.Common.{sym, ap, arith}
use Rattle.strat_steps.specs.ReferenceSteps.{ends_definition, ends_definition_low}
use Rattle.strat_machine.proofs.StepLaws.{does_to, no_frame, some_frame, ends_no_definition, ends_without_frame, after_call}
use Rattle.strat_steps.specs.References.{ref_running}
use Rattle.strat_machine.specs.RecordStack.{records_of}
use Rattle.strat_machine.proofs.steps.leave_definition.Goals as goal

pub returns-in_default : goal.returns-in_default
returns-in_default g c = λ M w i. ends_no_definition c.in_default.ensures

pub returns-in_default-base_of : goal.returns-in_default-base_of
returns-in_default-base_of g c =
    λ M w i. after_call c.in-Some.ensures (ends_without_frame (no_frame _ c.in_default-base_of.ensures))

pub returns-then-base-barrier : goal.returns-then-base-barrier
returns-then-base-barrier g c = λ M w i.
    let k = c.barrier.ensures in let l = c.if-base-barrier.true in
    after_call c.in-Some.ensures (ends_definition_low (some_frame _ _ _ c.in-Some-base_of.ensures).1 (omega arith))

pub returns : goal.returns
returns g c = λ M w i.
    let k = c.barrier.ensures in let l = c.if-base-barrier.false in
    after_call c.in-Some.ensures (
    does_to (ends_definition (some_frame _ _ _ c.in-Some-base_of.ensures).1 (omega arith))
    (ap (λ m. ref_running c.in-Some.next_address c.in-Some.frame c.args.position.now.term m.places.slots m.frames
    m.places.trail m.places.barrier (records_of m.records) m.left) (sym c.end_frame.ensures))
    )
