use Rattle.std.proofs.Common.{sym, ap, refl}
use Rattle.strat_steps.specs.References.{ref_failing}
use Rattle.strat_machine.specs.RecordStack.{records_in, records_of}
use Rattle.strat_machine.proofs.OpenedLaws.{whole_failed, all_failed}
use Rattle.std.proofs.lemmas.Result.{IfOk-weaker}
use Rattle.strat_machine.proofs.FailLaws.{step_from, step_to, step_at, same_failing}
use Rattle.strat_machine.proofs.failing.fail_traversal.Goals as goal

pub returns-in_default-clause-step : goal.returns-in_default-clause-step
returns-in_default-clause-step g c = λ code M.
    let m = c.args.stacks.now in
    step_from whole_failed (ap (λ rs. ref_failing m.places.slots m.frames m.places.trail m.places.barrier
    (records_in rs m.records.done m.records.left) m.left) (sym c.in_default.ensures))

pub returns-in-All-clause-step : goal.returns-in-All-clause-step
returns-in-All-clause-step g c = λ code M.
    step_at _ _ (step_to all_failed (same_failing refl refl refl refl (ap (λ rs. records_of rs) (sym c.cut.ensures))))
    c.in-Some.ensures c.in-All.is

pub returns-in-One-clause-step : goal.returns-in-One-clause-step
returns-in-One-clause-step g c =
    IfOk-weaker c.fail_one.result _ _ (λ next h code M. step_at _ _ (h code M) c.in-Some.ensures c.in-One.is)
    c.fail_one.ensures.step

pub returns-in-Some-record-clause-step : goal.returns-in-Some-record-clause-step
returns-in-Some-record-clause-step g c =
    IfOk-weaker c.fail_some.result _ _ (λ next h code M. step_at _ _ (h code M) c.in-Some.ensures c.in-Some-record.is)
    c.fail_some.ensures.step
