use Rattle.std.proofs.Common.{sym, ap, refl}
use Rattle.strat_steps.specs.References.{ref_failing}
use Rattle.strat_machine.specs.RecordStack.{records_in}
use Rattle.strat_machine.proofs.OpenedLaws.{whole_failed}
use Rattle.strat_machine.proofs.FailLaws.{step_from, step_at}
use Rattle.strat_machine.proofs.failing.fail_newest_choice.Goals as goal

pub returns-in_default-clause-step : goal.returns-in_default-clause-step
returns-in_default-clause-step g c = λ code M.
    let m = c.args.stacks.now in
    step_from whole_failed (ap (λ rs. ref_failing m.places.slots m.frames m.places.trail m.places.barrier
    (records_in rs m.records.done m.records.left) m.left) (sym (c.requires.choice c.in_default.ensures.1)))

pub returns-clause-step : goal.returns-clause-step
returns-clause-step g c = λ code M. step_at _ _ (c.fail_choice.ensures.step code M) c.in-Some.ensures refl
