use Rattle.strat_machine.proofs.FailLaws.{fails_popped}
use Rattle.strat_machine.proofs.failing.fail.Goals as goal

pub returns-then-is_call-clause-step : goal.returns-then-is_call-clause-step
returns-then-is_call-clause-step g c =
    λ code M. fails_popped _ _ _ _ _ c.pop_call-call.ensures (c.is_call.ensures.yes (search (c.if-is_call.true)))
