use Rattle.strat_machine.proofs.StackLaws.{move_step, left_step}
use Rattle.strat_machine.proofs.stack.Stack.move_to.Goals as goal

pub loop-preserved : goal.loop-preserved
loop-preserved g c = record {
  moved = move_step _ _ _ _ _ _ _ _ c.loop-test.true c.in-Some.ensures c.in_ok-push.ensures.pushed
      c.loop.invariant.moved;
  cut = left_step _ _ _ _ _ _ c.loop-test.true c.in-Some.ensures c.loop.invariant.cut;
}
