use Rattle.core_eval.specs.Frame.{environment_of}
use Rattle.core_eval.proofs.ClosureLaws.{closures_done, closures_next}
use Rattle.core_eval.proofs.callee.closures_of.Goals as goal

pub returns : goal.returns
returns c = closures_done (environment_of c.args.frame.now)
    c.args.strategies.now c.loop-s.s-index c.loop-s.made.items c.loop-s.invariant c.loop-s-test.false

pub loop-s-preserved : goal.loop-s-preserved
loop-s-preserved c =
    closures_next (environment_of c.args.frame.now)
    c.args.strategies.now c.loop-s.s-index c.loop-s.made.items c.loop-s.invariant c.s-item.result c.handed_on.result
    _
    c.loop-s-test.true c.s-item.is c.in_ok-push.ensures.items c.handed_on.ensures
