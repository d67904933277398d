use Rattle.strat_compile.proofs.ClosedLaws.{callee_reached}
use Rattle.strat_compile.proofs.closed.has_callee.Goals as goal

pub returns : goal.returns
returns c = λ e. callee_reached _ _ c.args.at.layers_up _ _ _ c.reach.ensures.context (c.is_callee.ensures e)
