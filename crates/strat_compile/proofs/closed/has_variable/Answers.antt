use Rattle.strat_compile.proofs.ClosedLaws.{variable_reached}
use Rattle.strat_compile.proofs.closed.has_variable.Goals as goal

pub returns : goal.returns
returns c = λ e. variable_reached _ _ c.args.at.layers_up _ c.reach.ensures.context (c.is_variable.ensures e)
