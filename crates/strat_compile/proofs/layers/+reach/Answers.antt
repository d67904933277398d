use Rattle.strat_compile.proofs.LayerLaws.{reached_frameless}
use Rattle.strat_compile.proofs.layers.+reach.Goals as goal

pub returns-in-Frameless-clause-context : goal.returns-in-Frameless-clause-context
returns-in-Frameless-clause-context t c = reached_frameless _ _ _ _ _ c.in-Frameless.is c.reach-found.ensures.context
