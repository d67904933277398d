use Rattle.strat_compile.proofs.LayerLaws.{frames_frameless}
use Rattle.strat_compile.proofs.layers.+frames_among.Goals as goal

pub returns-in-Frameless-clause-frames : goal.returns-in-Frameless-clause-frames
returns-in-Frameless-clause-frames t c = frames_frameless _ _ _ c.in-Frameless.is
