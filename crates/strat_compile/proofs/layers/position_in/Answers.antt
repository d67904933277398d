use Rattle.strat_compile.proofs.LayerLaws.{slot_seen, slot_frameless}
use Rattle.strat_compile.proofs.layers.position_in.Goals as goal

pub returns-then-reached : goal.returns-then-reached
returns-then-reached c = slot_seen _ _ _ c.if-reached.true

pub returns-in-Frameless : goal.returns-in-Frameless
returns-in-Frameless c = slot_frameless _ _ _ _ c.in-Frameless.is
