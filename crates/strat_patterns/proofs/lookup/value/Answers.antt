use Rattle.strat_steps.specs.State.{place_at}
use Rattle.strat_patterns.proofs.BuildingLaws.{value_known}
use Rattle.strat_patterns.proofs.lookup.value.Goals as goal

pub returns : goal.returns
returns g c = value_known g.S.TermSpace.space c.args.space.now (place_at c.args.frames.now c.args.here c.args.variable)
    c.args.slots.now c.held.result c.requires c.held.ensures
