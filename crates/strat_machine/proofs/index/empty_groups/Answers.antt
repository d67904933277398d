use Rattle.strat_machine.proofs.IndexLaws.{groups_on}
use Rattle.strat_machine.proofs.index.empty_groups.Goals as goal

pub loop-i-preserved : goal.loop-i-preserved
loop-i-preserved c = groups_on c.loop-i.groups.items c.push.new.self.items c.new.result c.loop-i._i c.loop-i.invariant.0
    c.loop-i.invariant.1 c.new.ensures.items c.in_ok-push.ensures.items
