use Rattle.std.proofs.Common.{◌≡◌, ◌-◌, length, arith}
use Rattle.strat_machine.proofs.StackLaws.{left_after}
use Rattle.strat_machine.proofs.stack.Stack.cut.Goals as goal

pub returns : goal.returns
returns g c =
    let k = c.len.ensures in let l = c.saturating_sub-kept.ensures in
    let at : c.saturating_sub-kept.result ≡ length c.self.inside.items.items - c.args.count = omega arith in
    left_after c.args.count _ _ _ _ at c.truncate.ensures.items c.self.view_is
