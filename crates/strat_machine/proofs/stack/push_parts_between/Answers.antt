use Rattle.std.proofs.Common.{◌≡◌, length, arith}
use Rattle.strat_machine.proofs.TraversalLaws.{parts_put}
use Rattle.strat_machine.proofs.stack.push_parts_between.Goals as goal

pub returns : goal.returns
returns g c =
    let k = c.len-before.ensures in
    let from : c.len-before.result ≡ length c.stack.inside.items.items = omega arith in
    parts_put _ _ _ _ _ _ _ _ _ _ c.requires.within c.in_ok-push_parts_from.ensures.pushed from
    c.reverse_from.ensures c.stack.view_is
