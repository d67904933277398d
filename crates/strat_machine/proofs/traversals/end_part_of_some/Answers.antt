use Rattle.strat_machine.proofs.TraversalLaws.{tried_parts}
use Rattle.strat_machine.proofs.traversals.end_part_of_some.Goals as goal

pub next_of_some-requires : goal.next_of_some-requires
next_of_some-requires g c =
    tried_parts c.args.stacks.now.records c.args.traversed _ _ _ c.requires c.in_ok-more.ensures
    (rw c.in_ok-done.ensures.same at c.in_ok-push.ensures.pushed)
