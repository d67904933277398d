use Rattle.std.proofs.lemmas.List.{get_or_default}
use Rattle.strat_patterns.proofs.FrameLaws.{one_pushed}
use Rattle.strat_patterns.proofs.frames.push_each.Goals as goal

pub loop-argument-preserved : goal.loop-argument-preserved
loop-argument-preserved c =
    one_pushed _ _ _ _ _ _ _ _ _ _ c.requires c.loop-argument-test.true c.loop-argument.invariant
    (get_or_default _ _ _ _ c.loop-argument-test.true)
    c.deref.ensures.value c.in_ok-closure.ensures c.in_ok-push_on.ensures.pushed
