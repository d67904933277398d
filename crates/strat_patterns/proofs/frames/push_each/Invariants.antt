use Rattle.strat_patterns.proofs.FrameLaws.{ArePushed}
use Rattle.strat_patterns.proofs.frames.push_each.Given as goal

abbrev pub invariant-loop-argument : goal.invariant-loop-argument
invariant-loop-argument l = ArePushed l.frames l.initial.closures.items l.here l.arguments l.argument-index
    l.closures.items
