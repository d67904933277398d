use Rattle.std.proofs.Common.{arith}
use Rattle.strat_patterns.proofs.places.push_empty.Goals as goal

pub push_reserved-requires : goal.push_reserved-requires
push_reserved-requires g c = let h = c.loop-i.invariant.1 in let i = c.loop-i-test.true in omega arith
