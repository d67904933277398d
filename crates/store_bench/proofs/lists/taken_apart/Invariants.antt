use Rattle.std.proofs.Common.{IsTrue}
use Rattle.store_bench.proofs.lists.taken_apart.Given as goal

abbrev pub invariant-loop-index : goal.invariant-loop-index
invariant-loop-index g l = IsTrue (g.S.TermSpace.space.stands l.space l.tail)
