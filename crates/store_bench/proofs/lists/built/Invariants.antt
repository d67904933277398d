use Rattle.std.proofs.Common.{IsTrue}
use Rattle.store_bench.proofs.lists.built.Given as goal

abbrev pub invariant-loop-value : goal.invariant-loop-value
invariant-loop-value g l = IsTrue (g.S.TermSpace.space.stands l.space l.list)
