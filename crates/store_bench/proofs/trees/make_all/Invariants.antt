use Rattle.std.proofs.Common.{IsTrue, All}
use Rattle.store_bench.proofs.trees.make_all.Given as goal

abbrev pub invariant-loop-node : goal.invariant-loop-node
invariant-loop-node g l = IsTrue (g.S.TermSpace.space.knows l.space l.name) ×
    All (λ r. IsTrue (g.S.TermSpace.space.stands l.space r)) l.stack.items
