use Rattle.std.proofs.Common.{IsTrue, All}
use Rattle.store_bench.proofs.lists.numbered.Given as goal

abbrev pub invariant-loop-value : goal.invariant-loop-value
invariant-loop-value g l = All (λ r. IsTrue (g.S.TermSpace.space.stands l.space r)) l.elements.items
