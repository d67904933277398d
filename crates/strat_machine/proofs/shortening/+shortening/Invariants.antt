use Rattle.std.proofs.Common.{◌+◌, ◌*◌, All, IsTrue}
use Rattle.strat_machine.proofs.shortening.+shortening.Given as goal

abbrev pub decreases-shorten : goal.decreases-shorten
decreases-shorten g l = 2 * l.depth + 1

abbrev pub decreases-shorten_all : goal.decreases-shorten_all
decreases-shorten_all g l = 2 * l.depth

abbrev pub invariant-shorten_all-loop-part : goal.invariant-shorten_all-loop-part
invariant-shorten_all-loop-part g l = All (λ r. IsTrue (g.S.TermSpace.space.stands l.space r)) l.part-iterator
