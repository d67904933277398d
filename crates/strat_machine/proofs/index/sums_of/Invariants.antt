use Rattle.std.proofs.Common.{◌≡◌, ◌++◌, drop}
use Rattle.strat_machine.specs.Indexing.{sums_from}
use Rattle.strat_machine.proofs.index.sums_of.Given as goal

abbrev pub invariant-loop-case : goal.invariant-loop-case
invariant-loop-case g l = l.sums.items ++ sums_from l.sum (drop l.case-index l.cases) ≡ sums_from 0 l.cases
