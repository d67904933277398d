use Rattle.std.proofs.Common.{take}
use Rattle.strat_machine.specs.Indexing.{AreGrouped}
use Rattle.strat_machine.proofs.index.group_cases.Given as goal

abbrev pub invariant-loop-entry : goal.invariant-loop-entry
invariant-loop-entry g l = AreGrouped g.S.TermSpace.space.number_of (take l.entry l.cases) l.groups
