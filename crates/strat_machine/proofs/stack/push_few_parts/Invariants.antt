use Rattle.std.proofs.Common.{◌≤◌}
use Rattle.strat_machine.specs.PartsOf.{PutsParts}
use Rattle.strat_machine.proofs.stack.push_few_parts.Given as goal

abbrev pub invariant-loop-index : goal.invariant-loop-index
invariant-loop-index g l = record {
  after : l.from ≤ l.index;
  within : l.index ≤ l.to;
  put : PutsParts g.S.TermSpace.space l.space l.of l.index l.to l.initial.stack l.stack;
}

abbrev pub decreases-loop-index : goal.decreases-loop-index
decreases-loop-index g l = l.index
