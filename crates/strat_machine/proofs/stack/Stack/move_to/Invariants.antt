use Rattle.std.proofs.Common.{◌≡◌, ◌++◌, ◌-◌, reverse, take, drop}
use Rattle.strat_machine.proofs.stack.Stack.move_to.Given as goal

abbrev pub invariant-loop : goal.invariant-loop
invariant-loop g l = record {
  moved : reverse (take (l.moved - l.counter) l.self) ++ l.other ≡ reverse (take l.moved l.initial.self) ++
      l.initial.other;
  cut : drop (l.moved - l.counter) l.self ≡ drop l.moved l.initial.self;
}
