use Rattle.std.proofs.Common.{◌≡◌}
use Rattle.strat_compile.specs.Output.{emitted_of, with_labels}
use Rattle.strat_compile.proofs.output.Output.add_labels.Given as goal

abbrev pub invariant-loop : goal.invariant-loop
invariant-loop l = emitted_of l.self ≡ with_labels l.counter (emitted_of l.initial.self)
