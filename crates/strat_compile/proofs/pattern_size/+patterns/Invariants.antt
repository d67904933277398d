use Rattle.std.proofs.Common.{◌≡◌, ◌≤◌, ◌+◌, drop}
use Rattle.core_lang.specs.Views.{patterns_of}
use Rattle.strat_compile.specs.Size.{patterns_size}
use Rattle.strat_compile.proofs.pattern_size.+patterns.Given as goal

abbrev pub invariant-patterns_fit-loop-p : goal.invariant-patterns_fit-loop-p
invariant-patterns_fit-loop-p l = record {
  limit : l.limit ≤ l.fn.limit;
  size : patterns_size (patterns_of l.patterns) + l.limit ≡
      patterns_size (patterns_of (drop l.p-index l.patterns)) + l.fn.limit;
}
