use Rattle.std.proofs.Common.{◌≡◌, length}
use Rattle.strat_compile.proofs.recursion.recursive_definitions.Given as goal

abbrev pub invariant-loop-pass : goal.invariant-loop-pass
invariant-loop-pass l = length l.recursive.items ≡ length l.defs
