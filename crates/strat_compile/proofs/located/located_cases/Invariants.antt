use Rattle.std.proofs.Common.{◌≡◌, map}
use Rattle.strat_code.specs.CodeOf.{case_of}
use Rattle.strat_compile.specs.Located.{case_located}
use Rattle.strat_compile.proofs.located.located_cases.Given as goal

abbrev pub invariant-loop-case : goal.invariant-loop-case
invariant-loop-case l = map case_of l.made.items ≡ map (case_located l.count) (map case_of l.yielded)
