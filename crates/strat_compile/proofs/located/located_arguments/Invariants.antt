use Rattle.std.proofs.Common.{◌≡◌, map, take}
use Rattle.strat_code.specs.CodeOf.{argument_of}
use Rattle.strat_compile.specs.Located.{argument_located}
use Rattle.strat_compile.proofs.located.located_arguments.Given as goal

abbrev pub invariant-loop-argument : goal.invariant-loop-argument
invariant-loop-argument l = map argument_of l.made.items ≡
    map (argument_located l.count) (map argument_of (take l.argument-index l.arguments))
