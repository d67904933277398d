use Rattle.std.proofs.Common.{◌≡◌, map, drop}
use Rattle.core_lang.specs.Environment as environment
use Rattle.core_lang.specs.Resolved.{by_coordinates}
use Rattle.core_lang.specs.Views.{strategies_of}
use Rattle.core_eval.specs.Frame.{environment_of, closure_of}
use Rattle.core_eval.proofs.ClosureLaws.{before}
use Rattle.core_eval.proofs.callee.closures_of.Given as goal

abbrev pub invariant-loop-s : goal.invariant-loop-s
invariant-loop-s l =
    let W = environment_of l.frame in
    environment.closures_of by_coordinates W (strategies_of l.strategies) ≡
    before (map closure_of l.made.items)
    (environment.closures_of by_coordinates W (strategies_of (drop l.s-index l.strategies)))
