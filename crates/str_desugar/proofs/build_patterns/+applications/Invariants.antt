use Rattle.std.proofs.Common.{◌≡◌, ◌+◌, drop}
use Rattle.str_syntax.specs.Views.{patterns_of}
use Rattle.str_desugar.specs.Equations.{applications_among}
use Rattle.str_desugar.proofs.build_patterns.+applications.Given as goal

abbrev pub invariant-applications_among-loop-source : goal.invariant-applications_among-loop-source
invariant-applications_among-loop-source l =
    applications_among (patterns_of l.sources) ≡ l.count +
    applications_among (patterns_of (drop l.source-index l.sources))
