use Rattle.std.proofs.Common.{◌≡◌, map}
use Rattle.core_lang.specs.Views as views
use Rattle.str_desugar.specs.Groups.{joined}
use Rattle.str_desugar.specs.GroupViews.{gathered_in}
use Rattle.str_desugar.proofs.alternatives.definitions.Given as goal

abbrev pub invariant-loop-group : goal.invariant-loop-group
invariant-loop-group l = map views.def_of l.made.items ≡ map joined (map gathered_in l.yielded)
