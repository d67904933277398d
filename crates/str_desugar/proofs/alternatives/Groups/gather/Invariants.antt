use Rattle.std.proofs.Common.{map}
use Rattle.core_lang.specs.Views as views
use Rattle.str_desugar.specs.GroupViews.{gathered_in}
use Rattle.str_desugar.proofs.JoinLaws.{Gathers}
use Rattle.str_desugar.proofs.alternatives.Groups.gather.Given as goal

abbrev pub invariant-loop-body : goal.invariant-loop-body
invariant-loop-body l = Gathers l.self l.index (map views.strategy_of l.yielded) (map gathered_in l.groups.items)
