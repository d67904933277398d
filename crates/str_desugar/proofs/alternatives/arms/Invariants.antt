use Rattle.std.proofs.Common.{◌≡◌, map}
use Rattle.core_lang.specs.Views as views
use Rattle.str_desugar.specs.Groups.{plain_arm}
use Rattle.str_desugar.proofs.alternatives.arms.Given as goal

abbrev pub invariant-loop-guard : goal.invariant-loop-guard
invariant-loop-guard l = map views.arm_of l.made.items ≡ map plain_arm (map views.strategy_of l.yielded)
