use Rattle.std.proofs.Common.{take}
use Rattle.str_desugar.specs.Groups.{AreGrouped}
use Rattle.str_desugar.specs.Heads.{read_heads}
use Rattle.str_desugar.proofs.alternatives.firsts_of.Given as goal

abbrev pub invariant-loop-head : goal.invariant-loop-head
invariant-loop-head l = AreGrouped (read_heads (take l.head-index l.heads)) (read_heads l.firsts.items) l.keys
