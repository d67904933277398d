use Rattle.std.proofs.Common.{◌≡◌, [], map, take}
use Rattle.str_desugar.specs.Groups.{gathered_for}
use Rattle.str_desugar.specs.GroupViews.{gathered_in}
use Rattle.str_desugar.specs.Heads.{read_heads}
use Rattle.str_desugar.proofs.alternatives.empty_groups.Given as goal

abbrev pub invariant-loop-first : goal.invariant-loop-first
invariant-loop-first l =
    map gathered_in l.groups.items ≡ gathered_for (read_heads (take l.first-index l.firsts)) [] []
