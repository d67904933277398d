use Rattle.std.proofs.Common.{◌≡◌, map, take}
use Rattle.str_syntax.specs.Views.{sort_tree_of}
use Rattle.str_syntax.proofs.sort.+copy.Given as goal

abbrev pub invariant-sorts-loop-sort : goal.invariant-sorts-loop-sort
invariant-sorts-loop-sort l = map sort_tree_of l.made.items ≡ map sort_tree_of (take l.sort-index l.source)
