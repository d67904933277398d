use Rattle.std.proofs.Common.{◌≡◌, map, take}
use Rattle.str_syntax.specs.Views.{sort_tree_of}
use Rattle.scope_check.proofs.declarations.copy_sorts.Given as goal

abbrev pub invariant-loop-sort : goal.invariant-loop-sort
invariant-loop-sort l = map sort_tree_of l.made.items ≡ map sort_tree_of (take l.sort-index l.source)
