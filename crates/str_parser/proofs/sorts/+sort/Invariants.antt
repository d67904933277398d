use Rattle.std.proofs.Common.{◌+◌, ◌-◌, ◌*◌, length, map}
use Rattle.str_syntax.specs.Views.{sort_tree_of}
use Rattle.str_parser.proofs.SortLists.{PartlySorts}
use Rattle.str_parser.proofs.sorts.+sort.Given as goal

abbrev pub decreases-sort : goal.decreases-sort
decreases-sort l = 2 * (202 - l.level)

abbrev pub decreases-sort_list : goal.decreases-sort_list
decreases-sort_list l = 2 * (202 - l.level) + 1

abbrev pub invariant-sort_list-loop-following : goal.invariant-sort_list-loop-following
invariant-sort_list-loop-following l = PartlySorts l.fn.level (map sort_tree_of l.parts.items) l.fn.input l.rest

abbrev pub decreases-sort_list-loop-following : goal.decreases-sort_list-loop-following
decreases-sort_list-loop-following l = length l.rest
