use Rattle.std.proofs.Common.{length, map}
use Rattle.str_syntax.specs.Views.{sort_tree_of}
use Rattle.str_parser.proofs.SortLists.{PartlyRun}
use Rattle.str_parser.proofs.sorts.sort_run.Given as goal

abbrev pub invariant-sorts : goal.invariant-sorts
invariant-sorts l = PartlyRun (map sort_tree_of l.found.items) l.fn.input l.rest

abbrev pub decreases-sorts : goal.decreases-sorts
decreases-sorts l = length l.rest
