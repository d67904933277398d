use Rattle.std.proofs.Common.{length, map}
use Rattle.str_syntax.specs.Views.{sort_tree_of}
use Rattle.str_parser.proofs.SortLists.{PartlyFactors}
use Rattle.str_parser.proofs.sorts.factors.Given as goal

abbrev pub invariant-loop-following : goal.invariant-loop-following
invariant-loop-following l = PartlyFactors (map sort_tree_of l.parts.items) l.fn.input l.rest

abbrev pub decreases-loop-following : goal.decreases-loop-following
decreases-loop-following l = length l.rest
