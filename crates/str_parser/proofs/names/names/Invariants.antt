use Rattle.std.proofs.Common.{length}
use Rattle.str_parser.proofs.NameLaws.{PartlyNames}
use Rattle.str_parser.proofs.names.names.Given as goal

abbrev pub invariant-loop-following : goal.invariant-loop-following
invariant-loop-following l = PartlyNames l.found.items l.fn.input l.rest

abbrev pub decreases-loop-following : goal.decreases-loop-following
decreases-loop-following l = length l.rest
