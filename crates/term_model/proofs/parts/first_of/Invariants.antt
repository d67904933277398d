use Rattle.std.proofs.Common.{◌≡◌, [], get_or}
use Rattle.term_model.specs.Blocks.{lists_of}
use Rattle.term_model.proofs.parts.first_of.Given as goal

abbrev pub decreases-loop-next : goal.decreases-loop-next
decreases-loop-next g l = l.rest

abbrev pub invariant-loop-next : goal.invariant-loop-next
invariant-loop-next g l = get_or (lists_of l.blocks) l.rest [] ≡ get_or (lists_of l.blocks) l.number []
