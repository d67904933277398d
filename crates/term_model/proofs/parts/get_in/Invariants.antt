use Rattle.std.proofs.Common.{◌≡◌, [], get_or}
use Rattle.std.specs.Prelude.{slice_get}
use Rattle.term_model.specs.Blocks.{list_in, lists_of}
use Rattle.term_model.proofs.parts.get_in.Given as goal

abbrev pub decreases-loop-next : goal.decreases-loop-next
decreases-loop-next g l = l.rest

-- what is looked for is in the list of the rest
abbrev pub invariant-loop-next : goal.invariant-loop-next
invariant-loop-next g l = slice_get (get_or (lists_of l.blocks) l.rest []) l.left ≡
    slice_get (list_in (lists_of l.blocks) l.block) l.index
