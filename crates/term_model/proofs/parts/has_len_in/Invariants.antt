use Rattle.std.proofs.Common.{◌≡◌, ◌+◌, [], length, get_or}
use Rattle.term_model.specs.Blocks.{list_in, lists_of}
use Rattle.term_model.proofs.parts.has_len_in.Given as goal

abbrev pub decreases-loop-next : goal.decreases-loop-next
decreases-loop-next g l = l.rest

abbrev pub invariant-loop-next : goal.invariant-loop-next
invariant-loop-next g l = l.left + length (list_in (lists_of l.blocks) l.block) ≡
    l.count + length (get_or (lists_of l.blocks) l.rest [])
