use Rattle.std.proofs.Common.{sym, ap, ◌∙◌, arith, get_or, []}
use Rattle.std.specs.Prelude.{slice_get}
use Rattle.term_model.specs.Blocks.{front_list, list_in, lists_of}
use Rattle.term_model.proofs.BlockLaws.{at_rest, at_end}
use Rattle.term_model.proofs.parts.get_in.Goals as goal

pub loop-next-preserved : goal.loop-next-preserved
loop-next-preserved g c =
    let lists = lists_of c.args.blocks.now in
    let here = ap (λ xs. slice_get xs c.loop-next.left) (sym c.in-Some.ensures.0) ∙ c.loop-next.invariant in
    rw c.len-left.ensures.len (at_rest (front_list c.in-Some.next.now.front) (get_or lists c.in-Some.next.now.rest [])
    (list_in lists c.args.block.now)
    c.loop-next.left c.args.index here (omega (arith, c.len-in-Some.ensures.len, c.if-left-len.false)))

pub returns : goal.returns
returns g c =
    let lists = lists_of c.args.blocks.now in
    at_end (list_in lists c.args.block.now)
    c.loop-next.left c.args.index (ap (λ xs. slice_get xs c.loop-next.left) (sym c.in_default.ensures) ∙
    c.loop-next.invariant)
