use Rattle.std.proofs.Common.{List, sym, subst, take}
use Rattle.str_desugar.specs.Groups.{AreGrouped, Head}
use Rattle.str_desugar.specs.Heads.{read_heads}
use Rattle.str_desugar.proofs.ReadHeadLaws.{read_more}
use Rattle.str_desugar.proofs.alternatives.firsts_of.Goals as goal

pub loop-head-preserved : goal.loop-head-preserved
loop-head-preserved c =
    let heads = c.args.heads.now in
    let index = c.loop-head.head-index in
    let more = read_more heads index c.head-item.result c.loop-head-test.true c.head-item.is in
    let P : List Head → Type 0 =
    λ hs. AreGrouped hs (read_heads c.add_first.new.firsts.items) c.add_first.new.keys in
    subst P (sym more) (c.in_ok-add_first.ensures (read_heads (take index heads)) c.loop-head.invariant)
