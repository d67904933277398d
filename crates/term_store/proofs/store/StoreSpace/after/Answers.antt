use Rattle.std.proofs.Common.{arith, drop}
use Rattle.term_model.specs.Blocks.{list_in}
use Rattle.term_store.proofs.WalkLaws.{after_next}
use Rattle.term_store.proofs.store.StoreSpace.after.Goals as goal

pub loop-block-preserved : goal.loop-block-preserved
loop-block-preserved c =
    let chains = c.args.self.now.chains in
    after_next chains c.loop-block.block c.block-block.result c.loop-block.left c.len-left.result
    (drop c.args.count (list_in chains c.args.block)) c.loop-block.invariant (omega (arith, c.loop-block-test.true))
    (omega (arith, c.len.ensures.len, c.if-left-len.true)) c.len-left.ensures.len c.block-block.ensures
