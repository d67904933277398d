use Rattle.std.proofs.Common.{◌-◌, arith, take, vec_capacity, sym, subst}
use Rattle.term_model.specs.Blocks.{list_in}
use Rattle.term_store.specs.Walks.{IsTaking}
use Rattle.term_store.proofs.WalkLaws.{taking_next}
use Rattle.term_store.proofs.store.StoreSpace.push_first.Goals as goal

pub loop-block-preserved : goal.loop-block-preserved
loop-block-preserved c =
    let chains = c.args.self.now.chains in
    let places = take c.args.count (list_in chains c.args.block) in
    subst (λ room. IsTaking chains c.block-block.result c.args.stack.now.items c.push_front_of.new.stack.items places
    room (c.loop-block.left - c.len-left.result)) (sym c.push_front_of.ensures.capacity)
    (taking_next chains c.loop-block.block c.block-block.result c.args.stack.now.items c.loop-block.stack.items
    c.push_front_of.new.stack.items places (vec_capacity c.loop-block.stack) c.loop-block.left c.len-left.result
    c.loop-block.invariant (omega (arith, c.loop-block-test.true))
    (omega (arith, c.len.ensures.len, c.if-left-len.true))
    c.len-left.ensures.len c.push_front_of.ensures.pushed c.block-block.ensures)
