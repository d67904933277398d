use Rattle.std.proofs.Common.{arith, ap, ◌∙◌, length}
use Rattle.term_model.proofs.BlockLaws.{length-lists_of}
use Rattle.term_store.proofs.LendingLaws.{chain_is}
use Rattle.term_store.proofs.store.StoreSpace.chain_places.Goals as goal

pub bounds-blocks-chain : goal.bounds-blocks-chain
bounds-blocks-chain c =
    let long = length-lists_of c.blocks-blocks.result.now in
    let size = ap length c.blocks-blocks.ensures.lists in
    omega (arith, long, size, c.requires, c.if-chain-eq0.false)

pub returns : goal.returns
returns c = c.of_block.ensures ∙
    chain_is c.args.self.now.chains c.blocks-blocks.result.now c.args.chain _ c.blocks-blocks.ensures.linked
    c.blocks-blocks.ensures.lists c.if-chain-eq0.false c.requires
