use Rattle.std.proofs.Common.{arith}
use Rattle.term_store.proofs.WalkLaws.{room_for}
use Rattle.term_store.proofs.store.StoreSpace.push_block.Goals as goal

pub push_front_of-requires-in-loop-rest : goal.push_front_of-requires-in-loop-rest
push_front_of-requires-in-loop-rest c =
    let s = c.args.self.now in
    let room = room_for s.chains c.args.stack.now.items c.loop-rest.stack.items _ _ c.loop-rest.rest c.block-next.result
    c.loop-rest.invariant c.block-next.ensures in
    omega (arith, room)
