use Rattle.std.proofs.Common.{arith}
use Rattle.term_store.proofs.WalkLaws.{heavy_whole, one_before}
use Rattle.term_store.proofs.store.StoreSpace.before.Goals as goal

pub returns-in_default-clause-made : goal.returns-in_default-clause-made
returns-in_default-clause-made c =
    heavy_whole c.args.self.now c.loop-end.self c.args.places.now _ c.loop-end.block c.loop-end.end c.loop-end.invariant
    (rw c.in_default.is at c.in_ok-longer.ensures.made)

pub loop-end-preserved : goal.loop-end-preserved
loop-end-preserved c =
    one_before c.args.self.now c.loop-end.self c.push_front.new.self c.args.places.now _ c.loop-end.block
    c.in-Some.longer c.loop-end.end c.loop-end.invariant (omega (arith, c.loop-end-test.true)) c.requires.stand
    c.push_front.ensures.keeps (rw c.in-Some.is at c.in_ok-longer.ensures.made)
