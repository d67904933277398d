use Rattle.std.proofs.Common.{arith}
use Rattle.term_store.proofs.WalkLaws.{three_linked, three_heavy}
use Rattle.term_store.proofs.store.StoreSpace.long_block_of.Goals as goal

pub returns-in_default-clause-made : goal.returns-in_default-clause-made
returns-in_default-clause-made c =
    three_heavy c.args.self.now c.loop-end.self c.args.places.now c.loop-end.rest c.loop-end.end c.loop-end.invariant
    (omega (arith, c.loop-end-test.true)) c.requires.stand (rw c.in_default.is at c.in_ok-longer.ensures.made)

pub loop-end-preserved : goal.loop-end-preserved
loop-end-preserved c =
    three_linked c.args.self.now c.loop-end.self c.args.places.now c.loop-end.rest c.loop-end.end c.loop-end.invariant
    (omega (arith, c.loop-end-test.true)) c.requires.stand c.link.new.self c.in-Some.longer
    c.link.ensures.keeps (rw c.in-Some.is at c.in_ok-longer.ensures.made)
