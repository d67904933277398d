use Rattle.std.proofs.Common.{IsTrue}
use Rattle.std.proofs.lemmas.List.Elements.{All-rest}
use Rattle.strat_machine.proofs.shortening.+shortening.Goals as goal

pub shorten_all-loop-part-preserved : goal.shorten_all-loop-part-preserved
shorten_all-loop-part-preserved g t c =
    All-rest (λ r. IsTrue (g.S.TermSpace.space.stands c.args.space.now r))
    c.in-Some.part.now c.next.new.self c.loop-part.part-iterator c.in-Some.ensures.steps c.loop-part.invariant
