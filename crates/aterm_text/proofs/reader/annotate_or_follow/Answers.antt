use Rattle.std.proofs.Common.{arith}
use Rattle.aterm_text.proofs.StepLaws.{whole_annotated, whole_follows}
use Rattle.aterm_text.proofs.reader.annotate_or_follow.Goals as goal

pub returns-then-text-index-eq123-clause-reached : goal.returns-then-text-index-eq123-clause-reached
returns-then-text-index-eq123-clause-reached g c =
    let w = g.S.TermSpace.space in
    whole_annotated w c.args.space.now c.args.text.now c.args.reader.now c.args.index c.requires.within
    c.open.new.reader c.requires.at c.if-text-index-eq123.true c.in_ok-open.ensures

pub follow-requires-clause-at : goal.follow-requires-clause-at
follow-requires-clause-at g c =
    let w = g.S.TermSpace.space in
    whole_follows w c.args.space.now c.args.text.now c.args.reader.now c.args.index c.requires.within c.requires.at
    c.requires.mark (λ q. omega (arith, q, c.if-text-index-eq123.false))
