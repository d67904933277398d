use Rattle.std.proofs.Common.{◌≡◌, ◌+◌, arith, rules}
use Rattle.std.specs.Prelude.{slice_index, length}
use Rattle.aterm_text.proofs.StepLaws.{nothing_follows, comma_follows, closer_follows}
use Rattle.aterm_text.proofs.reader.follow.Goals as goal

pub returns-then-is_empty-clause-err : goal.returns-then-is_empty-clause-err
returns-then-is_empty-clause-err g c =
    let w = g.S.TermSpace.space in
    let (t, h) = c.requires.at in
    let none : length c.args.reader.now.open.items ≡ 0 = search rules in
    nothing_follows w c.args.space.now c.args.text.now c.args.reader.now t (slice_index c.args.text.now c.args.index)
    (c.args.index + 1) h none

pub returns-then-text-index-eq44-clause-reached : goal.returns-then-text-index-eq44-clause-reached
returns-then-text-index-eq44-clause-reached g c =
    let w = g.S.TermSpace.space in
    let (t, h) = c.requires.at in
    comma_follows w c.args.space.now c.args.text.now c.args.reader.now t (slice_index c.args.text.now c.args.index)
    (c.args.index + 1) h c.if-text-index-eq44.true (search rules)

pub close_at-requires-clause-at : goal.close_at-requires-clause-at
close_at-requires-clause-at g c =
    let w = g.S.TermSpace.space in
    let (t, h) = c.requires.at in
    closer_follows w c.args.space.now c.args.text.now c.args.reader.now t (slice_index c.args.text.now c.args.index)
    (c.args.index + 1) h (λ q. omega (arith, q, c.if-text-index-eq44.false))
