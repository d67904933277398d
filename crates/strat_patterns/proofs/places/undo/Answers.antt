use Rattle.std.proofs.Common.{◌≤◌, length, arith}
use Rattle.strat_patterns.proofs.PlaceLaws.{undo_ends}
use Rattle.strat_patterns.proofs.places.undo.Goals as goal

pub returns-clause-slots : goal.returns-clause-slots
returns-clause-slots g c =
    let k = c.len.ensures in let l = c.loop-trail-test.false in
    let low : length c.loop-trail.trail.items ≤ c.args.height = omega arith in
    (undo_ends _ _ _ _ _ c.loop-trail.invariant low).0

pub returns-clause-trail : goal.returns-clause-trail
returns-clause-trail g c =
    let k = c.len.ensures in let l = c.loop-trail-test.false in
    let low : length c.loop-trail.trail.items ≤ c.args.height = omega arith in
    (undo_ends _ _ _ _ _ c.loop-trail.invariant low).1
