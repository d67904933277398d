use Rattle.std.proofs.Common.{◌<◌, length, arith}
use Rattle.strat_patterns.proofs.PlaceLaws.{fill_step}
use Rattle.strat_patterns.proofs.places.fill_last.Goals as goal

pub loop-terms-preserved : goal.loop-terms-preserved
loop-terms-preserved g c =
    let k = c.len.ensures in let h = c.loop-terms-test.true in
    let high : c.args.from < length c.loop-terms.terms.items = omega arith in
    fill_step _ _ _ _ _ _ _ _ _ c.in-Some.reference c.loop-terms.invariant high c.in-Some.ensures.items
    c.saturating_sub-place.ensures c.fill.ensures
