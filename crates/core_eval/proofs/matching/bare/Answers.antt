use Rattle.core_eval.proofs.MatchingLaws.{bare_made}
use Rattle.core_eval.proofs.matching.bare.Goals as goal

pub unreachable-requires : goal.unreachable-requires
unreachable-requires c = bare_made c.args.t.now _ _ c.fits.ensures.fits c.new.ensures.items c.in_ok-made.ensures
    c.in-Oversize.is
