use Rattle.std.proofs.Common.{ap, sym}
use Rattle.strat_machine.specs.RecordStack.{records_of}
use Rattle.strat_machine.proofs.TraversalLaws.{whole_fits, whole_large}
use Rattle.strat_machine.proofs.traversals.rebuild_whole.Goals as goal

pub returns-in-Fits-clause-step : goal.returns-in-Fits-clause-step
returns-in-Fits-clause-step g c =
    whole_fits _ _ _ c.args.stacks.now _ _ _ c.in_ok-made.ensures.keeps c.in_ok-made.ensures.made c.newest-parts.ensures
    c.in-Fits.is (ap (λ rs. records_of rs) (sym c.cut.ensures))

pub returns-clause-step : goal.returns-clause-step
returns-clause-step g c = whole_large _ _ _ c.args.stacks.now _ _ _ c.in_ok-made.ensures.keeps c.in_ok-made.ensures.made
    c.newest-parts.ensures c.in-Oversize.is
