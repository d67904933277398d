use Rattle.std.proofs.Common.{refl}
use Rattle.strat_machine.proofs.IndexLaws.{grouped_on}
use Rattle.strat_machine.proofs.SelectingLaws.{case_known}
use Rattle.strat_machine.proofs.index.group_cases.Goals as goal

pub number_of_root-number-requires : goal.number_of_root-number-requires
number_of_root-number-requires g c =
    case_known (g.S.TermSpace.space.knows c.args.space.now)
    c.args.cases.now c.loop-entry.entry c.index-cases-entry.result c.requires.known c.loop-entry-test.true
    c.index-cases-entry.is

pub loop-entry-preserved : goal.loop-entry-preserved
loop-entry-preserved g c =
    grouped_on g.S.TermSpace.space.number_of c.args.cases.now c.loop-entry.entry c.loop-entry.entry
    c.index-cases-entry.result c.loop-entry.groups c.put_into.new.groups c.number_of_root-number.result
    c.loop-entry-test.true c.index-cases-entry.is refl
    c.loop-entry.invariant c.number_of_root-number.ensures c.in_ok-put_into.ensures
