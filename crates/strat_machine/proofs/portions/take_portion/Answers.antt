use Rattle.std.proofs.Common.{refl, arith}
use Rattle.strat_machine.proofs.PortionLaws.{none_after, portion_taken}
use Rattle.strat_machine.proofs.portions.take_portion.Goals as goal

pub returns-then-count-index-clause-part : goal.returns-then-count-index-clause-part
returns-then-count-index-clause-part g c =
    let count = c.count-count.ensures in
    let few = c.if-count-index.true in
    record {
      kept = refl;
      no_more =
          none_after (g.S.TermSpace.space.term_of c.args.space.now) c.args.whole.now _ (omega (arith, count, few));
    }

pub returns-clause-part : goal.returns-clause-part
returns-clause-part g c =
    let enough = c.portion_end-end.ensures.enough in
    let count = c.count-count.ensures in
    portion_taken c.args.whole.now c.args.index c.portion_end-end.result c.saturating_sub-left.result
    c.args.records.now.left c.push_parts_between.new.stack c.next_part.new.self.left c.in-Some.part
    c.in_ok-push_parts_between.ensures c.in-Some.ensures.part.0 c.in-Some.ensures.part.1 c.saturating_sub-left.ensures
    c.portion_end-end.ensures.some (omega (arith, enough, count))
