use Rattle.std.proofs.Common.{arith}
use Rattle.std.proofs.lemmas.Result.{IfOk-weaker}
use Rattle.strat_machine.proofs.TraversalLaws.{all_ends, all_goes, all_opened, whole_opened}
use Rattle.strat_machine.proofs.PortionLaws.{first_none, first_taken}
use Rattle.strat_machine.proofs.traversals.next_of_all.Goals as goal

pub returns-in_default-clause-step : goal.returns-in_default-clause-step
returns-in_default-clause-step g c =
    let rs = c.args.stacks.now.records in
    let kept = c.in_ok-taken.ensures.kept in
    let v = c.args.traversed in
    let none = first_none _ (rw c.in_default.is at c.in_ok-taken.ensures.part) in
    IfOk-weaker c.rebuild_whole.result _ _
    (λ next h. record {
      goes = all_ends rs _ kept v none.kept none.none v.body none.no_more h;
      stays = record { all = whole_opened rs _ kept v none.kept none.none v.body none.no_more h };
    }) c.rebuild_whole.ensures.step

pub returns-clause-step : goal.returns-clause-step
returns-clause-step g c =
    let rs = c.args.stacks.now.records in
    let kept = c.in_ok-taken.ensures.kept in
    let v = c.args.traversed in
    let taken = first_taken _ (rw c.in-Some.is at c.in_ok-taken.ensures.part) in
    let other = c.with_left-others.ensures in
    record {
      goes = all_goes rs _ kept v _ c.in-Some.taken.part c.in-Some.taken.left other taken.after _ _ _ _ _ _
          taken.next _ c.in_ok-push_all.ensures;
      stays = record {
        all = λ o. all_opened rs _ kept v _ c.in-Some.taken.part c.in-Some.taken.left other taken.after
            g.S.TermSpace.space c.args.space.now taken.enough o
            _ c.in_ok-push_all.ensures;
      };
    }

pub take_part-requires-clause-enough : goal.take_part-requires-clause-enough
take_part-requires-clause-enough g c = let enough = c.requires.enough in omega (arith, enough)
