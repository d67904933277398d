use Rattle.std.proofs.Common.{sym, arith}
use Rattle.std.proofs.lemmas.Result.{IfOk-weaker}
use Rattle.strat_machine.proofs.OpenedLaws.{opened_at}
use Rattle.strat_machine.proofs.TraversalLaws.{some_made_whole, some_fails, some_goes, whole_opened, cut_opened, some_opened}
use Rattle.strat_machine.proofs.PortionLaws.{first_none, first_taken}
use Rattle.strat_machine.proofs.traversals.next_of_some.Goals as goal

pub returns-then-found-clause-step : goal.returns-then-found-clause-step
returns-then-found-clause-step g c =
    let rs = c.args.stacks.now.records in
    let kept = c.in_ok-taken.ensures.kept in
    let v = c.args.traversed in
    let none = first_none _ (rw c.in_default.is at c.in_ok-taken.ensures.part) in
    IfOk-weaker c.rebuild_whole.result _ _
    (λ next h. record {
      goes = some_made_whole rs _ kept v none.kept none.none v.body none.no_more h c.args.found c.if-found.true;
      stays = record { all = whole_opened rs _ kept v none.kept none.none v.body none.no_more h };
    }) c.rebuild_whole.ensures.step

pub returns-in_default-clause-step : goal.returns-in_default-clause-step
returns-in_default-clause-step g c =
    let rs = c.args.stacks.now.records in
    let kept = c.in_ok-taken.ensures.kept in
    let v = c.args.traversed in
    let none = first_none _ (rw c.in_default.is at c.in_ok-taken.ensures.part) in
    record {
      goes = some_fails rs _ kept v none.kept none.none _ _ _ _ _ _ _ _ _ _ _ c.cut.ensures none.no_more
          c.args.found c.if-found.false;
      stays = record {
        all = cut_opened rs _ kept v none.kept none.none g.S.TermSpace.space c.args.space.now _ c.cut.ensures;
      };
    }

pub returns-clause-step : goal.returns-clause-step
returns-clause-step g c =
    let rs = c.args.stacks.now.records in
    let kept = c.in_ok-taken.ensures.kept in
    let v = c.args.traversed in
    let taken = first_taken _ (rw c.in-Some.is at c.in_ok-taken.ensures.part) in
    let other = c.with_left-others.ensures in
    let tries = c.in_ok-try_some.ensures in
    record {
      goes = some_goes rs _ kept v _ c.in-Some.taken.part c.in-Some.taken.left other taken.after _ _ _ _ _ _
          taken.next c.args.found tries.saved tries.mark _ tries.saves tries.marks tries.leads;
      stays = record {
        all = λ o. opened_at g.S.TermSpace.space c.args.space.now (sym tries.leads)
            (some_opened rs _ kept v _ c.in-Some.taken.part c.in-Some.taken.left other taken.after
            g.S.TermSpace.space c.args.space.now taken.enough o
            c.args.found tries.saved tries.mark);
      };
    }

pub take_part-requires-clause-enough : goal.take_part-requires-clause-enough
take_part-requires-clause-enough g c = let enough = c.requires.enough in omega (arith, enough)
