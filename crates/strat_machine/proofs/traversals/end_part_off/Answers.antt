use Rattle.std.proofs.lemmas.Result.{IfOk-weaker}
use Rattle.strat_machine.proofs.TraversalLaws.{tried_parts, all_at_end, end_opened}
use Rattle.strat_machine.proofs.traversals.end_part_off.Goals as goal

pub returns-then-is_at_end-clause-step : goal.returns-then-is_at_end-clause-step
returns-then-is_at_end-clause-step g c =
    let rs = c.args.stacks.now.records in
    let v = c.args.traversed in
    let is = c.in_ok-more.ensures in
    let put = rw c.in_ok-done.ensures.same at c.in_ok-push.ensures.pushed in
    let end = c.is_at_end.ensures c.if-is_at_end.true in
    IfOk-weaker c.rebuild_whole.result _ _
    (λ next h. record {
      goes = all_at_end rs v _ _ _ c.requires is put end.0 end.1 h;
      stays = record { all = end_opened rs v _ _ _ c.requires is put end.0 end.1 h };
    }) c.rebuild_whole.ensures.step

pub next_of_all-requires : goal.next_of_all-requires
next_of_all-requires g c =
    tried_parts c.args.stacks.now.records c.args.traversed _ _ _ c.requires c.in_ok-more.ensures
    (rw c.in_ok-done.ensures.same at c.in_ok-push.ensures.pushed)
