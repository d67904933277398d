use Rattle.std.proofs.Common.{refl, sym, ◌∙◌, subst}
use Rattle.std.proofs.lemmas.Result.{IfOk-weaker}
use Rattle.strat_steps.specs.ReferenceSteps.{part_of_all}
use Rattle.strat_machine.specs.CompactRecords.{HasNoAll}
use Rattle.strat_machine.specs.Traversing.{HasTried}
use Rattle.strat_machine.specs.declared.records.Record.TheVariants as records
use Rattle.strat_machine.proofs.PartLaws.{all_tried, opened_now, part_at, part_of_nothing}
use Rattle.strat_machine.proofs.TraversalLaws.{all_advances, advance_opened}
use Rattle.strat_machine.proofs.traversals.end_part_of_all.Goals as goal

pub returns-in-Some-clause-step : goal.returns-in-Some-clause-step
returns-in-Some-clause-step g c =
    λ M i. all_advances c.args.stacks.now.records _ _ _ _ _ _ c.in-Some.ensures
    (rw c.in_ok-done.ensures.same at c.in_ok-push.ensures.pushed)

pub returns-in-Some-clause-stays : goal.returns-in-Some-clause-stays
returns-in-Some-clause-stays g c = record {
  all = advance_opened c.args.stacks.now.records _ _ _ _ _ _ c.in-Some.ensures
      (rw c.in_ok-done.ensures.same at c.in_ok-push.ensures.pushed) g.S.TermSpace.space c.args.space.now;
}

pub returns-in_default-pop_all-clause-step : goal.returns-in_default-pop_all-clause-step
returns-in_default-pop_all-clause-step g c =
    λ M i. part_of_nothing _ _ (c.requires.all (subst HasNoAll c.in_default.ensures.0 c.in_default-pop_all.ensures.1))

pub end_part_off-requires : goal.end_part_off-requires
end_part_off-requires g c =
    let rs = c.args.stacks.now.records in
    subst (λ E. HasTried g.S.TermSpace.space c.args.space.now
    (record { records = c.pop_all.new.self; done = rs.done; left = E })
    c.in-Some-pop_all.traversed c.args.position.now.term) (sym c.in_default.ensures.1)
    (all_tried _ _ c.requires.safe c.requires.counted c.requires.opened (sym c.in_default.ensures.0 ∙
    c.in-Some-pop_all.ensures) c.requires.stands _ refl)

pub returns-clause-step : goal.returns-clause-step
returns-clause-step g c =
    IfOk-weaker c.end_part_off.result _ _
    (λ next h M i. part_at _ _ (records.All c.in-Some-pop_all.traversed)
    (part_of_all (rw c.in_default.ensures.1 at h.goes)) (sym c.in_default.ensures.0 ∙ c.in-Some-pop_all.ensures) refl)
    c.end_part_off.ensures.step

pub returns-clause-stays : goal.returns-clause-stays
returns-clause-stays g c =
    let popped = sym c.in_default.ensures.0 ∙ c.in-Some-pop_all.ensures in
    IfOk-weaker c.end_part_off.result _ _
    (λ next h. record {
      all = λ o. (rw c.in_default.ensures.1 at h.stays).all
          (opened_now g.S.TermSpace.space c.end_part_off.new.space c.args.stacks.now.records.done
          c.args.stacks.now.records.left o popped (records.All c.in-Some-pop_all.traversed) refl).1;
    }) c.end_part_off.ensures.step

pub returns-in_default-pop_all-clause-stays : goal.returns-in_default-pop_all-clause-stays
returns-in_default-pop_all-clause-stays g c = record { all = λ o. tt }
