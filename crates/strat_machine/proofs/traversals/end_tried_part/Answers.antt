use Rattle.std.proofs.lemmas.Result.{IfOk-weaker}
use Rattle.strat_machine.proofs.OpenedLaws.{opened_rebuilt}
use Rattle.strat_machine.proofs.PartLaws.{one_tried, some_tried, opened_now, part_at, part_of_nothing, part_of_call, part_of_choice, one_made, some_ended}
use Rattle.strat_machine.proofs.traversals.end_tried_part.Goals as goal

pub returns-in_default-clause-step : goal.returns-in_default-clause-step
returns-in_default-clause-step g c = λ M i. part_of_nothing _ _ c.in_default.ensures

pub end_part_of_one-requires : goal.end_part_of_one-requires
end_part_of_one-requires g c = one_tried _ _ c.requires.safe c.requires.counted c.requires.opened
    c.in-Some.ensures c.requires.stands _ _
    _ _ c.in-One.is

pub end_part_of_some-requires : goal.end_part_of_some-requires
end_part_of_some-requires g c =
    some_tried _ _ c.requires.safe c.requires.counted c.requires.opened c.in-Some.ensures
    c.requires.stands _ _ _ _ _ c.in-Some-record.is

pub returns-in-Call-clause-step : goal.returns-in-Call-clause-step
returns-in-Call-clause-step g c = λ M i. part_of_call _ _ _ _ c.in-Some.ensures c.in-Call.is

pub returns-in-Choice-clause-step : goal.returns-in-Choice-clause-step
returns-in-Choice-clause-step g c = λ M i. part_of_choice _ _ _ _ _ _ c.in-Some.ensures c.in-Choice.is

pub returns-in-One-clause-step : goal.returns-in-One-clause-step
returns-in-One-clause-step g c =
    IfOk-weaker c.end_part_of_one.result _ _
    (λ next h M i. part_at _ _ _ (one_made h c.trim.ensures) c.in-Some.ensures c.in-One.is)
    c.end_part_of_one.ensures.step

pub returns-clause-step : goal.returns-clause-step
returns-clause-step g c = IfOk-weaker c.end_part_of_some.result _ _
    (λ next h M i. part_at _ _ _ (some_ended h.goes c.trim-in-Some-record.ensures) c.in-Some.ensures
    c.in-Some-record.is)
    c.end_part_of_some.ensures.step

pub returns-in-One-clause-stays : goal.returns-in-One-clause-stays
returns-in-One-clause-stays g c =
    IfOk-weaker c.end_part_of_one.result _ _
    (λ next h. record {
      all = λ o. opened_rebuilt h
          (opened_now g.S.TermSpace.space c.end_part_of_one.new.space c.args.stacks.now.records.done
          c.args.stacks.now.records.left o c.in-Some.ensures _ c.in-One.is).1;
    })
    c.end_part_of_one.ensures.step

pub returns-clause-stays : goal.returns-clause-stays
returns-clause-stays g c = IfOk-weaker c.end_part_of_some.result _ _
    (λ next h. record {
      all = λ o. h.stays.all
          (opened_now g.S.TermSpace.space c.end_part_of_some.new.space c.args.stacks.now.records.done
          c.args.stacks.now.records.left o c.in-Some.ensures _ c.in-Some-record.is).1;
    })
    c.end_part_of_some.ensures.step

pub returns-in_default-clause-stays : goal.returns-in_default-clause-stays
returns-in_default-clause-stays g c = record { all = λ o. tt }

pub returns-in-Call-clause-stays : goal.returns-in-Call-clause-stays
returns-in-Call-clause-stays g c = record { all = λ o. tt }

pub returns-in-Choice-clause-stays : goal.returns-in-Choice-clause-stays
returns-in-Choice-clause-stays g c = record { all = λ o. tt }
