use Rattle.std.proofs.Common.{◌≡◌, ◌+◌, ◌∙◌, length, take, ap, arith}
use Rattle.std.proofs.lemmas.List.{length-take}
use Rattle.std.proofs.lemmas.Result.{IfOk-weaker}
use Rattle.strat_machine.proofs.PortionLaws.{none_after, taken_there, later_found}
use Rattle.strat_machine.proofs.portions.take_part.Goals as goal

pub returns-in-Some-clause-part : goal.returns-in-Some-clause-part
returns-in-Some-clause-part g c =
    taken_there c.args.traversed.now _ c.saturating_sub-left.result _ _ c.in-Some.part c.saturating_sub-left.ensures
    c.in-Some.ensures.part.0 c.in-Some.ensures.part.1 c.requires.enough

pub returns-then-saturating_add-lt-FIRST_PORTION-clause-part :
    goal.returns-then-saturating_add-lt-FIRST_PORTION-clause-part
returns-then-saturating_add-lt-FIRST_PORTION-clause-part g c =
    let s = g.S.TermSpace.space in
    let v = c.args.traversed.now in
    let enough = c.requires.enough in
    let none = ap length c.in_default.ensures.part.0 in
    let many = length-take v.done c.args.records.now.done in
    let sum = c.saturating_add.ensures in
    let few = c.if-saturating_add-lt-FIRST_PORTION.true in
    record {
      kept = c.in_default.ensures.part.1;
      none = c.in_default.ensures.part.0;
      no_more =
          none_after (s.term_of c.args.space.now) v.whole _ (omega (arith, enough, none, many, sum, few));
    }

pub returns-clause-part : goal.returns-clause-part
returns-clause-part g c =
    let v = c.args.traversed.now in
    let here : c.in-Some-checked_add.index ≡ c.args.tried + length (take v.done c.args.records.now.done) =
    c.in-Some-checked_add.ensures.1 ∙ ap (λ k. c.args.tried + k)
    (c.done_count.ensures ∙ ap (λ rs. length (take v.done rs.done)) c.in_default.ensures.kept) in
    IfOk-weaker c.take_later_part.result _ _
    (later_found g.S.TermSpace.space c.args.space.now v _ _ c.args.records.now.left c.next_part.new.self.left
    c.take_later_part.new.records.left here c.in_default.ensures.part.0 c.in_default.ensures.part.1)
    c.take_later_part.ensures.part
