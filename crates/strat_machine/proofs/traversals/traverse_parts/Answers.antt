use Rattle.std.proofs.Common.{◌≡◌, drop, ap, subst, sym, ◌∙◌}
use Rattle.strat_machine.specs.Traversing.{TakesPortion}
use Rattle.strat_machine.proofs.PartLaws.{leaf_stays, leaf_fails, opened_same, untouched, begun_performs, begun_stays}
use Rattle.strat_machine.proofs.traversals.traverse_parts.Goals as goal

pub returns-in_default-traversal-clause-step : goal.returns-in_default-traversal-clause-step
returns-in_default-traversal-clause-step g c =
    let none = rw c.in_default.is at c.in_ok-taken.ensures.part in
    λ M n i at. leaf_fails _ _ (untouched _ _ c.in_ok-taken.ensures.kept none.kept) none.no_more _
    c.in_default-traversal.not-All

pub returns-in_default-traversal-clause-stays : goal.returns-in_default-traversal-clause-stays
returns-in_default-traversal-clause-stays g c =
    let none = rw c.in_default.is at c.in_ok-taken.ensures.part in
    record {
      all = opened_same g.S.TermSpace.space c.args.space.now (untouched _ _ c.in_ok-taken.ensures.kept none.kept);
    }

pub returns-in_default-clause-step : goal.returns-in_default-clause-step
returns-in_default-clause-step g c =
    let none = rw c.in_default.is at c.in_ok-taken.ensures.part in
    λ M n i at. leaf_stays _ _ (untouched _ _ c.in_ok-taken.ensures.kept none.kept) none.no_more _
    c.in-All.is c.requires (g.S.TermSpace.fits _ _ c.requires)

pub returns-in_default-clause-stays : goal.returns-in_default-clause-stays
returns-in_default-clause-stays g c =
    let none = rw c.in_default.is at c.in_ok-taken.ensures.part in
    record {
      all = opened_same g.S.TermSpace.space c.args.space.now (untouched _ _ c.in_ok-taken.ensures.kept none.kept);
    }

pub begin_parts-requires-clause-taken : goal.begin_parts-requires-clause-taken
begin_parts-requires-clause-taken g c =
    let taken = rw c.in-Some.is at c.in_ok-taken.ensures.part in
    subst (λ E. TakesPortion g.S.TermSpace.space c.args.space.now c.args.position.now.term 0 E c.in-Some.taken.part
    c.in-Some.taken.left c.open_parts.new.records.left) taken.after taken

pub returns-clause-step : goal.returns-clause-step
returns-clause-step g c =
    let taken = rw c.in-Some.is at c.in_ok-taken.ensures.part in
    λ M n i at. begun_performs c.args.stacks.now.records c.open_parts.new.records c.in-Some.taken.left
    c.in_ok-taken.ensures.kept taken.after (c.in_ok-begin_parts.ensures.step M n i at)

pub returns-clause-stays : goal.returns-clause-stays
returns-clause-stays g c =
    let taken = rw c.in-Some.is at c.in_ok-taken.ensures.part in
    begun_stays c.args.stacks.now.records c.open_parts.new.records c.in-Some.taken.left
    c.in_ok-taken.ensures.kept taken.after c.in_ok-begin_parts.ensures.stays
