use Rattle.std.proofs.lemmas.Result.{IfOk-weaker}
use Rattle.std.proofs.Common.{sym, ap, subst, refl, take}
use Rattle.std.specs.Prelude.{IsTrue}
use Rattle.strat_steps.specs.References.{AllRefs}
use Rattle.strat_machine.proofs.PartLaws.{parts_stand, whole_of_one}
use Rattle.strat_machine.proofs.traversals.end_part_of_one.Goals as goal

pub rebuild_whole-requires-clause-parts : goal.rebuild_whole-requires-clause-parts
rebuild_whole-requires-clause-parts g c =
    subst (λ k. AllRefs (λ r. IsTrue (g.S.TermSpace.space.stands c.args.space.now r)) (take k c.move_to.new.other))
    (sym (ap (λ v. v.done) c.in_ok-ended.ensures))
    (parts_stand _ _ _ _ _ _ _ _ (rw c.in_ok-done.ensures.same at c.in_ok-push.ensures.pushed)
    c.in_ok-moved.ensures.moved c.in_ok-moved.ensures.count _ c.requires.part c.requires.done c.requires.left)

pub returns-clause-step : goal.returns-clause-step
returns-clause-step g c =
    IfOk-weaker c.rebuild_whole.result _ _
    (λ next h. whole_of_one _ _ _ _ _ _ _ _ (rw c.in_ok-done.ensures.same at c.in_ok-push.ensures.pushed)
    c.in_ok-moved.ensures.moved c.in_ok-moved.ensures.count _ c.args.stacks.now.records c.args.traversed _ _ refl
    refl c.in_ok-ended.ensures c.in_ok-moved.ensures.cut h) c.rebuild_whole.ensures.step
