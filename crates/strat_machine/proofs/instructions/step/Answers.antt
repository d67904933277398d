use Rattle.std.proofs.Common.{sym, subst}
use Rattle.prim_registry.specs.Registered.{meaning_of}
use Rattle.strat_code.specs.CodeOf.{code_of}
use Rattle.strat_steps.specs.Marks.{Lasts}
use Rattle.strat_machine.specs.Opened.{StepOpened}
use Rattle.strat_machine.specs.Stacks.{state_of}
use Rattle.strat_machine.specs.declared.stacks.Next.TheVariants.{Stuck}
use Rattle.strat_machine.proofs.ActionLaws.{steps_out}
use Rattle.strat_machine.proofs.instructions.step.Goals as goal

pub returns-then-position-instrs-clause-step : goal.returns-then-position-instrs-clause-step
returns-then-position-instrs-clause-step g c =
    let s = g.S.TermSpace.space in
    let code = code_of c.args.code.now.tables c.args.code.now.instrs in
    let M = meaning_of g.M.PrimMeaning.answer c.args.registry.now in
    let w = c.args.space.now in
    let p = c.args.position.now in
    let m = c.args.stacks.now in
    subst (λ next. StepOpened s code M w (state_of next p m) w (state_of Stuck p m)) (sym c.in-Running.is)
    (record {
      step = steps_out s M c.requires.loaded p m _ c.as_slice-instrs.ensures.value c.if-position-instrs.true;
      opened = λ holds o. tt;
    })

pub returns-else-position-instrs-clause-lasting : goal.returns-else-position-instrs-clause-lasting
returns-else-position-instrs-clause-lasting g c = λ r lasts.
    let keeps = c.perform.ensures.keeps in
    let there = subst (λ next. Lasts g.S.TermSpace.space r c.args.space.now
    (state_of next c.args.position.now c.args.stacks.now)) c.in-Running.is lasts in
    (keeps.standing r there.0, keeps.terms r there.0)
