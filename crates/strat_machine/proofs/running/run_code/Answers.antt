use Rattle.std.proofs.Common.{◌+◌, ◌*◌, ◌<◌, arith}
use Rattle.prim_registry.specs.Registered.{meaning_of}
use Rattle.strat_code.specs.CodeOf.{code_of}
use Rattle.strat_machine.proofs.ActionLaws.{program_later}
use Rattle.strat_machine.proofs.OutcomeLaws.{few_for_rules, result_stands}
use Rattle.strat_machine.proofs.RunningLaws.{started, way_at, way_holds, way_counted, way_kept, kept_on, way_on, in_time, goes_on_not, in_code, has_ended, ended_with, left_within}
use Rattle.strat_machine.proofs.running.run_code.Goals as goal

pub loop-next-init : goal.loop-next-init
loop-next-init g c =
    let s = g.S.TermSpace.space in
    started s (code_of c.args.code.now.tables c.args.code.now.instrs)
    (meaning_of g.M.PrimMeaning.answer c.args.registry.now)
    c.args.space.now c.args.term c.args.budget c.args.stacks.now c.requires.clear

pub loop-next-2-init : goal.loop-next-2-init
loop-next-2-init g c = (c.loop-next.invariant, omega arith)

pub perform-requires-clause-holds : goal.perform-requires-clause-holds
perform-requires-clause-holds g c = way_holds (way_at c.in-Running.is c.loop-next-2.invariant.0) c.requires.stands

pub perform-requires-clause-counted : goal.perform-requires-clause-counted
perform-requires-clause-counted g c = way_counted (way_at c.in-Running.is c.loop-next-2.invariant.0) c.requires.stands

pub perform-requires-clause-loaded : goal.perform-requires-clause-loaded
perform-requires-clause-loaded g c = let names = c.loop-next-2.invariant.0.names in
    program_later names.known names.symbols _ c.requires.loaded

pub perform-requires-clause-in_range : goal.perform-requires-clause-in_range
perform-requires-clause-in_range g c =
    let names = c.loop-next-2.invariant.0.names in
    let loaded = program_later names.known names.symbols _ c.requires.loaded in
    in_code c.instrs.ensures.stands c.requires.stands loaded c.loop-next-2.position c.loop-next-2.stacks _
    c.as_slice-instrs.ensures.value (way_at c.in-Running.is c.loop-next-2.invariant.0)

pub perform-requires-clause-opened : goal.perform-requires-clause-opened
perform-requires-clause-opened g c = (way_at c.in-Running.is c.loop-next-2.invariant.0).opened

pub fail-requires-clause-safe : goal.fail-requires-clause-safe
fail-requires-clause-safe g c = way_holds (way_at c.in-Failing.is c.loop-next-2.invariant.0) c.requires.stands

pub fail-requires-clause-opened : goal.fail-requires-clause-opened
fail-requires-clause-opened g c = (way_at c.in-Failing.is c.loop-next-2.invariant.0).opened

pub overflow_add-steps : goal.overflow_add-steps
overflow_add-steps g c =
    let low : c.loop-next-2.steps < 3 * c.args.budget + 1 =
    in_time c.instrs.ensures.stands c.requires.stands (way_at c.in-Running.is c.loop-next-2.invariant.0) tt in
    let small = c.requires.budget in
    omega arith

pub overflow_add-steps-in-loop-next : goal.overflow_add-steps-in-loop-next
overflow_add-steps-in-loop-next g c =
    let low : c.loop-next-2.steps < 3 * c.args.budget + 1 =
    in_time c.instrs.ensures.stands c.requires.stands (way_at c.in-Failing.is c.loop-next-2.invariant.0) tt in
    let small = c.requires.budget in
    omega arith

pub returns-in_err-next-clause-kept : goal.returns-in_err-next-clause-kept
returns-in_err-next-clause-kept g c =
    let keeps = c.in_err-next.ensures.keeps in
    kept_on (way_at c.in-Running.is c.loop-next-2.invariant.0) (λ r h. (keeps.standing r h.0, keeps.terms r h.0))

pub returns-in_err-next-2-clause-kept : goal.returns-in_err-next-2-clause-kept
returns-in_err-next-2-clause-kept g c =
    kept_on (way_at c.in-Failing.is c.loop-next-2.invariant.0) (λ r h. c.in_err-next-2.ensures.covered r h.1 h.0)

pub loop-next-2-smaller : goal.loop-next-2-smaller
loop-next-2-smaller g c =
    let low : c.loop-next-2.steps < 3 * c.args.budget + 1 =
    in_time c.instrs.ensures.stands c.requires.stands (way_at c.in-Running.is c.loop-next-2.invariant.0) tt in
    omega arith

pub loop-next-smaller : goal.loop-next-smaller
loop-next-smaller g c =
    let low : c.loop-next-2.steps < 3 * c.args.budget + 1 =
    in_time c.instrs.ensures.stands c.requires.stands (way_at c.in-Failing.is c.loop-next-2.invariant.0) tt in
    let more = c.loop-next-2.invariant.1 in
    omega arith

pub loop-next-2-preserved : goal.loop-next-2-preserved
loop-next-2-preserved g c =
    let keeps = c.in_ok-next.ensures.keeps in
    let more = c.loop-next-2.invariant.1 in (
      way_on (way_at c.in-Running.is c.loop-next-2.invariant.0) c.requires.stands
          c.in_ok-next.ensures.step (record { known = keeps.known; symbols = keeps.symbols }),
      omega arith,
    )

pub loop-next-preserved : goal.loop-next-preserved
loop-next-preserved g c = way_on (way_at c.in-Failing.is c.loop-next-2.invariant.0) c.requires.stands
    (c.in_ok-next-2.ensures.step _ _)
    c.in_ok-next-2.ensures.names

pub outcome_of-outcome-requires : goal.outcome_of-outcome-requires
outcome_of-outcome-requires g c = has_ended c.instrs.ensures.stands c.requires.stands c.loop-next-2.stacks
    c.loop-next-2.next c.loop-next-2.position c.loop-next-2.invariant.0.steps (goes_on_not c.loop-next-2.next
    c.in_default.not-Running c.in_default-next.not-Failing)

pub rules_of-rules-requires : goal.rules_of-rules-requires
rules_of-rules-requires g c = left_within c.instrs.ensures.stands c.requires.stands c.loop-next-2.stacks
    c.loop-next-2.next
    c.loop-next-2.position c.outcome_of-outcome.result c.outcome_of-outcome.ensures c.loop-next-2.invariant.0.steps

pub returns-clause-kept : goal.returns-clause-kept
returns-clause-kept g c = way_kept c.loop-next-2.invariant.0

pub returns-clause-steps : goal.returns-clause-steps
returns-clause-steps g c = ended_with c.instrs.ensures.stands c.requires.stands c.loop-next-2.stacks c.loop-next-2.next
    c.loop-next-2.position c.outcome_of-outcome.result c.outcome_of-outcome.ensures c.loop-next-2.invariant.0.steps

pub returns-clause-few : goal.returns-clause-few
returns-clause-few g c =
    let x = ended_with c.instrs.ensures.stands c.requires.stands c.loop-next-2.stacks c.loop-next-2.next
    c.loop-next-2.position c.outcome_of-outcome.result c.outcome_of-outcome.ensures c.loop-next-2.invariant.0.steps in
    let few = few_for_rules c.instrs.ensures.stands c.loop-next-2.stacks.left c.requires.stands
    c.outcome_of-outcome.result x in
    let rules = c.rules_of-rules.ensures in
    omega arith

pub returns-clause-stands : goal.returns-clause-stands
returns-clause-stands g c = result_stands c.loop-next-2.stacks.left c.requires.stands c.outcome_of-outcome.result
    (ended_with c.instrs.ensures.stands c.requires.stands c.loop-next-2.stacks c.loop-next-2.next c.loop-next-2.position
    c.outcome_of-outcome.result c.outcome_of-outcome.ensures c.loop-next-2.invariant.0.steps)
