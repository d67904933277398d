use Rattle.std.proofs.Common.{◌+◌, ◌*◌, ◌-◌, ◌<◌, ◌≡◌, refl, ◌∙◌, arith}
use Rattle.std.proofs.lemmas.Bool.{false≢true}
use Rattle.prim_registry.specs.Registered.{meaning_of}
use Rattle.strat_code.specs.CodeOf.{code_of}
use Rattle.strat_machine.proofs.ActionLaws.{program_later}
use Rattle.strat_machine.proofs.ChargeLaws.{charged_at_start, charged_more, charges_at}
use Rattle.strat_machine.proofs.RunningLaws.{started, way_holds, way_counted, way_kept, kept_on, way_on, in_time, has_ended}
use Rattle.strat_machine.proofs.partial.run_part.Goals as goal

pub loop-notes-init : goal.loop-notes-init
loop-notes-init g c =
    let s = g.S.TermSpace.space in (
      started s (code_of c.args.code.now.tables c.args.code.now.instrs)
          (meaning_of g.M.PrimMeaning.answer c.args.registry.now)
          c.args.space.now c.args.term c.args.budget c.args.stacks.now c.requires.clear,
      charged_at_start _ _ _ c.requires.blank,
      record { reached = refl; passed = refl },
    )

pub step-requires-clause-holds : goal.step-requires-clause-holds
step-requires-clause-holds g c = way_holds c.loop-notes.invariant.0 c.requires.stands

pub step-requires-clause-counted : goal.step-requires-clause-counted
step-requires-clause-counted g c = way_counted c.loop-notes.invariant.0 c.requires.stands

pub step-requires-clause-opened : goal.step-requires-clause-opened
step-requires-clause-opened g c = c.loop-notes.invariant.0.opened

pub step-requires-clause-loaded : goal.step-requires-clause-loaded
step-requires-clause-loaded g c = let names = c.loop-notes.invariant.0.names in
    program_later names.known names.symbols _ c.requires.loaded

pub add-requires : goal.add-requires
add-requires g c =
    let most = c.loop-notes.invariant.1.most in
    let small = c.requires.budget in
    let is = c.saturating_sub-charged.ensures in
    omega arith

pub overflow_add-steps : goal.overflow_add-steps
overflow_add-steps g c =
    let low : c.loop-notes.steps < 3 * c.args.budget + 1 =
    in_time c.instrs.ensures.stands c.requires.stands c.loop-notes.invariant.0 (c.loop-notes-test.ensures.0 refl) in
    let small = c.requires.budget in
    omega arith

pub loop-notes-smaller : goal.loop-notes-smaller
loop-notes-smaller g c =
    let low : c.loop-notes.steps < 3 * c.args.budget + 1 =
    in_time c.instrs.ensures.stands c.requires.stands c.loop-notes.invariant.0 (c.loop-notes-test.ensures.0 refl) in
    omega arith

pub loop-notes-preserved : goal.loop-notes-preserved
loop-notes-preserved g c =
    let way = c.loop-notes.invariant.0 in
    let names = way.names in
    let is = c.saturating_sub-charged.ensures in
    let charged : c.saturating_sub-charged.result ≡ c.loop-notes.stacks.left - c.step.new.stacks.left =
    omega arith in (
      way_on way c.requires.stands c.in_ok-after.ensures.step c.in_ok-after.ensures.names,
      charged_more c.instrs.ensures.stands c.requires.stands
          (program_later names.known names.symbols _ c.requires.loaded) c.in_ok-after.after c.step.new.position
          c.step.new.stacks way (c.loop-notes-test.ensures.0 refl)
          c.in_ok-after.ensures.step.step c.saturating_sub-charged.result charged
          (charges_at c.at-began.ensures c.add.ensures.charges) c.loop-notes.invariant.1,
      record {
        reached = c.add.ensures.rest.reached ∙ c.loop-notes.invariant.2.reached;
        passed = c.add.ensures.rest.passed ∙ c.loop-notes.invariant.2.passed;
      },
    )

pub returns-in_err-after-clause-kept : goal.returns-in_err-after-clause-kept
returns-in_err-after-clause-kept g c = kept_on c.loop-notes.invariant.0 c.in_err-after.ensures.lasting

pub returns-then-steps-count-clause-reached : goal.returns-then-steps-count-clause-reached
returns-then-steps-count-clause-reached g c = record { taken = c.loop-notes.steps; way = c.loop-notes.invariant.0 }

pub returns-then-steps-count-clause-ended : goal.returns-then-steps-count-clause-ended
returns-then-steps-count-clause-ended g c = λ enough.
    let low : c.loop-notes.steps < 3 * c.args.budget + 1 =
    in_time c.instrs.ensures.stands c.requires.stands c.loop-notes.invariant.0 (c.loop-notes-test.ensures.0 refl) in
    absurd (omega arith)

pub returns-then-steps-count-clause-charged : goal.returns-then-steps-count-clause-charged
returns-then-steps-count-clause-charged g c = c.loop-notes.invariant.1

pub returns-then-steps-count-clause-room : goal.returns-then-steps-count-clause-room
returns-then-steps-count-clause-room g c =
    let same = c.loop-notes.invariant.2 in record { reached = same.reached; passed = same.passed }

pub returns-then-steps-count-clause-holds : goal.returns-then-steps-count-clause-holds
returns-then-steps-count-clause-holds g c = way_holds c.loop-notes.invariant.0 c.requires.stands

pub returns-then-steps-count-clause-kept : goal.returns-then-steps-count-clause-kept
returns-then-steps-count-clause-kept g c = way_kept c.loop-notes.invariant.0

pub returns-clause-reached : goal.returns-clause-reached
returns-clause-reached g c = record { taken = c.loop-notes.steps; way = c.loop-notes.invariant.0 }

pub returns-clause-ended : goal.returns-clause-ended
returns-clause-ended g c = λ enough.
    has_ended c.instrs.ensures.stands c.requires.stands c.loop-notes.stacks c.loop-notes.next c.loop-notes.position
    c.loop-notes.invariant.0.steps (λ going. absurd (false≢true (c.loop-notes-test.ensures.1 going)))

pub returns-clause-charged : goal.returns-clause-charged
returns-clause-charged g c = c.loop-notes.invariant.1

pub returns-clause-room : goal.returns-clause-room
returns-clause-room g c =
    let same = c.loop-notes.invariant.2 in record { reached = same.reached; passed = same.passed }

pub returns-clause-holds : goal.returns-clause-holds
returns-clause-holds g c = way_holds c.loop-notes.invariant.0 c.requires.stands

pub returns-clause-kept : goal.returns-clause-kept
returns-clause-kept g c = way_kept c.loop-notes.invariant.0
