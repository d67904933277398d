use Rattle.std.proofs.Common.{◌≡◌, ◌-◌, ◌∙◌, sym, ap, refl, arith, length, take}
use Rattle.strat_steps.specs.ReferenceSteps.{shrinks, shrinks_low}
use Rattle.strat_machine.proofs.StepLaws.{does_to, same_run}
use Rattle.strat_machine.proofs.steps.shrink_scope.Goals as goal

pub returns-then-kept-barrier : goal.returns-then-kept-barrier
returns-then-kept-barrier g c = λ M w i next.
    let k = c.len.ensures in let j = c.saturating_sub-kept.ensures in let b = c.barrier.ensures in let l =
    c.if-kept-barrier.true in
    shrinks_low (omega arith)

pub returns : goal.returns
returns g c = λ M w i next.
    let m = c.args.stacks.now in
    let k = c.len.ensures in let j = c.saturating_sub-kept.ensures in let b = c.barrier.ensures in let l =
    c.if-kept-barrier.false in
    let kept : c.saturating_sub-kept.result ≡ length m.places.slots - c.args.places = omega arith in
    let places = c.cut.ensures in
    does_to (shrinks (omega arith))
    (same_run (sym next) refl (ap (λ n. take n m.places.slots) (sym kept) ∙
    ap (λ v. v.slots) (sym places)) refl (ap (λ v. v.trail) (sym places)) (ap (λ v. v.barrier) (sym places)) refl)
