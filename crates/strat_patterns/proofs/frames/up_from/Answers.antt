use Rattle.std.proofs.Common.{◌≡◌, ◌∙◌, ◌-◌, ◌+◌, Some, None, length, refl, sym, ap}
use Rattle.std.specs.Prelude.{slice_get}
use Rattle.std.proofs.lemmas.Option.{slice_get_past, slice_get_read}
use Rattle.strat_steps.specs.State.{frames_up}
use Rattle.strat_patterns.specs.Frames.{frames_in}
use Rattle.strat_patterns.proofs.FrameLaws.{up_one, up_stays, up_next}
use Rattle.strat_patterns.proofs.frames.up_from.Goals as goal

pub returns-in_default : goal.returns-in_default
returns-in_default c =
    let fs = c.args.frames.now in
    let i = c.loop.position in
    let none : slice_get fs i ≡ None = slice_get_past fs i c.in_default.ensures.lookup.3 in
    sym (up_stays c.args.closures.now fs i (c.args.count - c.loop.counter) none) ∙ c.loop.invariant

pub loop-preserved : goal.loop-preserved
loop-preserved c =
    let fs = c.args.frames.now in
    let i = c.loop.position in
    let F = frames_in c.args.closures.now fs in
    let there : slice_get fs i ≡ Some c.in-Some.frame.now =
    slice_get_read fs (length fs)
    i c.in-Some.frame.now refl c.in-Some.ensures.lookup.3.0 c.in-Some.ensures.lookup.1 in
    ap (λ q. frames_up F q (c.args.count - (c.loop.counter + 1)))
    (sym (up_next c.args.closures.now fs i c.in-Some.frame.now there)) ∙
    (up_one F i c.args.count c.loop.counter c.loop-test.true ∙ c.loop.invariant)
