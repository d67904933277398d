use Rattle.std.proofs.Common.{refl}
use Rattle.strat_code.specs.Code.{build_term}
use Rattle.strat_patterns.specs.Loaded.{loaded_of}
use Rattle.strat_machine.proofs.PatternLaws.{builds_so, builds_none_so, builds_large_so}
use Rattle.strat_machine.proofs.PrimitiveLaws.{goes_on_so}
use Rattle.strat_machine.proofs.patterns.perform_build.Goals as goal

pub returns-clause-step : goal.returns-clause-step
returns-clause-step g c = λ M n i at.
    let s = g.S.TermSpace.space in
    let q = loaded_of (s.symbol_of c.args.space.now) c.args.pattern.now in
    let here = c.args.position.now.frame in
    let frames = c.args.stacks.now.frames in
    let keeps = c.in_ok-built.ensures.keeps in
    let slots = c.slots-slots.ensures in
    goes_on_so s M c.args.space.now c.build_term.new.space (build_term n q)
    i c.args.position.now c.go_on.new.position c.args.stacks.now _ c.go_on.result c.in_ok-built.built
    c.go_on.ensures.next c.go_on.ensures.position c.in_ok-built.ensures.built
    (λ u h. builds_so n here q frames keeps slots h refl at)
    (λ h. builds_none_so n here q frames keeps slots h refl)
    (λ h. builds_large_so n here q frames keeps slots h refl)
