use Rattle.std.proofs.Common.{sym, subst, IfOk}
use Rattle.strat_steps.specs.Binding.{attempt, attempted}
use Rattle.strat_steps.specs.Matches.{Goes, LeavesSpace}
use Rattle.strat_steps.specs.State.{place_at}
use Rattle.strat_patterns.proofs.LoadedLaws.{known_as_applied, loaded_as_applied}
use Rattle.strat_patterns.proofs.applied.match_term.Goals as goal

pub match_applied-requires-clause-known : goal.match_applied-requires-clause-known
match_applied-requires-clause-known g c =
    (known_as_applied (g.S.TermSpace.space.knows c.args.space.now) c.args.pattern.now c.in-Applied.name
    c.in-Applied.parts c.as_slice-parts.result.now c.in-Applied.is c.as_slice-parts.ensures.value c.requires.known).1

pub returns-else-parts-gt-FEW-clause-unchanged : goal.returns-else-parts-gt-FEW-clause-unchanged
returns-else-parts-gt-FEW-clause-unchanged g c = λ h.
    let is = loaded_as_applied (g.S.TermSpace.space.symbol_of c.args.space.now) c.args.pattern.now c.in-Applied.name
    c.in-Applied.parts c.as_slice-parts.result.now c.in-Applied.is c.as_slice-parts.ensures.value in
    c.match_applied.ensures.unchanged (subst LeavesSpace is h)

pub returns-else-parts-gt-FEW-clause-attempt : goal.returns-else-parts-gt-FEW-clause-attempt
returns-else-parts-gt-FEW-clause-attempt g c =
    let s = g.S.TermSpace.space in
    let w = c.args.space.now in
    let old = c.args.places.now in
    let new = c.match_applied.new.places in
    let is = loaded_as_applied (s.symbol_of w) c.args.pattern.now c.in-Applied.name c.in-Applied.parts
    c.as_slice-parts.result.now c.in-Applied.is c.as_slice-parts.ensures.value in
    subst (λ q. IfOk c.match_applied.result
    (λ yes. Goes s old.barrier
    (attempted (place_at c.args.frames.now c.args.here) old.barrier q (s.term_of w c.args.at.now)) (attempt yes) w
    old.slots old.trail c.match_applied.new.space new.slots new.trail)) (sym is) c.match_applied.ensures.attempt
