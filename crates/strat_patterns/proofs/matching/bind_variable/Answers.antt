use Rattle.std.proofs.Common.{IsTrue}
use Rattle.strat_steps.specs.State.{place_at}
use Rattle.strat_patterns.proofs.MatchingLaws.{goes_at_once, goes_given, bind_nowhere, bind_no_place, bind_held, held_stands}
use Rattle.strat_patterns.proofs.matching.bind_variable.Goals as goal

pub returns-in_default-clause-attempt : goal.returns-in_default-clause-attempt
returns-in_default-clause-attempt g c =
    let old = c.args.places.now in
    goes_at_once c.requires.places
    (bind_nowhere (g.S.TermSpace.space.term_of c.args.space.now)
    old.barrier (place_at c.args.frames.now c.args.here c.args.variable)
    (g.S.TermSpace.space.term_of c.args.space.now c.args.at.now)
    old.slots old.trail c.len.result c.in_default.ensures c.len.ensures)

pub returns-in-None-clause-attempt : goal.returns-in-None-clause-attempt
returns-in-None-clause-attempt g c =
    let old = c.args.places.now in
    goes_at_once c.requires.places
    (bind_no_place (g.S.TermSpace.space.term_of c.args.space.now)
    old.barrier (place_at c.args.frames.now c.args.here c.args.variable)
    (g.S.TermSpace.space.term_of c.args.space.now c.args.at.now)
    old.slots old.trail c.in-Some.place c.in-Some.ensures.0 c.in-None.ensures)

pub same-requires-clause-one : goal.same-requires-clause-one
same-requires-clause-one g c =
    held_stands (λ r. IsTrue (g.S.TermSpace.space.stands c.args.space.now r))
    c.args.places.now.slots c.in-Some.place c.in-Some-Some.held.now c.requires.places
    (rw c.in-Some-Some.field-0-is at c.in-Some-Some.ensures)

pub returns-in-Some-Some-clause-attempt : goal.returns-in-Some-Some-clause-attempt
returns-in-Some-Some-clause-attempt g c =
    let old = c.args.places.now in
    goes_at_once c.requires.places
    (bind_held (g.S.TermSpace.space.term_of c.args.space.now)
    old.barrier (place_at c.args.frames.now c.args.here c.args.variable)
    (g.S.TermSpace.space.term_of c.args.space.now c.args.at.now)
    old.slots old.trail c.in-Some.place c.in-Some-Some.held.now c.same.result c.in-Some.ensures.0
    (rw c.in-Some-Some.field-0-is at c.in-Some-Some.ensures) c.same.ensures)

pub returns-clause-attempt : goal.returns-clause-attempt
returns-clause-attempt g c =
    goes_given (place_at c.args.frames.now c.args.here c.args.variable)
    (g.S.TermSpace.space.term_of c.args.space.now c.args.at.now)
    c.args.places.now c.give.new.self c.in-Some.place c.in_ok-reference.reference c.requires.places
    c.in-Some.ensures.0
    (rw c.in-Some-None.field-0-is at c.in-Some-None.ensures)
    c.in_ok-reference.ensures.stands c.in_ok-reference.ensures.term c.in_ok-give.ensures
