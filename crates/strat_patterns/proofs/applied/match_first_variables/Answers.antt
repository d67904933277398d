use Rattle.std.proofs.Common.{refl, sym, ◌∙◌, ap, arith, IsTrue, length, false}
use Rattle.std.proofs.lemmas.List.{length-map}
use Rattle.std.proofs.lemmas.Option.{slice_get_within}
use Rattle.term_model.specs.TermParts.{parts_of}
use Rattle.term_model.proofs.SpaceLaws.{keeps_same}
use Rattle.strat_patterns.specs.Loaded.{loaded_of}
use Rattle.strat_steps.specs.State.{place_at}
use Rattle.strat_patterns.proofs.AppliedLaws.{held_at, held_term, binds_as_pattern}
use Rattle.strat_patterns.proofs.LoadedLaws.{loaded_as_variable}
use Rattle.strat_patterns.proofs.MatchingLaws.{goes_at_once, known_at, match_lacks, match_stops, match_next}
use Rattle.strat_patterns.proofs.applied.match_first_variables.Goals as goal

pub loop-i-init : goal.loop-i-init
loop-i-init g c = (refl, omega arith, goes_at_once c.requires.places refl)

pub returns-in_default-clause-first : goal.returns-in_default-clause-first
returns-in_default-clause-first g c =
    let s = g.S.TermSpace.space in
    let tree = s.term_of c.args.space.now in
    let many = sym (length-map c.parts-held.result tree) ∙ ap length c.parts-held.ensures.parts in
    match_lacks (place_at c.args.frames.now c.args.here) (loaded_of (s.symbol_of c.args.space.now)) c.args.patterns.now
    (parts_of (tree c.args.at.now)) c.loop-i.i (length c.parts-held.result) c.loop-i-test.true many
    c.in_default.ensures c.loop-i.invariant.2

pub bind_variable-requires-clause-stands : goal.bind_variable-requires-clause-stands
bind_variable-requires-clause-stands g c =
    held_at (λ r. IsTrue (g.S.TermSpace.space.stands c.args.space.now r)) c.parts-held.result c.loop-i.i
    c.in-Some.part.now c.parts-held.ensures.stand c.in-Some.ensures

pub returns-then-not-branch-clause-first : goal.returns-then-not-branch-clause-first
returns-then-not-branch-clause-first g c =
    let s = g.S.TermSpace.space in
    let w = c.args.space.now in
    let tree = s.term_of w in
    let part = held_term tree c.parts-held.result (parts_of (tree c.args.at.now)) c.loop-i.i c.in-Some.part.now
    c.parts-held.ensures.parts c.in-Some.ensures in
    match_stops (place_at c.args.frames.now c.args.here) c.args.patterns.now (parts_of (tree c.args.at.now)) c.loop-i.i
    c.index-patterns-i.result (tree c.in-Some.part.now) c.in_ok-bind_variable.field-0 c.loop-i.places.barrier
    c.requires.known (keeps_same s w) c.loop-i-test.true c.index-patterns-i.is part c.loop-i.invariant.2
    (keeps_same s w) c.loop-i.invariant.0 c.if-not-branch.true
    (binds_as_pattern (place_at c.args.frames.now c.args.here) (loaded_of (s.symbol_of w) c.index-patterns-i.result)
    c.in-Variable.x (tree c.in-Some.part.now)
    (loaded_as_variable (s.symbol_of w) c.index-patterns-i.result c.in-Variable.x c.in-Variable.is)
    c.in_ok-bind_variable.ensures.attempt)

pub loop-i-preserved : goal.loop-i-preserved
loop-i-preserved g c =
    let s = g.S.TermSpace.space in
    let w = c.args.space.now in
    let tree = s.term_of w in
    let part = held_term tree c.parts-held.result (parts_of (tree c.args.at.now)) c.loop-i.i c.in-Some.part.now
    c.parts-held.ensures.parts c.in-Some.ensures in (
      c.in_ok-bind_variable.ensures.barrier ∙ c.loop-i.invariant.0,
      (let within = slice_get_within (parts_of (tree c.args.at.now)) c.loop-i.i (tree c.in-Some.part.now) part in
          omega arith),
      match_next (place_at c.args.frames.now c.args.here) c.args.patterns.now (parts_of (tree c.args.at.now)) c.loop-i.i
          c.index-patterns-i.result (tree c.in-Some.part.now) c.in_ok-bind_variable.field-0 c.loop-i.places.barrier
          c.requires.known (keeps_same s w) c.loop-i-test.true c.index-patterns-i.is part c.loop-i.invariant.2
          (keeps_same s w) c.loop-i.invariant.0 c.if-not-branch.false
          (binds_as_pattern (place_at c.args.frames.now c.args.here)
          (loaded_of (s.symbol_of w) c.index-patterns-i.result) c.in-Variable.x (tree c.in-Some.part.now)
          (loaded_as_variable (s.symbol_of w) c.index-patterns-i.result c.in-Variable.x c.in-Variable.is)
          c.in_ok-bind_variable.ensures.attempt),
    )

pub has_other_root-requires : goal.has_other_root-requires
has_other_root-requires g c =
    let s = g.S.TermSpace.space in
    let w = c.args.space.now in
    record {
      known = known_at (s.knows w) c.args.patterns.now c.loop-i.i c.index-patterns-i.result c.requires.known
          c.loop-i-test.true c.index-patterns-i.is;
      stands = held_at (λ r. IsTrue (s.stands w r)) c.parts-held.result c.loop-i.i c.in-Some.part.now
          c.parts-held.ensures.stand c.in-Some.ensures;
    }

pub returns-then-has_other_root-clause-first : goal.returns-then-has_other_root-clause-first
returns-then-has_other_root-clause-first g c =
    let s = g.S.TermSpace.space in
    let w = c.args.space.now in
    let tree = s.term_of w in
    let part = held_term tree c.parts-held.result (parts_of (tree c.args.at.now)) c.loop-i.i c.in-Some.part.now
    c.parts-held.ensures.parts c.in-Some.ensures in
    let place = place_at c.args.frames.now c.args.here in
    match_stops place c.args.patterns.now (parts_of (tree c.args.at.now)) c.loop-i.i c.index-patterns-i.result
    (tree c.in-Some.part.now) false c.loop-i.places.barrier
    c.requires.known (keeps_same s w) c.loop-i-test.true c.index-patterns-i.is part c.loop-i.invariant.2
    (keeps_same s w) c.loop-i.invariant.0 refl
    (goes_at_once c.loop-i.invariant.2.standing (c.if-has_other_root.ensures refl place c.loop-i.places.barrier _ _))
