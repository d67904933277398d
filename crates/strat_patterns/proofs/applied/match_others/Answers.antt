use Rattle.std.proofs.Common.{◌∙◌, refl, arith}
use Rattle.term_model.specs.TermParts.{parts_of}
use Rattle.term_model.proofs.SpaceLaws.{keeps_same, keeps_then}
use Rattle.strat_patterns.specs.Loaded.{loaded_of}
use Rattle.strat_steps.specs.State.{place_at}
use Rattle.strat_patterns.proofs.LoadedLaws.{known_later}
use Rattle.strat_patterns.proofs.MatchingLaws.{goes_at_once, known_at, part_was, part_leaves, match_lacks, match_stops, match_next}
use Rattle.strat_patterns.proofs.applied.match_others.Goals as goal

pub loop-i-init : goal.loop-i-init
loop-i-init g c =
    let many = c.count-count.ensures in (
      keeps_same g.S.TermSpace.space c.args.space.now,
      refl,
      (let within = c.requires.within in omega arith),
      goes_at_once c.requires.places refl,
      λ h. refl,
    )

pub returns-then-i-count-clause-attempt : goal.returns-then-i-count-clause-attempt
returns-then-i-count-clause-attempt g c =
    let s = g.S.TermSpace.space in
    match_lacks (place_at c.args.frames.now c.args.here) (loaded_of (s.symbol_of c.args.space.now)) c.args.patterns.now
    (parts_of (s.term_of c.args.space.now c.args.at.now)) c.loop-i.i c.count-count.result c.loop-i-test.true
    c.count-count.ensures c.if-i-count.true c.loop-i.invariant.3

pub returns-then-not-branch-clause-keeps : goal.returns-then-not-branch-clause-keeps
returns-then-not-branch-clause-keeps g c = keeps_then c.loop-i.invariant.0 c.in_ok-match_part.ensures.keeps

pub returns-then-not-branch-clause-attempt : goal.returns-then-not-branch-clause-attempt
returns-then-not-branch-clause-attempt g c =
    let s = g.S.TermSpace.space in
    match_stops (place_at c.args.frames.now c.args.here) c.args.patterns.now
    (parts_of (s.term_of c.args.space.now c.args.at.now)) c.loop-i.i c.index-patterns-i.result
    (s.term_of c.loop-i.space c.in_ok-part.part) c.in_ok-match_part.field-0 c.loop-i.places.barrier
    c.requires.known c.loop-i.invariant.0 c.loop-i-test.true c.index-patterns-i.is
    (part_was parts_of c.args.at.now c.loop-i.i c.loop-i.invariant.0 c.requires.stands c.in_ok-part.ensures.term)
    c.loop-i.invariant.3 c.in_ok-match_part.ensures.keeps c.loop-i.invariant.1 c.if-not-branch.true
    c.in_ok-match_part.ensures.attempt

pub loop-i-preserved : goal.loop-i-preserved
loop-i-preserved g c = (
  keeps_then c.loop-i.invariant.0 c.in_ok-match_part.ensures.keeps,
  c.in_ok-match_part.ensures.barrier ∙ c.loop-i.invariant.1,
  (let below = c.if-i-count.false in omega arith),
  match_next (place_at c.args.frames.now c.args.here) c.args.patterns.now
      (parts_of (g.S.TermSpace.space.term_of c.args.space.now c.args.at.now)) c.loop-i.i c.index-patterns-i.result
      (g.S.TermSpace.space.term_of c.loop-i.space c.in_ok-part.part) c.in_ok-match_part.field-0 c.loop-i.places.barrier
      c.requires.known c.loop-i.invariant.0 c.loop-i-test.true c.index-patterns-i.is
      (part_was parts_of c.args.at.now c.loop-i.i c.loop-i.invariant.0 c.requires.stands c.in_ok-part.ensures.term)
      c.loop-i.invariant.3 c.in_ok-match_part.ensures.keeps c.loop-i.invariant.1 c.if-not-branch.false
      c.in_ok-match_part.ensures.attempt,
  λ h.
      let s = g.S.TermSpace.space in
      c.in_ok-match_part.ensures.unchanged
      (part_leaves (s.knows c.args.space.now) (s.symbol_of c.args.space.now) (s.symbol_of c.loop-i.space)
      c.loop-i.invariant.0.symbols c.args.patterns.now c.loop-i.i c.index-patterns-i.result c.requires.known
      c.loop-i-test.true c.index-patterns-i.is h) ∙ c.loop-i.invariant.4 h,
)

pub match_part-requires-clause-known : goal.match_part-requires-clause-known
match_part-requires-clause-known g c =
    let s = g.S.TermSpace.space in
    known_later c.loop-i.invariant.0.known c.index-patterns-i.result
    (known_at (s.knows c.args.space.now) c.args.patterns.now c.loop-i.i c.index-patterns-i.result c.requires.known
    c.loop-i-test.true c.index-patterns-i.is)

pub returns-in_err-match_part-clause-unchanged : goal.returns-in_err-match_part-clause-unchanged
returns-in_err-match_part-clause-unchanged g c = λ h.
    let s = g.S.TermSpace.space in
    c.in_err-match_part.ensures.unchanged
    (part_leaves (s.knows c.args.space.now) (s.symbol_of c.args.space.now) (s.symbol_of c.loop-i.space)
    c.loop-i.invariant.0.symbols c.args.patterns.now c.loop-i.i c.index-patterns-i.result c.requires.known
    c.loop-i-test.true c.index-patterns-i.is h) ∙ c.loop-i.invariant.4 h

pub returns-then-not-branch-clause-unchanged : goal.returns-then-not-branch-clause-unchanged
returns-then-not-branch-clause-unchanged g c = λ h.
    let s = g.S.TermSpace.space in
    c.in_ok-match_part.ensures.unchanged
    (part_leaves (s.knows c.args.space.now) (s.symbol_of c.args.space.now) (s.symbol_of c.loop-i.space)
    c.loop-i.invariant.0.symbols c.args.patterns.now c.loop-i.i c.index-patterns-i.result c.requires.known
    c.loop-i-test.true c.index-patterns-i.is h) ∙ c.loop-i.invariant.4 h
