use Rattle.std.proofs.Common.{refl, sym, subst, arith, length, map, true, false}
use Rattle.std.proofs.lemmas.List.{length-map}
use Rattle.core_lang.specs.Program.{applied}
use Rattle.core_lang.specs.Views.{patterns_in}
use Rattle.term_model.specs.TermParts.{parts_of}
use Rattle.strat_patterns.specs.Applied.{MatchesFirst}
use Rattle.strat_patterns.specs.Loaded.{loaded_of}
use Rattle.strat_steps.specs.State.{place_at}
use Rattle.strat_patterns.proofs.AppliedLaws.{all_first, and_others}
use Rattle.strat_patterns.proofs.MatchingLaws.{applied_none, applied_fails, applied_ends}
use Rattle.strat_patterns.proofs.applied.match_applied.Goals as goal

pub returns-then-not-is_application-clause-attempt : goal.returns-then-not-is_application-clause-attempt
returns-then-not-is_application-clause-attempt g c =
    let s = g.S.TermSpace.space in
    let symbols = s.symbol_of c.args.space.now in
    let ps = map (loaded_of symbols) c.args.patterns.now in
    applied_none (place_at c.args.frames.now c.args.here) (applied (symbols c.args.name.now) (patterns_in ps))
    (symbols c.args.name.now) ps (s.term_of c.args.space.now c.args.at.now) c.is_application.result refl
    c.is_application.ensures c.if-not-is_application.true c.requires.places

pub returns-in-Failed-clause-attempt : goal.returns-in-Failed-clause-attempt
returns-in-Failed-clause-attempt g c =
    let s = g.S.TermSpace.space in
    let w = c.args.space.now in
    let symbols = s.symbol_of w in
    let ps = map (loaded_of symbols) c.args.patterns.now in
    let t = s.term_of w c.args.at.now in
    let place = place_at c.args.frames.now c.args.here in
    let old = c.args.places.now in
    let new = c.match_first_variables.new.places in
    let x = subst (λ v. MatchesFirst s old.barrier place ps (parts_of t) v w old.slots old.trail new.slots new.trail)
    c.in-Failed.is c.in_ok-match_first_variables.ensures.first in
    applied_fails place (applied (symbols c.args.name.now) (patterns_in ps)) ps t c.is_application.result false x
    (symbols c.args.name.now) refl c.is_application.ensures c.if-not-is_application.false refl

pub returns-then-first-patterns-clause-attempt : goal.returns-then-first-patterns-clause-attempt
returns-then-first-patterns-clause-attempt g c =
    let s = g.S.TermSpace.space in
    let w = c.args.space.now in
    let symbols = s.symbol_of w in
    let ps = map (loaded_of symbols) c.args.patterns.now in
    let t = s.term_of w c.args.at.now in
    let place = place_at c.args.frames.now c.args.here in
    let old = c.args.places.now in
    let new = c.match_first_variables.new.places in
    let n = c.in-Matched.first in
    let x = subst (λ v. MatchesFirst s old.barrier place ps (parts_of t) v w old.slots old.trail new.slots new.trail)
    c.in-Matched.is c.in_ok-match_first_variables.ensures.first in
    let many = length-map c.args.patterns.now (loaded_of symbols) in
    let h = c.if-first-patterns.true in let few = x.1 in
    applied_ends place (applied (symbols c.args.name.now) (patterns_in ps)) ps t c.is_application.result true
    (all_first place ps (parts_of t) n x.2 (omega arith)) (symbols c.args.name.now) _ (length c.args.patterns.now)
    c.count-count.result
    refl c.is_application.ensures c.if-not-is_application.false refl (omega arith) (sym many) c.count-count.ensures refl

pub returns-then-not-branch-clause-attempt : goal.returns-then-not-branch-clause-attempt
returns-then-not-branch-clause-attempt g c =
    let s = g.S.TermSpace.space in
    let w = c.args.space.now in
    let symbols = s.symbol_of w in
    let ps = map (loaded_of symbols) c.args.patterns.now in
    let t = s.term_of w c.args.at.now in
    let place = place_at c.args.frames.now c.args.here in
    let old = c.args.places.now in
    let new = c.match_first_variables.new.places in
    let n = c.in-Matched.first in
    let x = subst (λ v. MatchesFirst s old.barrier place ps (parts_of t) v w old.slots old.trail new.slots new.trail)
    c.in-Matched.is c.in_ok-match_first_variables.ensures.first in
    let many = length-map c.args.patterns.now (loaded_of symbols) in
    let y = and_others place ps (parts_of t) n x.2 new.barrier c.in_ok-match_others-in-Matched.field-0
    c.in_ok-match_first_variables.ensures.barrier c.in_ok-match_others-in-Matched.ensures.keeps
    c.in_ok-match_others-in-Matched.ensures.attempt in
    applied_fails place (applied (symbols c.args.name.now) (patterns_in ps)) ps t c.is_application.result
    c.in_ok-match_others-in-Matched.field-0 y (symbols c.args.name.now) refl c.is_application.ensures
    c.if-not-is_application.false c.if-not-branch.true

pub returns-else-not-branch-clause-attempt : goal.returns-else-not-branch-clause-attempt
returns-else-not-branch-clause-attempt g c =
    let s = g.S.TermSpace.space in
    let w = c.args.space.now in
    let symbols = s.symbol_of w in
    let ps = map (loaded_of symbols) c.args.patterns.now in
    let t = s.term_of w c.args.at.now in
    let place = place_at c.args.frames.now c.args.here in
    let old = c.args.places.now in
    let new = c.match_first_variables.new.places in
    let n = c.in-Matched.first in
    let x = subst (λ v. MatchesFirst s old.barrier place ps (parts_of t) v w old.slots old.trail new.slots new.trail)
    c.in-Matched.is c.in_ok-match_first_variables.ensures.first in
    let many = length-map c.args.patterns.now (loaded_of symbols) in
    let y = and_others place ps (parts_of t) n x.2 new.barrier c.in_ok-match_others-in-Matched.field-0
    c.in_ok-match_first_variables.ensures.barrier c.in_ok-match_others-in-Matched.ensures.keeps
    c.in_ok-match_others-in-Matched.ensures.attempt in
    applied_ends place (applied (symbols c.args.name.now) (patterns_in ps)) ps t c.is_application.result
    c.in_ok-match_others-in-Matched.field-0 y (symbols c.args.name.now) _ (length c.args.patterns.now)
    c.count-count.result
    refl c.is_application.ensures c.if-not-is_application.false c.if-not-branch.false
    (c.in_ok-match_others-in-Matched.ensures.enough c.if-not-branch.false) (sym many) c.count-count.ensures refl
