use Rattle.strat_machine.proofs.PatternLaws.{matches_so, matches_not_so}
use Rattle.strat_machine.proofs.patterns.perform_match.Goals as goal

pub returns-then-branch-clause-step : goal.returns-then-branch-clause-step
returns-then-branch-clause-step g c = λ M n i at.
    matches_so n c.in_ok-match_term.ensures.keeps c.in_ok-match_term.ensures.unchanged
    c.in_ok-match_term.ensures.attempt c.in_ok-match_term.ensures.barrier c.if-branch.true at

pub returns-clause-step : goal.returns-clause-step
returns-clause-step g c = λ M n i at.
    matches_not_so n c.in_ok-match_term.ensures.keeps c.in_ok-match_term.ensures.unchanged
    c.in_ok-match_term.ensures.attempt c.in_ok-match_term.ensures.barrier c.if-branch.false
