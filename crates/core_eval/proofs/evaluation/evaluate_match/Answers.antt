use Rattle.core_eval.proofs.EvalLaws.{match_done, no_match_done, found_true, found_false}
use Rattle.core_eval.proofs.evaluation.evaluate_match.Goals as goal

pub returns : goal.returns
returns c = λ M. rw c.in_ok-clone.ensures.cases
    (match_done (found_true _ _ _ c.in_ok-matches.ensures c.if-not-branch.false))

pub returns-then-not-branch : goal.returns-then-not-branch
returns-then-not-branch c = λ M. no_match_done (found_false _ _ _ c.in_ok-matches.ensures c.if-not-branch.true)
