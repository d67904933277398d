use Rattle.strat_compile.proofs.ClosedLaws.{sequence_closed, choice_closed, call_closed}
use Rattle.strat_compile.proofs.closed.+closed.Goals as goal

pub is_closed-returns-else-not-is_closed-2-clause-closed : goal.is_closed-returns-else-not-is_closed-2-clause-closed
is_closed-returns-else-not-is_closed-2-clause-closed t c = λ e.
    let first = rw c.deref.ensures at c.is_closed.ensures.closed in
    let second = rw c.deref-in-Sequence.ensures at c.is_closed-in-Sequence.ensures.closed in
    let rest = rw c.as_slice.ensures.value at c.are_closed.ensures.closed in
    sequence_closed _ c.args.s.now _ _ _ c.in-Sequence.is (first c.if-not-is_closed.false)
    (second c.if-not-is_closed-2.false) (rest e)

pub is_closed-returns-else-not-are_arms_closed-clause-closed :
    goal.is_closed-returns-else-not-are_arms_closed-clause-closed
is_closed-returns-else-not-are_arms_closed-clause-closed t c = λ e.
    let first = rw c.deref-in-Choice.ensures at c.is_arm_closed.ensures.closed in
    let others = rw c.as_slice-in-Choice.ensures.value at c.are_arms_closed.ensures.closed in
    let last = rw c.deref-in-Choice-2.ensures at c.is_closed-in-Choice.ensures.closed in
    choice_closed _ c.args.s.now _ _ _ c.in-Choice.is (first c.if-not-is_arm_closed.false)
    (others c.if-not-are_arms_closed.false) (last e)

pub is_call_closed-returns-clause-closed : goal.is_call_closed-returns-clause-closed
is_call_closed-returns-clause-closed t c = λ e.
    call_closed _ c.args.at c.args.strategies.now c.args.terms.now (c.has_callee.ensures c.if-not-has_callee.false)
    (c.are_closed.ensures.closed c.if-not-are_closed.false) (c.are_patterns_closed_within.ensures.closed e)
