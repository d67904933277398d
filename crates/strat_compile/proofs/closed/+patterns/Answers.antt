use Rattle.strat_compile.proofs.ClosedLaws.{list_closed, whole_list_closed}
use Rattle.strat_compile.proofs.closed.+patterns.Goals as goal

pub is_pattern_closed-returns-in-None : goal.is_pattern_closed-returns-in-None
is_pattern_closed-returns-in-None t c = λ e.
    let elements = rw c.as_slice-in-List.ensures.value at c.are_patterns_closed-in-List.ensures in
    whole_list_closed _ c.args.p.now _ _ c.in-List.is c.in-None.is (elements c.if-not-are_patterns_closed.false)

pub is_pattern_closed-returns-in-Some : goal.is_pattern_closed-returns-in-Some
is_pattern_closed-returns-in-Some t c = λ e.
    let elements = rw c.as_slice-in-List.ensures.value at c.are_patterns_closed-in-List.ensures in
    let rest = rw c.deref-in-Some.ensures at c.is_pattern_closed-in-Some.ensures in
    list_closed _ c.args.p.now _ _ _ c.in-List.is c.in-Some.is (elements c.if-not-are_patterns_closed.false) (rest e)
