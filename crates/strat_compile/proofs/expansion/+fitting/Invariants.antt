use Rattle.std.proofs.Common.{◌+◌, ◌*◌, ◌≤◌}
use Rattle.strat_compile.proofs.expansion.+fitting.Given as goal

abbrev pub decreases-fits : goal.decreases-fits
decreases-fits l = 4 * l.limit.now

abbrev pub decreases-all_fit : goal.decreases-all_fit
decreases-all_fit l = 4 * l.limit.now + 1

abbrev pub decreases-arm_fits : goal.decreases-arm_fits
decreases-arm_fits l = 4 * l.limit.now + 1

abbrev pub decreases-arms_fit : goal.decreases-arms_fit
decreases-arms_fit l = 4 * l.limit.now + 2

abbrev pub decreases-framed_fits : goal.decreases-framed_fits
decreases-framed_fits l = 4 * l.limit.now + 1

abbrev pub decreases-let_fits : goal.decreases-let_fits
decreases-let_fits l = 4 * l.limit.now + 2

abbrev pub decreases-call_fits : goal.decreases-call_fits
decreases-call_fits l = 4 * l.limit.now + 2

abbrev pub decreases-body_fits : goal.decreases-body_fits
decreases-body_fits l = 4 * l.limit.now + 1

abbrev pub decreases-arguments_fit : goal.decreases-arguments_fit
decreases-arguments_fit l = 4 * l.limit.now + 1

abbrev pub invariant-all_fit-loop-s : goal.invariant-all_fit-loop-s
invariant-all_fit-loop-s l = l.limit ≤ l.fn.limit

abbrev pub invariant-arms_fit-loop-arm : goal.invariant-arms_fit-loop-arm
invariant-arms_fit-loop-arm l = l.limit ≤ l.fn.limit

abbrev pub invariant-let_fits-loop-def : goal.invariant-let_fits-loop-def
invariant-let_fits-loop-def l = l.limit ≤ l.fn.limit

abbrev pub invariant-arguments_fit-loop-strategy : goal.invariant-arguments_fit-loop-strategy
invariant-arguments_fit-loop-strategy l = l.limit ≤ l.fn.limit
