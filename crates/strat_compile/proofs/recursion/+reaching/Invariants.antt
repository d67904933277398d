use Rattle.std.proofs.Common.{◌≡◌, length}
use Rattle.strat_compile.proofs.recursion.+reaching.Given as goal

abbrev pub invariant-any_reaches-loop-s : goal.invariant-any_reaches-loop-s
invariant-any_reaches-loop-s l = length l.called.items ≡ length l.fn.called.items

abbrev pub invariant-any_arm_reaches-loop-arm : goal.invariant-any_arm_reaches-loop-arm
invariant-any_arm_reaches-loop-arm l = length l.called.items ≡ length l.fn.called.items

abbrev pub invariant-any_body_reaches-loop-def : goal.invariant-any_body_reaches-loop-def
invariant-any_body_reaches-loop-def l = length l.called.items ≡ length l.fn.called.items
