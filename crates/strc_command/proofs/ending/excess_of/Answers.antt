use Rattle.std.proofs.Common.{inl, inr, refl}
use Rattle.strc_command.proofs.ending.excess_of.Goals.{then-is_exact, else-is_exact}
use Rattle.strc_command.proofs.ending.excess_of.Goals as goal

pub returns-then-depth-le-MAX_DEPTH : goal.returns-then-depth-le-MAX_DEPTH
returns-then-depth-le-MAX_DEPTH c = inr (c.args.size.now.weight, inl refl)

pub returns : goal.returns
returns c = elim c.if-is_exact.branch [
  | then-is_exact w ↦ inr (c.args.size.now.depth, inr (inl (rw w.result-is refl)))
  | else-is_exact w ↦ inr (c.args.size.now.depth, inr (inr (rw w.result-is refl)))
]
