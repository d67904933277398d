use Rattle.std.proofs.Common.{sym, subst, arith, length}
use Rattle.strat_patterns.specs.Frames.{AreLaid}
use Rattle.strat_patterns.proofs.FrameLaws.{laid_push}
use Rattle.strat_patterns.proofs.frames.Frames.push_scope.Goals as goal

pub invariant_of-self-2 : goal.invariant_of-self-2
invariant_of-self-2 c =
    let k = c.len-first.ensures in
    subst (λ fs. AreLaid 0 fs (length c.self.inside.closures.items)) (sym c.in_ok-push_on.ensures.pushed)
    (laid_push 0 _ _ _ _ c.self.invariant (omega arith) (omega arith))
