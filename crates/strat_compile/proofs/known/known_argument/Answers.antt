use Rattle.core_lang.specs.Views.{strategy_of}
use Rattle.strat_compile.specs.Layers.{HandsOver, site_of}
use Rattle.std.proofs.Common.{subst}
use Rattle.strat_compile.proofs.KnownLaws.{handed_over, own_known}
use Rattle.strat_compile.proofs.known.known_argument.Goals as goal

pub returns-in-Inlined-clause-known : goal.returns-in-Inlined-clause-known
returns-in-Inlined-clause-known c = handed_over _ _ _ _ _ c.in-Inlined.is c.in_ok-known.ensures

pub returns-else-not-is_closed-clause-known : goal.returns-else-not-is_closed-clause-known
returns-else-not-is_closed-clause-known c =
    own_known _ _ _ (subst (λ how. HandsOver (site_of c.args.layers.now) (strategy_of c.args.strategy.now) how)
    c.in-OwnCode.is c.in_ok-known.ensures)
    (c.is_closed.ensures.closed c.if-not-is_closed.false)
