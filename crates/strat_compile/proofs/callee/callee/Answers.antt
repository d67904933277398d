use Rattle.strat_compile.specs.Layers.{site_of}
use Rattle.strat_compile.specs.Sites.{outside_of}
use Rattle.strat_compile.proofs.LayerLaws.{calls_reached, if_ok}
use Rattle.strat_compile.proofs.callee.callee.Goals as goal

pub returns : goal.returns
returns c =
    if_ok c.callee_in.result
    (λ v h. calls_reached _ _ (outside_of (site_of c.args.layers.now) c.args.at.layers_up)
    _ _ v c.reach-is_frameless.ensures.context c.reach-is_frameless.ensures.site h)
    c.callee_in.ensures
