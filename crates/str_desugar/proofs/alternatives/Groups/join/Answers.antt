use Rattle.std.proofs.Common.{◌∙◌, map, ap}
use Rattle.core_lang.specs.Views as views
use Rattle.str_desugar.specs.Groups.{joined}
use Rattle.str_desugar.proofs.JoinLaws.{joined_all}
use Rattle.str_desugar.proofs.alternatives.Groups.join.Goals as goal

pub returns : goal.returns
returns c =
    λ F all heads bodies.
    ap views.definitions_in (c.in_ok-made.ensures ∙ ap (λ gs. map joined gs) c.in_ok-groups.ensures) ∙
    joined_all F all c.args.self.now (map views.strategy_of c.args.bodies.items) heads bodies
