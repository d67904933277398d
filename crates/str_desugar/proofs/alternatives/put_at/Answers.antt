use Rattle.std.proofs.Common.{◌∙◌, [], ◌∷◌, map, ap}
use Rattle.std.proofs.lemmas.List.{map-append, map-set}
use Rattle.core_lang.specs.Views as views
use Rattle.str_desugar.specs.GroupViews.{gathered_in}
use Rattle.str_desugar.proofs.BodyLaws.{set_body}
use Rattle.str_desugar.proofs.alternatives.put_at.Goals as goal

pub returns : goal.returns
returns c =
    let gs = c.args.groups.now.items in
    let g = c.index_mut-group.result.now in
    let pushed = ap (λ l. map views.strategy_of l) c.in_ok-push.ensures.items ∙
    map-append views.strategy_of g.bodies.items (c.args.body ∷ []) in
    map-set gathered_in gs c.args.number _ ∙
    set_body gs c.args.number g (views.strategy_of c.args.body) _ c.requires c.index_mut-group.ensures.value pushed
