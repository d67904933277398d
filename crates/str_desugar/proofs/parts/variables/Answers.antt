use Rattle.std.proofs.Common.{◌∙◌, ◌∷◌, [], List, ap, map, subst, sym, ◌+◌}
use Rattle.std.proofs.lemmas.List.{map-append}
use Rattle.core_lang.specs.Views as views
use Rattle.str_desugar.specs.Layers.{layers_of}
use Rattle.str_desugar.proofs.ScopeLaws.{Brings, brings_more}
use Rattle.str_desugar.proofs.parts.variables.Goals as goal

pub loop-preserved : goal.loop-preserved
loop-preserved c =
    let made = ap (λ ps. map views.pattern_of ps) c.in_ok-push.ensures.items ∙
    map-append views.pattern_of c.loop.made.items (c.in_ok-part.part ∷ []) in
    let Q : List _ → Type 0 = λ ps. Brings (layers_of c.args.scopes.now) c.args.from (c.loop.counter + 1)
    c.in_ok-index.index ps in
    subst Q (sym made) (brings_more _ _ _ _ _ _ _ c.loop.invariant c.in_ok-part.ensures c.in_ok-index.ensures)
