use Rattle.std.proofs.Common.{◌∙◌, map, ap}
use Rattle.std.proofs.lemmas.List.{take_all}
use Rattle.str_syntax.specs.Views.{definition_of}
use Rattle.str_desugar.proofs.LocalLaws.{head_of_definition, heads_all}
use Rattle.str_desugar.proofs.locals.groups_of.Goals as goal

pub returns : goal.returns
returns c =
    λ declared.
    let sources = c.args.sources.now in
    c.in_ok-made.ensures ∙ c.loop-source.invariant ∙
    ap (λ ds. map (λ d. head_of_definition (definition_of d)) ds)
    (take_all c.loop-source.source-index sources c.loop-source-test.false) ∙
    heads_all declared sources
