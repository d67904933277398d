use Rattle.std.proofs.Common.{map, refl}
use Rattle.str_syntax.specs.declared.definition.Definition.{Definition}
use Rattle.str_syntax.specs.Views.{top_of}
use Rattle.scope_check.specs.Found.{found_in_top, found_in_tops}
use Rattle.scope_check.specs.Tables.{layers_of, known_of}
use Rattle.scope_check.proofs.WalkLaws.{one_more_found, all_found}
use Rattle.scope_check.proofs.tops.find_in_tops.Goals as goal

pub loop-one-preserved : goal.loop-one-preserved
loop-one-preserved c =
    one_more_found (λ (d : Definition). found_in_top (known_of c.args.known.now) (layers_of c.args.layers.now)
    (top_of d)) (λ ds. found_in_tops (known_of c.args.known.now) (layers_of c.args.layers.now) (map top_of ds))
    (λ d ds. refl) c.args.all.now c.loop-one.one-index c.one-item.result c.loop-one.findings _ _
    c.loop-one-test.true c.one-item.is c.in_ok-find_in_top.ensures c.loop-one.invariant

pub returns : goal.returns
returns c =
    all_found (λ (d : Definition). found_in_top (known_of c.args.known.now) (layers_of c.args.layers.now) (top_of d))
    (λ ds. found_in_tops (known_of c.args.known.now) (layers_of c.args.layers.now) (map top_of ds))
    refl c.args.all.now c.loop-one.one-index c.loop-one.findings _ c.loop-one-test.false c.loop-one.invariant
