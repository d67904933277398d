use Rattle.std.proofs.Common.{map, refl}
use Rattle.str_syntax.specs.declared.definition.Section.{Section}
use Rattle.str_syntax.specs.Views.{section_of}
use Rattle.scope_check.specs.Found.{found_in_tops, tops_of}
use Rattle.scope_check.specs.Seen.{tops_in}
use Rattle.scope_check.specs.Tables.{layers_of, known_of}
use Rattle.scope_check.proofs.TopLaws.{more_sections}
use Rattle.scope_check.proofs.WalkLaws.{one_more_found, all_found}
use Rattle.scope_check.proofs.tops.find_in_sections.Goals as goal

pub loop-one-preserved : goal.loop-one-preserved
loop-one-preserved c =
    one_more_found (λ (s : Section). found_in_tops (known_of c.args.known.now) (layers_of c.args.layers.now)
    (tops_of (section_of s)))
    (λ ss. found_in_tops (known_of c.args.known.now) (layers_of c.args.layers.now) (tops_in (map section_of ss)))
    (λ s ss. more_sections (known_of c.args.known.now) (layers_of c.args.layers.now) (section_of s) (map section_of ss))
    c.args.all.now c.loop-one.one-index c.one-item.result c.loop-one.findings _ _ c.loop-one-test.true
    c.one-item.is c.in_ok-find_in_section.ensures c.loop-one.invariant

pub returns : goal.returns
returns c =
    all_found (λ (s : Section). found_in_tops (known_of c.args.known.now) (layers_of c.args.layers.now)
    (tops_of (section_of s)))
    (λ ss. found_in_tops (known_of c.args.known.now) (layers_of c.args.layers.now) (tops_in (map section_of ss)))
    refl c.args.all.now c.loop-one.one-index c.loop-one.findings _ c.loop-one-test.false c.loop-one.invariant
