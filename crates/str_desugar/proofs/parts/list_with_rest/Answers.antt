use Rattle.std.proofs.Common.{◌∙◌, ap, map, Some}
use Rattle.core_lang.specs.Views as views
use Rattle.core_lang.proofs.ReadLaws.{reads_list}
use Rattle.str_desugar.specs.Layers.{layers_of}
use Rattle.str_desugar.proofs.ScopeLaws.{rest_made}
use Rattle.str_desugar.proofs.parts.list_with_rest.Goals as goal

pub returns : goal.returns
returns c =
    reads_list c.in_ok-elements.elements (Some c.in_ok-rest.rest) ∙
    rest_made (layers_of c.args.scopes.now)
    c.args.from c.args.count c.in_ok-after.after (map views.pattern_of c.in_ok-elements.elements.items)
    (views.pattern_of c.in_ok-rest.rest.value)
    c.in_ok-elements.ensures c.in_ok-after.ensures (ap views.pattern_of c.in_ok-rest.ensures.ok ∙
    c.in_ok-variable.ensures)
