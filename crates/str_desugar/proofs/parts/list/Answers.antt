use Rattle.std.proofs.Common.{◌∙◌, map, None}
use Rattle.core_lang.specs.Views as views
use Rattle.core_lang.proofs.ReadLaws.{reads_list}
use Rattle.str_desugar.specs.Layers.{layers_of}
use Rattle.str_desugar.proofs.ScopeLaws.{list_made}
use Rattle.str_desugar.proofs.parts.list.Goals as goal

pub returns : goal.returns
returns c =
    reads_list c.in_ok-elements.elements None ∙
    list_made (layers_of c.args.scopes.now)
    c.args.from c.args.count (map views.pattern_of c.in_ok-elements.elements.items) c.in_ok-elements.ensures
