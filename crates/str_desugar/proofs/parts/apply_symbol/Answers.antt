use Rattle.std.proofs.Common.{◌∙◌, map}
use Rattle.core_lang.specs.Views as views
use Rattle.core_lang.proofs.ReadLaws.{reads_applied}
use Rattle.str_desugar.specs.Layers.{layers_of}
use Rattle.str_desugar.proofs.ScopeLaws.{applied_made}
use Rattle.str_desugar.proofs.parts.apply_symbol.Goals as goal

pub returns : goal.returns
returns c =
    reads_applied c.args.symbol c.in_ok-parts.parts ∙
    applied_made (layers_of c.args.scopes.now)
    c.args.symbol c.args.from c.args.count (map views.pattern_of c.in_ok-parts.parts.items) c.in_ok-parts.ensures
