use Rattle.std.proofs.Common.{◌∙◌, ap, subst}
use Rattle.std.specs.Prelude.{◌↔◌, IsTrue}
use Rattle.core_lang.specs.InRange.{layer_of_definitions, DefinitionsInRange}
use Rattle.core_lang.specs.Views.{definitions_of}
use Rattle.core_lang.proofs.RangeLaws.{reads_outermost, reads_definitions}
use Rattle.core_lang.proofs.range.program_in_range.Goals as goal

pub returns : goal.returns
returns c =
    let ds = definitions_of c.args.defs.now in
    subst (λ L. IsTrue c.definitions_in_range.result ↔ DefinitionsInRange L ds) (reads_definitions _ _ ∙
    ap (λ L. layer_of_definitions ds L) reads_outermost) c.definitions_in_range.ensures
