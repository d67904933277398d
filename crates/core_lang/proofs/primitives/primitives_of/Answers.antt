use Rattle.core_lang.specs.Views.{definitions_of}
use Rattle.core_lang.proofs.PrimitivesOfCodeLaws.{all_occurring}
use Rattle.core_lang.proofs.primitives.primitives_of.Goals as goal

pub returns : goal.returns
returns c = all_occurring c.add_definitions.new.names c.new-names.result (definitions_of c.args.defs.now)
    c.new-names.ensures c.in_ok-add_definitions.ensures
