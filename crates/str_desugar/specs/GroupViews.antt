-- The headline does not rest on this file.
-- What groups of alternatives in the code stand for.
use Rattle.std.specs.Prelude.{map}
use Rattle.core_lang.specs.Views.{strategy_of}
use Rattle.str_desugar.specs.declared.alternatives.Group.{Group}
use Rattle.str_desugar.specs.Groups.{Gathered}
use Rattle.str_desugar.specs.Heads.{read_head}

abbrev pub gathered_in : Group → Gathered
gathered_in g = record { first = read_head g.first.now; bodies = map strategy_of g.bodies.items }
