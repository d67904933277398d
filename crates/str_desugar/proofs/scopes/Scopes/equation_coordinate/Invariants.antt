use Rattle.std.proofs.Common.{◌≡◌}
use Rattle.core_lang.specs.Named.{brought}
use Rattle.str_desugar.specs.Frames.{variable_at}
use Rattle.str_desugar.specs.Layers.{layers_of}
use Rattle.str_desugar.proofs.ScopeLaws.{further_out}
use Rattle.str_desugar.proofs.scopes.Scopes.equation_coordinate.Given as goal

abbrev pub invariant-loop-outer : goal.invariant-loop-outer
invariant-loop-outer l =
    variable_at (layers_of l.self) (brought l.index) ≡
    further_out l.layers_up (variable_at (layers_of l.layer) (brought l.index))
