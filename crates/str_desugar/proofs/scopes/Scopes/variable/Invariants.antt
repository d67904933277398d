use Rattle.std.proofs.Common.{◌≡◌}
use Rattle.core_lang.specs.Named.{written}
use Rattle.str_desugar.specs.Frames.{variable_at}
use Rattle.str_desugar.specs.Layers.{layers_of}
use Rattle.str_desugar.proofs.ScopeLaws.{further_out}
use Rattle.str_desugar.proofs.scopes.Scopes.variable.Given as goal

abbrev pub invariant-loop-outer : goal.invariant-loop-outer
invariant-loop-outer l =
    variable_at (layers_of l.self) (written l.name) ≡
    further_out l.layers_up (variable_at (layers_of l.layer) (written l.name))
