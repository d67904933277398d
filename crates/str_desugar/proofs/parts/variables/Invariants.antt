use Rattle.std.proofs.Common.{map}
use Rattle.core_lang.specs.Views as views
use Rattle.str_desugar.specs.Layers.{layers_of}
use Rattle.str_desugar.proofs.ScopeLaws.{Brings}
use Rattle.str_desugar.proofs.parts.variables.Given as goal

abbrev pub invariant-loop : goal.invariant-loop
invariant-loop l = Brings (layers_of l.scopes) l.from l.counter l.index (map views.pattern_of l.made.items)
