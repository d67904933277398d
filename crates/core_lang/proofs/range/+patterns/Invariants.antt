use Rattle.std.proofs.Common.{drop}
use Rattle.std.specs.Prelude.{◌↔◌}
use Rattle.core_lang.specs.Views.{patterns_of}
use Rattle.core_lang.specs.InRange.{PatternsInRange}
use Rattle.core_lang.specs.RangeOfCode.{layers_of}
use Rattle.core_lang.proofs.range.+patterns.Given as goal

abbrev pub invariant-patterns_in_range-loop-p : goal.invariant-patterns_in_range-loop-p
invariant-patterns_in_range-loop-p l =
    PatternsInRange (layers_of l.layers) (patterns_of l.patterns) ↔ PatternsInRange (layers_of l.layers)
    (patterns_of (drop l.p-index l.patterns))
