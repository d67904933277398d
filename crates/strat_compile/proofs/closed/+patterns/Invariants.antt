use Rattle.std.proofs.Common.{drop}
use Rattle.core_lang.specs.InRange.{PatternsInRange}
use Rattle.core_lang.specs.Views.{patterns_of}
use Rattle.strat_compile.specs.Layers.{context_of}
use Rattle.strat_compile.specs.Sites.{program_layers}
use Rattle.strat_compile.proofs.closed.+patterns.Given as goal

abbrev pub invariant-are_patterns_closed-loop-p : goal.invariant-are_patterns_closed-loop-p
invariant-are_patterns_closed-loop-p l =
    PatternsInRange (program_layers (context_of l.layers)) (patterns_of (drop l.p-index l.patterns)) →
    PatternsInRange (program_layers (context_of l.layers)) (patterns_of l.patterns)
