use Rattle.std.proofs.Common.{drop, map}
use Rattle.core_lang.specs.Views as views
use Rattle.str_syntax.specs.Views.{patterns_of}
use Rattle.str_desugar.specs.Layers.{layers_of}
use Rattle.str_desugar.proofs.PatternLaws.{Builds}
use Rattle.str_desugar.proofs.build_patterns.+build_patterns.Given as goal

abbrev pub invariant-built_parts-loop-source : goal.invariant-built_parts-loop-source
invariant-built_parts-loop-source l =
    Builds (layers_of l.scopes) l.initial.next (patterns_of l.sources) l.next (map views.pattern_of l.made.items)
    (patterns_of (drop l.source-index l.sources))
