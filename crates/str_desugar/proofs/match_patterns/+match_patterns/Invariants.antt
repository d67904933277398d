use Rattle.std.proofs.Common.{drop, map}
use Rattle.core_lang.specs.Views as views
use Rattle.str_syntax.specs.Views.{patterns_of}
use Rattle.str_desugar.specs.Layers.{layers_of}
use Rattle.str_desugar.proofs.PatternLaws.{Matches}
use Rattle.str_desugar.proofs.match_patterns.+match_patterns.Given as goal

abbrev pub invariant-matched_parts-loop-source : goal.invariant-matched_parts-loop-source
invariant-matched_parts-loop-source l =
    Matches (layers_of l.scopes) (patterns_of l.sources) (map views.pattern_of l.made.items)
    (patterns_of (drop l.source-index l.sources))
