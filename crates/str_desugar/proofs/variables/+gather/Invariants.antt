use Rattle.std.proofs.Common.{◌≡◌, drop}
use Rattle.str_syntax.specs.Views.{definitions_of, patterns_of, strategies_of}
use Rattle.str_desugar.specs.Gathered.{bound_names, gathered}
use Rattle.str_desugar.specs.Variables.{free_among, free_in_definitions, names_among}
use Rattle.str_desugar.proofs.variables.+gather.Given as goal

abbrev pub invariant-in_patterns-loop-source : goal.invariant-in_patterns-loop-source
invariant-in_patterns-loop-source l =
    gathered (bound_names l.bound) l.initial.found (names_among (patterns_of l.sources)) ≡
    gathered (bound_names l.bound) l.found (names_among (patterns_of (drop l.source-index l.sources)))

abbrev pub invariant-in_strategies-loop-source : goal.invariant-in_strategies-loop-source
invariant-in_strategies-loop-source l =
    gathered (bound_names l.bound) l.initial.found (free_among (strategies_of l.sources)) ≡
    gathered (bound_names l.bound) l.found (free_among (strategies_of (drop l.source-index l.sources)))

abbrev pub invariant-in_definitions-loop-source : goal.invariant-in_definitions-loop-source
invariant-in_definitions-loop-source l =
    gathered (bound_names l.bound) l.initial.found (free_in_definitions (definitions_of l.sources)) ≡
    gathered (bound_names l.bound) l.found (free_in_definitions (definitions_of (drop l.source-index l.sources)))
