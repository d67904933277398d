use Rattle.std.proofs.Common.{◌≡◌, drop}
use Rattle.str_syntax.specs.Views.{definitions_of, patterns_of, strategies_of}
use Rattle.scope_check.specs.Found.{joined, found_in_definitions, found_in_patterns, found_in_strategies}
use Rattle.scope_check.specs.Tables.{layers_of, known_of}
use Rattle.scope_check.proofs.walk.+walk.Given as goal

abbrev pub invariant-find_in_patterns-loop-tree : goal.invariant-find_in_patterns-loop-tree
invariant-find_in_patterns-loop-tree l =
    joined l.findings (found_in_patterns (known_of l.known) l.side (layers_of l.layers)
    (patterns_of (drop l.tree-index l.trees))) ≡
    joined l.initial.findings (found_in_patterns (known_of l.known) l.side (layers_of l.layers) (patterns_of l.trees))

abbrev pub invariant-find_in_strategies-loop-tree : goal.invariant-find_in_strategies-loop-tree
invariant-find_in_strategies-loop-tree l =
    joined l.findings (found_in_strategies (known_of l.known) (layers_of l.layers)
    (strategies_of (drop l.tree-index l.trees))) ≡
    joined l.initial.findings (found_in_strategies (known_of l.known) (layers_of l.layers) (strategies_of l.trees))

abbrev pub invariant-find_in_definitions-loop-tree : goal.invariant-find_in_definitions-loop-tree
invariant-find_in_definitions-loop-tree l =
    joined l.findings (found_in_definitions (known_of l.known) (layers_of l.layers)
    (definitions_of (drop l.tree-index l.trees))) ≡
    joined l.initial.findings (found_in_definitions (known_of l.known) (layers_of l.layers) (definitions_of l.trees))
