use Rattle.std.proofs.Common.{◌≡◌, drop, map}
use Rattle.str_syntax.specs.Views.{top_of}
use Rattle.scope_check.specs.Found.{joined, found_in_tops}
use Rattle.scope_check.specs.Tables.{layers_of, known_of}
use Rattle.scope_check.proofs.tops.find_in_tops.Given as goal

abbrev pub invariant-loop-one : goal.invariant-loop-one
invariant-loop-one l =
    joined l.findings (found_in_tops (known_of l.known) (layers_of l.layers) (map top_of (drop l.one-index l.all))) ≡
    joined l.initial.findings (found_in_tops (known_of l.known) (layers_of l.layers) (map top_of l.all))
