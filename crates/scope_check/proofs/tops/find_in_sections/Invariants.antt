use Rattle.std.proofs.Common.{◌≡◌, drop, map}
use Rattle.str_syntax.specs.Views.{section_of}
use Rattle.scope_check.specs.Found.{joined, found_in_tops}
use Rattle.scope_check.specs.Seen.{tops_in}
use Rattle.scope_check.specs.Tables.{layers_of, known_of}
use Rattle.scope_check.proofs.tops.find_in_sections.Given as goal

abbrev pub invariant-loop-one : goal.invariant-loop-one
invariant-loop-one l =
    joined l.findings (found_in_tops (known_of l.known) (layers_of l.layers)
    (tops_in (map section_of (drop l.one-index l.all)))) ≡
    joined l.initial.findings (found_in_tops (known_of l.known) (layers_of l.layers) (tops_in (map section_of l.all)))
