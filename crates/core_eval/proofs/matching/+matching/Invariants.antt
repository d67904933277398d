use Rattle.std.proofs.Common.{◌≡◌, drop, map, Option}
use Rattle.core_lang.specs.declared.coordinate.Coordinate.{Coordinate}
use Rattle.core_lang.specs.Program.{Pattern}
use Rattle.core_lang.specs.Resolved.{by_coordinates}
use Rattle.core_lang.specs.Tried.{tried_all, tried_elements}
use Rattle.core_lang.specs.Views.{pattern_of, patterns_of, elements_in}
use Rattle.term_model.specs.Term.{trees_of}
use Rattle.core_eval.specs.Frame.{environment_of}
use Rattle.core_eval.proofs.matching.+matching.Given as goal

abbrev pub invariant-all_match-loop-i : goal.invariant-all_match-loop-i
invariant-all_match-loop-i l =
    let place = by_coordinates.place_of (environment_of l.frame) in
    tried_all place (patterns_of l.patterns) (trees_of l.terms) l.initial.places.items ≡
    tried_all place (patterns_of (drop l.i l.patterns)) (trees_of (drop l.i l.terms)) l.places.items

abbrev pub invariant-first_match-loop-at : goal.invariant-first_match-loop-at
invariant-first_match-loop-at l =
    let place = by_coordinates.place_of (environment_of l.frame) in
    (rest : Option (Pattern Coordinate)) →
    tried_elements place (elements_in (map pattern_of l.patterns) rest) (trees_of l.terms) l.initial.places.items ≡
    tried_elements place (elements_in (map pattern_of (drop l.at l.patterns)) rest) (trees_of (drop l.at l.terms))
    l.places.items
