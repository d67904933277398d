use Rattle.std.proofs.Common.{◌≡◌, ◌++◌, drop}
use Rattle.core_lang.specs.Environment.{filled_places}
use Rattle.term_model.specs.Term.{trees_of}
use Rattle.core_eval.proofs.bindings.push_terms.Given as goal

abbrev pub invariant-loop-t : goal.invariant-loop-t
invariant-loop-t l = l.initial.places.items ++ filled_places (trees_of l.terms) ≡ l.places.items ++
    filled_places (trees_of (drop l.t-index l.terms))
