use Rattle.std.proofs.Common.{◌≡◌, ◌+◌, ◌≤◌, max, drop}
use Rattle.term_model.specs.Limits.{max_weight, max_depth}
use Rattle.term_model.specs.Term.{weights, depths, trees_of, AreTerms}
use Rattle.term_model.proofs.size.size_of_all.Given as goal

abbrev pub invariant-loop-term : goal.invariant-loop-term
invariant-loop-term l = record {
  light : l.weight ≤ max_weight;
  flat : l.depth ≤ max_depth;
  weight : l.weight + weights (trees_of (drop l.term-index l.terms)) ≡ weights (trees_of l.terms);
  depth : max l.depth (depths (trees_of (drop l.term-index l.terms))) ≡ depths (trees_of l.terms);
  are_terms : AreTerms (trees_of (drop l.term-index l.terms)) → AreTerms (trees_of l.terms);
}
