-- The headline does not rest on this file.
-- What the size of several terms says.
use Rattle.std.specs.Prelude.{◌≡◌, ◌≤◌, List}
use Rattle.term_model.specs.declared.size.Size.{Size}
use Rattle.term_model.specs.Limits.{max_weight, max_depth}
use Rattle.term_model.specs.Term.{Tree, weights, depths, trees_of, AreTerms}

-- the sums and the greatest depth of terms that are not too heavy together
pub record IsSize (size : Size) (terms : List Tree) : Type 0 where
  pub weight : size.weight ≡ weights (trees_of terms)
  pub depth : size.depth ≡ depths (trees_of terms)
  pub light : size.weight ≤ max_weight
  pub flat : size.depth ≤ max_depth
  pub are_terms : AreTerms (trees_of terms)
