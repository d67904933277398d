-- The headline does not rest on this file.
-- Instances that are integers.
use Rattle.std.specs.Prelude.{◌≡◌, ℤ, Option, Some, true}
use Rattle.term_model.specs.Flat.{flat_of, number}
use Rattle.term_model.specs.Term.{Tree, fits}

-- there is a term; it fits and is this integer, whatever its annotations
pub record HasNumber (o : Option Tree) (z : ℤ) : Type 0 where
  pub term : Tree
  pub is : o ≡ Some term
  pub value : flat_of term ≡ Some (number z)
  pub fit : fits term ≡ true
