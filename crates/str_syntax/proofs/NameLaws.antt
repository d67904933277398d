-- Equality of names.
use Rattle.std.proofs.Common.{◌≡◌, ◌↔◌, IsTrue, ℕ, Bool, List}
use Rattle.str_syntax.specs.SameName.{same_name}
use Rattle.str_syntax.specs.NameEquality.{same_name-Decides}

-- a test that is `same_name` tells whether the names are equal
pub equal_from_same : (b : Bool) (xs ys : List ℕ) → b ≡ same_name xs ys → IsTrue b ↔ (xs ≡ ys)
equal_from_same b xs ys e = rw e (same_name-Decides xs ys)

pub ruleset equal = (equal_from_same)
