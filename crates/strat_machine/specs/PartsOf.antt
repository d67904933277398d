-- The headline does not rest on this file.
-- The parts of a term on a stack.
use Rattle.std.specs.Prelude.{◌≡◌, ℕ, ◌-◌, IsTrue, List, ◌++◌, length, map, take, drop, All}
use Rattle.term_model.specs.Space.{Space}
use Rattle.term_model.specs.TermParts.{parts_of}

-- references of a term's parts, of the one at an index and those after it, but not of those from a second index on, are
-- put on a stack, the first part on top
pub record PutsParts {W R Y N : Type 0} (S : Space W R Y N) (w : W) (t : R) (from to : ℕ) (old new : List R) :
    Type 0 where
  pub parts : List R
  pub after : new ≡ parts ++ old
  pub count : to - from ≡ length parts
  pub standing : All (λ r. IsTrue (S.stands w r)) parts
  pub are : map (S.term_of w) parts ≡ take (to - from) (drop from (parts_of (S.term_of w t)))
