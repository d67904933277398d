-- The headline does not rest on this file.
-- The room that notes of a run have.
use Rattle.std.specs.Prelude.{◌≡◌, ℕ, length}
use Rattle.strat_machine.specs.declared.partial.Notes.{Notes}

-- they have a number of each kind for each of n instructions
pub record HaveRoom (n : ℕ) (notes : Notes) : Type 0 where
  pub rules : length notes.rules.items ≡ n
  pub reached : length notes.reached.items ≡ n
  pub passed : length notes.passed.items ≡ n

-- they have as many as these, but for the rules
pub record HaveSameRoom (old new : Notes) : Type 0 where
  pub reached : length new.reached.items ≡ length old.reached.items
  pub passed : length new.passed.items ≡ length old.passed.items
