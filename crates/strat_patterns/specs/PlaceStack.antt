-- The headline does not rest on this file.
-- What the places of the Rust machine are seen as.
use Rattle.std.specs.Prelude.{ℕ, List, Option}

-- the places, the trail with the last entry first, and the barrier
pub record PlaceStack (R : Type 0) : Type 0 where
  pub slots : List (Option R)
  pub trail : List ℕ
  pub barrier : ℕ
