-- The headline does not rest on this file.
-- The greatest magnitudes of integers.
use Rattle.std.specs.Prelude.{ℕ, Bool, true, false}

-- the greatest magnitude of an integer of the language that is negative, and of one that is not
abbrev pub max_magnitude : Bool → ℕ
max_magnitude true = 9_223_372_036_854_775_808
max_magnitude false = 9_223_372_036_854_775_807
