-- Digits after a number spell one that is no less.
use Rattle.std.proofs.Common.{ℕ, ◌+◌, ◌-◌, ◌*◌, ◌≤◌, List, [], ◌∷◌, arith}
use Rattle.term_model.specs.Bytes.{value_from}

pub value_above : (n : ℕ) (ds : List ℕ) → n ≤ value_from n ds
value_above n [] = omega arith
value_above n (d ∷ ds) = omega (arith, value_above (10 * n + (d - 48)) ds)
