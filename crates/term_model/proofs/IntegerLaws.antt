-- The integers in range are those of a magnitude up to the greatest.
use Rattle.std.proofs.Common.{ℕ, suc, zero, ◌<◌, ◌≤◌, true, false, Bool, arith}
use Rattle.std.proofs.lemmas.Int.{ints}
use Rattle.term_model.specs.Bytes.{signed}
use Rattle.term_model.specs.Limits.{IsInRange}
use Rattle.term_model.specs.IntegerBounds.{max_magnitude}

pub in_range : (negative : Bool) (n : ℕ) → n ≤ max_magnitude negative → IsInRange (signed negative n)
in_range true zero h = omega (arith, ints)
in_range true (suc n) h = omega (arith, ints)
in_range false n h = omega (arith, ints)

pub in_limit : (negative : Bool) (n : ℕ) → IsInRange (signed negative n) → n ≤ max_magnitude negative
in_limit true zero f = omega arith
in_limit true (suc n) f = omega (arith, ints)
in_limit false n f = omega (arith, ints)

pub too_large : (negative : Bool) (n : ℕ) → max_magnitude negative < n → IsInRange (signed negative n) → ⊥
too_large negative n h f = let small = in_limit negative n f in absurd (omega arith)
