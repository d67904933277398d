-- What arguments of the right kinds give.
use Rattle.std.proofs.Common.{◌≡◌, ℤ, pos, negsuc, zero, suc, ◌+ℤ◌, ◌-ℤ◌, ◌*ℤ◌, List, Option, Some, None, true, false, Bool, int_div, int_rem, FitsSigned, arith, ap, refl, sym, ◌∙◌}
use Rattle.std.specs.Prelude.{◌&&◌, if◌then◌else◌, nat_le}
use Rattle.std.proofs.lemmas.Int.{quot-rem, ints}
use Rattle.std.proofs.lemmas.Bool.{leb-true, le-leb}
use Rattle.std.specs.Int.{w64, IsNonZero, CanDivide}
use Rattle.std.specs.Option.{option_and_then, option_map, SomeIff}
use Rattle.std.specs.Ordering.{int_eq}
use Rattle.term_model.specs.Flat.{FlatValue, number}
use Rattle.term_model.specs.IntegerBounds.{max_magnitude}
use Rattle.prim_registry.specs.Standard.{two_integers, on_integers, quotient, remainder, ranged}

pub on_pair : (f : ℤ → ℤ → Option FlatValue) (args : List FlatValue) (p : ℤ × ℤ) → two_integers args ≡ Some p →
    on_integers f args ≡ f p.0 p.1
on_pair f args p is = ap (option_and_then (λ q. f q.0 q.1)) is

pub quotient_is : (a b : ℤ) → int_eq b (pos 0) ≡ false → quotient a b ≡ ranged (int_div a b)
quotient_is a b h = rw h refl

left_over : (x r a : ℤ) → x +ℤ r ≡ a → a -ℤ x ≡ r
left_over x r a e = omega (arith, ints, e)

-- the remainder of the division is what the quotient times the divisor leaves
pub remainder_is : (a b : ℤ) → int_eq b (pos 0) ≡ false → remainder a b ≡ Some (number (int_rem a b))
remainder_is a b h = let k : a -ℤ int_div a b *ℤ b ≡ int_rem a b = left_over _ _ a (quot-rem a b) in rw (h, k) refl

-- ---- results that are checked to be of 64 bits

both_tests : (a b : Bool) (o : Option FlatValue) → a ≡ true → b ≡ true → (if a && b then o else None) ≡ o
both_tests true true o h k = refl
both_tests true false o h k = absurd (cc)
both_tests false b o h k = absurd (cc)

one_fails : (a b : Bool) (o : Option FlatValue) → ((a ≡ true) × (b ≡ true) → ⊥) → (if a && b then o else None) ≡ None
one_fails true true o h = absurd (h (refl, refl))
one_fails true false o h = refl
one_fails false b o h = refl

ranged_fits : (z : ℤ) → FitsSigned w64 z → ranged z ≡ Some (number z)
ranged_fits (pos n) f = both_tests true (nat_le n (max_magnitude false)) (Some (number (pos n)))
    refl (le-leb _ _ (omega (arith, f.sfits)))
ranged_fits (negsuc n) f = both_tests (nat_le n (max_magnitude false)) true (Some (number (negsuc n)))
    (le-leb _ _ (omega (arith, f.sfits))) refl

ranged_none : (z : ℤ) → (FitsSigned w64 z → ⊥) → ranged z ≡ None
ranged_none (pos n) f = one_fails true (nat_le n (max_magnitude false)) (Some (number (pos n)))
    (λ h. f (record { sfits = omega (arith, leb-true _ _ h.1) }))
ranged_none (negsuc n) f = one_fails (nat_le n (max_magnitude false)) true (Some (number (negsuc n)))
    (λ h. f (record { sfits = omega (arith, leb-true _ _ h.0) }))

-- what a checked operation returns is the number where it is in range
pub checked_is : (z : ℤ) (r : Option ℤ) → SomeIff r (FitsSigned w64 z) z → option_map number r ≡ ranged z
checked_is z None h = sym (ranged_none z h)
checked_is z (Some x) h = ap (λ y. Some (number y)) h.1 ∙ sym (ranged_fits z h.0)

-- and so does a checked quotient, where the divisor is not 0
not_zero : (b : ℤ) → int_eq b (pos 0) ≡ false → FitsSigned w64 b → IsNonZero w64 b
not_zero (pos zero) e f = absurd (cc)
not_zero (pos (suc n)) e f = omega arith
not_zero (negsuc n) e f = omega (arith, f.sfits)

pub divided_is : (a b : ℤ) (r : Option ℤ) → int_eq b (pos 0) ≡ false → FitsSigned w64 b →
    SomeIff r (CanDivide w64 a b) (int_div a b) → option_map number r ≡ quotient a b
divided_is a b None e f h = sym (quotient_is a b e ∙ ranged_none (int_div a b) (λ k. h (not_zero b e f, k)))
divided_is a b (Some x) e f h =
    ap (λ y. Some (number y)) h.1 ∙ sym (quotient_is a b e ∙ ranged_fits (int_div a b) h.0.1)
