-- Laws of the number that a value of `--rules` names.
use Rattle.std.proofs.Common.{◌≡◌, ◌≤◌, ◌&&◌, ◌||◌, ap, arith, refl, sym, true≢false, zero, suc, ℕ, Bool, true, false, List, [], ◌∷◌, length, None, Some}
use Rattle.std.specs.Prelude.{◌==◌, ◌≤ℤ◌, ℤ, pos, negsuc, neg_ℤ, cond, not, nat_le, nat_lt, if◌then◌else◌, FitsSigned}
use Rattle.std.specs.Int.{w64}
use Rattle.std.specs.Int.Signed.{lt_z, lt_z_no}
use Rattle.std.specs.List.{list_all}
use Rattle.std.specs.Char.{digit_value, is_digit}
use Rattle.std.specs.Str.Parse.{AllDigits, IsNumeral, digits_value, signed_digits_value, starts_with_minus, without_leading_sign}
use Rattle.std.proofs.Math.IntN.{nat_abs}
use Rattle.std.proofs.lemmas.Int.{ints}
use Rattle.std.proofs.lemmas.Bool.{ltb-true, leb-true, lt-ltb, le-leb}
use Rattle.strc_command.specs.Asked.{max_rules, number_in}

pub not_less : (a b : ℤ) → lt_z a b ≡ false → b ≤ℤ a
not_less a b is = lt_z_no (rw is tt)

both : (a b : Bool) → (a && b) ≡ true → (a ≡ true) × (b ≡ true)
both true b given = (refl, given)
both false b given = absurd (true≢false (sym given))

digits_pass : (ds : List ℕ) → AllDigits 10 ds → list_all (λ c. is_digit c 10) ds ≡ true
digits_pass [] given = refl
digits_pass (d ∷ ds) given = rw (lt-ltb (digit_value d) 10 given.0) (digits_pass ds given.1)

all_digits : (ds : List ℕ) → list_all (λ c. is_digit c 10) ds ≡ true → AllDigits 10 ds
all_digits [] given = tt
all_digits (d ∷ ds) given =
    let parts = both (is_digit d 10) (list_all (λ c. is_digit c 10) ds) given in
    (ltb-true _ _ parts.0, all_digits ds parts.1)

is_numeral : List ℕ → Bool
is_numeral ds = nat_lt 0 (length ds) && list_all (λ c. is_digit c 10) ds

numeral_passes : (ds : List ℕ) → IsNumeral 10 ds → (nat_lt 0 (length ds) && list_all (λ c. is_digit c 10) ds) ≡ true
numeral_passes ds given = rw (lt-ltb 0 (length ds) given.0) (digits_pass ds given.1)

-- the number of digits after a sign, or without one, is among those that may be asked for
is_low : Bool → ℕ → Bool
is_low minus number = nat_le number max_rules && (not minus || (number == 0))

number_passes : (minus : Bool) (number : ℕ) (z : ℤ) → z ≡ cond minus (neg_ℤ (pos number)) (pos number) →
    pos 0 ≤ℤ z → z ≤ℤ pos max_rules → (nat_le number max_rules && (not minus || (number == 0))) ≡ true
number_passes false number z is low high =
    let most : number ≤ max_rules = omega (arith, ints) in rw (le-leb number max_rules most) refl
number_passes true zero z is low high = refl
number_passes true (suc n) z is low high = absurd (omega (arith, ints))

size_is : (minus : Bool) (number : ℕ) (z : ℤ) → z ≡ cond minus (neg_ℤ (pos number)) (pos number) → pos 0 ≤ℤ z →
    nat_abs z ≡ number
size_is false number z is low = ap nat_abs is
size_is true zero z is low = ap nat_abs is
size_is true (suc n) z is low = absurd (omega (arith, ints))

-- a text that is read as such a number
pub number_read : (text : List ℕ) (z : ℤ) → IsNumeral 10 (without_leading_sign text) →
    z ≡ signed_digits_value 10 text → pos 0 ≤ℤ z → z ≤ℤ pos max_rules → Some (nat_abs z) ≡ number_in text
number_read text z digits is low high =
    rw (
      numeral_passes (without_leading_sign text) digits,
      number_passes (starts_with_minus text) (digits_value 10 (without_leading_sign text)) z is low high,
      size_is (starts_with_minus text) (digits_value 10 (without_leading_sign text)) z is low,
    ) refl

pub number_bound : (z : ℤ) → pos 0 ≤ℤ z → z ≤ℤ pos max_rules → nat_abs z ≤ max_rules
number_bound (pos n) low high = omega (arith, ints)
number_bound (negsuc n) low high = absurd (omega (arith, ints))

low_fits : (minus : Bool) (number : ℕ) → number ≤ max_rules →
    FitsSigned w64 (cond minus (neg_ℤ (pos number)) (pos number))
low_fits false number most = record { sfits = omega (arith, ints) }
low_fits true zero most = record { sfits = omega (arith, ints) }
low_fits true (suc n) most = record { sfits = omega (arith, ints) }

-- a text that is not read as a number
pub not_read : (text : List ℕ) →
    ¬ (IsNumeral 10 (without_leading_sign text) × FitsSigned w64 (signed_digits_value 10 text)) →
    None ≡ number_in text
not_read text wrong = go ((nat_lt 0 (length digits) && list_all (λ c. is_digit c 10) digits)
    && (nat_le number max_rules && (not (starts_with_minus text) || (number == 0)))) refl
  where
    digits : List ℕ
    digits = without_leading_sign text

    number : ℕ
    number = digits_value 10 digits

    go : (test : Bool) → ((nat_lt 0 (length digits) && list_all (λ c. is_digit c 10) digits)
        && (nat_le number max_rules && (not (starts_with_minus text) || (number == 0)))) ≡ test →
        None ≡ (if test then Some number else None)
    go true is =
        let parts = both _ _ is in
        let shape = both _ _ parts.0 in
        let size = both _ _ parts.1 in
        absurd (wrong (
          (ltb-true _ _ shape.0, all_digits digits shape.1),
          low_fits (starts_with_minus text) number (leb-true _ _ size.0),
        ))
    go false is = refl
