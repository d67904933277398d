-- The headline does not rest on this file.
-- What the standard primitives return of their arguments: a flat value, or none.
use Rattle.std.specs.Prelude.{ℕ, ℤ, pos, ◌+ℤ◌, ◌-ℤ◌, ◌*ℤ◌, int_le, int_lt, int_div, unsigned_abs, List, [], ◌∷◌, ◌++◌, length, map, Option, Some, None, Bool, true, false, codes, nat_le, ◌==◌, ◌&&◌, if◌then◌else◌}
use Rattle.std.specs.Cmp.Lexicographic.{pointwise}
use Rattle.std.specs.Fmt.{signed_decimal}
use Rattle.std.specs.List.{list_all}
use Rattle.std.specs.Option.{option_and_then, option_map}
use Rattle.std.specs.Ordering.{int_eq}
use Rattle.term_model.specs.Bytes.{is_digit, value_from, signed}
use Rattle.term_model.specs.Flat.{FlatValue, number, text, numbers, Meaning}
use Rattle.term_model.specs.IntegerBounds.{max_magnitude}

-- ---- arguments of these kinds, and no others

abbrev pub two_integers : List FlatValue → Option (ℤ × ℤ)
two_integers (number a ∷ number b ∷ []) = Some (a, b)
two_integers args = None

abbrev pub two_texts : List FlatValue → Option (List ℕ × List ℕ)
two_texts (text a ∷ text b ∷ []) = Some (a, b)
two_texts args = None

abbrev pub one_integer : List FlatValue → Option ℤ
one_integer (number z ∷ []) = Some z
one_integer args = None

abbrev pub one_text : List FlatValue → Option (List ℕ)
one_text (text bytes ∷ []) = Some bytes
one_text args = None

abbrev pub one_list : List FlatValue → Option (List ℤ)
one_list (numbers zs ∷ []) = Some zs
one_list args = None

-- ---- what is returned of them

-- an integer of the language
abbrev pub ranged : ℤ → Option FlatValue
ranged z = if int_le (signed true (max_magnitude true)) z &&
    int_le z (signed false (max_magnitude false)) then Some (number z) else None

-- the quotient cut towards 0
abbrev pub quotient : ℤ → ℤ → Option FlatValue
quotient a b = if int_eq b (pos 0) then None else ranged (int_div a b)

-- what that quotient times the divisor leaves
abbrev pub remainder : ℤ → ℤ → Option FlatValue
remainder a b = if int_eq b (pos 0) then None else Some (number (a -ℤ int_div a b *ℤ b))

abbrev pub lesser : ℤ → ℤ → Option FlatValue
lesser a b = if int_lt a b then Some (number a) else None

-- a number from 0 to 255
abbrev pub is_byte : ℤ → Bool
is_byte z = int_le (pos 0) z && int_le z (pos 255)

-- the integers as bytes, where each is one
abbrev pub bytes_of : List ℤ → Option (List ℕ)
bytes_of zs = if list_all is_byte zs then Some (map unsigned_abs zs) else None

-- the integer of this sign that the bytes spell as one or more digits, where it is in range
abbrev pub spelled : Bool → List ℕ → Option FlatValue
spelled negative [] = None
spelled negative (d ∷ ds) =
    if list_all is_digit (d ∷ ds) && nat_le (value_from 0 (d ∷ ds)) (max_magnitude negative) then
    Some (number (signed negative (value_from 0 (d ∷ ds)))) else None

-- a minus may stand before the digits; it is the byte 45
abbrev pub integer_in : List ℕ → Option FlatValue
integer_in [] = None
integer_in (b ∷ bs) = if b == 45 then spelled true bs else spelled false (b ∷ bs)

-- ---- by the name of the primitive

abbrev pub is_named : List ℕ → List ℕ → Bool
is_named = pointwise ◌==◌

abbrev pub on_integers : (ℤ → ℤ → Option FlatValue) → List FlatValue → Option FlatValue
on_integers f args = option_and_then (λ p. f p.0 p.1) (two_integers args)

abbrev pub standard : Meaning
standard name args =
    if is_named name (codes "add") then on_integers (λ a b. ranged (a +ℤ b)) args else
    if is_named name (codes "sub") then on_integers (λ a b. ranged (a -ℤ b)) args else
    if is_named name (codes "mul") then on_integers (λ a b. ranged (a *ℤ b)) args else
    if is_named name (codes "div") then on_integers quotient args else
    if is_named name (codes "mod") then on_integers remainder args else
    if is_named name (codes "less") then on_integers lesser args else
    if is_named name (codes "concat") then option_and_then (λ p. Some (text (p.0 ++ p.1))) (two_texts args) else
    if is_named name (codes "length") then option_and_then (λ bytes. ranged (pos (length bytes))) (one_text args) else
    if is_named name (codes "explode") then option_and_then (λ bytes. Some (numbers (map pos bytes))) (one_text args)
    else
    if is_named name (codes "implode") then option_map text (option_and_then bytes_of (one_list args)) else
    if is_named name (codes "int_text") then option_and_then (λ z. Some (text (signed_decimal z))) (one_integer args)
    else
    if is_named name (codes "text_int") then option_and_then integer_in (one_text args) else
    None
