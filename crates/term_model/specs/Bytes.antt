-- Bytes of text, as numbers: their classes, the numbers that digits spell, and what escapes stand for.
use Rattle.std.specs.Prelude.{ℕ, ◌+◌, ◌-◌, ◌*◌, Bool, true, false, not, ◌||◌, ◌&&◌, ◌==◌, nat_le, nat_lt, if◌then◌else◌, List, [], ◌∷◌, ℤ, pos, negsuc, Option, Some, None}
use Rattle.std.proofs.Common.{suc, zero}

-- a number of eight bits
abbrev pub is_byte : ℕ → Bool
is_byte b = nat_lt b 256

-- the number is neither below the first nor above the second
abbrev pub is_between : ℕ → ℕ → ℕ → Bool
is_between low high b = nat_le low b && nat_le b high

-- space, TAB, LF, CR
abbrev pub is_blank : ℕ → Bool
is_blank b = ((b == 32 || b == 9) || b == 10) || b == 13

-- 0 to 9
abbrev pub is_digit : ℕ → Bool
is_digit = is_between 48 57

-- 0 to 7
abbrev pub is_octal : ℕ → Bool
is_octal = is_between 48 55

-- the number that digits spell after others of this value
abbrev pub value_from : ℕ → List ℕ → ℕ
value_from n [] = n
value_from n (d ∷ ds) = value_from (10 * n + (d - 48)) ds

-- the integer of this magnitude, negative where the flag says so
abbrev pub signed : Bool → ℕ → ℤ
signed false n = pos n
signed true zero = pos 0
signed true (suc n) = negsuc n

-- any byte but `"`, `\` and line feed
abbrev pub is_raw : ℕ → Bool
is_raw b = not ((b == 34 || b == 92) || b == 10)

-- what a byte after `\` stands for: `"` and `\` for themselves, n for LF, t for TAB, r for CR
abbrev pub unescaped : ℕ → Option ℕ
unescaped c = if c == 34 || c == 92 then Some c else if c == 110 then Some 10 else if c == 116 then Some 9
    else if c == 114 then Some 13 else None
