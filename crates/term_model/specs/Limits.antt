-- How large an integer may be, how heavy and how deep a term, and how many nodes a derivation.
use Rattle.std.specs.Prelude.{ℕ, ℤ, FitsSigned}
use Rattle.std.specs.Int.{w64}

-- an integer of the language
abbrev pub IsInRange : ℤ → Type 0
IsInRange n = FitsSigned w64 n

-- the greatest weight of a term that fits
abbrev pub max_weight : ℕ
max_weight = 16_777_216

-- the greatest depth of a term that fits
abbrev pub max_depth : ℕ
max_depth = 1000

-- the greatest budget of a run
abbrev pub max_budget : ℕ
max_budget = 1_000_000_000_000_000_000

-- the budget of a run for which none is asked
abbrev pub default_budget : ℕ
default_budget = 1_000_000
