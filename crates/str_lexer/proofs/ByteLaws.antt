-- Bytes that differ, and lists of bytes that are equal.
use Rattle.std.proofs.Common.{◌≡◌, ℕ, false, List, ◌∷◌}
use Rattle.std.specs.Bool.{◌==◌}
use Rattle.std.specs.Cmp.{unsigned_Decides}

pub heads : (b c : ℕ) (x y : List ℕ) → b ∷ x ≡ c ∷ y → b ≡ c
heads b c x y e = cc

pub tails : (b c : ℕ) (x y : List ℕ) → b ∷ x ≡ c ∷ y → x ≡ y
tails b c x y e = cc

pub apart : (b c : ℕ) → (b == c) ≡ false → b ≡ c → ⊥
apart b c f e = let k = (unsigned_Decides b c).1 e in cc

pub heads_apart : (b c : ℕ) (x y : List ℕ) → (b == c) ≡ false → b ∷ x ≡ c ∷ y → ⊥
heads_apart b c x y f e = apart b c f (heads b c x y e)

pub seconds_apart : (a d b c : ℕ) (x y : List ℕ) → (b == c) ≡ false → a ∷ b ∷ x ≡ d ∷ c ∷ y → ⊥
seconds_apart a d b c x y f e = heads_apart b c x y f (tails a d (b ∷ x) (c ∷ y) e)
