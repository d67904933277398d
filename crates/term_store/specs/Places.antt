-- The headline does not rest on this file.
-- Shapes under their places, of which the first are those of the small integers.
use Rattle.std.specs.Prelude.{◌≡◌, ◌<◌, ◌-ℤ◌, ◌++◌, ◌∷◌, ℕ, zero, suc, ℤ, pos, List, [], length, slice_index_or}
use Rattle.term_store.specs.declared.stored.StoredShape.{StoredShape}
use Rattle.term_store.specs.declared.stored.StoredShape.TheVariants as forms

-- how many small integers there are
abbrev pub small_count : ℕ
small_count = 2_147_483_648

-- the integer of a place, where this many places are those of negative integers
abbrev pub integer_at : ℕ → ℕ → ℤ
integer_at negative k = pos k -ℤ pos negative

-- the shapes of the first places: integers without annotations, in order
abbrev pub integers : ℕ → ℕ → List StoredShape
integers negative zero = []
integers negative (suc k) = integers negative k ++ forms.Int 0 (integer_at negative k) ∷ []

-- how many of the places are those of small integers, and the shapes of all places
pub record PlacedShapes : Type 0 where
  pub small : ℕ
  pub keys : List StoredShape

-- an integer that has none of the first places
abbrev pub IsLarge : ℕ → ℕ → ℤ → Type 0
IsLarge negative small z = (k : ℕ) → k < small → z ≡ integer_at negative k → ⊥

-- a shape that is not that of a small integer
abbrev pub IsLargeShape : ℕ → ℕ → StoredShape → Type 0
IsLargeShape negative small s = (z : ℤ) → s ≡ forms.Int 0 z → IsLarge negative small z

-- none of these shapes is that of a small integer
abbrev pub AreLarge : ℕ → ℕ → List StoredShape → Type 0
AreLarge negative small shapes = (k : ℕ) (d : StoredShape) → k < length shapes →
    IsLargeShape negative small (slice_index_or shapes k d)

-- the shape at a place
abbrev pub IsPlaced : PlacedShapes → ℕ → StoredShape → Type 0
IsPlaced p at s = (d : StoredShape) → slice_index_or p.keys at d ≡ s

-- the shape at a place is an integer without annotations
abbrev pub HasInteger : PlacedShapes → ℕ → Type 0
HasInteger p at = (z : ℤ) × IsPlaced p at (forms.Int 0 z)
