-- The headline does not rest on this file.
-- The extents of all places, as they are kept: a size for each shape, and the numbers of chains and symbols where these
-- change.
use Rattle.std.specs.Prelude.{◌≡◌, ◌<◌, ℕ, zero, suc, List, [], ◌∷◌, ◌++◌, nat_le, if◌then◌else◌}
use Rattle.term_store.specs.declared.extents.Epoch.{Epoch}
use Rattle.term_store.specs.declared.sizes.Size.{Size}
use Rattle.term_store.specs.declared.stored.Extent.{Extent}

-- the extents in order, for how many more there is room, and how many of them are those of small integers
pub record PlacedExtents : Type 0 where
  pub items : List Extent
  pub room : ℕ
  pub small : ℕ

-- the extent of a small integer, which names no chain and no symbol
abbrev pub small_extent : Extent
small_extent = record { weight = 1; depth = 1; chains = 0; symbols = 0 }

-- the extents of this many small integers
abbrev pub small_extents : ℕ → List Extent
small_extents zero = []
small_extents (suc k) = small_extents k ++ small_extent ∷ []

-- the epoch before any other: there are no chains and no symbols
abbrev pub no_epoch : Epoch
no_epoch = record { first = 0; chains = 0; symbols = 0 }

-- the last of the epochs that begins at a number or before it, or else the given one
abbrev pub epoch_at : Epoch → List Epoch → ℕ → Epoch
epoch_at e [] k = e
epoch_at e (f ∷ epochs) k = epoch_at (if nat_le f.first k then f else e) epochs k

-- the second epochs are the first ones for all numbers below a number
pub record AreSameBelow (number : ℕ) (es fs : List Epoch) : Type 0 where
  pub same : (k : ℕ) → k < number → epoch_at no_epoch fs k ≡ epoch_at no_epoch es k

-- an epoch with the numbers of chains and symbols of an extent
pub record HasCounts (e : Epoch) (x : Extent) : Type 0 where
  pub chains : e.chains ≡ x.chains
  pub symbols : e.symbols ≡ x.symbols

-- the extent of a shape of this size that came in this epoch
abbrev pub extent_in : Size → Epoch → Extent
extent_in z e = record { weight = z.weight; depth = z.depth; chains = e.chains; symbols = e.symbols }

-- the extents of the shapes of these sizes, of which the first has the number k
abbrev pub held_extents : List Epoch → ℕ → List Size → List Extent
held_extents epochs k [] = []
held_extents epochs k (z ∷ sizes) = extent_in z (epoch_at no_epoch epochs k) ∷ held_extents epochs (suc k) sizes
