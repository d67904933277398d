-- The headline does not rest on this file.
-- What a walk over a core that notes primitives adds to a set of names.
use Rattle.std.specs.Prelude.{◌↔◌, ◌⊎◌, ℕ, List, [], ◌∷◌, Contains}
use Rattle.term_model.specs.PrimNames.{NameKey}
use Rattle.core_lang.specs.Primitives.{OccursIn}
use Rattle.core_lang.specs.Views.{Arm}

-- the new names are the old ones, and those that occur
pub record Adds (old : List NameKey) (occurs : List ℕ → ℕ → Type 0) (new : List NameKey) : Type 0 where
  pub each : (f : List ℕ) (k : ℕ) → Contains new (f, k) ↔ (Contains old (f, k) ⊎ occurs f k)

abbrev pub OccursInArm : List ℕ → ℕ → Arm → Type 0
OccursInArm f k a = OccursIn f k a.guard ⊎ OccursIn f k a.then

abbrev pub OccursInArms : List ℕ → ℕ → List Arm → Type 0
OccursInArms f k [] = ⊥
OccursInArms f k (a ∷ arms) = OccursInArm f k a ⊎ OccursInArms f k arms
