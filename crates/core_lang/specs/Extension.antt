-- The headline does not rest on this file.
-- Bindings that hold what other bindings hold, at the same places.
use Rattle.std.specs.Prelude.{◌≡◌, ℕ, length}
use Rattle.term_model.specs.Term.{Tree}
use Rattle.core_lang.specs.Environment.{Bindings}
use Rattle.core_lang.specs.Matching.{Holds}
use Rattle.core_lang.specs.Ending.{Ending, ok, stop}

-- the second bindings have the places of the first, and each term that those hold
pub record Extends (e f : Bindings) : Type 0 where
  pub same_places : length f ≡ length e
  pub keeps : (i : ℕ) (u : Tree) → Holds e i u → Holds f i u

-- the bindings that an ok ending leaves extend these
abbrev pub ExtendsTo : {A : Type 0} → Bindings → Ending A → Type 0
ExtendsTo e (ok v f) = Extends e f
ExtendsTo e (stop q) = Unit {0}
