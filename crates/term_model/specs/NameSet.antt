-- The headline does not rest on this file.
-- Names with numbers of arguments, as a set in the order in which they came.
use Rattle.std.specs.Prelude.{◌≡◌, ◌⊎◌, ◌<◌, ◌++◌, ◌∷◌, ℕ, List, [], Contains, get_or, length}
use Rattle.term_model.specs.PrimNames.{NameKey}

-- the pair at this place
abbrev pub key_at : List NameKey → ℕ → NameKey
key_at keys index = get_or keys index ([], 0)

-- each pair has one place
abbrev pub EachOnce : List NameKey → Type 0
EachOnce keys = (i j : ℕ) → i < length keys → j < length keys → key_at keys i ≡ key_at keys j → i ≡ j

-- the pair is there already, or it is added after the others
abbrev pub IsInserted : List NameKey → NameKey → List NameKey → Type 0
IsInserted old key new = (Contains old key × (new ≡ old)) ⊎ ((Contains old key → ⊥) × (new ≡ old ++ key ∷ []))
