-- Lemmas that the store's calls cite.
use Rattle.std.proofs.Common.{ℕ, zero, suc, ◌<◌, List, [], ◌∷◌, length, get_or, refl, All, arith}
use Rattle.std.specs.Prelude.{ℤ}
use Rattle.term_model.specs.Term.{term}
use Rattle.term_model.specs.declared.term.Head.TheVariants as heads
use Rattle.term_store.specs.Store.{IsShape, IsSize, IsStore}
use Rattle.term_store.specs.Places.{integer_at, integers}
use Rattle.term_store.specs.Extents.{small_extent, small_extents}
use Rattle.term_store.specs.declared.stored.StoredShape.TheVariants as forms
use Rattle.term_store.proofs.StoreLemmas.{store_push}
use Rattle.term_store.proofs.PlaceLaws.{length-integers}

-- a store that holds nothing
pub nothing : IsStore [] ([] ∷ []) [] [] []
nothing = record {
  as_many = refl;
  spanned = refl;
  empty = refl;
  entries = λ k d e h. absurd (omega arith);
  ordered = λ i j e le h. absurd (omega arith);
  in_turn = λ i j e le h. absurd (omega arith);
  last = λ k e h. absurd (omega arith);
  standing = λ j h. empty j h;
  sums = λ j d h. absurd (omega arith);
}
  where
    empty : (j : ℕ) → j < 1 → All (λ i. i < 0) (get_or {A = List ℕ} ([] ∷ []) j [])
    empty zero h = λ k d within. absurd (omega arith)
    empty (suc j) h = absurd (omega arith)

-- a store that holds nothing, in which the small integers have their places
pub small_store : (negative small : ℕ) → IsStore [] ([] ∷ []) (integers negative small) (small_extents small) []
small_store negative zero = nothing
small_store negative (suc k) =
    let store = small_store negative k in
    let long = length-integers negative k in
    store_push [] ([] ∷ []) (integers negative k) (small_extents k) [] (forms.Int 0 (integer_at negative k))
    small_extent store (integer_shape (length (integers negative k)) (integer_at negative k))
    refl refl (integer_size (integer_at negative k))
  where
    integer_shape : (k : ℕ) (z : ℤ) → IsShape [] ([] ∷ []) k 0 (forms.Int 0 z)
    integer_shape k z = record {
      head = refl;
      rest = omega arith;
      annos = omega arith;
      whole = record { long = refl };
      none = λ e. refl;
      places = record { parts = λ j d h. absurd (omega (arith, h)); annos = λ j d h. absurd (omega (arith, h)) };
      bare = λ e. refl;
    }

    integer_size : (z : ℤ) → IsSize (term (heads.Int z) [] []) small_extent
    integer_size z = record { weight = refl; depth = refl; fits = record { weight = omega arith; depth = omega arith } }

pub ruleset space = (small_store)
