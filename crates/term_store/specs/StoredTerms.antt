-- The headline does not rest on this file.
-- The store as a space of terms.
use Rattle.std.specs.Prelude.{ℕ, pos, IsTrue, nat_lt, nat_le, ◌+◌}
use Rattle.std.proofs.lemmas.Bool.{ltb-true}
use Rattle.term_model.specs.Space.{Space}
use Rattle.term_model.specs.Term.{Fits}
use Rattle.term_store.specs.Space.{count, held_count, term_of, symbol_at}
use Rattle.term_store.specs.Places.{small_count}
use Rattle.term_store.specs.declared.store.StoreSpace.{StoreSpace}
use Rattle.term_store.specs.declared.stored.StoredShape.TheVariants as forms

-- a reference is a place, a mark is how many shapes were held, and a name is the number of a symbol
abbrev pub stored_terms : Space StoreSpace ℕ ℕ ℕ
stored_terms = record {
  stands = λ s r. nat_lt r (count s);
  term_of = λ s r. term_of s r;
  is_valid = λ s m. nat_le m (held_count s);
  covers = λ m r. nat_lt r (m + small_count);
  covers_mark = λ m n. nat_le n m;
  knows = λ s n. nat_lt n s.named;
  symbol_of = λ s n. symbol_at s n;
  number_of = λ n. n;
}

-- what stands fits
pub stored_fit : (s : StoreSpace) (r : ℕ) → IsTrue (nat_lt r (count s)) → Fits (term_of s r)
stored_fit s r stands = (s.store.entries r (forms.Int 0 (pos 0))
    (record { weight = 0; depth = 0; chains = 0; symbols = 0 }) (ltb-true _ _ stands)).size.fits
