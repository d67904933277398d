-- The headline does not rest on this file.
-- The places of terms that were brought in.
use Rattle.std.specs.Prelude.{◌≡◌, ◌++◌, List, ℕ, map}
use Rattle.term_model.specs.Term.{Tree, term}
use Rattle.term_store.specs.Space.{term_of, Stand}
use Rattle.term_store.specs.Store.{head_in, MayHave}
use Rattle.term_store.specs.declared.store.StoreSpace.{StoreSpace}
use Rattle.term_store.specs.declared.stored.StoredHead.{StoredHead}

-- the places of these terms were put on a stack
pub record PutsOn (s : StoreSpace) (terms : List Tree) (old new : List ℕ) : Type 0 where
  pub places : List ℕ
  pub after : new ≡ old ++ places
  pub stand : Stand s places
  pub are : map (term_of s) places ≡ terms

-- the head and the places of the parts and annotations of a term
pub record IsPlaced (s : StoreSpace) (t : Tree) (h : StoredHead) (parts_ annos_ : List ℕ) : Type 0 where
  pub bare : MayHave h parts_
  pub parts : Stand s parts_
  pub annos : Stand s annos_
  pub is : term (head_in s.symbols.keys h) (map (term_of s) parts_) (map (term_of s) annos_) ≡ t
