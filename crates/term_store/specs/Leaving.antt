-- The headline does not rest on this file.
-- Terms that have left a store.
use Rattle.std.specs.Prelude.{◌≡◌, ◌+◌, ℕ, List, length, slice_get, Option, Some, IsTrue}
use Rattle.term_model.specs.declared.term.Head.{Head}
use Rattle.term_model.specs.Term.{Tree, IsHead, trees_of}
use Rattle.term_store.specs.Space.{term_of}
use Rattle.term_store.specs.Store.{is_int}
use Rattle.term_store.specs.declared.store.StoreSpace.{StoreSpace}
use Rattle.term_store.specs.declared.stored.StoredHead.{StoredHead}

-- each term that is there is that of the shape with its number, where the shapes come after the small integers
abbrev pub AreLeft : StoreSpace → List (Option Tree) → Type 0
AreLeft s terms = (k : ℕ) (t : Tree) → slice_get terms k ≡ Some (Some t) → t ≡ term_of s (s.shapes.small + k)

-- the head may be that of a term with as many parts as the stored head may have
abbrev pub MayHead : StoredHead → Head → Type 0
MayHead stored h = (ts : List Tree) → (IsTrue (is_int stored) → length ts ≡ 0) → IsHead h (trees_of ts)
