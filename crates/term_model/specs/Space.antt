-- The headline does not rest on this file.
-- A space of terms, and what its calls say.
use Rattle.std.specs.Prelude.{◌≡◌, ◌↔◌, Bool, IsTrue, ℕ, List, [], length, ◌++◌, All, map}
use Rattle.term_model.specs.Symbol.{Symbol}
use Rattle.term_model.specs.Term.{Tree, Fits}
use Rattle.term_model.specs.TermParts.{head_of, parts_of}
use Rattle.term_model.specs.declared.term.Head.{Head}
use Rattle.term_model.specs.declared.term.Head.TheVariants as heads
use Rattle.term_model.specs.declared.made.Made.{Made}
use Rattle.term_model.specs.declared.made.Made.TheVariants as made
use Rattle.term_model.specs.declared.parts.Top.{Top}
use Rattle.term_model.specs.declared.parts.Top.TheVariants as tops

-- a space of terms, by what can be asked of each of its states, marks and names
pub record Space (W R M N : Type 0) : Type 0 where
  -- which references stand
  pub stands : W → R → Bool
  -- the term of a reference that stands
  pub term_of : W → R → Tree
  -- which marks can be gone back to
  pub is_valid : W → M → Bool
  -- which references stand after going back to a mark, whatever the state
  pub covers : M → R → Bool
  -- which marks are valid after going back to the first
  pub covers_mark : M → M → Bool
  -- which names were brought in
  pub knows : W → N → Bool
  -- the symbol of a name that was brought in
  pub symbol_of : W → N → Symbol
  -- the number of a name, whatever the state
  pub number_of : N → ℕ

module _ {W R M N : Type 0} (S : Space W R M N) where
  -- the tests of a space as statements
  abbrev pub Stands : W → R → Type 0
  Stands w r = IsTrue (S.stands w r)

  abbrev pub Valid : W → M → Type 0
  Valid w m = IsTrue (S.is_valid w m)

  abbrev pub Covers : M → R → Type 0
  Covers m r = IsTrue (S.covers m r)

  abbrev pub CoversMark : M → M → Type 0
  CoversMark m other = IsTrue (S.covers_mark m other)

  -- each reference that stood stands with its term, each valid mark is valid, each known name is known with its symbol
  pub record Keeps (old new : W) : Type 0 where
    pub standing : (r : R) → IsTrue (S.stands old r) → IsTrue (S.stands new r)
    pub terms : (r : R) → IsTrue (S.stands old r) → S.term_of new r ≡ S.term_of old r
    pub valid : (m : M) → IsTrue (S.is_valid old m) → IsTrue (S.is_valid new m)
    pub known : (n : N) → IsTrue (S.knows old n) → IsTrue (S.knows new n)
    pub symbols : (n : N) → IsTrue (S.knows old n) → S.symbol_of new n ≡ S.symbol_of old n

  -- each known name is known with its symbol
  pub record KeepsNames (old new : W) : Type 0 where
    pub known : (n : N) → IsTrue (S.knows old n) → IsTrue (S.knows new n)
    pub symbols : (n : N) → IsTrue (S.knows old n) → S.symbol_of new n ≡ S.symbol_of old n

  -- no term is made: exactly the references that stood stand, and exactly the marks that were valid are valid
  pub record MakesNone (old new : W) : Type 0 where
    pub standing : (r : R) → S.stands new r ≡ S.stands old r
    pub valid : (m : M) → S.is_valid new m ≡ S.is_valid old m

  -- back to a valid mark: exactly the references that it covers stand, each with its term; each mark that it covers is
  -- valid; names stay
  pub record GoesBack (old : W) (mark : M) (new : W) : Type 0 where
    pub was_valid : IsTrue (S.is_valid old mark)
    pub exactly : (r : R) → IsTrue (S.stands new r) ↔ IsTrue (S.covers mark r)
    pub terms : (r : R) → IsTrue (S.covers mark r) → S.term_of new r ≡ S.term_of old r
    pub valid : (m : M) → IsTrue (S.covers_mark mark m) → IsTrue (S.is_valid new m)
    pub known : (n : N) → IsTrue (S.knows old n) → IsTrue (S.knows new n)
    pub symbols : (n : N) → IsTrue (S.knows old n) → S.symbol_of new n ≡ S.symbol_of old n

  -- the mark is valid, and covers exactly the references that stand, and all valid marks
  pub record IsMark (space : W) (mark : M) : Type 0 where
    pub valid : IsTrue (S.is_valid space mark)
    pub exactly : (r : R) → IsTrue (S.covers mark r) ↔ IsTrue (S.stands space r)
    pub marks : (m : M) → IsTrue (S.is_valid space m) → IsTrue (S.covers_mark mark m)

  -- what was made stands for the term, or the term does not fit
  abbrev pub Makes : W → Tree → Made R → Type 0
  Makes space t (made.Fits r) = IsTrue (S.stands space r) × (S.term_of space r ≡ t) × Fits t
  Makes space t made.Oversize = ¬ (Fits t)

  -- the references of these terms were put on top of the stack
  pub record Pushes (space : W) (terms : List Tree) (old new : List R) : Type 0 where
    pub pushed : List R
    pub after : new ≡ old ++ pushed
    pub standing : All (λ r. IsTrue (S.stands space r)) pushed
    pub are : map (S.term_of space) pushed ≡ terms

-- a space within something larger
abbrev pub space_in : {V W R M N : Type 0} → (V → W) → Space W R M N → Space V R M N
space_in within S = record {
  stands = λ v r. S.stands (within v) r;
  term_of = λ v r. S.term_of (within v) r;
  is_valid = λ v m. S.is_valid (within v) m;
  covers = S.covers;
  covers_mark = S.covers_mark;
  knows = λ v n. S.knows (within v) n;
  symbol_of = λ v n. S.symbol_of (within v) n;
  number_of = S.number_of;
}

-- the symbol applied to n parts
pub record IsApplied (t : Tree) (s : Symbol) (count : ℕ) : Type 0 where
  pub head : head_of t ≡ heads.App s
  pub long : length (parts_of t) ≡ count

-- a list of n elements
pub record IsList (t : Tree) (count : ℕ) : Type 0 where
  pub head : head_of t ≡ heads.List
  pub long : length (parts_of t) ≡ count

-- an integer has no parts
abbrev pub MayHave : {R : Type 0} → Head → List R → Type 0
MayHave (heads.Int _) parts = parts ≡ []
MayHave (heads.App _) parts = Unit {0}
MayHave heads.List parts = Unit {0}

-- a head, lent
abbrev pub IsTop : Top → Head → Type 0
IsTop (tops.Int z) h = h ≡ heads.Int z
IsTop (tops.App s) h = h ≡ heads.App s.now
IsTop tops.List h = h ≡ heads.List
