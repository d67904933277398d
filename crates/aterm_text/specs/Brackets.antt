-- The headline does not rest on this file.
-- What the reader keeps, for the contracts of its private functions alone: references on one stack, and the brackets
-- that are open.
use Rattle.std.specs.Prelude.{◌≡◌, ◌==◌, ℕ, ◌≤◌, take, if◌then◌else◌, Bool, true, false, IsTrue, List, [], ◌∷◌, ◌++◌, length, map, reverse, All}
use Rattle.term_model.specs.declared.made.Made.{Made}
use Rattle.term_model.specs.declared.made.Made.TheVariants as made
use Rattle.term_model.specs.Space.{Space}
use Rattle.term_model.specs.Symbol.{Symbol}
use Rattle.term_model.specs.Term.{Tree, node, end, trees_of, all_fit}
use Rattle.aterm_text.specs.Depth.{Opening, Applied, Elements, Annotations, Open}
use Rattle.aterm_text.specs.Reading.{State, Expect, Fresh, Whole, Done, Wrong, closer, closed, outcome_from, outcome_of}
use Rattle.aterm_text.specs.declared.open.Enclosing.{Enclosing}
use Rattle.aterm_text.specs.declared.open.Enclosing.TheVariants as code
use Rattle.aterm_text.specs.declared.open.Bracket.{Bracket}
use Rattle.aterm_text.specs.declared.open.Reader.{Reader}
use Rattle.aterm_text.specs.declared.open.Next.{Next}
use Rattle.aterm_text.specs.declared.open.Next.TheVariants as nexts

-- the term that an opening bracket follows and takes with it
abbrev pub taken : Opening → List Tree
taken (Applied _) = []
taken Elements = []
taken (Annotations h ps) = node h ps end ∷ []

-- the terms of the open brackets, those of the outermost first
abbrev pub terms_of : List Open → List Tree
terms_of [] = []
terms_of (o ∷ s) = terms_of s ++ (taken o.opening ++ o.earlier)

module _ {N : Type 0} (knows : N → Bool) (symbol_of : N → Symbol) where
  abbrev pub IsOpening : Enclosing N → Opening → Type 0
  IsOpening (code.Parts n) (Applied y) = IsTrue (knows n) × (symbol_of n ≡ y)
  IsOpening code.Elements Elements = Unit {0}
  IsOpening code.Annotations (Annotations h ps) = Unit {0}
  IsOpening _ _ = ⊥

  -- the bracket stands for this one, within these
  pub record IsOpen (fits : Bool) (b : Bracket N) (o : Open) (s : List Open) : Type 0 where
    pub opening : IsOpening b.enclosing o.opening
    pub bottom : fits ≡ true → b.bottom ≡ length (terms_of s ++ taken o.opening)

  -- the brackets, the innermost first
  abbrev pub AreOpen : Bool → List (Bracket N) → List Open → Type 0
  AreOpen fits [] [] = Unit {0}
  AreOpen fits (b ∷ bs) (o ∷ s) = IsOpen fits b o s × AreOpen fits bs s
  AreOpen fits _ _ = ⊥

module _ {W R M N : Type 0} (S : Space W R M N) (space : W) where
  -- the reader keeps the brackets, and the terms in them and these at hand, unless one of all these does not fit
  pub record Keeping (reader : Reader R N) (s : List Open) (hand : List Tree) : Type 0 where
    pub brackets : AreOpen (S.knows space) (S.symbol_of space) reader.fits (reverse reader.open.items) s
    pub fit : reader.fits ≡ all_fit (trees_of (terms_of s ++ hand))
    pub stand : All (λ r. IsTrue (S.stands space r)) reader.terms.items
    pub terms : reader.fits ≡ true → map (S.term_of space) reader.terms.items ≡ terms_of s ++ hand

  pub data IsAt (reader : Reader R N) : Next → State → Type 0 where
    at_term : {s : List Open} → Keeping reader s [] → IsAt reader nexts.Term (Expect s)
    at_first : {o : Open} {s : List Open} → o.earlier ≡ [] → Keeping reader (o ∷ s) [] →
        IsAt reader nexts.First (Fresh o s)
    at_whole : {h : _} {ps : _} {s : List Open} → Keeping reader s (node h ps end ∷ []) →
        IsAt reader nexts.Whole (Whole h ps s)
    at_done : {t : Tree} {s : List Open} → Keeping reader s (t ∷ []) → IsAt reader nexts.Done (Done t s)

  -- the reader has read the text up to the index, and this may come next
  pub record Reached (text : List ℕ) (reader : Reader R N) (next : Next) (index : ℕ) : Type 0 where
    pub state : State
    pub is : IsAt reader next state
    pub outcome : outcome_of text ≡ outcome_from text state index
    pub within : index ≤ length text

-- ---- what the reader's functions do

-- the byte that closes the bracket
abbrev pub closing : {N : Type 0} → Enclosing N → ℕ
closing (code.Parts _) = 41
closing code.Elements = 93
closing code.Annotations = 125

-- what may come after it
abbrev pub next_after : {N : Type 0} → Enclosing N → Next
next_after (code.Parts _) = nexts.Whole
next_after code.Elements = nexts.Whole
next_after code.Annotations = nexts.Done

-- the state after a byte that can only close the innermost bracket, after these terms
abbrev pub closing_state : List Tree → List Open → ℕ → State
closing_state hand [] c = Wrong
closing_state hand (o ∷ s) c = if c == closer o.opening then closed o.opening (o.earlier ++ hand) s else Wrong

-- no term is whole
abbrev pub awaits_term : Next → Bool
awaits_term nexts.Term = true
awaits_term nexts.First = true
awaits_term nexts.Whole = false
awaits_term nexts.Done = false

-- whether the byte closes the first of these brackets
abbrev pub closes_first : {N : Type 0} → List (Bracket N) → ℕ → Bool
closes_first [] c = false
closes_first (b ∷ bs) c = c == closing b.enclosing

-- the term, if it fits, stands in place of those from the bottom on
abbrev pub IsPut : {R N : Type 0} → Made R → ℕ → Reader R N → Reader R N → Type 0
IsPut (made.Fits r) bottom old new = (new.open ≡ old.open) × (new.fits ≡ old.fits) ×
    (new.terms.items ≡ take bottom old.terms.items ++ r ∷ [])
IsPut made.Oversize bottom old new = (new.open ≡ old.open) × (new.fits ≡ false) ×
    (new.terms.items ≡ take bottom old.terms.items)

-- a bracket is opened after the terms
pub record IsPushed {R N : Type 0} (enclosing : Enclosing N) (old new : Reader R N) : Type 0 where
  pub bracket : new.open.items ≡ old.open.items ++
      record { enclosing = enclosing; bottom = length old.terms.items } ∷ []
  pub terms : new.terms ≡ old.terms
  pub fits : new.fits ≡ old.fits

module _ {W R M N : Type 0} (S : Space W R M N) (space : W) where
  -- the bracket was taken off, and these terms are in it
  pub record Closing (reader : Reader R N) (b : Bracket N) (o : Open) (s : List Open) (ts : List Tree) : Type 0 where
    pub bracket : IsOpen (S.knows space) (S.symbol_of space) reader.fits b o s
    pub keeping : Keeping S space reader s (taken o.opening ++ ts)

  -- the reader has these terms at hand, and the text has the outcome of such a state at the index
  pub record Holds (text : List ℕ) (reader : Reader R N) (hand : List Tree) (state : List Open →
      State) (index : ℕ) : Type 0 where
    pub brackets : List Open
    pub keeping : Keeping S space reader brackets hand
    pub outcome : outcome_of text ≡ outcome_from text (state brackets) index
    pub within : index ≤ length text
