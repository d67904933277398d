-- The headline does not rest on this file.
-- What the calls of a store say.
use Rattle.std.specs.Prelude.{◌≡◌, ◌<◌, ◌≤◌, ◌+◌, ◌-◌, ℕ, max, List, [], ◌++◌, drop, length, take, map, slice_index_or, All}
use Rattle.term_model.specs.Symbol.{Symbol, Tuple}
use Rattle.term_model.specs.Term.{Tree, Fits, term, weights, trees_of}
use Rattle.term_model.specs.Limits.{max_weight}
use Rattle.term_model.specs.Blocks.{list_in}
use Rattle.term_model.specs.declared.made.Made.{Made}
use Rattle.term_model.specs.declared.made.Made.TheVariants as made
use Rattle.term_model.specs.declared.parts.Block.{Block}
use Rattle.term_store.specs.Chains.{IsBlockIn}
use Rattle.term_store.specs.Extents.{small_extent}
use Rattle.term_store.specs.Shapes.{shape_head, shape_parts, shape_annos}
use Rattle.term_store.specs.Store.{held, head_in, IsAmong, MayHave}
use Rattle.term_store.specs.declared.stored.Extent.{Extent}
use Rattle.term_store.specs.declared.stored.StoredShape.{StoredShape}
use Rattle.term_store.specs.declared.store.StoreSpace.{StoreSpace}

-- how many places there are: each small integer has one, and each shape that is held
abbrev pub count : StoreSpace → ℕ
count s = length s.shapes.keys

-- how many shapes are held
abbrev pub held_count : StoreSpace → ℕ
held_count s = length s.shapes.keys - s.shapes.small

-- the term at a place
abbrev pub term_of : StoreSpace → ℕ → Tree
term_of s k = held s.symbols.keys s.chains s.shapes.keys k

-- the symbol of a number
abbrev pub symbol_at : StoreSpace → ℕ → Symbol
symbol_at s n = slice_index_or s.symbols.keys n Tuple

-- the places of a chain
abbrev pub chain_at : StoreSpace → ℕ → List ℕ
chain_at s n = slice_index_or s.chains n []

-- a shape stands at each of these places
abbrev pub Stand : StoreSpace → List ℕ → Type 0
Stand s places = All (λ i. i < count s) places

-- the term of a shape
abbrev pub shape_term : StoreSpace → StoredShape → Tree
shape_term s x = term (head_in s.symbols.keys (shape_head x)) (map (term_of s) (list_in s.chains (shape_parts x)))
    (map (term_of s) (chain_at s (shape_annos x)))

-- values in place of the first ones
abbrev pub replaced : List ℕ → List ℕ → List ℕ
replaced first places = first ++ drop (length first) places

-- a block of standing places
pub record IsBlockOver (s : StoreSpace) (b : Block ℕ) : Type 0 where
  pub block : IsBlockIn s.chains b (list_in s.chains b)
  pub stand : Stand s (list_in s.chains b)

-- a shape whose parts and annotations stand
pub record MayStand (s : StoreSpace) (x : StoredShape) : Type 0 where
  pub head : IsAmong (length s.symbols.keys) (shape_head x)
  pub block : IsBlockIn s.chains (shape_parts x) (list_in s.chains (shape_parts x))
  pub parts : Stand s (list_in s.chains (shape_parts x))
  pub annos : shape_annos x < length s.chains
  pub bare : MayHave (shape_head x) (list_in s.chains (shape_parts x))

-- the shape at a place: its parts and annotations are before it
pub record IsShapeAt (s : StoreSpace) (at : ℕ) (x : StoredShape) : Type 0 where
  pub may : MayStand s x
  pub parts : All (λ i. i < at) (list_in s.chains (shape_parts x))
  pub annos : All (λ i. i < at) (chain_at s (shape_annos x))
  pub term : term_of s at ≡ shape_term s x
  pub fits : Fits (term_of s at)

-- each place keeps its term, each symbol its number, and each name stays
pub record Keeps (old new : StoreSpace) : Type 0 where
  pub more : count old ≤ count new
  pub terms : (k : ℕ) → k < count old → term_of new k ≡ term_of old k
  pub more_symbols : length old.symbols.keys ≤ length new.symbols.keys
  pub symbols : (n : ℕ) → n < length old.symbols.keys → symbol_at new n ≡ symbol_at old n
  pub named : old.named ≤ new.named

-- the extent of the last of the first places, which says how many chains and symbols there were when its shape came
abbrev pub last_extent : StoreSpace → ℕ → Extent
last_extent s places = slice_index_or s.extents.items (places - 1) small_extent

-- exactly the places below the mark stand, each with its term and its extent; of the chains, of their spans and of the
-- symbols only those stay that were there when the last of these shapes came, and the symbols of names
pub record GoesBack (old new : StoreSpace) (mark : ℕ) : Type 0 where
  pub count : count new ≡ mark
  pub terms : (k : ℕ) → k < mark → term_of new k ≡ term_of old k
  pub extents : new.extents.items ≡ take mark old.extents.items
  pub chains : new.chains ≡ take ((last_extent old mark).chains + 1) old.chains
  pub spans : new.spans.items ≡ take (last_extent old mark).chains old.spans.items
  pub kept : new.symbols.keys ≡ take (max (last_extent old mark).symbols old.named) old.symbols.keys
  pub named : new.named ≡ old.named
  pub symbols : (n : ℕ) → n < old.named → symbol_at new n ≡ symbol_at old n

-- the place of the term, which fits, or that the term does not fit
abbrev pub IsMade : StoreSpace → Tree → Made ℕ → Type 0
IsMade s t (made.Fits k) = (k < count s) × (term_of s k ≡ t) × Fits t
IsMade s t made.Oversize = ¬ (Fits t)

-- shapes and symbols stay, and each chain and each term
pub record KeepsChains (old new : StoreSpace) : Type 0 where
  pub symbols : new.symbols.keys ≡ old.symbols.keys
  pub named : new.named ≡ old.named
  pub shapes : new.shapes.keys ≡ old.shapes.keys
  pub more : length old.chains ≤ length new.chains
  pub chains : (j : ℕ) → j < length old.chains → slice_index_or new.chains j [] ≡ slice_index_or old.chains j []
  pub terms : (k : ℕ) → term_of new k ≡ term_of old k

-- the terms of these places are too heavy together
abbrev pub AreHeavy : StoreSpace → List ℕ → Type 0
AreHeavy s places = max_weight < weights (trees_of (map (term_of s) places))
