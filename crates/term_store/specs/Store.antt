-- The headline does not rest on this file.
-- What a store holds: symbols, chains of places, and shapes with their sizes.
use Rattle.std.specs.Prelude.{◌≡◌, ◌<◌, ◌≤◌, ◌+◌, ◌*◌, ℕ, min, Bool, true, false, nat_lt, IsTrue, List, [], suc, length, map, slice_index_or, All}
use Rattle.term_model.specs.declared.term.Head.{Head}
use Rattle.term_model.specs.declared.term.Head.TheVariants as heads
use Rattle.term_model.specs.Symbol.{Symbol, Tuple}
use Rattle.term_model.specs.Term.{Tree, weight, weights, depth, depths, trees_of, head_weight, Fits}
use Rattle.term_model.specs.Limits.{max_weight, max_depth}
use Rattle.term_model.specs.Blocks.{front_list, list_in}
use Rattle.term_store.specs.Chains.{IsWhole}
use Rattle.term_store.specs.Plain.{Plain, IsPlain, term_at}
use Rattle.term_store.specs.Shapes.{shape_head, shape_parts, shape_annos}
use Rattle.term_store.specs.declared.stored.StoredHead.{StoredHead}
use Rattle.term_store.specs.declared.stored.StoredHead.TheVariants as stored
use Rattle.term_store.specs.declared.stored.StoredShape.{StoredShape}
use Rattle.term_store.specs.declared.stored.Extent.{Extent}
use Rattle.term_store.specs.declared.stored.Span.{Span}

-- no two places of these have the same value
abbrev pub AreDistinct : {X : Type 0} → List X → Type 0
AreDistinct {X = X} xs = (d : X) (a b : ℕ) → a < length xs → b < length xs →
    slice_index_or xs a d ≡ slice_index_or xs b d → a ≡ b

abbrev pub head_in : List Symbol → StoredHead → Head
head_in symbols (stored.Int z) = heads.Int z
head_in symbols (stored.Symbol n) = heads.App (slice_index_or symbols n Tuple)
head_in symbols stored.List = heads.List

-- a shape with its lists in place of their numbers
abbrev pub plain : List Symbol → List (List ℕ) → StoredShape → Plain
plain symbols chains s = record {
  head = head_in symbols (shape_head s);
  parts = list_in chains (shape_parts s);
  annos =
      slice_index_or chains (shape_annos s) [];
}

abbrev pub plains : List Symbol → List (List ℕ) → List StoredShape → List Plain
plains symbols chains shapes = map (plain symbols chains) shapes

-- the term of the shape at a place
abbrev pub held : List Symbol → List (List ℕ) → List StoredShape → ℕ → Tree
held symbols chains shapes k = term_at (plains symbols chains shapes) k

-- whether the symbol of a head is among the first
abbrev pub is_among : ℕ → StoredHead → Bool
is_among count (stored.Int z) = true
is_among count (stored.Symbol n) = nat_lt n count
is_among count stored.List = true

abbrev pub IsAmong : ℕ → StoredHead → Type 0
IsAmong count h = IsTrue (is_among count h)

-- whether a head is an integer
abbrev pub is_int : StoredHead → Bool
is_int (stored.Int z) = true
is_int (stored.Symbol n) = false
is_int stored.List = false

-- an integer has no parts
abbrev pub MayHave : StoredHead → List ℕ → Type 0
MayHave h places = IsTrue (is_int h) → length places ≡ 0

-- a shape that may stand at place k, where chains up to this number may be named
pub record IsShape (symbols : List Symbol) (chains : List (List ℕ)) (k last : ℕ) (s : StoredShape) : Type 0 where
  pub head : IsAmong (length symbols) (shape_head s)
  pub rest : (shape_parts s).rest ≤ last
  pub annos : shape_annos s ≤ last
  pub whole : IsWhole (slice_index_or chains (shape_parts s).rest [])
  pub none : length (front_list (shape_parts s).front) ≡ 0 → (shape_parts s).rest ≡ 0
  pub places : IsPlain k (plain symbols chains s)
  pub bare : MayHave (shape_head s) (list_in chains (shape_parts s))

-- the weight and the depth of a term that fits
pub record IsSizeOf (t : Tree) (weight_ depth_ : ℕ) : Type 0 where
  pub weight : weight_ ≡ weight t
  pub depth : depth_ ≡ depth t
  pub fits : Fits t

-- the extent of a term that fits
abbrev pub IsSize : Tree → Extent → Type 0
IsSize t e = IsSizeOf t e.weight e.depth

-- the size of terms that are not too heavy together
pub record IsSum (ts : List Tree) (s : Span) : Type 0 where
  pub weight : s.weight ≡ weights (trees_of ts)
  pub depth : s.depth ≡ depths (trees_of ts)
  pub long : s.length ≡ length ts
  pub light : s.weight ≤ max_weight
  pub flat : s.depth ≤ max_depth

-- what holds of the shape at place k with its extent: the shape names the chains and symbols that were there when it
-- came
pub record IsEntry (symbols : List Symbol) (chains : List (List ℕ)) (shapes : List StoredShape) (k : ℕ)
    (s : StoredShape) (e : Extent) : Type 0 where
  pub shape : IsShape symbols chains k e.chains s
  pub last : e.chains < length chains
  pub early : (j : ℕ) → j ≤ e.chains → All (λ i. i < k) (slice_index_or chains j [])
  pub among : IsAmong e.symbols (shape_head s)
  pub known : e.symbols ≤ length symbols
  pub size : IsSize (held symbols chains shapes k) e

pub record IsStore (symbols : List Symbol) (chains : List (List ℕ)) (shapes : List StoredShape) (extents : List Extent)
    (spans : List Span) : Type 0 where
  pub as_many : length extents ≡ length shapes
  pub spanned : length spans + 1 ≡ length chains
  pub empty : slice_index_or chains 0 [] ≡ []
  pub entries : (k : ℕ) (d : StoredShape) (e : Extent) → k < length shapes →
      IsEntry symbols chains shapes k (slice_index_or shapes k d) (slice_index_or extents k e)
  pub ordered : (i j : ℕ) (e : Extent) → i ≤ j → j < length shapes →
      (slice_index_or extents i e).chains ≤ (slice_index_or extents j e).chains
  pub in_turn : (i j : ℕ) (e : Extent) → i ≤ j → j < length shapes →
      (slice_index_or extents i e).symbols ≤ (slice_index_or extents j e).symbols
  pub last : (k : ℕ) (e : Extent) → k < length shapes → (slice_index_or extents k e).chains < length chains
  pub standing : (j : ℕ) → j < length chains → All (λ i. i < length shapes) (slice_index_or chains j [])
  pub sums : (j : ℕ) (d : Span) → j < length spans →
      IsSum (map (held symbols chains shapes) (slice_index_or chains (suc j) [])) (slice_index_or spans j d)

-- a chain up to which the first n shapes name chains, and whose chains name the first n places
pub record IsLast (chains : List (List ℕ)) (extents : List Extent) (n last : ℕ) : Type 0 where
  pub there : last < length chains
  pub bound : (k : ℕ) (e : Extent) → k < n → (slice_index_or extents k e).chains ≤ last
  pub early : (j : ℕ) → j ≤ last → All (λ i. i < n) (slice_index_or chains j [])

-- as many symbols as there were when the last of the first n shapes came
pub record AreNamed (symbols : List Symbol) (extents : List Extent) (n count : ℕ) : Type 0 where
  pub there : count ≤ length symbols
  pub bound : (k : ℕ) (e : Extent) → k < n → (slice_index_or extents k e).symbols ≤ count

-- the size of terms together, which may be too heavy
pub record IsTotal (ts : List Tree) (weight_ depth_ : ℕ) : Type 0 where
  pub weight : weight_ ≡ weights (trees_of ts)
  pub depth : depth_ ≡ depths (trees_of ts)
  pub light : weight_ ≤ 4 * max_weight
  pub flat : depth_ ≤ max_depth

-- how heavy and deep a head and the terms of its parts are together, which may be too heavy
pub record IsBare (h : Head) (ts : List Tree) (weight_ depth_ : ℕ) : Type 0 where
  pub weight : weight_ ≡ min (head_weight h) (max_weight + 1) + weights (trees_of ts)
  pub depth : depth_ ≡ depths (trees_of ts)
  pub light : weight_ ≤ 5 * max_weight + 1
  pub flat : depth_ ≤ max_depth
