-- Terms as values: a head, the list of the parts and the list of the annotations.
use Rattle.std.specs.Prelude.{◌≡◌, Bool, true, ◌&&◌, nat_le, if◌then◌else◌, ℕ, ◌+◌, ◌≤◌, max, List, [], ◌∷◌, length}
use Rattle.term_model.specs.declared.term.Head.{Head}
use Rattle.term_model.specs.declared.term.Head.TheVariants as heads
use Rattle.term_model.specs.declared.made.Made.{Made}
use Rattle.term_model.specs.declared.made.Made.TheVariants as made
use Rattle.term_model.specs.Limits.{IsInRange, max_weight, max_depth}
use Rattle.term_model.specs.Symbol.{IsSymbol, bytes_of}

mutual
  -- a term: its head, its parts and its annotations
  pub data Tree : Type 0 where
    node : Head → Trees → Trees → Tree

  -- terms one after another: a list of terms, as antt has no data type that holds lists of itself
  pub data Trees : Type 0 where
    end : Trees
    more : Tree → Trees → Trees

-- terms one after another as a list, and back
abbrev pub list_of : Trees → List Tree
list_of end = []
list_of (more t ts) = t ∷ list_of ts

abbrev pub trees_of : List Tree → Trees
trees_of [] = end
trees_of (t ∷ ts) = more t (trees_of ts)

-- the term of this head with these parts and annotations
abbrev pub term : Head → List Tree → List Tree → Tree
term h parts annos = node h (trees_of parts) (trees_of annos)

-- how many bytes the symbol has
abbrev pub head_weight : Head → ℕ
head_weight (heads.Int _) = 0
head_weight (heads.App s) = length (bytes_of s)
head_weight heads.List = 0

-- a node weighs 1 and the bytes of its symbol, and what is below it
abbrev mutual
  pub weight : Tree → ℕ
  weight (node h parts annos) = 1 + (head_weight h + (weights parts + weights annos))

  pub weights : Trees → ℕ
  weights end = 0
  weights (more t ts) = weight t + weights ts

-- a node is one deeper than the deepest of its parts and annotations
abbrev mutual
  pub depth : Tree → ℕ
  depth (node h parts annos) = 1 + max (depths parts) (depths annos)

  pub depths : Trees → ℕ
  depths end = 0
  depths (more t ts) = max (depth t) (depths ts)

-- the term is neither too heavy nor too deep
pub record Fits (t : Tree) : Type 0 where
  pub weight : weight t ≤ max_weight
  pub depth : depth t ≤ max_depth

-- an integer in range and with no parts, a symbol, or the head of lists
abbrev pub IsHead : Head → Trees → Type 0
IsHead (heads.Int n) parts = IsInRange n × (parts ≡ end)
IsHead (heads.App s) parts = IsSymbol s
IsHead heads.List parts = Unit {0}

-- a term of the language: each head in it is allowed with its parts
abbrev mutual
  pub IsTerm : Tree → Type 0
  IsTerm (node h parts annos) = IsHead h parts × AreTerms parts × AreTerms annos

  pub AreTerms : Trees → Type 0
  AreTerms end = Unit {0}
  AreTerms (more t ts) = IsTerm t × AreTerms ts

-- whether the term fits, as a test
abbrev pub fits : Tree → Bool
fits t = nat_le (weight t) max_weight && nat_le (depth t) max_depth

-- each of the terms fits
abbrev pub all_fit : Trees → Bool
all_fit end = true
all_fit (more t ts) = fits t && all_fit ts

-- what making a term returns: the term, or that it does not fit
abbrev pub made_of : Tree → Made Tree
made_of t = if fits t then made.Fits t else made.Oversize
