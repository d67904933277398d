-- Flat values: what primitives are given and answer.
use Rattle.std.specs.Prelude.{ℕ, ℤ, Option, Some, None, List, [], ◌∷◌}
use Rattle.std.specs.Option.{option_map}
use Rattle.term_model.specs.declared.term.Head.TheVariants as heads
use Rattle.term_model.specs.Symbol.{Plain, Quoted, Tuple}
use Rattle.term_model.specs.Term.{Tree, node, Trees, end, more}

-- an integer, the bytes of a string, or a list of integers
pub data FlatValue : Type 0 where
  number : ℤ → FlatValue
  text : List ℕ → FlatValue
  numbers : List ℤ → FlatValue

-- what primitives answer, by name and arguments: a flat value, or nothing
abbrev pub Meaning : Type 0
Meaning = List ℕ → List FlatValue → Option FlatValue

-- the integer that a term is, with annotations ignored
abbrev pub integer_of : Tree → Option ℤ
integer_of (node (heads.Int z) ts annos) = Some z
integer_of (node (heads.App f) ts annos) = None
integer_of (node heads.List ts annos) = None

abbrev pub with_integer : Option ℤ → Option (List ℤ) → Option (List ℤ)
with_integer None zs = None
with_integer (Some z) None = None
with_integer (Some z) (Some zs) = Some (z ∷ zs)

-- the integers that terms are, if each is one
abbrev pub integers_of : Trees → Option (List ℤ)
integers_of end = Some []
integers_of (more t ts) = with_integer (integer_of t) (integers_of ts)

-- the integer, string or list of integers that a term is, with annotations ignored
abbrev pub flat_of : Tree → Option FlatValue
flat_of (node (heads.Int z) ts annos) = Some (number z)
flat_of (node (heads.App (Quoted bytes)) end annos) = Some (text bytes)
flat_of (node (heads.App (Quoted bytes)) (more t ts) annos) = None
flat_of (node (heads.App (Plain bytes)) ts annos) = None
flat_of (node (heads.App Tuple) ts annos) = None
flat_of (node heads.List ts annos) = option_map numbers (integers_of ts)

abbrev pub with_flat : Option FlatValue → Option (List FlatValue) → Option (List FlatValue)
with_flat None vs = None
with_flat (Some v) None = None
with_flat (Some v) (Some vs) = Some (v ∷ vs)

-- the flat values that terms are, if each is one
abbrev pub all_flat : Trees → Option (List FlatValue)
all_flat end = Some []
all_flat (more t ts) = with_flat (flat_of t) (all_flat ts)

-- integers as terms
abbrev pub integers : List ℤ → Trees
integers [] = end
integers (z ∷ zs) = more (node (heads.Int z) end end) (integers zs)

-- a flat value as a term
abbrev pub term_of : FlatValue → Tree
term_of (number z) = node (heads.Int z) end end
term_of (text bytes) = node (heads.App (Quoted bytes)) end end
term_of (numbers zs) = node heads.List (integers zs) end
