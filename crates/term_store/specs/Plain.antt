-- The headline does not rest on this file.
-- The terms of plain shapes, of which each has its parts and annotations before it.
use Rattle.std.specs.Prelude.{◌<◌, ℕ, List, [], ◌∷◌, ◌++◌, length, map, slice_index_or, All}
use Rattle.term_model.specs.declared.term.Head.{Head}
use Rattle.term_model.specs.declared.term.Head.TheVariants as heads
use Rattle.term_model.specs.Term.{Tree, node, end, term}

-- a head, with the places of the parts and of the annotations
pub record Plain : Type 0 where
  pub head : Head
  pub parts : List ℕ
  pub annos : List ℕ

-- the term of a place where none stands
abbrev pub absent : Tree
absent = node heads.List end end

-- the term of a plain shape, where these are the terms before it
abbrev pub term_in : List Tree → Plain → Tree
term_in before p = term p.head (map (λ i. slice_index_or before i absent) p.parts)
    (map (λ i. slice_index_or before i absent) p.annos)

-- these terms, and then those of the shapes
abbrev pub terms_from : List Tree → List Plain → List Tree
terms_from before [] = before
terms_from before (p ∷ plains) = terms_from (before ++ term_in before p ∷ []) plains

abbrev pub term_at : List Plain → ℕ → Tree
term_at plains i = slice_index_or (terms_from [] plains) i absent

-- a shape's parts and annotations are before it
pub record IsPlain (k : ℕ) (p : Plain) : Type 0 where
  pub parts : All (λ i. i < k) p.parts
  pub annos : All (λ i. i < k) p.annos

abbrev pub ArePlain : List Plain → Type 0
ArePlain plains = (k : ℕ) (d : Plain) → k < length plains → IsPlain k (slice_index_or plains k d)
