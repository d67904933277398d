-- The depth of a term and of what is in it.
use Rattle.std.proofs.Common.{◌≡◌, ◌+◌, ◌≤◌, List, ◌∷◌, map, arith}
use Rattle.term_model.specs.Term.{Tree, node, trees_of, depth, depths}
use Rattle.term_model.specs.TermParts.{parts_of, annos_of}
use Rattle.term_model.proofs.TermLemmas.{trees_of-list_of}

-- the parts of a term are less deep than the term
pub depths-parts_of : (t : Tree) (ts : List Tree) → ts ≡ parts_of t → depths (trees_of ts) + 1 ≤ depth t
depths-parts_of (node h ps xs) ts are = rw (are, trees_of-list_of ps) (omega arith)

-- its annotations too
pub depths-annos_of : (t : Tree) (ts : List Tree) → ts ≡ annos_of t → depths (trees_of ts) + 1 ≤ depth t
depths-annos_of (node h ps xs) ts are = rw (are, trees_of-list_of xs) (omega arith)

-- the first of some references, and the others
module _ {R : Type 0} (tree : R → Tree) (rs rest : List R) (r : R) (e : rs ≡ r ∷ rest) where
  pub depth_first : depth (tree r) ≤ depths (trees_of (map tree rs))
  depth_first = rw e (omega arith)

  pub depths_rest : depths (trees_of (map tree rest)) ≤ depths (trees_of (map tree rs))
  depths_rest = rw e (omega arith)
