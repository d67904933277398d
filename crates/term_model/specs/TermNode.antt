-- The headline does not rest on this file.
-- What a node in memory is seen as.
use Rattle.std.specs.Prelude.{◌≡◌, List, [], Option, Some, None, Vec}
use Rattle.std.specs.Global.{Global}
use Rattle.std.specs.declared.rc.Rc.{Rc}
use Rattle.term_model.specs.declared.term.Node.{Node}
use Rattle.term_model.specs.Term.{Tree, term, weight, depth, Fits, IsTerm}

-- the terms that are shared, if there are any
abbrev pub shared_items : Option (Rc (Vec Tree Global) Global) → List Tree
shared_items None = []
shared_items (Some terms) = terms.value.items

-- the term of a node
abbrev pub tree_of : Node → Tree
tree_of n = term n.head n.parts.items (shared_items n.annos)

-- the numbers that a node keeps are those of its term, which fits
pub record IsNode (n : Node) : Type 0 where
  pub weight : n.weight ≡ weight (tree_of n)
  pub depth : n.depth ≡ depth (tree_of n)
  pub fits : Fits (tree_of n)
  pub is_term : IsTerm (tree_of n)
