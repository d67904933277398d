-- The headline does not rest on this file.
-- Each part and each annotation is less deep than its node.
use Rattle.std.specs.Prelude.{◌+◌, ◌≤◌, List, [], ◌∷◌}
use Rattle.std.proofs.Common.{arith}
use Rattle.term_model.specs.declared.term.Term.TheInside.{Inside}
use Rattle.term_model.specs.declared.term.Term.TheDeep.{deep-Term}
use Rattle.term_model.specs.Term.{Tree, depth, depths, trees_of}
use Rattle.term_model.specs.declared.term.Term.TheShapes.{weighed-Node-annos}
use Rattle.std.specs.Prelude.{Option, Some, None, Vec}
use Rattle.std.specs.Global.{Global}
use Rattle.std.specs.declared.rc.Rc.{Rc}
use Rattle.term_model.specs.TermNode.{tree_of, shared_items}
use denote.Param.Weighed.{most}

-- no term of a list is deeper than all of them
pub most_le-depths : (ts : List Tree) → most (λ t. depth t + 1) ts ≤ depths (trees_of ts) + 1
most_le-depths [] = omega arith
most_le-depths (t ∷ ts) = omega (arith, most_le-depths ts)

-- no shared term is deeper than all of them
pub most_le-shared : (shared : Option (Rc (Vec Tree Global) Global))
    → weighed-Node-annos.weight Tree (λ t. depth t + 1) shared ≤ depths (trees_of (shared_items shared)) + 1
most_le-shared None = omega arith
most_le-shared (Some terms) = omega (arith, most_le-depths terms.value.items)

pub depth_falls : (t : Inside) → deep-Term t ≤ depth (tree_of t.node.value)
depth_falls t = omega (arith, most_le-depths t.node.value.parts.items, most_le-shared t.node.value.annos)
