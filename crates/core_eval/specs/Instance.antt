-- The headline does not rest on this file.
-- What making several terms says.
use Rattle.std.specs.Borrow.{Bor}
use Rattle.std.specs.Prelude.{◌≡◌, Bool, true, false, List, [], ◌∷◌, ◌++◌, Option, Some, None, Vec}
use Rattle.std.specs.declared.alloc.Global.{Global}
use Rattle.term_model.specs.declared.made.Made.{Made}
use Rattle.term_model.specs.declared.made.Made.TheVariants as made
use Rattle.term_model.specs.Term.{Tree, node, Trees, end, more, trees_of, all_fit}
use Rattle.core_lang.specs.Building.{made_like}

-- none, or the terms, each of which fits, or one of them does not fit
abbrev pub AreMade : Option Trees → Option (Made (Vec Tree Global)) → Type 0
AreMade vs None = vs ≡ None
AreMade vs (Some (made.Fits ts)) = (vs ≡ Some (trees_of ts.items)) × (all_fit (trees_of ts.items) ≡ true)
AreMade vs (Some made.Oversize) = (us : Trees) × (vs ≡ Some us) × (all_fit us ≡ false)

-- one more term, which fits, or the same terms
abbrev pub Kept : Made Tree → Bool → List Tree → List Tree → Type 0
Kept (made.Fits t) fits ts us = (fits ≡ true) × (us ≡ ts ++ t ∷ [])
Kept made.Oversize fits ts us = (fits ≡ false) × (us ≡ ts)

-- the first term with the annotations of the second
abbrev pub tree_like : Tree → Tree → Tree
tree_like (node h ts annos) (node g us others) = node h ts others

-- a term with the annotations of another one, if there is one
abbrev pub tree_like_other : Tree → Option (Bor Tree) → Tree
tree_like_other t None = t
tree_like_other t (Some o) = tree_like t o.now

-- the same of what may be no term
abbrev pub made_like_other : Option Tree → Option (Bor Tree) → Option Tree
made_like_other t None = t
made_like_other t (Some o) = made_like t (Some o.now)

-- terms, and others following them
abbrev pub joined : Trees → Trees → Trees
joined end us = us
joined (more t ts) us = more t (joined ts us)

abbrev pub both_terms : Option Trees → Option Trees → Option Trees
both_terms None us = None
both_terms (Some ts) None = None
both_terms (Some ts) (Some us) = Some (joined ts us)
