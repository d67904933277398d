-- Whether a term is declared, by its head, its parts and its annotations.
use Rattle.std.proofs.Common.{◌≡◌, ◌&&◌, Bool, true, List, ◌∷◌, map, refl, sym, ap, ◌∙◌}
use Rattle.term_model.specs.Term.{Tree, node, trees_of}
use Rattle.term_model.specs.TermParts.{parts_of, annos_of}
use Rattle.term_model.proofs.DepthLaws.{depths-parts_of, depths-annos_of}
use Rattle.term_model.proofs.TermLemmas.{trees_of-list_of}
use Rattle.signature_core.specs.DeclaredTerm.{term_is_declared, all_are_declared}
use Rattle.signature_core.specs.Lookup.{root_is_declared}
use Rattle.signature_core.specs.Signature.{Declared}

pub declared_by_parts : (ds : List Declared) (t : Tree)
    → term_is_declared ds t ≡ ((root_is_declared ds t && all_are_declared ds (trees_of (parts_of t))) &&
    all_are_declared ds (trees_of (annos_of t)))
declared_by_parts ds (node h ps xs) = rw (trees_of-list_of ps, trees_of-list_of xs) refl

-- where the first of some references is declared, all are where the others are
module _ {R : Type 0} (tree : R → Tree) (rs rest : List R) (r : R) (e : rs ≡ r ∷ rest) where
  pub declared_others : (ds : List Declared) (first whole : Bool) → first ≡ term_is_declared ds (tree r) → first ≡ true
      → all_are_declared ds (trees_of (map tree rs)) ≡ whole → all_are_declared ds (trees_of (map tree rest)) ≡ whole
  declared_others ds first whole is so e_all =
      let here : all_are_declared ds (trees_of (map tree rs)) ≡ all_are_declared ds (trees_of (map tree rest)) =
      rw e (ap (λ b. b && all_are_declared ds (trees_of (map tree rest))) (sym is ∙ so)) in
      sym here ∙ e_all

pub ruleset parts = (declared_by_parts, depths-parts_of, depths-annos_of)
