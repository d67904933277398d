-- The first parts of a term, as they are put on a vector.
use Rattle.std.proofs.Common.{◌≡◌, List, [], ◌∷◌, ◌++◌, map, ap, sym, append_assoc, ◌∙◌}
use Rattle.std.proofs.lemmas.List.{map_push}
use Rattle.term_model.specs.Term.{Tree}

-- one more of the references that are to come
module _ {R : Type 0} (tree : R → Tree) (held held1 to_come rest : List R) (r here : R) (terms : List Tree) where
  pub one_more_held : map tree held ++ map tree to_come ≡ terms → to_come ≡ r ∷ rest → held1 ≡ held ++ here ∷ [] →
      tree here ≡ tree r → map tree held1 ++ map tree rest ≡ terms
  one_more_held are steps more same =
      ap (λ us. map tree us ++ map tree rest) more ∙ ap (λ us. us ++ map tree rest) (map_push tree held here) ∙
      append_assoc (map tree held) (tree here ∷ []) (map tree rest) ∙
      ap (λ u. map tree held ++ u ∷ map tree rest) same ∙ ap (λ us. map tree held ++ map tree us) (sym steps) ∙ are
