-- What is found at top level, section after section.
use Rattle.std.proofs.Common.{◌≡◌, List, ◌∷◌, ◌++◌, refl}
use Rattle.std.proofs.lemmas.List.Folds.{list_any-append}
use Rattle.str_syntax.specs.Trees.{TopTree, SectionTree, signature, rules, strategies}
use Rattle.scope_check.specs.Complaint.{Known, is_bad}
use Rattle.scope_check.specs.Found.{about_nodes, joined, found_in_tops, tops_of}
use Rattle.scope_check.specs.Seen.{Seen, tops_in}
use Rattle.scope_check.specs.Somewhere.{in_top}

more_tops : (known : Known) (L : Seen) (ts us : List TopTree) →
    found_in_tops known L (ts ++ us) ≡ joined (found_in_tops known L ts) (found_in_tops known L us)
more_tops known L ts us = λ i. about_nodes (λ k. list_any-append (in_top (is_bad known k) L) ts us i)

pub more_sections : (known : Known) (L : Seen) (s : SectionTree) (ss : List SectionTree) →
    found_in_tops known L (tops_in (s ∷ ss)) ≡
    joined (found_in_tops known L (tops_of s)) (found_in_tops known L (tops_in ss))
more_sections known L (signature _) ss = refl
more_sections known L (rules tops) ss = more_tops known L tops (tops_in ss)
more_sections known L (strategies tops) ss = more_tops known L tops (tops_in ss)
