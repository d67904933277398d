-- The heads of a file, section after section.
use Rattle.std.proofs.Common.{◌≡◌, ◌∙◌, ℕ, Bool, true, false, ◌+◌, ◌<◌, ◌≤◌, List, [], ◌∷◌, ◌++◌, map, drop, length, get_or, sym, refl, ap, append-nil}
use Rattle.std.proofs.lemmas.List.{append_assoc, drop_all, drop_more, map-append}
use Rattle.std.specs.Prelude.{if◌then◌else◌}
use Rattle.str_syntax.specs.declared.definition.Origin.{Origin}
use Rattle.str_syntax.specs.Trees.{HeadTree, TopTree, SectionTree, signature, rules, strategies}
use Rattle.scope_check.specs.Found.{tops_of}
use Rattle.scope_check.specs.Seen.{head_of_top, heads_from, is_from, tops_in}

pub more_heads : (s : SectionTree) (ss : List SectionTree) →
    map head_of_top (tops_in (s ∷ ss)) ≡ map head_of_top (tops_of s) ++ map head_of_top (tops_in ss)
more_heads (signature _) ss = refl
more_heads (rules tops) ss = map-append head_of_top tops (tops_in ss)
more_heads (strategies tops) ss = map-append head_of_top tops (tops_in ss)

one_more : (b : Bool) (h : HeadTree) (before after whole : List HeadTree) → whole ≡ before ++ after →
    (if b then h ∷ whole else whole) ≡ (if b then h ∷ before else before) ++ after
one_more true h before after whole is = ap (λ hs. h ∷ hs) is
one_more false h before after whole is = is

from-append : (o : Origin) (ts us : List TopTree) → heads_from o (ts ++ us) ≡ heads_from o ts ++ heads_from o us
from-append o [] us = refl
from-append o (t ∷ ts) us = one_more (is_from o t.origin) (head_of_top t) (heads_from o ts) (heads_from o us)
    (heads_from o (ts ++ us)) (from-append o ts us)

-- those that come from there
pub more_heads_from : (o : Origin) (s : SectionTree) (ss : List SectionTree) →
    heads_from o (tops_in (s ∷ ss)) ≡ heads_from o (tops_of s) ++ heads_from o (tops_in ss)
more_heads_from o (signature _) ss = refl
more_heads_from o (rules tops) ss = from-append o tops (tops_in ss)
more_heads_from o (strategies tops) ss = from-append o tops (tops_in ss)

-- lists that are made one after another
module _ {X : Type 0} (one : X → List HeadTree) (every : List X → List HeadTree) where
  pub next_heads : ((x : X) (xs : List X) → every (x ∷ xs) ≡ one x ++ every xs) →
      (xs : List X) (i : ℕ) (x : X) (before after whole : List HeadTree)
      → i < length xs → x ≡ get_or xs i x → after ≡ before ++ one x → before ++ every (drop i xs) ≡ whole →
      after ++ every (drop (i + 1) xs) ≡ whole
  next_heads split xs i x before after whole within is more all =
      ap (λ hs. hs ++ every (drop (i + 1) xs)) more ∙ append_assoc before (one x) (every (drop (i + 1) xs)) ∙
      ap (λ hs. before ++ hs) (sym (split x (drop (i + 1) xs)) ∙
      ap every (ap (λ y. y ∷ drop (i + 1) xs) is ∙ sym (drop_more xs i x within))) ∙ all

  pub all_heads : every [] ≡ [] → (xs : List X) (i : ℕ) (made whole : List HeadTree) → length xs ≤ i →
      made ++ every (drop i xs) ≡ whole → made ≡ whole
  all_heads empty xs i made whole past all =
      sym (append-nil made) ∙ ap (λ hs. made ++ hs) (sym empty ∙ ap every (sym (drop_all i xs past))) ∙ all
