-- What making a term of others says.
use Rattle.std.proofs.Common.{◌≡◌, ℕ, Option, Some, None, List, [], ◌∷◌, ◌++◌, refl, sym, ◌∙◌, ap, subst, Vec, Global}
use Rattle.std.specs.Borrow.{Bor}
use Rattle.std.specs.Prelude.{Bool, true, false, ◌&&◌, map}
use Rattle.std.specs.Option.{option_map}
use Rattle.std.proofs.lemmas.Bool.{and_parts}
use Rattle.term_model.specs.declared.term.Head.{Head}
use Rattle.term_model.specs.declared.made.Made.{Made}
use Rattle.term_model.specs.declared.made.Made.TheVariants as made
use Rattle.term_model.specs.Term.{Tree, node, Trees, end, more, term, trees_of, fits, all_fit, made_of}
use Rattle.term_model.specs.TermParts.{head_of, parts_of, annos_of}
use Rattle.term_model.proofs.TermLemmas.{trees_of-list_of}
use Rattle.term_model.specs.declared.term.Head.TheVariants as heads
use Rattle.term_model.proofs.FitsLaws.{large_part, large_annotation, bare_large, made_large, made_is}
use Rattle.core_lang.specs.declared.coordinate.Coordinate.{Coordinate}
use Rattle.core_lang.specs.declared.program.CorePattern.{CorePattern}
use Rattle.core_lang.specs.Environment.{Bindings}
use Rattle.core_lang.specs.Building.{with_front, made_like, made_with, instance, instances, element_instances}
use Rattle.core_lang.specs.Program.{Pattern}
use Rattle.core_lang.specs.Views.{pattern_of, patterns_of, elements_in}
use Rattle.core_eval.specs.Instance.{AreMade, tree_like, tree_like_other, made_like_other, joined, both_terms}
use Rattle.core_eval.proofs.InstanceLaws.{all_made}

-- a term with the annotations of another
pub annotated_made : (t o : Tree) (annos : List Tree) → annos ≡ annos_of o →
    made_of (term (head_of t) (parts_of t) annos) ≡ made_of (tree_like t o)
annotated_made t o annos is = ap (λ xs. made_of (term (head_of t) (parts_of t) xs)) is ∙ ap made_of (same_term t o)
  where
    same_term : (t o : Tree) → term (head_of t) (parts_of t) (annos_of o) ≡ tree_like t o
    same_term (node h ts annos) (node g us others) =
        ap (λ xs. node h xs (trees_of (annos_of (node g us others)))) (trees_of-list_of ts) ∙
        ap (λ xs. node h ts xs) (trees_of-list_of others)

annotated_too_large : (h : Head) (ts : Trees) (l : Option (Bor Tree)) → fits (node h ts end) ≡ false →
    fits (tree_like_other (node h ts end) l) ≡ false
annotated_too_large h ts None e = e
annotated_too_large h ts (Some o) e = by_node o.now
  where
    by_node : (v : Tree) → fits (tree_like (node h ts end) v) ≡ false
    by_node (node g us others) = bare_large h ts others e

liked_plain : (h : Head) (ts : Trees) (l : Option (Bor Tree)) →
    made_like_other (Some (node h ts end)) l ≡ Some (tree_like_other (node h ts end) l)
liked_plain h ts None = refl
liked_plain h ts (Some o) = by_node o.now
  where
    by_node : (v : Tree) → made_like (Some (node h ts end)) (Some v) ≡ Some (tree_like (node h ts end) v)
    by_node (node g us others) = refl

liked_none : (l : Option (Bor Tree)) → None ≡ option_map made_of (made_like_other None l)
liked_none None = refl
liked_none (Some o) = refl

-- a term of this head over other terms, whatever it is written as
module _ (h : Head) (whole : Option Trees → Option Tree) (lacks : whole None ≡ None) (has : (ts : Trees) →
    whole (Some ts) ≡ Some (node h ts end)) (l : Option (Bor Tree)) where
  pub whole_lacks : (o : Option Trees) → o ≡ None → None ≡ option_map made_of (made_like_other (whole o) l)
  whole_lacks o is = liked_none l ∙ ap (λ v. option_map made_of (made_like_other v l)) (sym (ap whole is ∙ lacks))

  whole_is : (o : Option Trees) (ts : Trees) → o ≡ Some ts →
      Some (made_of (tree_like_other (node h ts end) l)) ≡ option_map made_of (made_like_other (whole o) l)
  whole_is o ts is = ap (λ v. option_map made_of v)
      (sym (ap (λ v. made_like_other v l) (ap whole is ∙ has ts) ∙ liked_plain h ts l))

  pub part_too_large : (o : Option Trees) (ts : Trees) → o ≡ Some ts → all_fit ts ≡ false →
      Some made.Oversize ≡ option_map made_of (made_like_other (whole o) l)
  part_too_large o ts is large =
      ap (λ m. Some m) (sym (made_large (tree_like_other (node h ts end) l)
      (annotated_too_large h ts l (large_part h ts end large)))) ∙ whole_is o ts is

  pub whole_made : (o : Option Trees) (ts : List Tree) (r : Made Tree) → o ≡ Some (trees_of ts) →
      r ≡ made_of (tree_like_other (term h ts []) l) → Some r ≡ option_map made_of (made_like_other (whole o) l)
  whole_made o ts r is at = ap (λ m. Some m) at ∙ whole_is o (trees_of ts) is

-- a term of this head with these parts and the annotations of another
pub node_like : (h : Head) (ts : List Tree) (o : Tree) → term h ts (annos_of o) ≡ tree_like (term h ts []) o
node_like h ts (node g us others) = ap (λ xs. node h (trees_of ts) xs) (trees_of-list_of others)

-- terms and others after them
joined_lists : (ts us : List Tree) → trees_of (ts ++ us) ≡ joined (trees_of ts) (trees_of us)
joined_lists [] us = refl
joined_lists (t ∷ ts) us = ap (λ vs. more t vs) (joined_lists ts us)

both_fit : (ts us : Trees) → all_fit ts ≡ true → all_fit us ≡ true → all_fit (joined ts us) ≡ true
both_fit end us h k = k
both_fit (more t ts) us h k = let two = and_parts (fits t) (all_fit ts) h in
    ap (λ b. b && all_fit (joined ts us)) two.0 ∙ both_fit ts us two.1 k

first_too_large : (ts us : Trees) → all_fit ts ≡ false → all_fit (joined ts us) ≡ false
first_too_large end us h = absurd (cc)
first_too_large (more t ts) us h = either (fits t) (all_fit ts) (all_fit (joined ts us)) h (first_too_large ts us)
  where
    either : (a b c : Bool) → (a && b) ≡ false → (b ≡ false → c ≡ false) → (a && c) ≡ false
    either true b c h go = go h
    either false b c h go = refl

last_too_large : (ts us : Trees) → all_fit us ≡ false → all_fit (joined ts us) ≡ false
last_too_large end us h = h
last_too_large (more t ts) us h = last (fits t) _ (last_too_large ts us h)
  where
    last : (a b : Bool) → b ≡ false → (a && b) ≡ false
    last true b h = h
    last false b h = refl

pub nothing_after : (us vs : Option Trees) → vs ≡ None → both_terms us vs ≡ None
nothing_after None vs is = refl
nothing_after (Some ts) vs is = ap (λ o. both_terms (Some ts) o) is

pub nothing_before : (us vs : Option Trees) → us ≡ None → both_terms us vs ≡ None
nothing_before us vs is = ap (λ o. both_terms o vs) is

pub joined_made : (us vs : Option Trees) (ts rs all : List Tree) → us ≡ Some (trees_of ts) →
    all_fit (trees_of ts) ≡ true → vs ≡ Some (trees_of rs) → all_fit (trees_of rs) ≡ true → all ≡ ts ++ rs →
    (both_terms us vs ≡ Some (trees_of all)) × (all_fit (trees_of all) ≡ true)
joined_made us vs ts rs all is fit at fit_too k =
    let same = joined_lists ts rs in (
      ap (λ o. both_terms o vs) is ∙
          (ap (λ o. both_terms (Some (trees_of ts)) o) at ∙ ap (λ z. Some z) (sym (ap trees_of k ∙ same))),
      ap all_fit (ap trees_of k ∙ same) ∙ both_fit (trees_of ts) (trees_of rs) fit fit_too,
    )

pub first_large : (us vs : Option Trees) (ts rs : Trees) → us ≡ Some ts → all_fit ts ≡ false → vs ≡ Some rs →
    (zs : Trees) × (both_terms us vs ≡ Some zs) × (all_fit zs ≡ false)
first_large us vs ts rs is large at =
    (joined ts rs, ap (λ o. both_terms o vs) is ∙ ap (λ o. both_terms (Some ts) o) at, first_too_large ts rs large)

pub last_large : (us vs : Option Trees) (ts rs : Trees) → us ≡ Some ts → vs ≡ Some rs → all_fit rs ≡ false →
    (zs : Trees) × (both_terms us vs ≡ Some zs) × (all_fit zs ≡ false)
last_large us vs ts rs is at large =
    (joined ts rs, ap (λ o. both_terms o vs) is ∙ ap (λ o. both_terms (Some ts) o) at, last_too_large ts rs large)

pub joined_first : (us vs : Option Trees) {m n : Option (Made (Vec Tree Global))} (a b : Made (Vec Tree Global)) →
    AreMade us m → m ≡ Some a → ((ts : Vec Tree Global) → a ≡ made.Fits ts → ⊥) →
    AreMade vs n → n ≡ Some b → (zs : Trees) × (both_terms us vs ≡ Some zs) × (all_fit zs ≡ false)
joined_first us vs (made.Fits ts) b x is no_fit y at = absurd (no_fit ts refl)
joined_first us vs made.Oversize b x is no_fit y at =
    let large = subst (λ z. AreMade us z) is x in
    let others = some_of b (subst (λ z. AreMade vs z) at y) in
    first_large us vs large.0 others.0 large.1 large.2 others.1
  where
    some_of : (b : Made (Vec Tree Global)) → AreMade vs (Some b) → (rs : Trees) × (vs ≡ Some rs)
    some_of (made.Fits rs) h = (trees_of rs.items, h.0)
    some_of made.Oversize h = (h.0, h.1)

pub joined_last : (us vs : Option Trees) {m n : Option (Made (Vec Tree Global))} (a b : Made (Vec Tree Global))
    (ts : Vec Tree Global) → AreMade us m → m ≡ Some a → a ≡ made.Fits ts →
    AreMade vs n → n ≡ Some b → ((rs : Vec Tree Global) → b ≡ made.Fits rs → ⊥) → (zs : Trees) ×
    (both_terms us vs ≡ Some zs) × (all_fit zs ≡ false)
joined_last us vs a (made.Fits rs) ts x is fit y at no_fit = absurd (no_fit rs refl)
joined_last us vs a made.Oversize ts x is fit y at no_fit =
    let first = all_made x is fit in
    let large = subst (λ z. AreMade vs z) at y in
    last_large us vs (trees_of ts.items) large.0 first.0 large.1 large.2

module _ (place : Coordinate → Option ℕ) (e : Bindings) where
  after_front : (o : Option Tree) (us vs : Option Trees) →
      with_front o (both_terms us vs) ≡ both_terms (with_front o us) vs
  after_front None us vs = refl
  after_front (Some t) None vs = refl
  after_front (Some t) (Some us) None = refl
  after_front (Some t) (Some us) (Some vs) = refl

  -- the elements of a list: the first ones, and those of the rest
  pub elements_made : (ps : List CorePattern) (rest : Option (Pattern Coordinate)) →
      element_instances place (elements_in (map pattern_of ps) rest) e ≡
      both_terms (instances place (patterns_of ps) e) (element_instances place (elements_in [] rest) e)
  elements_made [] rest = at_end (element_instances place (elements_in [] rest) e)
    where
      at_end : (o : Option Trees) → o ≡ both_terms (Some end) o
      at_end None = refl
      at_end (Some ts) = refl
  elements_made (p ∷ ps) rest =
      ap (λ o. with_front (instance place (pattern_of p) e) o) (elements_made ps rest) ∙
      after_front (instance place (pattern_of p) e) (instances place (patterns_of ps) e)
      (element_instances place (elements_in [] rest) e)

-- terms that are made are terms, whether or not each fits
some_made : {vs : Option Trees} (k : Made (Vec Tree Global)) → AreMade vs (Some k) → (us : Trees) × (vs ≡ Some us)
some_made (made.Fits ts) fact = (trees_of ts.items, fact.0)
some_made made.Oversize fact = (fact.0, fact.1)

same_trees : {us vs : Trees} → Some us ≡ Some vs → us ≡ vs
same_trees e = cc

-- the empty list with annotations, one of which does not fit
pub holder_oversize : (us : Trees) {k : Made (Vec Tree Global)} → AreMade (Some us) (Some k) → k ≡ made.Oversize →
    made.Oversize ≡ made_of (node heads.List end us)
holder_oversize us fact is =
    let large = subst (λ z. AreMade (Some us) (Some z)) is fact in
    sym (made_large (node heads.List end us)
    (large_annotation heads.List end us (ap all_fit (same_trees large.1) ∙ large.2)))

like_holder : (o : Option Tree) (us : Trees) → made_like o (Some (node heads.List end us)) ≡ made_with o (Some us)
like_holder None us = refl
like_holder (Some (node h ts annos)) us = refl

-- with the annotations of the empty list is with the terms that were made for it
pub with_held : (o : Option Tree) (us : Option Trees) (k : Made (Vec Tree Global)) (r : Made Tree) →
    AreMade us (Some k) →
    ((zs : Trees) → AreMade (Some zs) (Some k) → r ≡ made_of (node heads.List end zs)) → (v : Tree) → r ≡ made.Fits v →
    made_like o (Some v) ≡ made_with o us
with_held o us k r fact holder v is =
    let some = some_made k fact in
    let held = made_is (node heads.List end some.0)
    v (sym (holder some.0 (subst (λ z. AreMade z (Some k)) some.1 fact)) ∙ is) in
    ap (λ t. made_like o (Some t)) held.0 ∙ (like_holder o some.0 ∙ ap (λ v. made_with o v) (sym some.1))
