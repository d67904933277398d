-- The elements of an instance that is a list, and instances with the annotations of a term.
use Rattle.std.proofs.Common.{◌≡◌, Option, Some, None, sym, ap, refl}
use Rattle.std.specs.Prelude.{Bool, true, false}
use Rattle.term_model.specs.declared.term.Head.TheVariants as heads
use Rattle.term_model.specs.Same.{same_head}
use Rattle.term_model.specs.Symbol.{Symbol}
use Rattle.term_model.specs.Term.{Tree, node, Trees, trees_of}
use Rattle.term_model.specs.TermParts.{head_of, parts_of, annos_of}
use Rattle.term_model.proofs.TermLemmas.{trees_of-list_of}
use Rattle.core_lang.specs.Building.{applied_to, list_term, elements_of, made_like, made_with}

-- the elements of what a pattern of the rest makes
pub elements_of_list : (o : Option Trees) → elements_of (list_term o) ≡ o
elements_of_list None = refl
elements_of_list (Some ts) = refl

pub elements_of_application : (o : Option Trees) (f : Symbol) → elements_of (applied_to o f) ≡ None
elements_of_application None f = refl
elements_of_application (Some ts) f = refl

pub elements_annotated : (o : Option Tree) (v : Tree) → elements_of (made_like o (Some v)) ≡ elements_of o
elements_annotated None v = refl
elements_annotated (Some (node heads.List ts annos)) (node g us others) = refl
elements_annotated (Some (node (heads.Int z) ts annos)) (node g us others) = refl
elements_annotated (Some (node (heads.App f) ts annos)) (node g us others) = refl

pub elements_without : (o : Option Tree) → elements_of (made_like o None) ≡ None
elements_without None = refl
elements_without (Some t) = refl

pub annotated_again : (o : Option Tree) (v w : Tree) → made_like (made_like o (Some v)) (Some w) ≡ made_like o (Some w)
annotated_again None v w = refl
annotated_again (Some (node h ts annos)) (node g us others) (node k vs more_others) = refl

pub annotated_without : (o : Option Tree) → made_like o None ≡ None
annotated_without None = refl
annotated_without (Some t) = refl

-- the elements of a list that a variable has
pub elements_held : (t : Tree) (b : Bool) → b ≡ same_head (head_of t) heads.List → b ≡ true →
    elements_of (Some t) ≡ Some (trees_of (parts_of t))
elements_held (node heads.List ts annos) b h is = ap (λ us. Some us) (sym (trees_of-list_of ts))
elements_held (node (heads.Int z) ts annos) b h is = absurd (cc)
elements_held (node (heads.App f) ts annos) b h is = absurd (cc)

pub no_elements_held : (t : Tree) (b : Bool) → b ≡ same_head (head_of t) heads.List → b ≡ false →
    elements_of (Some t) ≡ None
no_elements_held (node heads.List ts annos) b h is = absurd (cc)
no_elements_held (node (heads.Int z) ts annos) b h is = refl
no_elements_held (node (heads.App f) ts annos) b h is = refl

-- annotations in the place of others
pub elements_with : (o : Option Tree) (us : Trees) → elements_of (made_with o (Some us)) ≡ elements_of o
elements_with None us = refl
elements_with (Some (node heads.List ts annos)) us = refl
elements_with (Some (node (heads.Int z) ts annos)) us = refl
elements_with (Some (node (heads.App f) ts annos)) us = refl

pub with_none : (o : Option Tree) → made_with o None ≡ None
with_none None = refl
with_none (Some t) = refl

pub elements_with_none : (o : Option Tree) → elements_of (made_with o None) ≡ None
elements_with_none o = ap elements_of (with_none o)

pub with_again : (o : Option Tree) (us vs : Trees) → made_with (made_with o (Some us)) (Some vs) ≡ made_with o (Some vs)
with_again None us vs = refl
with_again (Some (node h ts annos)) us vs = refl

pub with_then_like : (o : Option Tree) (us : Trees) (v : Tree) →
    made_like (made_with o (Some us)) (Some v) ≡ made_like o (Some v)
with_then_like None us v = refl
with_then_like (Some (node h ts annos)) us (node g vs others) = refl

-- the annotations of a variable's term are given like any others
pub like_with : (o : Option Tree) (v : Tree) → made_like o (Some v) ≡ made_with o (Some (trees_of (annos_of v)))
like_with None v = refl
like_with (Some (node h ts annos)) (node g us others) = ap (λ xs. Some (node h ts xs)) (sym (trees_of-list_of others))
