-- Laws of the text of a term, by its head, parts and annotations.
use Rattle.std.proofs.Common.{◌≡◌, ℕ, List, [], ◌∷◌, ◌++◌, length, map, take, refl, ap, sym, append_assoc, ◌∙◌}
use Rattle.term_model.specs.Term.{Tree, node, trees_of}
use Rattle.term_model.specs.TermParts.{annos_of}
use Rattle.term_model.proofs.DepthLaws.{depths-parts_of, depths-annos_of}
use Rattle.aterm_text.specs.Text.{text, texts, rest_texts, enclosed}
use Rattle.aterm_text.specs.Output.{Extends, bare_text_of}
use Rattle.term_model.proofs.TermLemmas.{trees_of-list_of}
use Rattle.term_model.proofs.Joins.{append_nil}

pub extends_same : (old new : List ℕ) → new ≡ old → Extends old new
extends_same old new e = record { rest = []; grown = e ∙ sym (append_nil old) }

pub extends_by : (old new xs : List ℕ) → new ≡ old ++ xs → Extends old new
extends_by old new xs e = record { rest = xs; grown = e }

pub extends_on : {old mid new : List ℕ} → Extends old mid → Extends mid new → Extends old new
extends_on {old} a b = record {
  rest = a.rest ++ b.rest;
  grown =
      b.grown ∙ ap (λ xs. xs ++ b.rest) a.grown ∙ append_assoc old a.rest b.rest;
}

take_front : (xs ys : List ℕ) → take (length xs) (xs ++ ys) ≡ xs
take_front [] ys = refl
take_front (x ∷ xs) ys = ap (λ zs. x ∷ zs) (take_front xs ys)

pub cut_back : (old new : List ℕ) → Extends old new → take (length old) new ≡ old
cut_back old new e = ap (take (length old)) e.grown ∙ take_front old e.rest

pub ruleset extending = (extends_same, extends_by, extends_on)

pub text_by_parts : (t : Tree) →
    text t ≡ bare_text_of t ++ enclosed (trees_of (annos_of t)) 123 125 (texts (trees_of (annos_of t)))
text_by_parts (node h ps xs) = rw (trees_of-list_of ps, trees_of-list_of xs) refl

pub enclosed_none : {R : Type 0} (tree : R → Tree) (rs : List R) (left right : ℕ) (inner : List ℕ) → rs ≡ [] →
    enclosed (trees_of (map tree rs)) left right inner ≡ []
enclosed_none tree [] left right inner none = refl
enclosed_none tree (r ∷ rs) left right inner none = absurd (cc)

pub enclosed_some : {R : Type 0} (tree : R → Tree) (rs : List R) (left right : ℕ) (inner : List ℕ) → ¬ (rs ≡ []) →
    enclosed (trees_of (map tree rs)) left right inner ≡ left ∷ (inner ++ right ∷ [])
enclosed_some tree [] left right inner some = absurd (some refl)
enclosed_some tree (r ∷ rs) left right inner some = refl

pub text_joins : (t : Tree) (ts : List Tree) (old mid new : List ℕ) → ts ≡ annos_of t
    → mid ≡ old ++ bare_text_of t → new ≡ mid ++ enclosed (trees_of ts) 123 125 (texts (trees_of ts)) →
    new ≡ old ++ text t
text_joins t ts old mid new are e f =
    f ∙ ap (λ us. mid ++ enclosed (trees_of us) 123 125 (texts (trees_of us))) are ∙
    ap (λ xs. xs ++ enclosed (trees_of (annos_of t)) 123 125 (texts (trees_of (annos_of t)))) e
    ∙ append_assoc old _ _ ∙ ap (λ xs. old ++ xs) (sym (text_by_parts t))

-- the text of some references, by the first and the others
module _ {R : Type 0} (tree : R → Tree) where
  -- the text of the first one is written, or a comma and the text of the next one
  pub first_written : (rs rest : List R) (r : R) (old new : List ℕ) → rs ≡ r ∷ rest → new ≡ old ++ text (tree r)
      → new ++ rest_texts (trees_of (map tree rest)) ≡ old ++ texts (trees_of (map tree rs))
  first_written rs rest r old new e f =
      rw (e, f) (append_assoc old (text (tree r)) (rest_texts (trees_of (map tree rest))))

  pub next_written : (rs rest : List R) (r : R) (old mid new whole : List ℕ) → rs ≡ r ∷ rest → mid ≡ old ++ 44 ∷ [] →
      new ≡ mid ++ text (tree r)
      → old ++ rest_texts (trees_of (map tree rs)) ≡ whole → new ++ rest_texts (trees_of (map tree rest)) ≡ whole
  next_written rs rest r old mid new whole e f g so_far =
      let u = text (tree r) in
      let us = rest_texts (trees_of (map tree rest)) in
      let next : new ++ us ≡ old ++ rest_texts (trees_of (map tree rs)) =
      rw (e, g, f) (ap (λ xs. xs ++ us) (append_assoc old (44 ∷ []) u) ∙ append_assoc old (44 ∷ u) us) in
      next ∙ so_far

pub ruleset writing = (
  depths-parts_of,
  depths-annos_of,
  enclosed_none,
  enclosed_some,
  text_joins,
  extends_same,
  extends_on,
)
