-- The length of the text of a term.
use Rattle.std.proofs.Common.{◌≡◌, ℕ, ◌+◌, ◌*◌, ◌≤◌, ◌<◌, ◌^◌, List, [], ◌∷◌, ◌++◌, length, refl, sym, ◌∙◌, ap, arith, pos, negsuc, suc, zero, Bool, true, false, cond, drop, get_or}
use Rattle.std.proofs.lemmas.Int.{ints}
use Rattle.std.proofs.lemmas.List.{length-append}
use Rattle.std.proofs.lemmas.Fmt.{length_signed_le}
use Rattle.std.specs.Fmt.{signed_decimal}
use Rattle.std.specs.Prelude.{ℤ, ◌==◌, ◌||◌, nat_lt}
use Rattle.term_model.specs.Limits.{IsInRange}
use Rattle.term_model.specs.declared.term.Head.{Head}
use Rattle.term_model.specs.declared.term.Head.TheVariants as heads
use Rattle.term_model.specs.Symbol.{Plain, Quoted, Tuple}
use Rattle.term_model.specs.Term.{Tree, node, Trees, end, more, trees_of, weight, weights, head_weight, IsTerm, AreTerms, IsHead}
use Rattle.term_model.specs.TermParts.{head_of, parts_of, annos_of}
use Rattle.aterm_text.specs.Text.{text, texts, rest_texts, bare_text, enclosed, item_text, items_text, quoted_text}
use Rattle.term_model.proofs.TermLemmas.{weight_positive}
use Rattle.term_model.proofs.EqualityLemmas.{weights-parts_of, weights-annos_of, weight-get_or}
use Rattle.aterm_text.proofs.WriteLemmas.{text_by_parts}

pub length_enclosed : (ts : Trees) (left right : ℕ) (inner : List ℕ) →
    length (enclosed ts left right inner) ≡ length (enclosed ts 40 41 inner)
length_enclosed end left right inner = refl
length_enclosed (more t ts) left right inner = rw (length-append inner (right ∷ []), length-append inner (41 ∷ [])) refl

pub length_text : (t : Tree) → length (text t) ≡
    length (bare_text (head_of t) (trees_of (parts_of t)) (texts (trees_of (parts_of t)))) +
    length (enclosed (trees_of (annos_of t)) 40 41 (texts (trees_of (annos_of t))))
length_text t = ap length (text_by_parts t) ∙ length-append _ _ ∙
    ap (λ n. length (bare_text (head_of t) (trees_of (parts_of t)) (texts (trees_of (parts_of t)))) + n)
    (length_enclosed (trees_of (annos_of t)) 123 125 (texts (trees_of (annos_of t))))

pub length_enclosed_some : (ts : List Tree) (inner : List ℕ) → 0 < length ts →
    length (enclosed (trees_of ts) 40 41 inner) ≡ 2 + length inner
length_enclosed_some [] inner h = absurd (omega arith)
length_enclosed_some (t ∷ ts) inner h = rw (length-append inner (41 ∷ [])) (omega arith)

pub length_enclosed_none : (ts : List Tree) (inner : List ℕ) → length ts ≡ 0 →
    length (enclosed (trees_of ts) 40 41 inner) ≡ 0
length_enclosed_none [] inner h = refl
length_enclosed_none (t ∷ ts) inner h = absurd (omega arith)

-- the terms from this one on are a comma, this one and the others
pub length_rest : (ts : List Tree) (i : ℕ) (d : Tree) → i < length ts →
    length (rest_texts (trees_of (drop i ts))) ≡ 1 +
    (length (text (get_or ts i d)) + length (rest_texts (trees_of (drop (i + 1) ts))))
length_rest [] i d h = absurd (omega arith)
length_rest (t ∷ ts) zero d h = omega (arith, length-append (text t) (rest_texts (trees_of ts)))
length_rest (t ∷ ts) (suc i) d h = let e : suc i + 1 ≡ suc (i + 1) = omega arith in
    rw e (length_rest ts i d (omega arith))

pub ruleset counting = (
  length_text,
  length_enclosed,
  length_enclosed_some,
  length_enclosed_none,
  length-append,
  weights-parts_of,
  weights-annos_of,
  weight_positive,
  weight-get_or,
  length_rest,
)

integer_bound : (z : ℤ) → IsInRange z → length (signed_decimal z) ≤ 20
integer_bound z h = length_signed_le 19 z (omega (arith, ints)) (omega (arith, ints))

record IsShort (bs : List ℕ) : Type 0 where
  bound : length bs ≤ 4

short : (bs : List ℕ) → length bs ≤ 4 → IsShort bs
short bs h = record { bound = h }

either_short : {xs ys : List ℕ} (test : Bool) → IsShort xs → IsShort ys → IsShort (cond test xs ys)
either_short true h k = h
either_short false h k = k

item_short : (b : ℕ) → IsShort (item_text b)
item_short b =
    either_short (b == 34) (short _ (omega arith))
    (either_short (b == 92) (short _ (omega arith))
    (either_short (b == 10) (short _ (omega arith))
    (either_short (b == 9) (short _ (omega arith))
    (either_short (b == 13) (short _ (omega arith))
    (either_short (nat_lt b 32 || b == 127) (short _ (omega arith)) (short _ (omega arith)))))))

items_bound : (bs : List ℕ) → length (items_text bs) ≤ 4 * length bs
items_bound [] = omega arith
items_bound (b ∷ bs) = rw (length-append (item_text b) (items_text bs))
    (omega (arith, (item_short b).bound, items_bound bs))

enclosed_bound : (ts : Trees) (left right : ℕ) (inner : List ℕ) →
    length (enclosed ts left right inner) ≤ 2 + length inner
enclosed_bound end left right inner = omega arith
enclosed_bound (more t ts) left right inner = rw (length-append inner (right ∷ [])) (omega arith)

bare_bound : (h : Head) (ps : Trees) (inner : List ℕ) → IsHead h ps →
    length (bare_text h ps inner) ≤ 20 + (4 * head_weight h + length inner)
bare_bound (heads.Int z) ps inner is = omega (arith, integer_bound z is.0)
bare_bound (heads.App (Plain name)) ps inner is =
    rw (length-append name (enclosed ps 40 41 inner)) (omega (arith, enclosed_bound ps 40 41 inner))
bare_bound (heads.App (Quoted bs)) ps inner is =
    rw (length-append (quoted_text bs) (enclosed ps 40 41 inner), length-append (items_text bs) (34 ∷ []))
    (omega (arith, items_bound bs, enclosed_bound ps 40 41 inner))
bare_bound (heads.App Tuple) ps inner is = rw (length-append inner (41 ∷ [])) (omega arith)
bare_bound heads.List ps inner is = rw (length-append inner (93 ∷ [])) (omega arith)

mutual
  pub text_bound : (t : Tree) → IsTerm t → length (text t) + 2 ≤ 24 * weight t
  text_bound (node h ps xs) is =
      rw (length-append (bare_text h ps (texts ps)) (enclosed xs 123 125 (texts xs)))
      (omega (
        arith,
        bare_bound h ps (texts ps) is.0,
        texts_bound ps is.1,
        texts_bound xs is.2,
        enclosed_bound xs 123 125 (texts xs),
      ))

  texts_bound : (ts : Trees) → AreTerms ts → length (texts ts) ≤ 24 * weights ts
  texts_bound end is = omega arith
  texts_bound (more t ts) is = rw (length-append (text t) (rest_texts ts))
      (omega (arith, text_bound t is.0, rest_bound ts is.1))

  rest_bound : (ts : Trees) → AreTerms ts → length (rest_texts ts) ≤ 24 * weights ts
  rest_bound end is = omega arith
  rest_bound (more t ts) is = rw (length-append (text t) (rest_texts ts))
      (omega (arith, text_bound t is.0, rest_bound ts is.1))
