-- Laws of the equality of terms.
use Rattle.std.proofs.Common.{◌≡◌, ℕ, zero, suc, ◌+◌, ◌≤◌, ◌<◌, ◌≢◌, Bool, true, false, ◌&&◌, List, [], ◌∷◌, length, get_or, refl, ap, arith}
use Rattle.std.proofs.Math.Bool.{and-false}
use Rattle.term_model.specs.Term.{Tree, node, trees_of, weight, weights}
use Rattle.term_model.specs.TermParts.{head_of, parts_of, annos_of}
use Rattle.std.specs.Prelude.{IsTrue, ◌↔◌}
use Rattle.term_model.specs.declared.term.Head.{Head}
use Rattle.term_model.specs.Symbol.{Symbol}
use Rattle.term_model.specs.Same.{same_symbol, same-true, same-Decides, same_head-Decides, same_symbol-Decides, same, same_all, same_head}
use Rattle.term_model.proofs.TermLemmas.{trees_of-list_of, weight_positive}

-- two terms are the same where their heads, parts and annotations are
pub same_by_parts : (s t : Tree) →
    same s t ≡ ((same_head (head_of s) (head_of t) && same_all (trees_of (parts_of s)) (trees_of (parts_of t))) &&
    same_all (trees_of (annos_of s)) (trees_of (annos_of t)))
same_by_parts (node h ps xs) (node k qs ys) =
    rw (trees_of-list_of ps, trees_of-list_of qs, trees_of-list_of xs, trees_of-list_of ys) refl

-- a test that is not true is false
false_unless : (b : Bool) → ¬ (b ≡ true) → b ≡ false
false_unless true refuted = absurd (refuted refl)
false_unless false refuted = refl

-- terms of different weights are not the same
pub same-weight : (s t : Tree) → weight s ≢ weight t → same s t ≡ false
same-weight s t differ = false_unless (same s t) (λ e. differ (ap weight (same-true s t e)))

-- a test that is `same` tells whether the terms are equal
pub equal_from_same : (b : Bool) (s t : Tree) → b ≡ same s t → IsTrue b ↔ (s ≡ t)
equal_from_same b s t e = rw e (same-Decides s t)

pub equal_from_same_head : (b : Bool) (h k : Head) → b ≡ same_head h k → IsTrue b ↔ (h ≡ k)
equal_from_same_head b h k e = rw e (same_head-Decides h k)

pub equal_from_same_symbol : (b : Bool) (s t : Symbol) → b ≡ same_symbol s t → IsTrue b ↔ (s ≡ t)
equal_from_same_symbol b s t e = rw e (same_symbol-Decides s t)

pub ruleset equal = (equal_from_same, equal_from_same_head, equal_from_same_symbol)

-- lists of different lengths are not the same
pub same_all-length : (ss ts : List Tree) → length ss ≢ length ts → same_all (trees_of ss) (trees_of ts) ≡ false
same_all-length [] [] e = absurd (e refl)
same_all-length [] (t ∷ ts) e = refl
same_all-length (s ∷ ss) [] e = refl
same_all-length (s ∷ ss) (t ∷ ts) e =
    let others : same_all (trees_of ss) (trees_of ts) ≡ false = same_all-length ss ts (λ d. e (ap suc d)) in
    rw others (and-false (same s t))

-- the parts of a term weigh less than the term
pub weights-parts_of : (t : Tree) → weights (trees_of (parts_of t)) + 1 ≤ weight t
weights-parts_of (node h ps xs) = rw (trees_of-list_of ps) (omega arith)

-- its annotations too
pub weights-annos_of : (t : Tree) → weights (trees_of (annos_of t)) + 1 ≤ weight t
weights-annos_of (node h ps xs) = rw (trees_of-list_of xs) (omega arith)

-- a term of a list weighs no more than all of them
pub weight-get_or : (ts : List Tree) (i : ℕ) (d : Tree) → i < length ts → weight (get_or ts i d) ≤ weights (trees_of ts)
weight-get_or [] i d h = absurd (omega arith)
weight-get_or (t ∷ ts) zero d h = omega arith
weight-get_or (t ∷ ts) (suc i) d h = omega (arith, weight-get_or ts i d (omega arith))

pub ruleset equality = (
  same_by_parts,
  same-weight,
  same_all-length,
  weights-parts_of,
  weights-annos_of,
  weight-get_or,
  weight_positive,
)
