-- The names that a scope brings are bound in it.
use Rattle.std.proofs.Common.{◌≡◌, ℕ, zero, suc, ◌+◌, ◌<◌, ◌≤◌, Option, Some, None, [], refl, arith}
use Rattle.std.specs.Prelude.{Bool, true, false, ◌==◌, if◌then◌else◌}
use Rattle.std.specs.Option.{option_map}
use Rattle.std.proofs.lemmas.Bool.Decides.{nat_tests}
use Rattle.core_lang.specs.Named.{brought, position_of}
use Rattle.core_lang.specs.Resolution.{Scopes, names, ResolvesPatterns, to_no_patterns, to_more_patterns, ResolvesElements, to_no_elements, to_the_rest, to_more_elements, to_variable}
use Rattle.str_desugar.specs.Brought.{names_from, first_names, patterns_from, elements_from, elements_and_rest_from}
use Rattle.str_desugar.specs.Frames.{frames_of, patterns_at, elements_at}
use Rattle.str_desugar.proofs.BoundLaws.{IsBound, bound_in_names}

-- the first n brought names are variables of these layers
abbrev pub Brings : Scopes → ℕ → Type 0
Brings S n = (j : ℕ) → j < n → IsBound S (brought j)

-- the names of n results are
abbrev pub BringsResults : Scopes → ℕ → Type 0
BringsResults S n = (j : ℕ) → j < n → IsBound S (brought (suc j))

past_first : (i n j : ℕ) (b : Bool) (o : Option ℕ) → (j == i) ≡ b →
    (if b then Some 0 else option_map (λ k. suc k) o) ≡ None → i ≤ j → j < i + suc n →
    ((o ≡ None) → suc i ≤ j → j < suc i + n → ⊥) → ⊥
past_first i n j true o is e l h rest = absurd (cc)
past_first i n j false None is e l h rest = rest refl (grind (arith, nat_tests)) (omega arith)
past_first i n j false (Some k) is e l h rest = absurd (cc)

from_names : (i n j : ℕ) → position_of (brought j) (names_from i n) ≡ None → i ≤ j → j < i + n → ⊥
from_names i zero j e l h = absurd (omega arith)
from_names i (suc n) j e l h = past_first i n j (j == i) (position_of (brought j) (names_from (suc i) n))
    refl e l h (λ o m k. from_names (suc i) n j o m k)

pub brings : (S : Scopes) (n : ℕ) → Brings (names [] (first_names n) S) n
brings S n = λ j h. bound_in_names S [] (first_names n) (brought j)
    (λ none. absurd (from_names 0 n j none (omega arith) (omega arith)))

-- ---- patterns of brought names

pub patterns_resolved : (S : Scopes) (n i k : ℕ) → Brings S n → i + k ≤ n →
    ResolvesPatterns S (patterns_from i k) (patterns_at (frames_of S) (patterns_from i k))
patterns_resolved S n i zero bound h = to_no_patterns
patterns_resolved S n i (suc k) bound h =
    to_more_patterns (to_variable (bound i (omega arith))) (patterns_resolved S n (suc i) k bound (omega arith))

pub elements_resolved : (S : Scopes) (n i k : ℕ) → Brings S n → i + k ≤ n →
    ResolvesElements S (elements_from i k) (elements_at (frames_of S) (elements_from i k))
elements_resolved S n i zero bound h = to_no_elements
elements_resolved S n i (suc k) bound h =
    to_more_elements (to_variable (bound i (omega arith))) (elements_resolved S n (suc i) k bound (omega arith))

pub elements_and_rest_resolved : (S : Scopes) (n i k : ℕ) → Brings S n → i + k < n →
    ResolvesElements S (elements_and_rest_from i k) (elements_at (frames_of S) (elements_and_rest_from i k))
elements_and_rest_resolved S n i zero bound h = to_the_rest (to_variable (bound i (omega arith)))
elements_and_rest_resolved S n i (suc k) bound h =
    to_more_elements (to_variable (bound i (omega arith)))
    (elements_and_rest_resolved S n (suc i) k bound (omega arith))
