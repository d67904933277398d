-- Where names stand that the equations bring, and that the file writes.
use Rattle.std.proofs.Common.{◌≡◌, ℕ, zero, suc, ◌+◌, ◌<◌, Some, None, List, [], ◌∷◌, map, refl, ◌∙◌, ap, arith, length, subst}
use Rattle.std.specs.Prelude.{Bool, true, false, ◌==◌, if◌then◌else◌}
use Rattle.std.specs.Option.{option_map}
use Rattle.std.specs.Cmp.{unsigned_Decides}
use Rattle.core_lang.specs.Named.{written, brought, position_of}
use Rattle.str_desugar.specs.Brought.{names_from, first_names}

-- no written name is brought
written_nowhere : (x : List ℕ) (i k : ℕ) → position_of (written x) (names_from i k) ≡ None
written_nowhere x i zero = refl
written_nowhere x i (suc k) = ap (λ o. option_map (λ j. suc j) o) (written_nowhere x (suc i) k)

pub no_written : (x : List ℕ) (k : ℕ) → position_of (written x) (first_names k) ≡ None
no_written x k = written_nowhere x 0 k

-- no brought name is written
pub no_brought : (i : ℕ) (xs : List (List ℕ)) → position_of (brought i) (map written xs) ≡ None
no_brought i [] = refl
no_brought i (x ∷ xs) = ap (λ o. option_map (λ j. suc j) o) (no_brought i xs)

equal_test : (i : ℕ) → (i == i) ≡ true
equal_test i = (unsigned_Decides i i).1 refl

not_equal : (i j : ℕ) → (i ≡ j → ⊥) → (b : Bool) → (i == j) ≡ b → b ≡ false
not_equal i j differ true e = absurd (differ ((unsigned_Decides i j).0 e))
not_equal i j differ false e = refl

-- the name at a slot
at_slot : (i j k : ℕ) → j < k → position_of (brought (i + j)) (names_from i k) ≡ Some j
at_slot i j zero h = absurd (omega arith)
at_slot i zero (suc k) h =
    let same : i + 0 ≡ i = omega arith in
    ap (λ b. if b then Some 0 else option_map (λ j. suc j) (position_of (brought (i + 0)) (names_from (suc i) k)))
    (ap (λ n. n == i) same ∙ equal_test i)
at_slot i (suc j) (suc k) h =
    let below : j < k = omega arith in
    let same : i + suc j ≡ suc i + j = omega arith in
    ap (λ b. if b then Some 0 else option_map (λ j. suc j) (position_of (brought (i + suc j)) (names_from (suc i) k)))
    (not_equal (i + suc j) i (λ e. omega arith) _ refl) ∙
    ap (λ n. option_map (λ j. suc j) (position_of (brought n) (names_from (suc i) k))) same ∙
    ap (λ o. option_map (λ j. suc j) o) (at_slot (suc i) j k below)

pub brought_at : (j k : ℕ) → j < k → position_of (brought j) (first_names k) ≡ Some j
brought_at j k h = let none : 0 + j ≡ j = omega arith in
    subst (λ n. position_of (brought n) (first_names k) ≡ Some j) none (at_slot 0 j k h)

-- and no name that comes after them
past : (i j k : ℕ) → (i + k) < suc j → position_of (brought j) (names_from i k) ≡ None
past i j zero h = refl
past i j (suc k) h =
    let below : (suc i + k) < suc j = omega arith in
    ap (λ b. if b then Some 0 else option_map (λ j. suc j) (position_of (brought j) (names_from (suc i) k)))
    (not_equal j i (λ e. omega arith) _ refl) ∙
    ap (λ o. option_map (λ j. suc j) o) (past (suc i) j k below)

pub brought_past : (j k : ℕ) → k < suc j → position_of (brought j) (first_names k) ≡ None
brought_past j k h = past 0 j k (omega arith)

pub names_from-length : (i k : ℕ) → length (names_from i k) ≡ k
names_from-length i zero = refl
names_from-length i (suc k) = ap (λ n. suc n) (names_from-length (suc i) k)
