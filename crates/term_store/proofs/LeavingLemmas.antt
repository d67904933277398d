-- Terms that leave a store.
use Rattle.std.proofs.Common.{◌≡◌, ℕ, zero, suc, ◌+◌, ◌-◌, ◌<◌, ◌≤◌, List, [], ◌∷◌, length, drop, get_or, ap, sym, subst, ◌∙◌, All, arith, length-drop}
use Rattle.std.proofs.lemmas.List.{get_or-drop}
use Rattle.std.specs.Prelude.{Option, Some, None, replicate, slice_get, slice_set}
use Rattle.term_model.specs.Term.{Tree}
use Rattle.term_store.specs.Space.{term_of}
use Rattle.term_store.specs.Leaving.{AreLeft}
use Rattle.term_store.specs.declared.store.StoreSpace.{StoreSpace}

none_at : (n k : ℕ) (t : Tree) → slice_get (replicate {A = Option Tree} n None) k ≡ Some (Some t) → ⊥
none_at zero k t e = cc
none_at (suc n) zero t e = cc
none_at (suc n) (suc k) t e = none_at n k t e

pub none_left : (s : StoreSpace) (n : ℕ) → AreLeft s (replicate n None)
none_left s n k t e = absurd (none_at n k t e)

set_left : (f : ℕ → Tree) (xs : List (Option Tree)) (at k : ℕ) (t u : Tree) →
    ((j : ℕ) (v : Tree) → slice_get xs j ≡ Some (Some v) → v ≡ f j) → t ≡ f at →
    slice_get (slice_set xs at (Some t)) k ≡ Some (Some u) → u ≡ f k
set_left f [] at k t u given is e = given k u e
set_left f (x ∷ xs) zero zero t u given is e = cc
set_left f (x ∷ xs) zero (suc k) t u given is e = given (suc k) u e
set_left f (x ∷ xs) (suc at) zero t u given is e = given 0 u e
set_left f (x ∷ xs) (suc at) (suc k) t u given is e = set_left (λ j. f (suc j)) xs at k t u (λ j. given (suc j)) is e

-- one more term is there
pub one_left : (s : StoreSpace) (terms : List (Option Tree)) (at number : ℕ) (t : Tree) → at ≡ s.shapes.small + number →
    AreLeft s terms → t ≡ term_of s at → AreLeft s (slice_set terms number (Some t))
one_left s terms at number t there left is k u e =
    set_left (λ j. term_of s (s.shapes.small + j)) terms number k t u left (is ∙ ap (term_of s) there) e

-- the place at an index of the stack is before another
pub place_below : (xs ys : List ℕ) (bottom index at place d : ℕ) → All (λ i. i < at) (drop bottom xs) → ys ≡ xs →
    bottom ≤ index → index < length xs → place ≡ get_or ys index d → place < at
place_below xs ys bottom index at place d below same from to is =
    let on : bottom + (index - bottom) ≡ index = omega (arith, from) in
    let there : get_or (drop bottom xs) (index - bottom) d ≡ place =
    get_or-drop bottom xs (index - bottom) d ∙ ap (λ n. get_or xs n d) on ∙
    ap (λ zs. get_or zs index d) (sym same) ∙ sym is in
    subst (λ n. n < at) there (below (index - bottom) d (simp length-drop (omega (arith, from, to))))

pub ruleset leaving = (none_left, one_left)
