-- What is lent, and which terms are the same.
use Rattle.std.proofs.Common.{◌≡◌, ℕ, suc, ◌-◌, ◌<◌, List, [], ◌∷◌, length, map, get_or, refl, sym, ◌∙◌, ap, subst, arith, All}
use Rattle.term_model.specs.declared.parts.Block.{Block}
use Rattle.term_model.specs.Blocks.{list_in, lists_of, AreLinked}
use Rattle.term_model.proofs.BlockLaws.{list_zero, list_numbered, length-lists_of}
use Rattle.term_store.specs.Chains.{AreApart}
use Rattle.term_store.specs.Store.{AreDistinct}
use Rattle.term_store.specs.Space.{count, term_of}
use Rattle.term_store.specs.declared.store.StoreSpace.{StoreSpace}
use Rattle.term_store.proofs.StoreLemmas.{one_store}

-- the list of a chain is that of its block
pub chain_is : (chains : List (List ℕ)) (blocks : List (Block ℕ)) (n : ℕ) (d : Block ℕ) → AreLinked blocks →
    lists_of blocks ≡ chains → (n ≡ 0 → ⊥) → n < length chains →
    list_in (lists_of blocks) (get_or blocks (n - 1) d) ≡ get_or chains n []
chain_is chains blocks n d are lists some within =
    let long = length-lists_of blocks in
    let size : length (lists_of blocks) ≡ length chains = ap length lists in
    let e : suc (n - 1) ≡ n = omega (arith, some) in
    let at : get_or (lists_of blocks) (suc (n - 1)) [] ≡ list_in (lists_of blocks) (get_or blocks (n - 1) d) =
    list_numbered blocks (n - 1) d are (omega (arith, long, size, within, some)) in
    sym (subst (λ m. get_or (lists_of blocks) m [] ≡ list_in (lists_of blocks) (get_or blocks (n - 1) d)) e at) ∙
    ap (λ ls. get_or ls n []) lists

-- the empty chain
pub no_chain : (chains : List (List ℕ)) (blocks : List (Block ℕ)) (n : ℕ) → lists_of blocks ≡ chains → n ≡ 0 →
    [] ≡ get_or chains n []
no_chain chains blocks n lists none =
    sym (list_zero blocks) ∙ (ap (λ ls. get_or ls 0 []) lists ∙ ap (λ k. get_or chains k []) (sym none))

pub ruleset chains = (chain_is, no_chain)

-- places whose terms are the same are the same
pub same_places : (s : StoreSpace) → AreDistinct s.symbols.keys → AreApart s.chains → AreDistinct s.shapes.keys
    → (xs ys : List ℕ) → All (λ i. i < count s) xs → All (λ i. i < count s) ys →
    map (term_of s) xs ≡ map (term_of s) ys → xs ≡ ys
same_places s ds dc dk [] [] hx hy e = refl
same_places s ds dc dk [] (y ∷ ys) hx hy e = let l : 0 ≡ suc (length (map (term_of s) ys)) = ap length e in
    absurd (omega (arith, l))
same_places s ds dc dk (x ∷ xs) [] hx hy e = let l : suc (length (map (term_of s) xs)) ≡ 0 = ap length e in
    absurd (omega (arith, l))
same_places s ds dc dk (x ∷ xs) (y ∷ ys) hx hy e =
    let first : term_of s x ≡ term_of s y = cc in
    let others : map (term_of s) xs ≡ map (term_of s) ys = cc in
    let one : x ≡ y = one_store s.symbols.keys s.chains s.shapes.keys s.extents.items s.spans.items s.store ds dc dk x y
    (hx 0 0 (omega arith)) (hy 0 0 (omega arith)) first in
    let after : xs ≡ ys = same_places s ds dc dk xs ys (λ k d h. hx (suc k) d (omega (arith, h)))
    (λ k d h. hy (suc k) d (omega (arith, h))) others in
    cc
