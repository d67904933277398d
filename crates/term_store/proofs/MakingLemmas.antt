-- What putting in a shape or a chain comes to.
use Rattle.std.proofs.Common.{◌≡◌, ℕ, suc, ◌+◌, ◌<◌, ◌≤◌, List, [], ◌∷◌, length, map, refl, sym, ap, subst, arith}
use Rattle.std.specs.Prelude.{min, max, Option, Some, None, MatchOption}
use Rattle.term_model.specs.declared.term.Head.{Head}
use Rattle.term_model.specs.Limits.{max_weight, max_depth}
use Rattle.term_model.specs.Term.{Tree, term, weights, trees_of, head_weight}
use Rattle.term_model.specs.Blocks.{list_in}
use Rattle.term_model.specs.declared.parts.Block.{Block}
use Rattle.term_model.proofs.TermLemmas.{weight_positive}
use Rattle.term_store.specs.Shapes.{shape_head, shape_parts, shape_annos}
use Rattle.term_store.specs.Store.{head_in, IsShape, IsSize, IsSum, IsBare}
use Rattle.term_store.specs.Chains.{IsBlockIn, IsChainIn}
use Rattle.term_store.specs.Space.{count, term_of, chain_at, shape_term, MayStand, KeepsChains, AreHeavy}
use Rattle.term_store.proofs.PlainLemmas.{map_same}
use Rattle.term_store.specs.declared.store.StoreSpace.{StoreSpace}
use Rattle.term_store.specs.declared.stored.StoredShape.{StoredShape}
use Rattle.term_store.specs.declared.stored.Span.{Span}
use Rattle.term_store.proofs.StoreLemmas.{made_size}

-- there are no more terms than they weigh
pub length-weights : (ts : List Tree) → length ts ≤ weights (trees_of ts)
length-weights [] = omega arith
length-weights (t ∷ ts) = let first = weight_positive t in let others = length-weights ts in
    omega (arith, first, others)

pub length-places : (f : ℕ → Tree) (xs : List ℕ) → length (map f xs) ≡ length xs
length-places f [] = refl
length-places f (x ∷ xs) = ap suc (length-places f xs)

pub few_places : (f : ℕ → Tree) (xs : List ℕ) → length xs ≤ weights (trees_of (map f xs))
few_places f xs = subst (λ n. n ≤ weights (trees_of (map f xs))) (length-places f xs) (length-weights (map f xs))

-- a shape that may stand may come next
pub shape_next : (s : StoreSpace) (x : StoredShape) (last : ℕ) → last + 1 ≡ length s.chains → MayStand s x →
    IsShape s.symbols.keys s.chains (count s) last x
shape_next s x last long may =
    let rest_ = may.block.rest in
    let annos_ = may.annos in
    record {
      head = may.head;
      rest = omega (arith, rest_, long);
      annos = omega (arith, annos_, long);
      whole = may.block.whole;
      none = may.block.none;
      places = record { parts = may.parts; annos = s.store.standing (shape_annos x) may.annos };
      bare = may.bare;
    }

-- the size of the term of a shape, by that of its head and parts and that of its annotations
pub shape_size : (s : StoreSpace) (x : StoredShape) (a weight_ depth_ last known : ℕ) (annos : Span) → a ≡ shape_annos x
    → IsBare (head_in s.symbols.keys (shape_head x)) (map (term_of s) (list_in s.chains (shape_parts x)))
    weight_ depth_ → IsSum (map (term_of s) (chain_at s a)) annos
    → 1 + (weight_ + annos.weight) ≤ max_weight → 1 + max depth_ annos.depth ≤ max_depth
    → IsSize (shape_term s x) (record {
      weight = 1 + (weight_ + annos.weight);
      depth =
          1 + max depth_ annos.depth;
      chains = last;
      symbols = known;
    })
shape_size s x a weight_ depth_ last known annos is_chain bare sum light flat =
    let h : Head = head_in s.symbols.keys (shape_head x) in
    let ps : List Tree = map (term_of s) (list_in s.chains (shape_parts x)) in
    let name : ℕ = min (head_weight h) (max_weight + 1) in
    let own : weight_ ≡ name + weights (trees_of ps) = bare.weight in
    let same : 1 + (name + (weights (trees_of ps) + annos.weight)) ≡ 1 + (weight_ + annos.weight) =
    omega (arith, own) in
    let small : 1 + (name + (weights (trees_of ps) + annos.weight)) ≤ max_weight =
    subst (λ w. w ≤ max_weight) (sym same) light in
    let sized : IsSize (term h ps (map (term_of s) (chain_at s a)))
    (record {
      weight = 1 + (name + (weights (trees_of ps) + annos.weight));
      depth =
          1 + max depth_ annos.depth;
      chains = last;
      symbols = known;
    }) =
    made_size h ps (map (term_of s) (chain_at s a)) name (weights (trees_of ps))
    depth_ annos.weight annos.depth last known refl refl bare.depth sum.weight sum.depth small flat in
    let whole : IsSize (term h ps (map (term_of s) (chain_at s a)))
    (record {
      weight = 1 + (weight_ + annos.weight);
      depth = 1 + max depth_ annos.depth;
      chains = last;
      symbols =
          known;
    }) =
    subst (λ w. IsSize (term h ps (map (term_of s) (chain_at s a)))
    (record { weight = w; depth = 1 + max depth_ annos.depth; chains = last; symbols = known })) same sized in
    subst (λ c. IsSize (term h ps (map (term_of s) (chain_at s c)))
    (record {
      weight = 1 + (weight_ + annos.weight);
      depth = 1 + max depth_ annos.depth;
      chains = last;
      symbols =
          known;
    })) is_chain whole

-- places whose terms are too heavy together were so before chains came
pub heavy_before : (old new : StoreSpace) (places : List ℕ) → KeepsChains old new → AreHeavy new places →
    AreHeavy old places
heavy_before old new places keeps heavy =
    subst (λ ts. max_weight < weights (trees_of ts))
    (map_same (term_of new) (term_of old) places (λ k d h. keeps.terms _)) heavy

-- the chain of a block of these places
pub chain_found : (old new : StoreSpace) (chains : List (List ℕ)) (block : Block ℕ) (places : List ℕ)
    (found : Option ℕ) → KeepsChains old new → IsBlockIn new.chains block places
    → MatchOption found (AreHeavy new (list_in new.chains block)) (λ n. IsChainIn chains n (list_in new.chains block)) →
    MatchOption found (AreHeavy old places) (λ n. IsChainIn chains n places)
chain_found old new chains block places None keeps is heavy =
    heavy_before old new places keeps (subst (AreHeavy new) is.list heavy)
chain_found old new chains block places (Some n) keeps is chain = subst (IsChainIn chains n) is.list chain
