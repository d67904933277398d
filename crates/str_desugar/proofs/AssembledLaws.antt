-- What the equations put together, over coordinates.
use Rattle.std.proofs.Common.{◌≡◌, ℕ, zero, suc, ◌+◌, List, [], ◌∷◌, ◌++◌, refl, ◌∙◌, ap, ap₂}
use Rattle.core_lang.specs.Named.{NamedStrategy, Name}
use Rattle.core_lang.specs.Program.{Pattern, seq, scope}
use Rattle.core_lang.specs.Views.{chain}
use Rattle.str_desugar.specs.Assembled.{keeping_here, where_here, congruence_here}
use Rattle.str_desugar.specs.Equations.{in_turn, keeping, where_core, build_after, call_after, congruence_of}
use Rattle.str_desugar.specs.Frames.{Frames, strategy_at, pattern_at}
use Rattle.str_desugar.specs.Layers.{inside, items_at}
use Rattle.str_desugar.proofs.BroughtLaws.{names_from-length}
use Rattle.core_lang.specs.Program as core
use Rattle.str_desugar.specs.Brought.{kept}

pub in_turn_at : (F : Frames) (s : NamedStrategy) (items : List NamedStrategy) →
    strategy_at F (in_turn s items) ≡ chain (strategy_at F s) (items_at F items)
in_turn_at F s [] = refl
in_turn_at F s (t ∷ items) = ap (λ r. seq (strategy_at F s) r) (in_turn_at F t items)

pub items_append : (F : Frames) (xs ys : List NamedStrategy) → items_at F (xs ++ ys) ≡ items_at F xs ++ items_at F ys
items_append F [] ys = refl
items_append F (x ∷ xs) ys = ap (λ l. strategy_at F x ∷ l) (items_append F xs ys)

pub keeping_at : (F : Frames) (k : ℕ) (items : List NamedStrategy) →
    strategy_at F (keeping k items) ≡ keeping_here k (items_at (inside (suc k) F) items)
keeping_at F k items =
    ap₂ (λ n s. scope n s) (names_from-length 0 (suc k))
    (in_turn_at (inside (suc k) F) (core.match (core.variable kept)) items)

pub where_at : (F : Frames) (s : NamedStrategy) → strategy_at F (where_core s) ≡ where_here (strategy_at (inside 1 F) s)
where_at F s = refl

pub congruence_at : (F : Frames) (n : ℕ) (p q : Pattern Name) (items : List NamedStrategy) →
    strategy_at F (congruence_of n p items q) ≡
    congruence_here n (pattern_at (inside (suc (n + n)) F) p) (items_at (inside (suc (n + n)) F) items)
    (pattern_at (inside (suc (n + n)) F) q)
congruence_at F n p q items =
    ap₂ (λ k s. scope k s) (names_from-length 0 (suc (n + n)))
    (in_turn_at (inside (suc (n + n)) F) (core.match (core.alias kept p)) (items ++
    core.build (core.like q kept) ∷ []) ∙
    ap (λ l. chain (strategy_at (inside (suc (n + n)) F) (core.match (core.alias kept p))) l)
    (items_append (inside (suc (n + n)) F) items (core.build (core.like q kept) ∷ [])))

-- a build and a call that have results
pub build_after_at : (F : Frames) (k : ℕ) (items : List NamedStrategy) (p : Pattern Name) → (k ≡ 0 → ⊥) →
    strategy_at F (build_after k items p) ≡
    keeping_here k (items_at (inside (suc k) F) items ++ core.build (pattern_at (inside (suc k) F) p) ∷ [])
build_after_at F zero items p some = absurd (some refl)
build_after_at F (suc k) items p some =
    keeping_at F (suc k) (items ++ core.build p ∷ []) ∙
    ap (λ l. keeping_here (suc k) l) (items_append (inside (suc (suc k)) F) items (core.build p ∷ []))

pub call_after_at : (F : Frames) (k : ℕ) (items : List NamedStrategy) (s : NamedStrategy) → (k ≡ 0 → ⊥) →
    strategy_at F (call_after k items s) ≡
    keeping_here k (items_at (inside (suc k) F) items ++
    strategy_at (inside (suc k) F) (core.build (core.variable kept)) ∷ strategy_at (inside (suc k) F) s ∷ [])
call_after_at F zero items s some = absurd (some refl)
call_after_at F (suc k) items s some =
    keeping_at F (suc k) (items ++ core.build (core.variable kept) ∷ s ∷ []) ∙
    ap (λ l. keeping_here (suc k) l)
    (items_append (inside (suc (suc k)) F) items (core.build (core.variable kept) ∷ s ∷ []))
