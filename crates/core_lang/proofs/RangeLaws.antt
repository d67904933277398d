-- The range of chains and of lists, and what a test of each says of all.
use Rattle.std.proofs.Common.{◌≡◌, ℕ, zero, suc, ◌<◌, ◌≤◌, List, [], ◌∷◌, length, map, get_or, Option, Some, None, refl, ◌+◌, sym, ◌∙◌, ap, arith, subst, Vec, Box, Global}
use Rattle.std.specs.Prelude.{Bool, true, false, ◌↔◌, IsTrue}
use Rattle.std.specs.Borrow.{Bor}
use Rattle.core_lang.specs.declared.program.CoreDef.{CoreDef}
use Rattle.core_lang.specs.declared.program.CoreStrategy.{CoreStrategy}
use Rattle.core_lang.specs.declared.program.CoreArm.{CoreArm}
use Rattle.core_lang.specs.declared.program.CorePattern.TheVariants as patterns
use Rattle.core_lang.specs.declared.program.CoreStrategy.TheVariants as strategies
use Rattle.core_lang.specs.declared.range.Layers.TheVariants as code
use Rattle.core_lang.specs.declared.range.Layers.TheOpen as forms
use Rattle.core_lang.specs.declared.range.Layers as declared
use Rattle.core_lang.specs.declared.range.Layers.TheFolds.{fold-roll-Layers}
use Rattle.core_lang.specs.InRange.{Layers, layer_of, layer_of_definitions, no_layers, outside, IsDefinition, IsCallee, StrategyInRange, StrategiesInRange, PatternInRange, PatternsInRange, ElementsInRange}
use Rattle.core_lang.specs.RangeOfCode.{layers_step, layers_of, ArmInRange, ArmsInRange}
use Rattle.core_lang.specs.Resolved.{ResolvedStrategy}
use Rattle.core_lang.specs.declared.coordinate.Coordinate.{Coordinate}
use Rattle.core_lang.specs.declared.program.CorePattern.{CorePattern}
use Rattle.core_lang.specs.Program.{Pattern, list, call, strategies_count, patterns_count}
use Rattle.core_lang.specs.Views.{pattern_of, patterns_of, elements_in, rest_of, Arm, chain, first_of, strategy_of, strategies_in, strategies_of, arm_of, def_of, definitions_of}
use Rattle.core_lang.proofs.ReadLaws.{reads_list, reads_sequence, reads_choice}

pub chain_range : (L : Layers) (s : ResolvedStrategy) (ss : List ResolvedStrategy) →
    StrategyInRange L (chain s ss) ↔ (StrategyInRange L s × StrategiesInRange L (strategies_in ss))
chain_range L s [] = (λ h. (h, tt), λ h. h.0)
chain_range L s (r ∷ rs) = let others = chain_range L r rs in (λ h. (h.0, others.0 h.1), λ h. (h.0, others.1 h.1))

pub choice_range : (L : Layers) (arms : List Arm) (s : ResolvedStrategy) →
    StrategyInRange L (first_of arms s) ↔ (ArmsInRange L arms × StrategyInRange L s)
choice_range L [] s = (λ h. (tt, h), λ h. h.1)
choice_range L (a ∷ arms) s = let others = choice_range L arms s in
    (λ h. (((h.0, h.1), (others.0 h.2).0), (others.0 h.2).1), λ h. (h.0.0.0, h.0.0.1, others.1 (h.0.1, h.1)))

-- a layer more
pub reads_layer : (m k : ℕ) (up : Bor declared.Layers) → layers_of (code.Layer m k up) ≡ layer_of m k (layers_of up.now)
reads_layer m k up = ap layers_of (sym (code.rolls-Layer m k up)) ∙
    fold-roll-Layers Layers layers_step (forms.Layer m k up)

pub reads_outermost : layers_of code.Outermost ≡ no_layers
reads_outermost = ap layers_of (sym code.rolls-Outermost) ∙ fold-roll-Layers Layers layers_step forms.Outermost

pub reads_definitions : (ds : Bor (List CoreDef)) (up : Bor declared.Layers) →
    layers_of (code.Definitions ds up) ≡ layer_of_definitions (definitions_of ds.now) (layers_of up.now)
reads_definitions ds up = ap layers_of (sym (code.rolls-Definitions ds up)) ∙
    fold-roll-Layers Layers layers_step (forms.Definitions ds up)

-- a sequence, and a choice, of the code
pub sequence_range : (L : Layers) (s : CoreStrategy) (a b : Box CoreStrategy Global) (rest : Vec CoreStrategy Global) →
    s ≡ strategies.Sequence a b rest →
    StrategyInRange L (strategy_of s) ↔ (StrategyInRange L (strategy_of a.value) ×
    (StrategyInRange L (strategy_of b.value) × StrategiesInRange L (strategies_of rest.items)))
sequence_range L s a b rest is =
    let others = chain_range L (strategy_of b.value) (map strategy_of rest.items) in
    subst (λ z. StrategyInRange L z ↔ (StrategyInRange L (strategy_of a.value) ×
    (StrategyInRange L (strategy_of b.value) × StrategiesInRange L (strategies_of rest.items))))
    (sym (ap strategy_of is ∙ reads_sequence a b rest))
    (λ h. (h.0, others.0 h.1), λ h. (h.0, others.1 h.1))

pub choices_range : (L : Layers) (s : CoreStrategy) (a : Box CoreArm Global) (arms : Vec CoreArm Global)
    (otherwise : Box CoreStrategy Global) → s ≡ strategies.Choice a arms otherwise →
    StrategyInRange L (strategy_of s) ↔ (ArmInRange L (arm_of a.value) ×
    (ArmsInRange L (map arm_of arms.items) × StrategyInRange L (strategy_of otherwise.value)))
choices_range L s a arms otherwise is =
    let others = choice_range L (map arm_of arms.items) (strategy_of otherwise.value) in
    subst (λ z. StrategyInRange L z ↔ (ArmInRange L (arm_of a.value) ×
    (ArmsInRange L (map arm_of arms.items) × StrategyInRange L (strategy_of otherwise.value))))
    (sym (ap strategy_of is ∙ reads_choice a arms otherwise))
    (λ h. ((h.0, h.1), others.0 h.2), λ h. (h.0.0, h.0.1, others.1 h.1))

-- tests in turn
pub first_out : {W A B : Type 0} (b : Bool) → (W ↔ (A × B)) → (IsTrue b ↔ A) → b ≡ false → IsTrue false ↔ W
first_out b w h e = (λ k. absurd (cc), λ k. let test : b ≡ true = h.1 (w.0 k).0 in absurd (cc))

pub first_in : {W A B : Type 0} (b : Bool) → (W ↔ (A × B)) → (IsTrue b ↔ A) → b ≡ true → W ↔ B
first_in b w h e = (λ k. (w.0 k).1, λ k. w.1 (h.0 e, k))

pub along : {W A : Type 0} (b : Bool) → (W ↔ A) → (IsTrue b ↔ A) → IsTrue b ↔ W
along b w h = (λ k. w.1 (h.0 k), λ k. h.1 (w.0 k))

-- the definition at a position decides
pub no_definition : (ds : List CoreDef) (n m k : ℕ) → length ds ≤ n →
    IsTrue false ↔ IsDefinition (definitions_of ds) n m k
no_definition ds n m k h = (λ x. absurd (cc), λ x. absurd (past ds n h x))
  where
    past : (ds : List CoreDef) (n : ℕ) → length ds ≤ n → IsDefinition (definitions_of ds) n m k → ⊥
    past [] n h x = x
    past (d ∷ ds) zero h x = absurd (omega arith)
    past (d ∷ ds) (suc n) h x = past ds n (omega arith) x

pub definition_there : (ds : List CoreDef) (n m k : ℕ) (d : CoreDef) (b : Bool) → n < length ds → d ≡ get_or ds n d →
    (IsTrue b ↔ ((m ≡ (def_of d).strats) × (k ≡ (def_of d).terms))) →
    IsTrue b ↔ IsDefinition (definitions_of ds) n m k
definition_there [] n m k d b h is test = absurd (omega arith)
definition_there (e ∷ ds) zero m k d b h is test =
    subst (λ z. IsTrue b ↔ ((m ≡ (def_of z).strats) × (k ≡ (def_of z).terms))) is test
definition_there (e ∷ ds) (suc n) m k d b h is test = definition_there ds n m k d b (omega arith) is test

-- as many as the list has
pub counted_strategies : (ss : List CoreStrategy) → strategies_count (strategies_of ss) ≡ length ss
counted_strategies [] = refl
counted_strategies (s ∷ ss) = ap (λ n. 1 + n) (counted_strategies ss) ∙ omega arith

pub counted_patterns : (ps : List CorePattern) → patterns_count (patterns_of ps) ≡ length ps
counted_patterns [] = refl
counted_patterns (p ∷ ps) = ap (λ n. 1 + n) (counted_patterns ps) ∙ omega arith

-- a call's callee, by the number of its arguments
pub call_range : (L : Layers) (x : Coordinate) (ss : List CoreStrategy) (ps : List CorePattern) (m k : ℕ) →
    m ≡ length ss → k ≡ length ps →
    StrategyInRange L (call x (strategies_of ss) (patterns_of ps)) ↔ (IsCallee (outside L x.layers_up) x.slot m k ×
    (StrategiesInRange L (strategies_of ss) × PatternsInRange L (patterns_of ps)))
call_range L x ss ps m k hm hk =
    let as_many : strategies_count (strategies_of ss) ≡ m = counted_strategies ss ∙ sym hm in
    let terms : patterns_count (patterns_of ps) ≡ k = counted_patterns ps ∙ sym hk in (
      λ h. (
        subst (λ n. IsCallee (outside L x.layers_up) x.slot m n)
            terms (subst (λ n. IsCallee (outside L x.layers_up) x.slot n (patterns_count (patterns_of ps))) as_many h.0),
        (h.1, h.2),
      ),
      λ h. (
        subst (λ n. IsCallee (outside L x.layers_up) x.slot (strategies_count (strategies_of ss)) n) (sym terms)
            (subst (λ n. IsCallee (outside L x.layers_up) x.slot n k) (sym as_many) h.0),
        h.1.0,
        h.1.1,
      ),
    )

-- the elements of a list, and those and the rest
pub elements_range : (L : Layers) (ps : List CorePattern) →
    ElementsInRange L (elements_in (map pattern_of ps) None) ↔ PatternsInRange L (patterns_of ps)
elements_range L [] = (λ h. h, λ h. h)
elements_range L (p ∷ ps) = let others = elements_range L ps in (λ h. (h.0, others.0 h.1), λ h. (h.0, others.1 h.1))

pub rest_range : (L : Layers) (ps : List CorePattern) (r : Pattern Coordinate) →
    ElementsInRange L (elements_in (map pattern_of ps) (Some r)) ↔ (PatternsInRange L (patterns_of ps) ×
    PatternInRange L r)
rest_range L [] r = (λ h. (tt, h), λ h. h.1)
rest_range L (p ∷ ps) r = let others = rest_range L ps r in
    (λ h. ((h.0, (others.0 h.1).0), (others.0 h.1).1), λ h. (h.0.0, others.1 (h.0.1, h.1)))

-- the range of the rest of a list, if there is one
abbrev pub RestInRange : Layers → Option (Pattern Coordinate) → Type 0
RestInRange L None = Unit {0}
RestInRange L (Some r) = PatternInRange L r

pub list_range : (L : Layers) (p : CorePattern) (ps : Vec CorePattern Global) (o : Option (Box CorePattern Global)) →
    p ≡ patterns.List ps o →
    PatternInRange L (pattern_of p) ↔ (PatternsInRange L (patterns_of ps.items) × RestInRange L (rest_of o))
list_range L p ps o is =
    subst (λ z. PatternInRange L z ↔ (PatternsInRange L (patterns_of ps.items) × RestInRange L (rest_of o)))
    (sym (ap pattern_of is ∙ reads_list ps o)) (by_rest o)
  where
    by_rest : (o : Option (Box CorePattern Global)) →
        PatternInRange L (list (elements_in (map pattern_of ps.items) (rest_of o)))
        ↔ (PatternsInRange L (patterns_of ps.items) × RestInRange L (rest_of o))
    by_rest None = let others = elements_range L ps.items in (λ h. (others.0 h, tt), λ h. others.1 h.0)
    by_rest (Some r) = rest_range L ps.items (pattern_of r.value)

pub no_rest_range : (L : Layers) (o : Option (Box CorePattern Global)) → o ≡ None →
    IsTrue true ↔ RestInRange L (rest_of o)
no_rest_range L o e = subst (λ z. IsTrue true ↔ RestInRange L (rest_of z)) (sym e) (λ h. tt, λ h. refl)

pub a_rest_range : (L : Layers) (o : Option (Box CorePattern Global)) (r : Box CorePattern Global) (b : Bool) →
    o ≡ Some r → (IsTrue b ↔ PatternInRange L (pattern_of r.value)) → IsTrue b ↔ RestInRange L (rest_of o)
a_rest_range L o r b e h = subst (λ z. IsTrue b ↔ RestInRange L (rest_of z)) (sym e) h
