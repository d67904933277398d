-- A program over coordinates that is resolved from one over names is in range.
use Rattle.std.proofs.Common.{◌≡◌, ℕ, suc, ◌<◌, Option, Some, None, List, length, refl, sym, ◌∙◌, arith, subst}
use Rattle.core_lang.specs.Named.{NamedStrategy, NamedStrategies, NamedDefinitions, Name, same_name, position_of, parameter_position, definition_position}
use Rattle.core_lang.specs.Resolved.{ResolvedStrategy, ResolvedStrategies, ResolvedDefinitions}
use Rattle.std.specs.Prelude.{Bool, true, false, ◌&&◌, ◌==◌, if◌then◌else◌}
use Rattle.std.specs.Option.{option_or, option_map}
use Rattle.std.specs.Cmp.{unsigned_Decides}
use Rattle.std.proofs.lemmas.Bool.{and_parts}
use Rattle.core_lang.specs.declared.coordinate.Coordinate.{Coordinate}
use Rattle.core_lang.specs.Program.{Pattern, Patterns, Elements, more_definitions, strategies_count, patterns_count}
use Rattle.core_lang.specs.Resolution.{Scopes, nowhere, names, defined, here, one_layer_up, variable_coordinate, callee_coordinate, ResolvesPattern, to_anything, to_variable, to_alias, to_integer, to_applied, to_list, to_like, to_annotated, ResolvesPatterns, to_no_patterns, to_more_patterns, ResolvesElements, to_no_elements, to_the_rest, to_more_elements, Resolves, to_id, to_fail, to_seq, to_choice, to_match, to_build, to_scope, to_all, to_one, to_some, to_definitions, to_call, to_primitive, ResolvesStrategies, to_no_strategies, to_more_strategies, ResolvesDefinitions, to_no_definitions, to_more_definitions, ResolvesProgram}
use Rattle.core_lang.specs.InRange.{Layers, no_layers, layer_of, layer_of_definitions, outside, IsDefinition, IsCallee, VariableInRange, PatternInRange, PatternsInRange, ElementsInRange, StrategyInRange, StrategiesInRange, DefinitionsInRange, InRange}
use Rattle.core_lang.proofs.LookupLaws.{position_below}

-- the layers of places of which these are the names
data LayersOf : Scopes → Layers → Type 0 where
  of_nowhere : LayersOf nowhere no_layers
  of_names : {m k : ℕ} {fs xs : List Name} {S : Scopes} {L : Layers} → m ≡ length fs → k ≡ length xs → LayersOf S L →
      LayersOf (names fs xs S) (layer_of m k L)
  of_defined : {ds : NamedDefinitions} {es : ResolvedDefinitions} {S : Scopes} {L : Layers} →
      ((f : Name) (m k i : ℕ) → definition_position ds f m k ≡ Some i → IsDefinition es i m k) → LayersOf S L →
      LayersOf (defined ds S) (layer_of_definitions es L)

-- what holds where a search ends
cons_there : (at : ℕ → Type 0) (b : Bool) (o : Option ℕ) (i : ℕ) → (b ≡ true → at 0) →
    ((j : ℕ) → o ≡ Some j → at (suc j)) →
    (if b then Some 0 else option_map (λ j. suc j) o) ≡ Some i → at i
cons_there at true o i first others e = let q : 0 ≡ i = cc in subst (λ j. at j) q (first refl)
cons_there at false None i first others e = absurd (cc)
cons_there at false (Some j) i first others e = let q : suc j ≡ i = cc in subst (λ k. at k) q (others j refl)

up_there : (at : Coordinate → Type 0) (p : Option Coordinate) (y : Coordinate) →
    ((z : Coordinate) → p ≡ Some z → at (one_layer_up z)) → option_map one_layer_up p ≡ Some y → at y
up_there at None y outer e = absurd (cc)
up_there at (Some z) y outer e = let q : one_layer_up z ≡ y = cc in subst (λ k. at k) q (outer z refl)

or_there : (at : Coordinate → Type 0) (o : Option ℕ) (p : Option Coordinate) (y : Coordinate) →
    ((i : ℕ) → o ≡ Some i → at (here i)) → ((z : Coordinate) → p ≡ Some z → at (one_layer_up z)) →
    option_or (option_map here o) (option_map one_layer_up p) ≡ Some y → at y
or_there at None p y inner outer e = up_there at p y outer e
or_there at (Some i) p y inner outer e = let q : here i ≡ y = cc in subst (λ k. at k) q (inner i refl)

definition_there : {S : Scopes} {ds : NamedDefinitions} {es : ResolvedDefinitions} → ResolvesDefinitions S ds es →
    (f : Name) (m k i : ℕ) →
    definition_position ds f m k ≡ Some i → IsDefinition es i m k
definition_there to_no_definitions f m k i e = absurd (cc)
definition_there (to_more_definitions {m = m'} {k = k'} {f = g} {y = y} {fs = fs} {xs = xs} {z = t} {ds = ds} {es =
    es} hm hk r rs) f m k i e =
    cons_there (λ j. IsDefinition (more_definitions y m' k' t es) j m k) (same_name f g &&
    ((m == length fs) && (k == length xs))) (definition_position ds f m k) i
    (λ h. let lengths = and_parts _ _ (and_parts _ _ h).1 in
    ((unsigned_Decides m (length fs)).0 lengths.0 ∙ sym hm, (unsigned_Decides k (length xs)).0 lengths.1 ∙ sym hk))
    (λ j h. definition_there rs f m k j h) e

parameter_there : (fs : List Name) (f : Name) (m k l i : ℕ) (b : Bool) → l ≡ length fs → ((m == 0) && (k == 0)) ≡ b →
    (if b then position_of f fs else None) ≡ Some i →
    (i < l) × (m ≡ 0) × (k ≡ 0)
parameter_there fs f m k l i true is h e =
    let zeros = and_parts _ _ h in
    let below = position_below f fs i e in
    (omega arith, (unsigned_Decides m 0).0 zeros.0, (unsigned_Decides k 0).0 zeros.1)
parameter_there fs f m k l i false is h e = absurd (cc)

variable_there : {S : Scopes} {L : Layers} → LayersOf S L → (x : Name) (y : Coordinate) →
    variable_coordinate S x ≡ Some y → VariableInRange L y
variable_there of_nowhere x y e = absurd (cc)
variable_there (of_names {m = m} {k = k} {xs = xs} {S = S} {L = L} hm hk l) x y e =
    or_there (λ z. VariableInRange (layer_of m k L) z) (position_of x xs) (variable_coordinate S x)
    y (λ i h. let below = position_below x xs i h in omega arith) (λ z h. variable_there l x z h) e
variable_there (of_defined {es = es} {S = S} {L = L} found l) x y e =
    up_there (λ z. VariableInRange (layer_of_definitions es L) z) (variable_coordinate S x)
    y (λ z h. variable_there l x z h) e

callee_there : {S : Scopes} {L : Layers} → LayersOf S L → (f : Name) (m k : ℕ) (y : Coordinate) →
    callee_coordinate S f m k ≡ Some y → IsCallee (outside L y.layers_up) y.slot m k
callee_there of_nowhere f m k y e = absurd (cc)
callee_there (of_names {m = m'} {k = k'} {fs = fs} {S = S} {L = L} hm hk l) f m k y e =
    or_there (λ z. IsCallee (outside (layer_of m' k' L) z.layers_up) z.slot m k) (parameter_position fs f m k)
    (callee_coordinate S f m k) y
    (λ i h. parameter_there fs f m k m' i _ hm refl h) (λ z h. callee_there l f m k z h) e
callee_there (of_defined {ds = ds} {es = es} {S = S} {L = L} found l) f m k y e =
    or_there (λ z. IsCallee (outside (layer_of_definitions es L) z.layers_up) z.slot m k) (definition_position ds f m k)
    (callee_coordinate S f m k) y
    (λ i h. found f m k i h) (λ z h. callee_there l f m k z h) e

module _ {S : Scopes} {L : Layers} (l : LayersOf S L) where
  mutual
    pattern_there : {p : Pattern Name} {q : Pattern Coordinate} → ResolvesPattern S p q → PatternInRange L q
    pattern_there to_anything = tt
    pattern_there (to_variable {x = x} {y = y} is) = variable_there l x y is
    pattern_there (to_alias {x = x} {y = y} is r) = (variable_there l x y is, pattern_there r)
    pattern_there to_integer = tt
    pattern_there (to_applied rs) = patterns_there rs
    pattern_there (to_list rs) = elements_there rs
    pattern_there (to_like {x = x} {y = y} r is) = (pattern_there r, variable_there l x y is)
    pattern_there (to_annotated r rs) = (pattern_there r, patterns_there rs)

    patterns_there : {ps : Patterns Name} {qs : Patterns Coordinate} → ResolvesPatterns S ps qs → PatternsInRange L qs
    patterns_there to_no_patterns = tt
    patterns_there (to_more_patterns r rs) = (pattern_there r, patterns_there rs)

    elements_there : {ps : Elements Name} {qs : Elements Coordinate} → ResolvesElements S ps qs → ElementsInRange L qs
    elements_there to_no_elements = tt
    elements_there (to_the_rest r) = pattern_there r
    elements_there (to_more_elements r rs) = (pattern_there r, elements_there rs)

pub as_many_patterns : {S : Scopes} {ps : Patterns Name} {qs : Patterns Coordinate} → ResolvesPatterns S ps qs →
    patterns_count ps ≡ patterns_count qs
as_many_patterns to_no_patterns = refl
as_many_patterns (to_more_patterns r rs) = let q = as_many_patterns rs in omega arith

as_many_strategies : {S : Scopes} {ss : NamedStrategies} {ts : ResolvedStrategies} → ResolvesStrategies S ss ts →
    strategies_count ss ≡ strategies_count ts
as_many_strategies to_no_strategies = refl
as_many_strategies (to_more_strategies r rs) = let q = as_many_strategies rs in omega arith

mutual
  strategy_there : {S : Scopes} {L : Layers} {s : NamedStrategy} {z : ResolvedStrategy} → Resolves S s z →
      LayersOf S L → StrategyInRange L z
  strategy_there to_id l = tt
  strategy_there to_fail l = tt
  strategy_there (to_seq r1 r2) l = (strategy_there r1 l, strategy_there r2 l)
  strategy_there (to_choice r1 r2 r3) l = (strategy_there r1 l, strategy_there r2 l, strategy_there r3 l)
  strategy_there (to_match r) l = pattern_there l r
  strategy_there (to_build r) l = pattern_there l r
  strategy_there (to_scope h r) l = strategy_there r (of_names refl h l)
  strategy_there (to_all r) l = strategy_there r l
  strategy_there (to_one r) l = strategy_there r l
  strategy_there (to_some r) l = strategy_there r l
  strategy_there (to_definitions rs r) l =
      let inner = of_defined (definition_there rs) l in
      (definitions_there rs inner, strategy_there r inner)
  strategy_there {L = L} (to_call {f = f} {y = y} {ss = ss} {zs = ts} {ps = ps} {qs = qs} is rs vs) l = (
    subst (λ m. IsCallee (outside L y.layers_up) y.slot m (patterns_count qs)) (as_many_strategies rs)
        (subst (λ k. IsCallee (outside L y.layers_up) y.slot (strategies_count ss) k) (as_many_patterns vs)
        (callee_there l f (strategies_count ss) (patterns_count ps) y is)),
    strategies_there rs l,
    patterns_there l vs,
  )
  strategy_there (to_primitive rs) l = patterns_there l rs

  strategies_there : {S : Scopes} {L : Layers} {ss : NamedStrategies} {ts : ResolvedStrategies} →
      ResolvesStrategies S ss ts → LayersOf S L → StrategiesInRange L ts
  strategies_there to_no_strategies l = tt
  strategies_there (to_more_strategies r rs) l = (strategy_there r l, strategies_there rs l)

  definitions_there : {S : Scopes} {L : Layers} {ds : NamedDefinitions} {es : ResolvedDefinitions} →
      ResolvesDefinitions S ds es → LayersOf S L → DefinitionsInRange L es
  definitions_there to_no_definitions l = tt
  definitions_there (to_more_definitions hm hk r rs) l = (strategy_there r (of_names hm hk l), definitions_there rs l)

pub resolved_in_range : {P : NamedDefinitions} {main : Name} {C : ResolvedDefinitions} {i : ℕ} →
    ResolvesProgram P main C i → InRange C i
resolved_in_range {main = main} {i = i} r =
    let inner = of_defined (definition_there r.each) of_nowhere in
    record { each = definitions_there r.each inner; main = callee_there inner main 0 0 (here i) r.called }
