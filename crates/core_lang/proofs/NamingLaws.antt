-- A program over coordinates that is in range is resolved from its program over names.
use Rattle.std.proofs.Common.{◌≡◌, ℕ, zero, suc, ◌+◌, ◌<◌, Option, Some, None, List, length, refl, sym, ◌∙◌, ap, ap₂, arith, subst}
use Rattle.core_lang.specs.Named.{NamedDefinitions, Name, written, brought, same_name, position_of, parameter_position, definition_position}
use Rattle.core_lang.specs.Resolved.{ResolvedStrategy, ResolvedStrategies, ResolvedDefinitions}
use Rattle.std.specs.Prelude.{Bool, true, false, ◌&&◌, ◌==◌, if◌then◌else◌}
use Rattle.std.specs.Option.{option_or, option_map}
use Rattle.std.specs.Cmp.{unsigned_Decides}
use Rattle.std.proofs.lemmas.Bool.Decides.{nat_tests}
use Rattle.std.proofs.lemmas.Slice.Eq.{bytes_eq-Decides}
use Rattle.std.proofs.lemmas.Bool.{and_from, and_left}
use Rattle.core_lang.specs.declared.coordinate.Coordinate.{Coordinate}
use Rattle.core_lang.specs.Program.{Pattern, anything, variable, alias, integer, applied, list, like, annotated, Patterns, no_patterns, more_patterns, Elements, no_elements, the_rest, more_elements, id, fail, seq, choice, match, build, scope, all, one, some, with_definitions, call, primitive, no_strategies, more_strategies, no_definitions, more_definitions, strategies_count, patterns_count}
use Rattle.core_lang.specs.Resolution.{here, one_layer_up, variable_coordinate, callee_coordinate, ResolvesPattern, to_anything, to_variable, to_alias, to_integer, to_applied, to_list, to_like, to_annotated, ResolvesPatterns, to_no_patterns, to_more_patterns, ResolvesElements, to_no_elements, to_the_rest, to_more_elements, Resolves, to_id, to_fail, to_seq, to_choice, to_match, to_build, to_scope, to_all, to_one, to_some, to_definitions, to_call, to_primitive, ResolvesStrategies, to_no_strategies, to_more_strategies, ResolvesDefinitions, to_no_definitions, to_more_definitions, ResolvesProgram}
use Rattle.core_lang.specs.InRange.{Layers, no_layers, layer_of, layer_of_definitions, outside, IsVariable, IsDefinition, IsCallee, PatternInRange, PatternsInRange, ElementsInRange, StrategyInRange, StrategiesInRange, DefinitionsInRange, InRange}
use Rattle.core_lang.proofs.Naming.{definitions_count, free, names_from, name_of, pattern_named, patterns_named, elements_named, strategy_named, strategies_named, definitions_named, scopes_named}

-- numbers below the first free one
definition_below : (ds : ResolvedDefinitions) (i m k : ℕ) → IsDefinition ds i m k → i < definitions_count ds
definition_below no_definitions i m k h = absurd h
definition_below (more_definitions y m' k' s ds) zero m k h = omega arith
definition_below (more_definitions y m' k' s ds) (suc i) m k h = let l = definition_below ds i m k h in omega arith

variable_below : (L : Layers) (h i : ℕ) → IsVariable (outside L h) i → free (outside L (suc h)) + i < free L
variable_below no_layers zero i v = absurd v
variable_below no_layers (suc h) i v = absurd v
variable_below (layer_of m k L) zero i v = omega arith
variable_below (layer_of m k L) (suc h) i v = let l = variable_below L h i v in omega arith
variable_below (layer_of_definitions ds L) zero i v = absurd v
variable_below (layer_of_definitions ds L) (suc h) i v = let l = variable_below L h i v in omega arith

callee_below : (L : Layers) (h i m k : ℕ) → IsCallee (outside L h) i m k → free (outside L (suc h)) + i < free L
callee_below no_layers zero i m k v = absurd v
callee_below no_layers (suc h) i m k v = absurd v
callee_below (layer_of m' k' L) zero i m k v = let l = v.0 in omega arith
callee_below (layer_of m' k' L) (suc h) i m k v = let l = callee_below L h i m k v in omega arith
callee_below (layer_of_definitions ds L) zero i m k v = let l = definition_below ds i m k v in omega arith
callee_below (layer_of_definitions ds L) (suc h) i m k v = let l = callee_below L h i m k v in omega arith

equal_test : (a b : ℕ) → a ≡ b → (a == b) ≡ true
equal_test a b h = (unsigned_Decides a b).1 h

greater_test : (a b : ℕ) → b < a → (a == b) ≡ false
greater_test a b h = grind (arith, nat_tests)

lesser_test : (a b : ℕ) → a < b → (a == b) ≡ false
lesser_test a b h = grind (arith, nat_tests)

none_anyway : (b : Bool) (o : Option ℕ) → o ≡ None → (if b then o else None) ≡ None
none_anyway true o h = h
none_anyway false o h = refl

-- each number has a name of its own
module _ (named : ℕ → Name) (own : (a b : ℕ) → same_name (named a) (named b) ≡ (a == b)) where
  length_from : (b k : ℕ) → length (names_from named b k) ≡ k
  length_from b zero = refl
  length_from b (suc k) = let l = length_from (suc b) k in omega arith

  position_from : (n b k i : ℕ) → n ≡ b + i → i < k → position_of (named n) (names_from named b k) ≡ Some i
  position_from n b zero i is l = absurd (omega arith)
  position_from n b (suc k) zero is l =
      ap (λ c. if c then Some 0
      else option_map (λ j. suc j) (position_of (named n) (names_from named (suc b) k))) (own n b ∙
      equal_test n b (omega arith))
  position_from n b (suc k) (suc i) is l =
      ap (λ c. if c then Some 0
      else option_map (λ j. suc j) (position_of (named n) (names_from named (suc b) k))) (own n b ∙
      greater_test n b (omega arith))
      ∙ ap (λ o. option_map (λ j. suc j) o) (position_from n (suc b) k i (omega arith) (omega arith))

  -- a smaller number is the number of none of them
  position_none : (n b k : ℕ) → n < b → position_of (named n) (names_from named b k) ≡ None
  position_none n b zero l = refl
  position_none n b (suc k) l =
      ap (λ c. if c then Some 0
      else option_map (λ j. suc j) (position_of (named n) (names_from named (suc b) k))) (own n b ∙
      lesser_test n b l)
      ∙ ap (λ o. option_map (λ j. suc j) o) (position_none n (suc b) k (omega arith))

  -- what a place leads to is found by its name
  variable_found : (L : Layers) (h i : ℕ) → IsVariable (outside L h) i →
      variable_coordinate (scopes_named named L) (named (free (outside L (suc h)) + i)) ≡
      Some (record { layers_up = h; slot = i })
  variable_found no_layers zero i v = absurd v
  variable_found no_layers (suc h) i v = absurd v
  variable_found (layer_of m k L) zero i v =
      ap (λ o. option_or (option_map here o)
      (option_map one_layer_up (variable_coordinate (scopes_named named L) (named (free L + i)))))
      (position_from (free L + i) (free L) k i refl v)
  variable_found (layer_of m k L) (suc h) i v =
      let n : ℕ = free (outside L (suc h)) + i in
      ap₂ (λ o p. option_or (option_map here o) (option_map one_layer_up p))
      (position_none n (free L) k (variable_below L h i v)) (variable_found L h i v)
  variable_found (layer_of_definitions ds L) zero i v = absurd v
  variable_found (layer_of_definitions ds L) (suc h) i v = ap (λ p. option_map one_layer_up p) (variable_found L h i v)

  parameter_from : (n b m' i m k : ℕ) → n ≡ b + i → i < m' → m ≡ 0 → k ≡ 0 →
      parameter_position (names_from named b m') (named n) m k ≡ Some i
  parameter_from n b m' i m k is l hm hk =
      ap (λ c. if c then position_of (named n) (names_from named b m')
      else None) (and_from _ _ (equal_test m 0 hm) (equal_test k 0 hk)) ∙ position_from n b m' i is l

  definition_from : (L : Layers) (ds : ResolvedDefinitions) (n b i m k : ℕ) → n ≡ b + i → IsDefinition ds i m k →
      definition_position (definitions_named named L b ds) (named n) m k ≡ Some i
  definition_from L no_definitions n b i m k is d = absurd d
  definition_from L (more_definitions y m' k' s ds) n b zero m k is d =
      ap (λ c. if c then Some 0
      else option_map (λ j. suc j) (definition_position (definitions_named named L (suc b) ds) (named n) m k))
      (and_from _ _ (own n b ∙ equal_test n b (omega arith))
      (and_from _ _ (equal_test m _ (d.0 ∙ sym (length_from (free L) m')))
      (equal_test k _ (d.1 ∙ sym (length_from (free L) k')))))
  definition_from L (more_definitions y m' k' s ds) n b (suc i) m k is d =
      ap (λ c. if c then Some 0
      else option_map (λ j. suc j) (definition_position (definitions_named named L (suc b) ds) (named n) m k))
      (and_left _ ((m == length (names_from named (free L) m')) &&
      (k == length (names_from named (free L) k'))) (own n b ∙ greater_test n b (omega arith)))
      ∙ ap (λ o. option_map (λ j. suc j) o) (definition_from L ds n (suc b) i m k (omega arith) d)

  definition_none : (L : Layers) (ds : ResolvedDefinitions) (n b m k : ℕ) → n < b →
      definition_position (definitions_named named L b ds) (named n) m k ≡ None
  definition_none L no_definitions n b m k l = refl
  definition_none L (more_definitions y m' k' s ds) n b m k l =
      ap (λ c. if c then Some 0
      else option_map (λ j. suc j) (definition_position (definitions_named named L (suc b) ds) (named n) m k))
      (and_left _ ((m == length (names_from named (free L) m')) &&
      (k == length (names_from named (free L) k'))) (own n b ∙ lesser_test n b l))
      ∙ ap (λ o. option_map (λ j. suc j) o) (definition_none L ds n (suc b) m k (omega arith))

  callee_found : (L : Layers) (h i m k : ℕ) → IsCallee (outside L h) i m k →
      callee_coordinate (scopes_named named L) (named (free (outside L (suc h)) + i)) m k ≡
      Some (record { layers_up = h; slot = i })
  callee_found no_layers zero i m k v = absurd v
  callee_found no_layers (suc h) i m k v = absurd v
  callee_found (layer_of m' k' L) zero i m k v =
      ap (λ o. option_or (option_map here o)
      (option_map one_layer_up (callee_coordinate (scopes_named named L) (named (free L + i)) m k)))
      (parameter_from (free L + i) (free L) m' i m k refl v.0 v.1 v.2)
  callee_found (layer_of m' k' L) (suc h) i m k v =
      let n : ℕ = free (outside L (suc h)) + i in
      ap₂ (λ o p. option_or (option_map here o) (option_map one_layer_up p))
      (none_anyway ((m == 0) && (k == 0)) _ (position_none n (free L) m' (callee_below L h i m k v)))
      (callee_found L h i m k v)
  callee_found (layer_of_definitions ds L) zero i m k v =
      ap (λ o. option_or (option_map here o)
      (option_map one_layer_up (callee_coordinate (scopes_named named L) (named (free L + i)) m k)))
      (definition_from (layer_of_definitions ds L) ds (free L + i) (free L) i m k refl v)
  callee_found (layer_of_definitions ds L) (suc h) i m k v =
      let n : ℕ = free (outside L (suc h)) + i in
      ap₂ (λ o p. option_or (option_map here o) (option_map one_layer_up p))
      (definition_none (layer_of_definitions ds L) ds n (free L) m k (callee_below L h i m k v))
      (callee_found L h i m k v)

  mutual
    pattern_resolved : (L : Layers) (p : Pattern Coordinate) → PatternInRange L p →
        ResolvesPattern (scopes_named named L) (pattern_named named L p) p
    pattern_resolved L anything r = to_anything
    pattern_resolved L (variable y) r = to_variable (variable_found L y.layers_up y.slot r)
    pattern_resolved L (alias y p) r = to_alias (variable_found L y.layers_up y.slot r.0) (pattern_resolved L p r.1)
    pattern_resolved L (integer z) r = to_integer
    pattern_resolved L (applied f ps) r = to_applied (patterns_resolved L ps r)
    pattern_resolved L (list ps) r = to_list (elements_resolved L ps r)
    pattern_resolved L (like p y) r = to_like (pattern_resolved L p r.0) (variable_found L y.layers_up y.slot r.1)
    pattern_resolved L (annotated p qs) r = to_annotated (pattern_resolved L p r.0) (patterns_resolved L qs r.1)

    patterns_resolved : (L : Layers) (ps : Patterns Coordinate) → PatternsInRange L ps →
        ResolvesPatterns (scopes_named named L) (patterns_named named L ps) ps
    patterns_resolved L no_patterns r = to_no_patterns
    patterns_resolved L (more_patterns p ps) r =
        to_more_patterns (pattern_resolved L p r.0) (patterns_resolved L ps r.1)

    elements_resolved : (L : Layers) (ps : Elements Coordinate) → ElementsInRange L ps →
        ResolvesElements (scopes_named named L) (elements_named named L ps) ps
    elements_resolved L no_elements r = to_no_elements
    elements_resolved L (the_rest p) r = to_the_rest (pattern_resolved L p r)
    elements_resolved L (more_elements p ps) r =
        to_more_elements (pattern_resolved L p r.0) (elements_resolved L ps r.1)

  as_many_patterns : (L : Layers) (ps : Patterns Coordinate) →
      patterns_count (patterns_named named L ps) ≡ patterns_count ps
  as_many_patterns L no_patterns = refl
  as_many_patterns L (more_patterns p ps) = ap (λ k. 1 + k) (as_many_patterns L ps)

  as_many_strategies : (L : Layers) (ss : ResolvedStrategies) →
      strategies_count (strategies_named named L ss) ≡ strategies_count ss
  as_many_strategies L no_strategies = refl
  as_many_strategies L (more_strategies s ss) = ap (λ m. 1 + m) (as_many_strategies L ss)

  mutual
    strategy_resolved : (L : Layers) (s : ResolvedStrategy) → StrategyInRange L s →
        Resolves (scopes_named named L) (strategy_named named L s) s
    strategy_resolved L id r = to_id
    strategy_resolved L fail r = to_fail
    strategy_resolved L (seq s1 s2) r = to_seq (strategy_resolved L s1 r.0) (strategy_resolved L s2 r.1)
    strategy_resolved L (choice s1 s2 s3) r =
        to_choice (strategy_resolved L s1 r.0) (strategy_resolved L s2 r.1) (strategy_resolved L s3 r.2)
    strategy_resolved L (match p) r = to_match (pattern_resolved L p r)
    strategy_resolved L (build p) r = to_build (pattern_resolved L p r)
    strategy_resolved L (scope k s) r = to_scope (sym (length_from (free L) k)) (strategy_resolved (layer_of 0 k L) s r)
    strategy_resolved L (all s) r = to_all (strategy_resolved L s r)
    strategy_resolved L (one s) r = to_one (strategy_resolved L s r)
    strategy_resolved L (some s) r = to_some (strategy_resolved L s r)
    strategy_resolved L (with_definitions ds s) r =
        to_definitions (definitions_resolved (layer_of_definitions ds L) (free L) ds r.0)
        (strategy_resolved (layer_of_definitions ds L) s r.1)
    strategy_resolved L (call y ss ps) r =
        to_call (ap₂ (λ m k. callee_coordinate (scopes_named named L) (name_of named L y) m k) (as_many_strategies L ss)
        (as_many_patterns L ps)
        ∙ callee_found L y.layers_up y.slot (strategies_count ss) (patterns_count ps) r.0)
        (strategies_resolved L ss r.1) (patterns_resolved L ps r.2)
    strategy_resolved L (primitive f ps) r = to_primitive (patterns_resolved L ps r)

    strategies_resolved : (L : Layers) (ss : ResolvedStrategies) → StrategiesInRange L ss →
        ResolvesStrategies (scopes_named named L) (strategies_named named L ss) ss
    strategies_resolved L no_strategies r = to_no_strategies
    strategies_resolved L (more_strategies s ss) r =
        to_more_strategies (strategy_resolved L s r.0) (strategies_resolved L ss r.1)

    definitions_resolved : (L : Layers) (b : ℕ) (ds : ResolvedDefinitions) → DefinitionsInRange L ds →
        ResolvesDefinitions (scopes_named named L) (definitions_named named L b ds) ds
    definitions_resolved L b no_definitions r = to_no_definitions
    definitions_resolved L b (more_definitions y m k s ds) r =
        to_more_definitions (sym (length_from (free L) m)) (sym (length_from (free L) k))
        (strategy_resolved (layer_of m k L) s r.0) (definitions_resolved L (suc b) ds r.1)

  program_resolved : (C : ResolvedDefinitions) (i : ℕ) → InRange C i →
      ResolvesProgram (definitions_named named (layer_of_definitions C no_layers) 0 C) (named i) C i
  program_resolved C i r =
      let L : Layers = layer_of_definitions C no_layers in
      let first : 0 + i ≡ i = omega arith in
      record {
        each = definitions_resolved L 0 C r.each;
        called = subst (λ n. callee_coordinate (scopes_named named L) (named n) 0 0 ≡ Some (here i))
            first (callee_found L 0 i 0 0 r.main);
      }

-- one number has the name that is given, all others have brought ones
abbrev but_for : List ℕ → ℕ → ℕ → Name
but_for main i n = if n == i then written main else brought n

own_tests : (main : List ℕ) (i a b : ℕ) (c d : Bool) → (a == i) ≡ c → (b == i) ≡ d →
    same_name (if c then written main else brought a) (if d then written main else brought b) ≡ (a == b)
own_tests main i a b true true h k =
    (bytes_eq-Decides main main).1 refl ∙
    sym (equal_test a b ((unsigned_Decides a i).0 h ∙ sym ((unsigned_Decides b i).0 k)))
own_tests main i a b true false h k = let is = (unsigned_Decides a i).0 h in grind (arith, nat_tests)
own_tests main i a b false true h k = let is = (unsigned_Decides b i).0 k in grind (arith, nat_tests)
own_tests main i a b false false h k = refl

named_apart : (main : List ℕ) (i a b : ℕ) → same_name (but_for main i a) (but_for main i b) ≡ (a == b)
named_apart main i a b = own_tests main i a b _ _ refl refl

main_named : (main : List ℕ) (i : ℕ) → but_for main i i ≡ written main
main_named main i = ap (λ c. if c then written main else brought i) (equal_test i i refl)

-- whatever main's name is to be, some program over names has it
pub in_range_resolved : (C : ResolvedDefinitions) (i : ℕ) (main : List ℕ) → InRange C i → (P : NamedDefinitions) ×
    ResolvesProgram P (written main) C i
in_range_resolved C i main r =
    let P : NamedDefinitions = definitions_named (but_for main i) (layer_of_definitions C no_layers) 0 C in (
      P,
      subst (λ x. ResolvesProgram P x C i) (main_named main i)
          (program_resolved (but_for main i) (named_apart main i) C i r),
    )
