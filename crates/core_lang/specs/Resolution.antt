-- The headline does not rest on this file.
-- What it is for a program over coordinates to be a program over names with each identifier resolved.
use Rattle.std.specs.Prelude.{◌≡◌, ℕ, suc, ℤ, Option, Some, None, List, [], length}
use Rattle.std.specs.Option.{option_or, option_map}
use Rattle.term_model.specs.Symbol.{Symbol}
use Rattle.core_lang.specs.Program.{Pattern, anything, variable, alias, integer, applied, list, like, annotated, Patterns, no_patterns, more_patterns, Elements, no_elements, the_rest, more_elements, id, fail, seq, choice, match, build, scope, all, one, some, with_definitions, call, primitive, no_strategies, more_strategies, no_definitions, more_definitions, strategies_count, patterns_count}
use Rattle.core_lang.specs.declared.coordinate.Coordinate.{Coordinate}
use Rattle.core_lang.specs.Named.{NamedStrategy, NamedStrategies, NamedDefinitions, Name, position_of, parameter_position, definition_position}
use Rattle.core_lang.specs.Resolved.{ResolvedStrategy, ResolvedStrategies, ResolvedDefinitions}
pub use Rattle.core_lang.specs.Resolved.{here}

-- the layers that a part of a program over names stands in, innermost first
pub data Scopes : Type 0 where
  nowhere : Scopes
  names : (parameters variables : List Name) → Scopes → Scopes
  defined : NamedDefinitions → Scopes → Scopes

-- the same coordinate, seen from one layer further in
abbrev pub one_layer_up : Coordinate → Coordinate
one_layer_up p = record { layers_up = suc p.layers_up; slot = p.slot }

-- a variable's coordinate, by the innermost layer that has it
abbrev pub variable_coordinate : Scopes → Name → Option Coordinate
variable_coordinate nowhere x = None
variable_coordinate (names fs xs S) x =
    option_or (option_map here (position_of x xs)) (option_map one_layer_up (variable_coordinate S x))
variable_coordinate (defined ds S) x = option_map one_layer_up (variable_coordinate S x)

-- the coordinate of what a call with m strategies and k terms is of, by the innermost layer that has it
abbrev pub callee_coordinate : Scopes → Name → ℕ → ℕ → Option Coordinate
callee_coordinate nowhere f m k = None
callee_coordinate (names fs xs S) f m k =
    option_or (option_map here (parameter_position fs f m k)) (option_map one_layer_up (callee_coordinate S f m k))
callee_coordinate (defined ds S) f m k =
    option_or (option_map here (definition_position ds f m k)) (option_map one_layer_up (callee_coordinate S f m k))

-- the same form over coordinates, each variable by its coordinate
mutual
  pub data ResolvesPattern (S : Scopes) : Pattern Name → Pattern Coordinate → Type 0 where
    to_anything : ResolvesPattern S anything anything
    to_variable : {x : Name} {y : Coordinate} → variable_coordinate S x ≡ Some y →
        ResolvesPattern S (variable x) (variable y)
    to_alias : {x : Name} {y : Coordinate} {p : Pattern Name} {q : Pattern Coordinate} →
        variable_coordinate S x ≡ Some y → ResolvesPattern S p q → ResolvesPattern S (alias x p) (alias y q)
    to_integer : {z : ℤ} → ResolvesPattern S (integer z) (integer z)
    to_applied : {f : Symbol} {ps : Patterns Name} {qs : Patterns Coordinate} → ResolvesPatterns S ps qs →
        ResolvesPattern S (applied f ps) (applied f qs)
    to_list : {ps : Elements Name} {qs : Elements Coordinate} → ResolvesElements S ps qs →
        ResolvesPattern S (list ps) (list qs)
    to_like : {p : Pattern Name} {q : Pattern Coordinate} {x : Name} {y : Coordinate} → ResolvesPattern S p q →
        variable_coordinate S x ≡ Some y → ResolvesPattern S (like p x) (like q y)
    to_annotated : {p : Pattern Name} {q : Pattern Coordinate} {ps : Patterns Name} {qs : Patterns Coordinate} →
        ResolvesPattern S p q → ResolvesPatterns S ps qs → ResolvesPattern S (annotated p ps) (annotated q qs)

  pub data ResolvesPatterns (S : Scopes) : Patterns Name → Patterns Coordinate → Type 0 where
    to_no_patterns : ResolvesPatterns S no_patterns no_patterns
    to_more_patterns : {p : Pattern Name} {q : Pattern Coordinate} {ps : Patterns Name} {qs : Patterns Coordinate} →
        ResolvesPattern S p q → ResolvesPatterns S ps qs → ResolvesPatterns S (more_patterns p ps) (more_patterns q qs)

  pub data ResolvesElements (S : Scopes) : Elements Name → Elements Coordinate → Type 0 where
    to_no_elements : ResolvesElements S no_elements no_elements
    to_the_rest : {p : Pattern Name} {q : Pattern Coordinate} → ResolvesPattern S p q →
        ResolvesElements S (the_rest p) (the_rest q)
    to_more_elements : {p : Pattern Name} {q : Pattern Coordinate} {ps : Elements Name} {qs : Elements Coordinate} →
        ResolvesPattern S p q → ResolvesElements S ps qs → ResolvesElements S (more_elements p ps) (more_elements q qs)

-- the same form over coordinates, each call by its coordinate and each binder by its number of names
mutual
  pub data Resolves : Scopes → NamedStrategy → ResolvedStrategy → Type 0 where
    to_id : {S : Scopes} → Resolves S id id
    to_fail : {S : Scopes} → Resolves S fail fail
    to_seq : {S : Scopes} {s1 s2 : NamedStrategy} {z1 z2 : ResolvedStrategy} → Resolves S s1 z1 → Resolves S s2 z2 →
        Resolves S (seq s1 s2) (seq z1 z2)
    to_choice : {S : Scopes} {s1 s2 s3 : NamedStrategy} {z1 z2 z3 : ResolvedStrategy} →
        Resolves S s1 z1 → Resolves S s2 z2 → Resolves S s3 z3 → Resolves S (choice s1 s2 s3) (choice z1 z2 z3)
    to_match : {S : Scopes} {p : Pattern Name} {q : Pattern Coordinate} → ResolvesPattern S p q →
        Resolves S (match p) (match q)
    to_build : {S : Scopes} {p : Pattern Name} {q : Pattern Coordinate} → ResolvesPattern S p q →
        Resolves S (build p) (build q)
    to_scope : {S : Scopes} {xs : List Name} {k : ℕ} {s : NamedStrategy} {z : ResolvedStrategy} →
        k ≡ length xs → Resolves (names [] xs S) s z → Resolves S (scope xs s) (scope k z)
    to_all : {S : Scopes} {s : NamedStrategy} {z : ResolvedStrategy} → Resolves S s z → Resolves S (all s) (all z)
    to_one : {S : Scopes} {s : NamedStrategy} {z : ResolvedStrategy} → Resolves S s z → Resolves S (one s) (one z)
    to_some : {S : Scopes} {s : NamedStrategy} {z : ResolvedStrategy} → Resolves S s z → Resolves S (some s) (some z)
    to_definitions : {S : Scopes} {ds : NamedDefinitions} {es : ResolvedDefinitions} {s : NamedStrategy}
        {z : ResolvedStrategy} →
        ResolvesDefinitions (defined ds S) ds es → Resolves (defined ds S) s z →
        Resolves S (with_definitions ds s) (with_definitions es z)
    to_call : {S : Scopes} {f : Name} {y : Coordinate} {ss : NamedStrategies} {zs : ResolvedStrategies}
        {ps : Patterns Name} {qs : Patterns Coordinate} →
        callee_coordinate S f (strategies_count ss) (patterns_count ps) ≡ Some y → ResolvesStrategies S ss zs →
        ResolvesPatterns S ps qs →
        Resolves S (call f ss ps) (call y zs qs)
    to_primitive : {S : Scopes} {f : List ℕ} {ps : Patterns Name} {qs : Patterns Coordinate} →
        ResolvesPatterns S ps qs → Resolves S (primitive f ps) (primitive f qs)

  pub data ResolvesStrategies : Scopes → NamedStrategies → ResolvedStrategies → Type 0 where
    to_no_strategies : {S : Scopes} → ResolvesStrategies S no_strategies no_strategies
    to_more_strategies : {S : Scopes} {s : NamedStrategy} {z : ResolvedStrategy} {ss : NamedStrategies}
        {zs : ResolvedStrategies} →
        Resolves S s z → ResolvesStrategies S ss zs → ResolvesStrategies S (more_strategies s ss) (more_strategies z zs)

  -- a definition over coordinates is called by its position, so it has no name of its own: any coordinate may stand
  -- there
  pub data ResolvesDefinitions : Scopes → NamedDefinitions → ResolvedDefinitions → Type 0 where
    to_no_definitions : {S : Scopes} → ResolvesDefinitions S no_definitions no_definitions
    to_more_definitions : {S : Scopes} {m k : ℕ} {f : Name} {y : Coordinate} {fs xs : List Name} {s : NamedStrategy}
        {z : ResolvedStrategy} {ds : NamedDefinitions} {es : ResolvedDefinitions} →
        m ≡ length fs → k ≡ length xs → Resolves (names fs xs S) s z → ResolvesDefinitions S ds es →
        ResolvesDefinitions S (more_definitions f fs xs s ds) (more_definitions y m k z es)

-- the program over coordinates C is the program over names P: its definitions are P's, in their own layer alone, and
-- what is called by main's name, without arguments, is the ith
pub record ResolvesProgram (P : NamedDefinitions) (main : Name) (C : ResolvedDefinitions) (i : ℕ) : Type 0 where
  pub each : ResolvesDefinitions (defined P nowhere) P C
  pub called : callee_coordinate (defined P nowhere) main 0 0 ≡ Some (here i)
