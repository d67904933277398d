-- Which variables and calls are found in the layers around a part of a program, at the coordinates that these layers
-- give.
use Rattle.std.proofs.Common.{◌≡◌, ℕ, suc, Option, Some, None, List, length, refl, sym, ◌∙◌, ap}
use Rattle.std.specs.Prelude.{◌&&◌, ◌==◌, if◌then◌else◌}
use Rattle.std.specs.Option.{option_or, option_map}
use Rattle.core_lang.specs.declared.coordinate.Coordinate.{Coordinate}
use Rattle.core_lang.specs.Named.{NamedDefinitions, Name, same_name, position_of, parameter_position, definition_position}
use Rattle.core_lang.specs.Program.{no_definitions, more_definitions}
use Rattle.core_lang.specs.Resolution.{Scopes, names, defined, here, one_layer_up, variable_coordinate, callee_coordinate}
use Rattle.str_desugar.specs.Frames.{frames_of, keys_of, key_position, here_or_up, variable_at, callee_at}

-- a variable of these layers
abbrev pub IsBound : Scopes → Name → Type 0
IsBound S x = variable_coordinate S x ≡ Some (variable_at (frames_of S) x)

-- what these layers have is called so with m strategies and k terms
abbrev pub IsCallable : Scopes → Name → ℕ → ℕ → Type 0
IsCallable S f m k = callee_coordinate S f m k ≡ Some (callee_at (frames_of S) f m k)

found_or_up : (o : Option ℕ) (p : Option Coordinate) (y : Coordinate) → (o ≡ None → p ≡ Some y) →
    option_or (option_map here o) (option_map one_layer_up p) ≡ Some (here_or_up o y)
found_or_up None p y outer = ap (λ q. option_map one_layer_up q) (outer refl)
found_or_up (Some i) p y outer = refl

-- the layer of a scope or of a definition has it, or those outside have it
pub bound_in_names : (S : Scopes) (fs xs : List Name) (x : Name) → (position_of x xs ≡ None → IsBound S x) →
    IsBound (names fs xs S) x
bound_in_names S fs xs x outer =
    found_or_up (position_of x xs) (variable_coordinate S x) (variable_at (frames_of S) x) outer

pub bound_in_definitions : (S : Scopes) (ds : NamedDefinitions) (x : Name) → IsBound S x → IsBound (defined ds S) x
bound_in_definitions S ds x outer = ap (λ q. option_map one_layer_up q) outer

pub callable_in_names : (S : Scopes) (fs xs : List Name) (f : Name) (m k : ℕ) →
    (parameter_position fs f m k ≡ None → IsCallable S f m k) →
    IsCallable (names fs xs S) f m k
callable_in_names S fs xs f m k outer =
    found_or_up (parameter_position fs f m k) (callee_coordinate S f m k) (callee_at (frames_of S) f m k) outer

-- the position of a key is that of its definition
pub same_position : (ds : NamedDefinitions) (f : Name) (m k : ℕ) →
    key_position (keys_of ds) f m k ≡ definition_position ds f m k
same_position no_definitions f m k = refl
same_position (more_definitions g fs xs s ds) f m k =
    ap (λ o. if same_name f g && ((m == length fs) && (k == length xs)) then Some 0
    else option_map (λ i. suc i) o) (same_position ds f m k)

pub callable_in_definitions : (S : Scopes) (ds : NamedDefinitions) (f : Name) (m k : ℕ) →
    (definition_position ds f m k ≡ None → IsCallable S f m k) →
    IsCallable (defined ds S) f m k
callable_in_definitions S ds f m k outer =
    found_or_up (definition_position ds f m k) (callee_coordinate S f m k) (callee_at (frames_of S) f m k) outer
    ∙ ap (λ o. Some (here_or_up o (callee_at (frames_of S) f m k))) (sym (same_position ds f m k))
