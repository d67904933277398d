-- What is found by a name is found by its place.
use Rattle.std.proofs.Common.{◌≡◌, ℕ, suc, ◌+◌, ◌<◌, Option, Some, None, List, [], ◌∷◌, length, refl, sym, ◌∙◌, ap, arith, subst}
use Rattle.core_lang.specs.Named.{NamedStrategy, NamedDefinitions, NamedEnvironment, NamedClosures, NamedCallee, Name, same_name, position_of, definition_position, place_named, callee_named}
use Rattle.core_lang.specs.Resolved.{ResolvedStrategy, ResolvedDefinitions, ResolvedEnvironment, ResolvedClosures, ResolvedCallee, layers_up, place_in, callee_in}
use Rattle.std.specs.Prelude.{Bool, true, false, ◌&&◌, ◌==◌, nat_lt, if◌then◌else◌}
use Rattle.std.specs.Option.{option_or, option_map, option_and_then}
use Rattle.std.specs.Cmp.{unsigned_Decides}
use Rattle.std.proofs.lemmas.Bool.Decides.{nat_tests}
use Rattle.std.proofs.lemmas.Bool.{and_parts}
use Rattle.core_lang.specs.declared.coordinate.Coordinate.{Coordinate}
use Rattle.core_lang.specs.Environment.{layer, definitions, closure, definition, closure_at, definition_at}
use Rattle.core_lang.specs.Resolution.{Scopes, names, here, one_layer_up, variable_coordinate, callee_coordinate, Resolves, ResolvesDefinitions, to_no_definitions, to_more_definitions}
use Rattle.core_lang.specs.Agreement.{scopes_of, Agree, agree_outermost, agree_layer, agree_definitions, AgreeClosures, agree_no_closures, agree_more_closures}

-- the same callee: for a call with m strategies
pub data AgreeCallee (m : ℕ) : NamedCallee → Option ResolvedCallee → Type 0 where
  agree_closure : {s : NamedStrategy} {t : ResolvedStrategy} {V : NamedEnvironment} {W : ResolvedEnvironment} →
      Resolves (scopes_of V) s t → Agree V W → AgreeCallee m (closure s V) (Some (closure t W))
  agree_definition : {fs xs : List Name} {j k : ℕ} {s : NamedStrategy} {t : ResolvedStrategy} {V : NamedEnvironment}
      {W : ResolvedEnvironment} →
      length fs ≡ m → k ≡ length xs → Resolves (names fs xs (scopes_of V)) s t → Agree V W →
      AgreeCallee m (definition fs xs s V) (Some (definition j k t W))

-- in one layer: nothing is found, or the same callee at one position of both
data FoundIn (m : ℕ) (named : ℕ → Option NamedCallee) (placed : ℕ → Option ResolvedCallee) : Option ℕ → Type 0 where
  not_in : FoundIn m named placed None
  found_in : {i : ℕ} {c : NamedCallee} → named i ≡ Some c → AgreeCallee m c (placed i) → FoundIn m named placed (Some i)

found_cons : {m : ℕ} {o : Option ℕ} (named : ℕ → Option NamedCallee) (placed : ℕ → Option ResolvedCallee) (b : Bool) →
    (b ≡ true → (c : NamedCallee) × (named 0 ≡ Some c) × AgreeCallee m c (placed 0)) →
    FoundIn m (λ i. named (suc i)) (λ i. placed (suc i)) o →
    FoundIn m named placed (if b then Some 0 else option_map (λ i. suc i) o)
found_cons named placed true h f = let q = h refl in found_in q.1 q.2
found_cons named placed false h not_in = not_in
found_cons named placed false h (found_in e g) = found_in e g

found_if : {m : ℕ} {o : Option ℕ} (named : ℕ → Option NamedCallee) (placed : ℕ → Option ResolvedCallee) (b : Bool) →
    FoundIn m named placed o → FoundIn m named placed (if b then o else None)
found_if named placed true f = f
found_if named placed false f = not_in

closures_found : {m : ℕ} {fs : List Name} {cs : NamedClosures} {ds : ResolvedClosures} → AgreeClosures fs cs ds →
    (f : Name) →
    FoundIn m (closure_at cs) (closure_at ds) (position_of f fs)
closures_found agree_no_closures f = not_in
closures_found (agree_more_closures {f = g} {s = s} {V = V} r a rest) f =
    found_cons _ _ (same_name f g) (λ h. (closure s V, refl, agree_closure r a)) (closures_found rest f)

definitions_found : {S : Scopes} {V : NamedEnvironment} {W : ResolvedEnvironment} {ds : NamedDefinitions}
    {es : ResolvedDefinitions} →
    ResolvesDefinitions S ds es → S ≡ scopes_of V → Agree V W → (f : Name) (m k : ℕ) →
    FoundIn m (definition_at ds V) (definition_at es W) (definition_position ds f m k)
definitions_found to_no_definitions is a f m k = not_in
definitions_found {V = V} (to_more_definitions {f = g} {fs = fs} {xs = xs} {s = s} {z = t} hm hk r rs) is a f m k =
    found_cons _ _ (same_name f g && ((m == length fs) && (k == length xs)))
    (λ e. let lengths = (and_parts _ _ (and_parts _ _ e).1).0 in (
      definition fs xs s V,
      refl,
      agree_definition (sym ((unsigned_Decides m (length fs)).0 lengths))
          hk (subst (λ Z. Resolves (names fs xs Z) s t) is r) a,
    ))
    (definitions_found rs is a f m k)

-- where a search through the layers ends: nowhere, or at the place of the same callee
pub data Found (m : ℕ) (at : Coordinate → Option ResolvedCallee) : Option Coordinate → Option NamedCallee → Type 0 where
  found_nowhere : Found m at None None
  found_at : {y : Coordinate} {c : NamedCallee} → AgreeCallee m c (at y) → Found m at (Some y) (Some c)

or_found : {m : ℕ} {o : Option ℕ} {p : Option Coordinate} {d : Option NamedCallee} (named : ℕ →
    Option NamedCallee) (placed : ℕ → Option ResolvedCallee)
    (outer at : Coordinate → Option ResolvedCallee) → ((i : ℕ) → at (here i) ≡ placed i) →
    ((y : Coordinate) → at (one_layer_up y) ≡ outer y) → FoundIn m named placed o → Found m outer p d →
    Found m at (option_or (option_map here o) (option_map one_layer_up p)) (option_or (option_and_then named o) d)
or_found named placed outer at is up not_in found_nowhere = found_nowhere
or_found {m} named placed outer at is up not_in (found_at {y = y} {c = c} g) =
    found_at (subst (λ v. AgreeCallee m c v) (sym (up y)) g)
or_found {m} {d = d} named placed outer at is up (found_in {i = i} {c = c} e g) other =
    subst (λ v. Found m at (Some (here i)) (option_or v d)) (sym e)
    (found_at (subst (λ v. AgreeCallee m c v) (sym (is i)) g))

-- what a place leads to in an environment
abbrev pub callee_from : ResolvedEnvironment → Coordinate → Option ResolvedCallee
callee_from W y = callee_in (layers_up W y.layers_up) y.slot

pub callee_found : {V : NamedEnvironment} {W : ResolvedEnvironment} → Agree V W → (f : Name) (m k : ℕ) →
    Found m (callee_from W) (callee_coordinate (scopes_of V) f m k) (callee_named V f m k)
callee_found agree_outermost f m k = found_nowhere
callee_found (agree_layer {base = base} {m = j} {k = l} {cs = cs} {ds = ds} {W = W} h rest a) f m k =
    or_found (closure_at cs) (closure_at ds) (callee_from W) (callee_from (layer base j l ds W)) (λ i. refl) (λ y. refl)
    (found_if _ _ ((m == 0) && (k == 0)) (closures_found rest f)) (callee_found a f m k)
callee_found (agree_definitions {ds = ds} {es = es} {V = V} {W = W} rs a) f m k =
    or_found (definition_at ds (definitions ds V)) (definition_at es (definitions es W)) (callee_from W)
    (callee_from (definitions es W)) (λ i. refl) (λ y. refl)
    (definitions_found rs refl (agree_definitions rs a) f m k) (callee_found a f m k)

-- the same for variables
data HasPlace (I : Type 0) (at : I → Option ℕ) : Option I → Option ℕ → Type 0 where
  no_place : HasPlace I at None None
  has_place : {i : I} {p : ℕ} → at i ≡ Some p → HasPlace I at (Some i) (Some p)

or_place : {o : Option ℕ} {p : Option Coordinate} {c d : Option ℕ} (inner : ℕ → Option ℕ) (outer at : Coordinate →
    Option ℕ) →
    ((i : ℕ) → at (here i) ≡ inner i) → ((y : Coordinate) → at (one_layer_up y) ≡ outer y) → HasPlace ℕ inner o c →
    HasPlace Coordinate outer p d →
    HasPlace Coordinate at (option_or (option_map here o) (option_map one_layer_up p)) (option_or c d)
or_place inner outer at is up no_place no_place = no_place
or_place inner outer at is up no_place (has_place {i = y} e) = has_place (up y ∙ e)
or_place inner outer at is up (has_place {i = i} e) other = has_place (is i ∙ e)

up_place : {d : Option ℕ} {o : Option Coordinate} (outer at : Coordinate → Option ℕ) →
    ((y : Coordinate) → at (one_layer_up y) ≡ outer y) → HasPlace Coordinate outer o d →
    HasPlace Coordinate at (option_map one_layer_up o) d
up_place outer at up no_place = no_place
up_place outer at up (has_place {i = y} e) = has_place (up y ∙ e)

below_cons : (b : Bool) (o : Option ℕ) (l : ℕ) → ((j : ℕ) → o ≡ Some j → j < l) → (i : ℕ) →
    (if b then Some 0 else option_map (λ j. suc j) o) ≡ Some i → i < suc l
below_cons true o l h i e = let q : 0 ≡ i = cc in omega arith
below_cons false None l h i e = absurd (cc)
below_cons false (Some j) l h i e =
    let q : suc j ≡ i = cc in
    let k = h j refl in
    omega arith

-- a position is below the length
pub position_below : (x : Name) (xs : List Name) (i : ℕ) → position_of x xs ≡ Some i → i < length xs
position_below x [] i e = absurd (cc)
position_below x (y ∷ ys) i e =
    below_cons (same_name x y) (position_of x ys) (length ys) (λ j h. position_below x ys j h) i e

below_place : (base i k : ℕ) → i < k → (if nat_lt i k then Some (base + i) else None) ≡ Some (base + i)
below_place base i k h = grind (arith, nat_tests)

variables_found : (base k : ℕ) (o : Option ℕ) → ((i : ℕ) → o ≡ Some i → i < k) →
    HasPlace ℕ (λ i. if nat_lt i k then Some (base + i) else None) o (option_map (λ i. base + i) o)
variables_found base k None h = no_place
variables_found base k (Some i) h = has_place (below_place base i k (h i refl))

abbrev pub place_from : ResolvedEnvironment → Coordinate → Option ℕ
place_from W y = place_in (layers_up W y.layers_up) y.slot

place_found : {V : NamedEnvironment} {W : ResolvedEnvironment} → Agree V W → (x : Name) →
    HasPlace Coordinate (place_from W) (variable_coordinate (scopes_of V) x) (place_named V x)
place_found agree_outermost x = no_place
place_found (agree_layer {base = base} {m = m} {k = k} {xs = xs} {ds = ds} {W = W} h rest a) x =
    or_place (λ i. if nat_lt i k then Some (base + i)
    else None) (place_from W) (place_from (layer base m k ds W)) (λ i. refl) (λ y. refl)
    (variables_found base k (position_of x xs) (λ i e. let below = position_below x xs i e in omega arith))
    (place_found a x)
place_found (agree_definitions {es = es} {W = W} rs a) x =
    up_place (place_from W) (place_from (definitions es W)) (λ y. refl) (place_found a x)

is_place : {o : Option Coordinate} {p : Option ℕ} (at : Coordinate → Option ℕ) → HasPlace Coordinate at o p →
    (y : Coordinate) → o ≡ Some y → p ≡ at y
is_place at no_place y h = cc
is_place at (has_place {i = i} e) y h = let q : i ≡ y = cc in sym e ∙ ap (λ z. at z) q

pub same_place : {V : NamedEnvironment} {W : ResolvedEnvironment} → Agree V W → (x : Name) (y : Coordinate) →
    variable_coordinate (scopes_of V) x ≡ Some y → place_named V x ≡ place_from W y
same_place {V} {W} a x y h = is_place (place_from W) (place_found a x) y h
