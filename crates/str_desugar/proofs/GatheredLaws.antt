-- Names gathered from parts one after another, and inside of names that are bound.
use Rattle.std.proofs.Common.{◌≡◌, List, [], ◌∷◌, ◌++◌, refl, sym, ◌∙◌, ap, ap₂, append_assoc}
use Rattle.std.specs.Prelude.{ℕ, suc, Bool, true, false, not, ◌||◌, if◌then◌else◌, filter, map, Option, Some, None, is_some}
use Rattle.std.specs.Option.{option_map}
use Rattle.std.specs.Str.{bytes_eq}
use Rattle.std.proofs.lemmas.Bool.Decides.{same_from_decides, Decides-like}
use Rattle.std.proofs.lemmas.List.{append-nil}
use Rattle.std.proofs.lemmas.List.Folds.{list_any-append}
use Rattle.std.proofs.lemmas.Slice.Eq.{bytes_eq-Decides}
use Rattle.std.proofs.Math.Bool.{or-false, or-true}
use Rattle.core_lang.specs.Named.{written, position_of}
use Rattle.str_syntax.specs.Trees.{Bytes}
use Rattle.str_desugar.specs.Gathered.{has_name, with_new, noted, gathered}
use Rattle.str_desugar.specs.Variables.{each_once, without}

-- ---- equality of names

equal_back : (x y : Bytes) → bytes_eq y x ≡ bytes_eq x y
equal_back x y = same_from_decides _ _ (bytes_eq-Decides y x)
    (Decides-like _ (λ e. sym e) (λ e. sym e) (bytes_eq-Decides x y))

equal_is : (x y : Bytes) → bytes_eq x y ≡ true → x ≡ y
equal_is x y e = (bytes_eq-Decides x y).0 e

has_after : (xs : List Bytes) (x z : Bytes) → has_name (xs ++ x ∷ []) z ≡ (has_name xs z || bytes_eq x z)
has_after xs x z = list_any-append (bytes_eq z) xs (x ∷ []) ∙
    ap (λ b. has_name xs z || b) (or-false (bytes_eq z x) ∙ equal_back x z)

-- a name is among names where it has a position there
pub has_position : (x : Bytes) (xs : List Bytes) → is_some (position_of (written x) (map written xs)) ≡ has_name xs x
has_position x [] = refl
has_position x (y ∷ xs) = by (bytes_eq x y) (position_of (written x) (map written xs)) (has_position x xs)
  where
    by : (b : Bool) (o : Option ℕ) → is_some o ≡ has_name xs x →
        is_some (if b then Some 0 else option_map (λ i. suc i) o) ≡ (b || has_name xs x)
    by true o e = refl
    by false None e = e
    by false (Some i) e = e

-- ---- parts one after another, and names that are bound

pub gathered_then : (bound found xs ys : List Bytes) →
    gathered bound found (xs ++ ys) ≡ gathered bound (gathered bound found xs) ys
gathered_then bound found [] ys = refl
gathered_then bound found (x ∷ xs) ys = gathered_then bound (noted bound found x) xs ys

pub gathered_within : (names bound found xs : List Bytes) →
    gathered bound found (without names xs) ≡ gathered (names ++ bound) found xs
gathered_within names bound found [] = refl
gathered_within names bound found (x ∷ xs) =
    by (has_name names x) (has_name (names ++ bound) x) (list_any-append (bytes_eq x) names bound)
    (gathered_within names bound found xs)
    (gathered_within names bound (noted bound found x) xs)
  where
    by : (here all : Bool) → all ≡ (here || has_name bound x) →
        gathered bound found (without names xs) ≡ gathered (names ++ bound) found xs →
        gathered bound (noted bound found x) (without names xs) ≡ gathered (names ++ bound) (noted bound found x) xs →
        gathered bound found (if not here then x ∷ without names xs else without names xs) ≡
        gathered (names ++ bound) (if all then found else with_new found x) xs
    by true all e old new = old ∙ sym (ap (λ b. gathered (names ++ bound) (if b then found else with_new found x) xs) e)
    by false all e old new = new ∙
        sym (ap (λ b. gathered (names ++ bound) (if b then found else with_new found x) xs) e)

pub gathered_alike : (bound other found xs : List Bytes) → ((x : Bytes) → has_name bound x ≡ has_name other x) →
    gathered bound found xs ≡ gathered other found xs
gathered_alike bound other found [] same = refl
gathered_alike bound other found (x ∷ xs) same =
    ap (λ b. gathered bound (if b then found else with_new found x) xs) (same x) ∙
    gathered_alike bound other (noted other found x) xs same

-- ---- each once

-- taking out one name takes no other
has_others : (y x : Bytes) (xs : List Bytes) → bytes_eq x y ≡ false →
    has_name (filter (λ z. not (bytes_eq y z)) xs) x ≡ has_name xs x
has_others y x [] e = refl
has_others y x (z ∷ xs) e = by (bytes_eq y z) refl (has_others y x xs e)
  where
    by : (b : Bool) → bytes_eq y z ≡ b → has_name (filter (λ w. not (bytes_eq y w)) xs) x ≡ has_name xs x →
        has_name (if not b then z ∷ filter (λ w. not (bytes_eq y w)) xs else filter (λ w. not (bytes_eq y w)) xs) x ≡
        (bytes_eq x z || has_name xs x)
    by true h more = more ∙ sym (ap (λ b. b || has_name xs x) (ap (bytes_eq x) (sym (equal_is y z h)) ∙ e))
    by false h more = ap (λ b. bytes_eq x z || b) more

pub has_each_once : (xs : List Bytes) (x : Bytes) → has_name (each_once xs) x ≡ has_name xs x
has_each_once [] x = refl
has_each_once (y ∷ xs) x = by (bytes_eq x y) refl (has_each_once xs x)
  where
    by : (b : Bool) → bytes_eq x y ≡ b → has_name (each_once xs) x ≡ has_name xs x →
        (b || has_name (filter (λ z. not (bytes_eq y z)) (each_once xs)) x) ≡ (b || has_name xs x)
    by true e more = refl
    by false e more = has_others y x (each_once xs) e ∙ more

-- a name that is left out already
without_again : (x : Bytes) (found xs : List Bytes) → has_name found x ≡ true →
    without found (filter (λ y. not (bytes_eq x y)) xs) ≡ without found xs
without_again x found [] e = refl
without_again x found (z ∷ xs) e = by (bytes_eq x z) refl (without_again x found xs e)
  where
    by : (b : Bool) → bytes_eq x z ≡ b → without found (filter (λ y. not (bytes_eq x y)) xs) ≡ without found xs →
        without found (if not b then z ∷ filter (λ y. not (bytes_eq x y)) xs else filter (λ y. not (bytes_eq x y)) xs)
        ≡ (if not (has_name found z) then z ∷ without found xs else without found xs)
    by true h more =
        more ∙ sym (ap (λ b. if not b then z ∷ without found xs
        else without found xs) (ap (has_name found) (sym (equal_is x z h)) ∙ e))
    by false h more = ap (λ l. if not (has_name found z) then z ∷ l else l) more

-- a name that is left out from here on
without_more : (x : Bytes) (found xs : List Bytes) →
    without (found ++ x ∷ []) xs ≡ without found (filter (λ y. not (bytes_eq x y)) xs)
without_more x found [] = refl
without_more x found (z ∷ xs) =
    ap₂ (λ b l. if not b then z ∷ l else l) (has_after found x z) (without_more x found xs) ∙ by (bytes_eq x z)
  where
    by : (b : Bool) →
        (if not (has_name found z || b) then z ∷ without found (filter (λ y. not (bytes_eq x y)) xs)
        else without found (filter (λ y. not (bytes_eq x y)) xs))
        ≡ without found (if not b then z ∷ filter (λ y. not (bytes_eq x y)) xs else filter (λ y. not (bytes_eq x y)) xs)
    by true = ap (λ b. if not b then z ∷ without found (filter (λ y. not (bytes_eq x y)) xs)
        else without found (filter (λ y. not (bytes_eq x y)) xs)) (or-true (has_name found z))
    by false = ap (λ b. if not b then z ∷ without found (filter (λ y. not (bytes_eq x y)) xs)
        else without found (filter (λ y. not (bytes_eq x y)) xs)) (or-false (has_name found z))

gathered_after : (bound found xs : List Bytes) →
    gathered bound found xs ≡ found ++ without found (each_once (without bound xs))
gathered_after bound found [] = sym (append-nil found)
gathered_after bound found (x ∷ xs) =
    by (has_name bound x) (has_name found x) refl (gathered_after bound found xs)
    (gathered_after bound (found ++ x ∷ []) xs)
  where
    rest : List Bytes
    rest = each_once (without bound xs)

    by : (bound_here found_here : Bool) → has_name found x ≡ found_here →
        gathered bound found xs ≡ found ++ without found rest →
        gathered bound (found ++ x ∷ []) xs ≡ (found ++ x ∷ []) ++ without (found ++ x ∷ []) rest →
        gathered bound (if bound_here then found else (if found_here then found else found ++ x ∷ [])) xs
        ≡ found ++ filter (λ y. not (has_name found y))
        (each_once (if not bound_here then x ∷ without bound xs else without bound xs))
    by true found_here e old new = old
    by false true e old new =
        old ∙ sym (ap (λ l. found ++ l)
        (ap (λ b. if not b then x ∷ without found (filter (λ y. not (bytes_eq x y)) rest)
        else without found (filter (λ y. not (bytes_eq x y)) rest)) e ∙ without_again x found rest e))
    by false false e old new =
        new ∙ append_assoc found (x ∷ []) (without (found ++ x ∷ []) rest) ∙
        ap (λ l. found ++ x ∷ l) (without_more x found rest) ∙
        sym (ap (λ b. found ++ (if not b then x ∷ without found (filter (λ y. not (bytes_eq x y)) rest)
        else without found (filter (λ y. not (bytes_eq x y)) rest))) e)

without_none : (xs : List Bytes) → without [] xs ≡ xs
without_none [] = refl
without_none (x ∷ xs) = ap (λ l. x ∷ l) (without_none xs)

-- all that are found, from none on
pub gathered_all : (bound xs : List Bytes) → gathered bound [] xs ≡ each_once (without bound xs)
gathered_all bound xs = gathered_after bound [] xs ∙ without_none (each_once (without bound xs))

pub gathered_free : (xs : List Bytes) → gathered [] [] xs ≡ each_once xs
gathered_free xs = gathered_all [] xs ∙ ap each_once (without_none xs)

-- what is bound may be listed each once
pub gathered_once : (names bound found xs : List Bytes) →
    gathered (each_once names ++ bound) found xs ≡ gathered bound found (without names xs)
gathered_once names bound found xs =
    gathered_alike (each_once names ++ bound) (names ++ bound) found xs
    (λ x. list_any-append (bytes_eq x) (each_once names) bound ∙
    ap (λ b. b || has_name bound x) (has_each_once names x) ∙ sym (list_any-append (bytes_eq x) names bound)) ∙
    sym (gathered_within names bound found xs)

-- names where none is bound besides
pub gathered_without_none : (bound found xs : List Bytes) →
    gathered bound found (without [] xs) ≡ gathered bound found xs
gathered_without_none bound found xs = ap (gathered bound found) (without_none xs)
