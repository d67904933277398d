-- Which names are in a list of names, and names that layers bind.
use Rattle.std.proofs.Common.{◌≡◌, ℕ, suc, Option, Some, None, List, [], ◌∷◌, ◌++◌, map, refl, sym, ◌∙◌, ap, subst}
use Rattle.std.specs.Prelude.{Bool, true, false, not, ◌||◌, filter, if◌then◌else◌}
use Rattle.std.specs.List.{list_any}
use Rattle.std.specs.Option.{option_map}
use Rattle.std.specs.Str.{bytes_eq}
use Rattle.std.proofs.lemmas.Bool.{or_left, or_right, not_from_false}
use Rattle.std.proofs.lemmas.List.Folds.{list_any-append}
use Rattle.std.proofs.lemmas.Map.Views.{any-filter_same}
use Rattle.std.proofs.lemmas.Slice.Eq.{bytes_eq-Decides}
use Rattle.core_lang.specs.Named.{Name, written, position_of}
use Rattle.core_lang.specs.Resolution.{Scopes, names}
use Rattle.str_syntax.specs.Trees.{Bytes}
use Rattle.str_desugar.specs.Variables.{each_once, without}
use Rattle.str_desugar.proofs.BoundLaws.{IsBound, bound_in_names}

abbrev pub is_in : Bytes → List Bytes → Bool
is_in x xs = list_any (bytes_eq x) xs

in_left : (x : Bytes) (xs ys : List Bytes) → is_in x xs ≡ true → is_in x (xs ++ ys) ≡ true
in_left x xs ys e = list_any-append (bytes_eq x) xs ys ∙ or_left (is_in x xs) (is_in x ys) e

in_right : (x : Bytes) (xs ys : List Bytes) → is_in x ys ≡ true → is_in x (xs ++ ys) ≡ true
in_right x xs ys e = list_any-append (bytes_eq x) xs ys ∙ or_right (is_in x xs) (is_in x ys) e

pub same_self : (x : Bytes) → bytes_eq x x ≡ true
same_self x = (bytes_eq-Decides x x).1 refl

-- what has no position in a list is not in it
pub not_found : (b r : Bool) (o : Option ℕ) → (if b then Some 0 else option_map (λ i. suc i) o) ≡ None →
    (o ≡ None → r ≡ false) → (b || r) ≡ false
not_found true r o e rest = absurd (cc)
not_found false r None e rest = rest refl
not_found false r (Some i) e rest = absurd (cc)

pub not_in : (x : Bytes) (xs : List Bytes) → position_of (written x) (map written xs) ≡ None → is_in x xs ≡ false
not_in x [] e = refl
not_in x (y ∷ ys) e = not_found (bytes_eq x y) (is_in x ys) (position_of (written x) (map written ys))
    e (λ h. not_in x ys h)

-- a name is left where it is not among those that are taken away
kept_name : (x y : Bytes) (zs : List Bytes) → is_in x zs ≡ false → bytes_eq x y ≡ true → not (is_in y zs) ≡ true
kept_name x y zs out e = subst (λ z. not (is_in z zs) ≡ true) ((bytes_eq-Decides x y).0 e)
    (not_from_false (is_in x zs) out)

pub in_without : (x : Bytes) (zs xs : List Bytes) → is_in x xs ≡ true → is_in x zs ≡ false →
    is_in x (without zs xs) ≡ true
in_without x zs xs e out = any-filter_same (bytes_eq x) (λ y. not (list_any (bytes_eq y) zs))
    true (λ y h. kept_name x y zs out h) xs ∙ e

-- each of the names once is the same names
other_name : (x y z : Bytes) → bytes_eq x y ≡ false → bytes_eq x z ≡ true → not (bytes_eq y z) ≡ true
other_name x y z out e =
    let same : x ≡ z = (bytes_eq-Decides x z).0 e in
    not_from_false (bytes_eq y z)
    (different (bytes_eq y z) (λ h. let back : y ≡ z = (bytes_eq-Decides y z).0 h in
    (bytes_eq-Decides x y).1 (same ∙ sym back)) out)
  where
    different : (b : Bool) {c : Bool} → (b ≡ true → c ≡ true) → c ≡ false → b ≡ false
    different true h e = sym (h refl) ∙ e
    different false h e = refl

once_more : (x y : Bytes) (ys : List Bytes) (b : Bool) → bytes_eq x y ≡ b →
    (b || is_in x (filter (λ z. not (bytes_eq y z)) ys)) ≡ (b || is_in x ys)
once_more x y ys true e = refl
once_more x y ys false e = any-filter_same (bytes_eq x) (λ z. not (bytes_eq y z)) true (λ z h. other_name x y z e h) ys

pub in_once : (x : Bytes) (xs : List Bytes) → is_in x (each_once xs) ≡ is_in x xs
in_once x [] = refl
in_once x (y ∷ ys) = once_more x y (each_once ys) (bytes_eq x y) refl ∙ ap (λ b. bytes_eq x y || b) (in_once x ys)

-- ---- names that layers bind

-- all of these names are variables of the layers
abbrev pub AreBound : Scopes → List Bytes → Type 0
AreBound S xs = (x : Bytes) → is_in x xs ≡ true → IsBound S (written x)

pub bound_left : (S : Scopes) (xs ys : List Bytes) → AreBound S (xs ++ ys) → AreBound S xs
bound_left S xs ys bound = λ x e. bound x (in_left x xs ys e)

pub bound_right : (S : Scopes) (xs ys : List Bytes) → AreBound S (xs ++ ys) → AreBound S ys
bound_right S xs ys bound = λ x e. bound x (in_right x xs ys e)

pub bound_first : (S : Scopes) (x : Bytes) (xs : List Bytes) → AreBound S (x ∷ xs) → IsBound S (written x)
bound_first S x xs bound = bound x (or_left (bytes_eq x x) (is_in x xs) (same_self x))

pub bound_rest : (S : Scopes) (x : Bytes) (xs : List Bytes) → AreBound S (x ∷ xs) → AreBound S xs
bound_rest S x xs bound = λ y e. bound y (or_right (bytes_eq y x) (is_in y xs) e)

-- further in they are still bound
pub bound_further : (S : Scopes) (fs zs : List Name) (xs : List Bytes) → AreBound S xs → AreBound (names fs zs S) xs
bound_further S fs zs xs bound = λ x e. bound_in_names S fs zs (written x) (λ none. bound x e)

-- a layer binds its own names, and the others are bound outside
pub bound_within : (S : Scopes) (fs : List Name) (zs xs : List Bytes) → AreBound S (without zs xs) →
    AreBound (names fs (map written zs) S) xs
bound_within S fs zs xs bound =
    λ x e. bound_in_names S fs (map written zs) (written x) (λ none. bound x (in_without x zs xs e (not_in x zs none)))
