-- The position of the first that passes a test, also in a table that is followed by a list; of a name and of a key.
use Rattle.std.proofs.Common.{◌≡◌, ◌∙◌, ℕ, suc, ◌+◌, ◌<◌, Bool, true, false, not, cond, Option, Some, None, List, [], ◌∷◌, ◌++◌, length, map, position, refl, sym, ap, ap₂, subst, arith, one-add}
use Rattle.std.specs.Prelude.{if◌then◌else◌}
use Rattle.std.specs.List.{position_from, position_or_len}
use Rattle.std.specs.Option.{option_map}
use Rattle.std.specs.Str.{bytes_eq}
use Rattle.std.proofs.lemmas.Iterator.Adapters.{position_from-zero}
use Rattle.core_lang.specs.Named.{written, position_of}
use Rattle.str_syntax.specs.Key.{Key, same_key}
use Rattle.str_desugar.specs.Frames.{key_position}
use Rattle.str_desugar.specs.Keys.{named_key}

abbrev later : Option ℕ → Option ℕ
later o = option_map (λ i. suc i) o

abbrev pub or_else : ℕ → Option ℕ → ℕ
or_else n None = n
or_else n (Some i) = i

-- the second where there is no first
abbrev or_next : Option ℕ → Option ℕ → Option ℕ
or_next None o = o
or_next (Some i) o = Some i

abbrev Below : ℕ → Option ℕ → Type 0
Below n None = Unit {0}
Below n (Some i) = i < n

module _ {A : Type 0} (test : A → Bool) where
  -- the position, step by step
  abbrev first_at : List A → Option ℕ
  first_at [] = None
  first_at (x ∷ xs) = if test x then Some 0 else later (first_at xs)

  from_first : (i : ℕ) (xs : List A) → position_from test i xs ≡ option_map (λ n. i + n) (first_at xs)
  from_first i [] = refl
  from_first i (x ∷ xs) = by (test x) (first_at xs) (position_from test (i + 1) xs) (from_first (i + 1) xs)
    where
      by : (b : Bool) (o rest : Option ℕ) → rest ≡ option_map (λ n. (i + 1) + n) o →
          cond b (Some i) rest ≡ option_map (λ n. i + n) (if b then Some 0 else later o)
      by true o rest e = ap (λ n. Some n) (omega arith)
      by false None rest e = e
      by false (Some j) rest e = e ∙ ap (λ n. Some n) (omega arith)

  none_before : (o : Option ℕ) → option_map (λ n. 0 + n) o ≡ o
  none_before None = refl
  none_before (Some i) = ap (λ n. Some n) (omega arith)

  position_first : (xs : List A) → position test xs ≡ first_at xs
  position_first xs = position_from-zero test xs ∙ from_first 0 xs ∙ none_before (first_at xs)

  -- the position, or how many there are
  pub position_or_else : (xs : List A) → or_else (length xs) (position test xs) ≡ position_or_len test xs
  position_or_else xs = ap (or_else (length xs)) (position_first xs) ∙ counted xs
    where
      counted : (ys : List A) → or_else (length ys) (first_at ys) ≡ position_or_len test ys
      counted [] = refl
      counted (y ∷ ys) = by (test y) (first_at ys) (counted ys)
        where
          by : (b : Bool) (o : Option ℕ) → or_else (length ys) o ≡ position_or_len test ys →
              or_else (suc (length ys)) (if b then Some 0 else later o) ≡
              (if not b then 1 + position_or_len test ys else 0)
          by true o e = refl
          by false None e = ap suc e ∙ sym (one-add (position_or_len test ys))
          by false (Some i) e = ap suc e ∙ sym (one-add (position_or_len test ys))

  first_append : (xs ys : List A) →
      first_at (xs ++ ys) ≡ or_next (first_at xs) (option_map (λ i. length xs + i) (first_at ys))
  first_append [] ys = sym (none_before (first_at ys))
  first_append (x ∷ xs) ys = by (test x) (first_at xs) (first_at ys) (first_append xs ys)
    where
      by : (b : Bool) (o r : Option ℕ) → first_at (xs ++ ys) ≡ or_next o (option_map (λ i. length xs + i) r) →
          (if b then Some 0 else later (first_at (xs ++ ys))) ≡
          or_next (if b then Some 0 else later o) (option_map (λ i. suc (length xs) + i) r)
      by true o r e = refl
      by false (Some i) r e = ap later e
      by false None None e = ap later e
      by false None (Some i) e = ap later e ∙ ap (λ k. Some k) (omega arith)

  position_append : (xs ys : List A) →
      position test (xs ++ ys) ≡ or_next (position test xs) (option_map (λ i. length xs + i) (position test ys))
  position_append xs ys = position_first (xs ++ ys) ∙ first_append xs ys ∙
      sym (ap₂ (λ o r. or_next o (option_map (λ i. length xs + i) r)) (position_first xs) (position_first ys))

  -- one that is found in the table stays the first; where none is, it is found in the list after it
  pub position_in : (xs ys : List A) (i : ℕ) → Some i ≡ position test xs → Some i ≡ position test (xs ++ ys)
  position_in xs ys i e = ap (λ o. or_next o (option_map (λ i. length xs + i) (position test ys))) e ∙
      sym (position_append xs ys)

  pub position_past : (xs ys : List A) (o : Option ℕ) → None ≡ position test xs → o ≡ position test ys →
      option_map (λ i. length xs + i) o ≡ position test (xs ++ ys)
  position_past xs ys o none e = ap₂ (λ p r. or_next p (option_map (λ i. length xs + i) r)) none e ∙
      sym (position_append xs ys)

  -- its position is below the length
  pub position_within : (xs : List A) (i : ℕ) → Some i ≡ position test xs → i < length xs
  position_within xs i e = subst (Below (length xs)) (sym (e ∙ position_first xs)) (below xs)
    where
      below : (ys : List A) → Below (length ys) (first_at ys)
      below [] = tt
      below (y ∷ ys) = by (test y) (first_at ys) (below ys)
        where
          by : (b : Bool) (o : Option ℕ) → Below (length ys) o → Below (suc (length ys)) (if b then Some 0 else later o)
          by true o less = omega arith
          by false None less = tt
          by false (Some j) less = omega (arith, less)

-- ---- a name among names, and a key among keys

name_at : (x : List ℕ) (xs : List (List ℕ)) → first_at (bytes_eq x) xs ≡ position_of (written x) (map written xs)
name_at x [] = refl
name_at x (y ∷ xs) = ap (λ o. if bytes_eq x y then Some 0 else later o) (name_at x xs)

pub name_position : (x : List ℕ) (xs : List (List ℕ)) →
    position (bytes_eq x) xs ≡ position_of (written x) (map written xs)
name_position x xs = position_first (bytes_eq x) xs ∙ name_at x xs

key_at : (q : Key) (ks : List Key) →
    first_at (same_key q) ks ≡ key_position (map named_key ks) (written q.name) q.strategies q.terms
key_at q [] = refl
key_at q (k ∷ ks) = ap (λ o. if same_key q k then Some 0 else later o) (key_at q ks)

pub key_called : (q : Key) (ks : List Key) →
    position (same_key q) ks ≡ key_position (map named_key ks) (written q.name) q.strategies q.terms
key_called q ks = position_first (same_key q) ks ∙ key_at q ks

pub ruleset positions = (name_position, key_called)
