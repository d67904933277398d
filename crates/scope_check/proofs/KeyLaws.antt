-- Tables of keys to which a key was added.
use Rattle.std.proofs.Common.{◌≡◌, ◌∙◌, ◌||◌, ◌++◌, ◌∷◌, [], List, Bool, true, false, ap, sym, refl, append_assoc}
use Rattle.std.specs.Prelude.{if◌then◌else◌}
use Rattle.std.proofs.lemmas.List.Folds.{list_any-append}
use Rattle.std.proofs.Math.Bool.{or-false}
use Rattle.indexmap.specs.IndexSet.{insert_key}
use Rattle.scope_check.specs.Seen.{Key, among, same_key}
use Rattle.str_syntax.specs.SameKey.{same_key-true}

absorbed : (a b : Bool) → (b ≡ true → a ≡ true) → a ≡ (a || b)
absorbed true b holds = refl
absorbed false true holds = holds refl
absorbed false false holds = refl

-- a key that is there already adds nothing
there : (ks : List Key) (x k : Key) → among ks x ≡ true → among ks k ≡ (among ks k || same_key k x)
there ks x k is = absorbed (among ks k) (same_key k x) (λ same. ap (among ks) (same_key-true k x same) ∙ is)

-- nor does one that is among the first
pub there_first : (ks ls : List Key) (x k : Key) → among ks x ≡ true →
    among (ks ++ ls) k ≡ (among (ks ++ ls) k || same_key k x)
there_first ks ls x k is = there (ks ++ ls) x k (list_any-append (same_key x) ks ls ∙ ap (λ b. b || among ls x) is)

-- a key that is inserted into the last ones
pub inserted_last : (ks ls ms : List Key) (x k : Key) → ms ≡ insert_key same_key ls x →
    among (ks ++ ms) k ≡ (among (ks ++ ls) k || same_key k x)
inserted_last ks ls ms x k is = by (among ls x) refl
  where
    or_true : (b : Bool) → (b || true) ≡ true
    or_true true = refl
    or_true false = refl

    by : (b : Bool) → among ls x ≡ b → among (ks ++ ms) k ≡ (among (ks ++ ls) k || same_key k x)
    by true e =
        let same : ms ≡ ls = is ∙ ap (λ b. if b then ls else ls ++ x ∷ []) e in
        ap (λ l. among (ks ++ l) k) same ∙
        there (ks ++ ls) x k (list_any-append (same_key x) ks ls ∙ ap (λ b. among ks x || b) e ∙ or_true (among ks x))
    by false e =
        let after : ms ≡ ls ++ x ∷ [] = is ∙ ap (λ b. if b then ls else ls ++ x ∷ []) e in
        ap (λ l. among (ks ++ l) k) after ∙ ap (λ l. among l k) (sym (append_assoc ks ls (x ∷ []))) ∙
        list_any-append (same_key k) (ks ++ ls) (x ∷ []) ∙ ap (λ b. among (ks ++ ls) k || b) (or-false (same_key k x))
