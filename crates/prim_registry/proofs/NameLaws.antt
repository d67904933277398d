-- A set of names that takes those of primitives one after another.
use Rattle.std.proofs.Common.{◌≡◌, ◌+◌, ◌<◌, ◌≤◌, ◌⊎◌, ◌++◌, ◌∷◌, inl, inr, ℕ, List, [], length, map, take, get_or, sym, ◌∙◌, ap, subst, Contains}
use Rattle.std.proofs.lemmas.List.{map-append, take_more, take_all}
use Rattle.std.proofs.lemmas.List.Elements.{Contains-append_left, Contains-push, Contains-push_cases}
use Rattle.term_model.specs.PrimNames.{NameKey}
use Rattle.term_model.specs.NameSet.{IsInserted}
use Rattle.prim_registry.specs.RegistryNames.{HaveSame}

grown : (old new : List NameKey) (ys : List NameKey) (key : NameKey) → HaveSame old ys → IsInserted old key new →
    HaveSame new (ys ++ key ∷ [])
grown old new ys key same (inl there) k = (
  λ h. Contains-append_left ys (key ∷ []) k ((same k).0 (subst (λ xs. Contains xs k) there.1 h)),
  λ h. subst (λ xs. Contains xs k) (sym there.1) (by (Contains-push_cases ys key k h)),
)
  where
    by : Contains ys k ⊎ (key ≡ k) → Contains old k
    by (inl c) = (same k).1 c
    by (inr e) = subst (λ x. Contains old x) e there.0
grown old new ys key same (inr added) k = (
  λ h. to (Contains-push_cases old key k (subst (λ xs. Contains xs k) added.1 h)),
  λ h. subst (λ xs. Contains xs k) (sym added.1) (from (Contains-push_cases ys key k h)),
)
  where
    to : Contains old k ⊎ (key ≡ k) → Contains (ys ++ key ∷ []) k
    to (inl c) = Contains-append_left ys (key ∷ []) k ((same k).0 c)
    to (inr e) = subst (λ x. Contains (ys ++ key ∷ []) x) e (Contains-push ys key)

    from : Contains ys k ⊎ (key ≡ k) → Contains (old ++ key ∷ []) k
    from (inl c) = Contains-append_left old (key ∷ []) k ((same k).1 c)
    from (inr e) = subst (λ x. Contains (old ++ key ∷ []) x) e (Contains-push old key)

pub one_more_name : {X : Type 0} (f : X → NameKey) (xs : List X) (i : ℕ) (x : X) (old new : List NameKey)
    → i < length xs → x ≡ get_or xs i x → HaveSame old (map f (take i xs)) → IsInserted old (f x) new →
    HaveSame new (map f (take (i + 1) xs))
one_more_name f xs i x old new h is same inserted =
    let longer : take (i + 1) xs ≡ take i xs ++ (x ∷ []) =
    take_more xs i x h ∙ ap (λ y. take i xs ++ (y ∷ [])) (sym is) in
    subst (HaveSame new) (sym (ap (map f) longer ∙ map-append f (take i xs) (x ∷ [])))
    (grown old new (map f (take i xs)) (f x) same inserted)

pub all_names : {X : Type 0} (f : X → NameKey) (xs ys : List X) (i : ℕ) (names : List NameKey) → length xs ≤ i →
    xs ≡ ys → HaveSame names (map f (take i xs)) → HaveSame names (map f ys)
all_names f xs ys i names h e same = subst (λ zs. HaveSame names (map f zs)) (take_all i xs h ∙ e) same
