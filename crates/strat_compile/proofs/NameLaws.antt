-- A set of names that is filled with the names of another.
use Rattle.std.proofs.Common.{◌≡◌, ◌+◌, ◌<◌, ◌++◌, inl, inr, ℕ, List, [], ◌∷◌, Contains, length, take, sym, ◌∙◌, ap₂, subst, arith}
use Rattle.std.proofs.lemmas.List.{get_or_default, get_or-take, length-take-le, take_more}
use Rattle.term_model.specs.PrimNames.{NameKey}
use Rattle.term_model.specs.NameSet.{key_at}
use Rattle.term_model.specs.NameSet.{EachOnce, IsInserted}

-- a name stands once, so it is not among those before it
first_time : (all : List NameKey) (i : ℕ) → EachOnce all → i < length all → Contains (take i all) (key_at all i) → ⊥
first_time all i once h (k, below, is) =
    let counted = length-take-le i all (omega arith) in
    let less : k < i = omega (arith, counted) in
    let within : k < length all = omega arith in
    let there = get_or-take i all k (key_at all i) less in
    let same = get_or_default all k (key_at all i) ([], 0) within in
    let place : k ≡ i = once k i within h (sym same ∙ sym there ∙ is) in
    absurd (omega arith)

pub inserted_next : (all : List NameKey) (i : ℕ) (key : NameKey) (old new : List NameKey) → EachOnce all →
    i < length all → key ≡ key_at all i → old ≡ take i all →
    IsInserted old key new → new ≡ take (i + 1) all
inserted_next all i key old new once h is so_far (inl there) =
    absurd (first_time all i once h
    (subst (λ x. Contains (take i all) x) is (subst (λ xs. Contains xs key) so_far there.0)))
inserted_next all i key old new once h is so_far (inr added) =
    added.1 ∙ ap₂ (λ xs x. xs ++ x ∷ []) so_far is ∙ sym (take_more all i ([], 0) h)
