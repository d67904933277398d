-- Lists of references: what holds of all of them, and the terms that they are.
use Rattle.std.proofs.Common.{◌≡◌, zero, suc, List, [], ◌∷◌, ◌++◌, map, reverse, refl, sym, ap, subst, arith}
use Rattle.std.specs.Prelude.{All}
use Rattle.std.proofs.lemmas.List.{reverse-append}
use Rattle.term_model.specs.Term.{Tree, more, trees_of}
use Rattle.strat_steps.specs.References.{trees, AllRefs}

pub refs_of_all : {R : Type 0} (P : R → Type 0) (rs : List R) → All P rs → AllRefs P rs
refs_of_all P [] h = tt
refs_of_all P (r ∷ rs) h = (h zero r (omega arith), refs_of_all P rs (λ k d l. h (suc k) d (omega arith)))

pub refs_append : {R : Type 0} (P : R → Type 0) (rs us : List R) → AllRefs P rs → AllRefs P us → AllRefs P (rs ++ us)
refs_append P [] us h k = k
refs_append P (r ∷ rs) us h k = (h.0, refs_append P rs us h.1 k)

pub refs_reverse : {R : Type 0} (P : R → Type 0) (rs : List R) → AllRefs P rs → AllRefs P (reverse rs)
refs_reverse P [] h = tt
refs_reverse P (r ∷ rs) h = subst (AllRefs P) (sym (reverse-append (r ∷ []) rs))
    (refs_append P (reverse rs) (r ∷ []) (refs_reverse P rs h.1) (h.0, tt))

pub standing_push : {R : Type 0} (P : R → Type 0) (rs new : List R) (r : R) → AllRefs P rs → P r → new ≡ rs ++ r ∷ [] →
    AllRefs P new
standing_push P rs new r h k is = subst (AllRefs P) (sym is) (by rs h)
  where
    by : (xs : List _) → AllRefs P xs → AllRefs P (xs ++ r ∷ [])
    by [] h = (k, tt)
    by (x ∷ xs) h = (h.0, by xs h.1)

pub trees_are : {R : Type 0} (f : R → Tree) (rs : List R) → trees f rs ≡ trees_of (map f rs)
trees_are f [] = refl
trees_are f (r ∷ rs) = ap (more (f r)) (trees_are f rs)
