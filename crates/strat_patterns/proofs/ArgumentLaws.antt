-- Arguments on places of their own.
use Rattle.std.proofs.Common.{◌≡◌, ℕ, Some, List, Option, [], ◌∷◌, ◌++◌, length, map, take, ap, ◌∙◌, sym, refl}
use Rattle.std.proofs.lemmas.List.{append_assoc, append-nil, map-append}
use Rattle.std.proofs.Math.Seq.{take-append_seam}
use Rattle.term_model.specs.Space.{Space}
use Rattle.strat_patterns.specs.Applied.{PutsOnPlaces}
use Rattle.strat_patterns.specs.Builds.{Puts}
use Rattle.strat_patterns.specs.PlaceStack.{PlaceStack}

module _ {W R Y N : Type 0} (S : Space W R Y N) (w : W) (old new : PlaceStack R) {Are : List R → Type 0} where
  -- the same of an empty stack on which they are put
  pub on_stack : (x : PutsOnPlaces S w old new Are) → Puts S w [] x.put Are
  on_stack x = record { put = x.put; after = refl; standing = x.standing; are = x.are }

  pub on_places : {rs : List R} → new ≡ record old { slots = old.slots ++ map (λ r. Some r) rs } → Puts S w [] rs Are →
      PutsOnPlaces S w old new Are
  on_places is x = record {
    put = x.put;
    after = let with_terms : List R → PlaceStack R = λ rs. record old { slots = old.slots ++ map (λ r. Some r) rs } in
        is ∙ ap with_terms x.after;
    standing = x.standing;
    are = x.are;
  }

  -- the places from before
  pub places_before : {base : ℕ} {slots : List (Option R)} → slots ≡ new.slots → base ≡ length old.slots →
      PutsOnPlaces S w old new Are → take base slots ≡ old.slots
  places_before {base} is at x =
      ap (take base) is ∙ (ap (λ n. take n new.slots) at ∙
      (ap (λ v. take (length old.slots) v.slots) x.after ∙ take-append_seam old.slots (map (λ r. Some r) x.put)))

pub places_as : {W R Y N : Type 0} {S : Space W R Y N} {w : W} {old new : PlaceStack R} {Are So : List R → Type 0} →
    ((rs : List R) → Are rs → So rs) → PutsOnPlaces S w old new Are → PutsOnPlaces S w old new So
places_as so x = record { put = x.put; after = x.after; standing = x.standing; are = so x.put x.are }

-- no place more
pub no_more_places : {R : Type 0} {old : PlaceStack R} → old ≡ record old { slots = old.slots ++ map (λ r. Some r) [] }
no_more_places {R} {old} = let with_slots : List (Option R) → PlaceStack R = λ xs. record old { slots = xs } in
    ap with_slots (sym (append-nil old.slots))

-- one place more
pub one_more_place : {R : Type 0} (old new next : PlaceStack R) (rs : List R) (r : R) →
    new ≡ record old { slots = old.slots ++ map (λ r. Some r) rs } →
    next ≡ record new { slots = new.slots ++ Some r ∷ [] } →
    next ≡ record old { slots = old.slots ++ map (λ r. Some r) (rs ++ r ∷ []) }
one_more_place {R} old new next rs r is more =
    let more_of : PlaceStack R → PlaceStack R = λ v. record v { slots = v.slots ++ Some r ∷ [] } in
    let with_slots : List (Option R) → PlaceStack R = λ xs. record old { slots = xs } in
    more ∙ (ap more_of is ∙
    ap with_slots (append_assoc old.slots (map (λ r. Some r) rs) (Some r ∷ []) ∙
    ap (λ xs. old.slots ++ xs) (sym (map-append (λ r. Some r) rs (r ∷ [])))))
