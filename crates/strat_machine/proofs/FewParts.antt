-- The parts of a term that are put on a stack one by one.
use Rattle.std.proofs.Common.{◌≡◌, ◌≤◌, ◌-◌, ℕ, zero, suc, Some, List, [], ◌∷◌, take, drop, refl, sym, ◌∙◌, ap, arith}
use Rattle.std.specs.Prelude.{IsTrue, slice_get}
use Rattle.std.proofs.lemmas.List.Elements.{All-nil, All-cons}
use Rattle.term_model.specs.Space.{Space}
use Rattle.term_model.specs.TermParts.{parts_of}
use Rattle.strat_machine.specs.PartsOf.{PutsParts}

drop_at : {X : Type 0} (xs : List X) (i : ℕ) (x : X) → slice_get xs i ≡ Some x → drop i xs ≡ x ∷ drop (suc i) xs
drop_at [] i x is = absurd (cc)
drop_at (y ∷ xs) zero x is = let same : y ≡ x = cc in ap (λ z. z ∷ xs) same
drop_at (y ∷ xs) (suc i) x is = drop_at xs i x is

module _ {W R Y N : Type 0} {S : Space W R Y N} {w : W} {t : R} where
  -- no part is put on a stack yet
  pub none_put : (to : ℕ) (old : List R) → PutsParts S w t to to old old
  none_put to old =
      let none : to - to ≡ 0 = omega arith in
      record {
        parts = [];
        after = refl;
        count = none;
        standing = All-nil (λ u. IsTrue (S.stands w u));
        are = sym (ap (λ k. take k (drop to (parts_of (S.term_of w t)))) none);
      }

  -- the part before those that are there is put on top
  pub one_put : (i j to : ℕ) (r : R) (old mid new : List R) → i ≡ suc j → i ≤ to →
      slice_get (parts_of (S.term_of w t)) j ≡ Some (S.term_of w r) → IsTrue (S.stands w r) → new ≡ r ∷ mid →
      PutsParts S w t i to old mid → PutsParts S w t j to old new
  one_put i j to r old mid new next within part stands pushed h =
      let ts = parts_of (S.term_of w t) in
      let more : to - j ≡ suc (to - i) = omega (arith, next, within) in
      record {
        parts = r ∷ h.parts;
        after = pushed ∙ ap (λ us. r ∷ us) h.after;
        count = more ∙ ap suc h.count;
        standing = All-cons (λ u. IsTrue (S.stands w u)) r h.parts stands h.standing;
        are =
            ap (λ us. S.term_of w r ∷ us) (h.are ∙ ap (λ k. take (to - i) (drop k ts)) next) ∙
            (sym (ap (take (suc (to - i))) (drop_at ts j (S.term_of w r) part)) ∙
            ap (λ k. take k (drop j ts)) (sym more));
      }
