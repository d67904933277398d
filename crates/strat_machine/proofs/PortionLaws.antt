-- What is left of a term's parts, and the portions of it that are put on a stack.
use Rattle.std.proofs.Common.{◌≡◌, ℕ, zero, suc, ◌+◌, ◌-◌, ◌≤◌, ◌<◌, List, [], ◌∷◌, ◌++◌, length, take, drop, map, refl, sym, ◌∙◌, ap, subst, arith}
use Rattle.std.specs.Prelude.{Option, Some, None, MatchOption}
use Rattle.std.proofs.Math.Seq.{take-append_seam, drop-append_seam}
use Rattle.std.proofs.lemmas.List.{take-append-drop, drop_all}
use Rattle.term_model.specs.Space.{Space, Stands}
use Rattle.term_model.specs.Term.{Tree, node, Trees, end, more, list_of, trees_of}
use Rattle.term_model.specs.TermParts.{parts_of}
use Rattle.term_model.proofs.TermLemmas.{trees_of-list_of}
use Rattle.core_lang.specs.Derivation.{parts}
use Rattle.strat_steps.specs.References.{trees_after, trees_left, AllRefs}
use Rattle.strat_steps.specs.ReferenceSteps.{IsNext, HasNoMore}
use Rattle.strat_patterns.proofs.ReferenceLists.{refs_of_all}
use Rattle.strat_machine.specs.PartsOf.{PutsParts}
use Rattle.strat_machine.specs.Opened.{HasOpened}
use Rattle.strat_machine.specs.Traversing.{HasNone, HasNoneAfter, TakesPart, TakesPortion}
use Rattle.strat_machine.specs.declared.portions.TakenPart.{TakenPart}
use Rattle.strat_machine.specs.declared.records.Traversed.{Traversed}

-- the parts after the first n

after_are : (n : ℕ) (ts : Trees) → trees_after n ts ≡ trees_of (drop n (list_of ts))
after_are zero ts = sym (trees_of-list_of ts)
after_are (suc n) end = refl
after_are (suc n) (more t ts) = after_are n ts

after_of : (n : ℕ) (t : Tree) → trees_after n (parts t) ≡ trees_of (drop n (parts_of t))
after_of n (node h ts annos) = after_are n ts

drop_none : {A : Type 0} (n : ℕ) → drop {A = A} n [] ≡ []
drop_none zero = refl
drop_none (suc n) = refl

drop_drop : {A : Type 0} (k n : ℕ) (xs : List A) → drop (k + n) xs ≡ drop n (drop k xs)
drop_drop zero n xs = let same : zero + n ≡ n = omega arith in ap (λ j. drop j xs) same
drop_drop (suc k) n [] = drop_none (suc k + n) ∙ sym (drop_none n)
drop_drop (suc k) n (x ∷ xs) =
    let same : suc k + n ≡ suc (k + n) = omega arith in ap (λ j. drop j (x ∷ xs)) same ∙ drop_drop k n xs

-- references, and the parts after them
pub left_are : {R : Type 0} (f : R → Tree) (t : R) (n : ℕ) (rs : List R) →
    trees_left f t n rs ≡ trees_of (map f rs ++ drop (n + length rs) (parts_of (f t)))
left_are f t n [] =
    let same : n ≡ n + 0 = omega arith in
    after_of n (f t) ∙ ap (λ k. trees_of (drop k (parts_of (f t)))) same
left_are f t n (r ∷ rs) =
    let same : suc n + length rs ≡ n + suc (length rs) = omega arith in
    ap (more (f r)) (left_are f t (suc n) rs ∙
    ap (λ k. trees_of (map f rs ++ drop k (parts_of (f t)))) same)

-- references to the next parts are no other trees than these parts
pub portion_left : {R : Type 0} (f : R → Tree) (t : R) (n k : ℕ) (rs : List R) → k ≡ length rs →
    map f rs ≡ take k (drop n (parts_of (f t))) → trees_left f t n rs ≡ trees_after n (parts (f t))
portion_left f t n k rs many are =
    let ps = parts_of (f t) in
    left_are f t n rs ∙
    (ap (λ j. trees_of (map f rs ++ drop (n + j) ps)) (sym many) ∙
    (ap (λ us. trees_of (us ++ drop (n + k) ps)) are ∙
    (ap (λ us. trees_of (take k (drop n ps) ++ us)) (drop_drop n k ps) ∙
    (ap trees_of (take-append-drop k (drop n ps)) ∙ sym (after_of n (f t))))))

pub none_after : {R : Type 0} (f : R → Tree) (t : R) (n : ℕ) → length (parts_of (f t)) ≤ n →
    trees_after n (parts (f t)) ≡ end
none_after f t n few = after_of n (f t) ∙ ap trees_of (drop_all n (parts_of (f t)) few)

-- as many trees are left as there are references, or more
pub left_long : {R : Type 0} (f : R → Tree) (t : R) (n : ℕ) (rs : List R) →
    length rs ≤ length (list_of (trees_left f t n rs))
left_long f t n [] = omega arith
left_long f t n (r ∷ rs) = let h = left_long f t (suc n) rs in omega (arith, h)

module _ {W R Y N : Type 0} {S : Space W R Y N} {w : W} where
  -- the first of the references that are there
  pub next_first : {t u : R} {n : ℕ} {us : List R} → IsNext S w t n (u ∷ us) u us
  next_first = record { are = refl; standing = λ whole rest. rest }

  -- after no further part, and after one
  pub first_taken : {v : Traversed R} {k : ℕ} {old new : List R} {part : R} (n : ℕ) →
      TakesPart S w v (0 + n) old part k new → TakesPart S w v n old part k new
  first_taken {v} {k} {old} {new} {part} n x =
      let same : 0 + n ≡ n = omega arith in subst (λ m. TakesPart S w v m old part k new) same x

  pub first_none : {v : Traversed R} {old new : List R} (n : ℕ) → HasNone S w v (0 + n) old new →
      HasNone S w v n old new
  first_none {v} {old} {new} n x =
      let same : 0 + n ≡ n = omega arith in subst (λ m. HasNone S w v m old new) same x

  pub next_taken : {v : Traversed R} {k : ℕ} {old new : List R} {part : R} (n : ℕ) →
      TakesPart S w v (1 + n) old part k new → TakesPart S w v (suc n) old part k new
  next_taken {v} {k} {old} {new} {part} n x =
      let same : 1 + n ≡ suc n = omega arith in subst (λ m. TakesPart S w v m old part k new) same x

  pub next_none : {v : Traversed R} {old new : List R} (n : ℕ) → HasNone S w v (1 + n) old new →
      HasNone S w v (suc n) old new
  next_none {v} {old} {new} n x =
      let same : 1 + n ≡ suc n = omega arith in subst (λ m. HasNone S w v m old new) same x

  -- the next part is there
  pub taken_there : (v : Traversed R) (n k : ℕ) (old new : List R) (part : R) → k ≡ v.left - 1 →
      take v.left old ≡ part ∷ take (v.left - 1) new → drop v.left old ≡ drop (v.left - 1) new →
      HasOpened S w v.whole (n + length (take v.left old)) → TakesPart S w v n old part k new
  taken_there v n k old new part less taken after enough = record {
    next = subst (λ us. IsNext S w v.whole n us part (take k new)) (sym taken)
        (subst (λ j. IsNext S w v.whole n (part ∷ take (v.left - 1) new) part (take j new)) (sym less) next_first);
    after = after ∙ ap (λ j. drop j new) (sym less);
    enough = subst (λ us. HasOpened S w v.whole (n + length us)) (taken ∙ ap (λ j. part ∷ take j new) (sym less))
        enough;
  }

  -- the next part is the first of a portion that is put on the stack
  pub portion_taken : (t : R) (from to k : ℕ) (old mid new : List R) (part : R) →
      PutsParts S w t from to old mid → take (to - from) mid ≡ part ∷ take (to - from - 1) new →
      drop (to - from) mid ≡ drop (to - from - 1) new → k ≡ to - from - 1 → from < to → HasOpened S w t to →
      TakesPortion S w t from old part k new
  portion_taken t from to k old mid new part puts taken after less some enough =
      let size = to - from in
      let f = S.term_of w in
      let all : puts.parts ≡ part ∷ take k new =
      sym (take-append_seam puts.parts old) ∙
      (ap (λ j. take j (puts.parts ++ old)) (sym puts.count) ∙
      (ap (take size) (sym puts.after) ∙ (taken ∙ ap (λ j. part ∷ take j new) (sym less)))) in
      let rest : old ≡ drop k new =
      sym (drop-append_seam puts.parts old) ∙
      (ap (λ j. drop j (puts.parts ++ old)) (sym puts.count) ∙
      (ap (drop size) (sym puts.after) ∙ (after ∙ ap (λ j. drop j new) (sym less)))) in
      let stand : AllRefs (Stands S w) (part ∷ take k new) =
      subst (AllRefs (Stands S w)) all (refs_of_all (λ r. Stands S w r) puts.parts puts.standing) in
      let left : trees_left f t from (part ∷ take k new) ≡ trees_after from (parts (f t)) =
      subst (λ us. trees_left f t from us ≡ trees_after from (parts (f t))) all
      (portion_left f t from size puts.parts puts.count puts.are) in
      let many = puts.count ∙ ap length all in
      let same : to ≡ from + suc (length (take k new)) = omega (arith, many, some) in
      record {
        next = record { are = sym left; standing = λ whole none. stand };
        after = rest;
        enough = subst (HasOpened S w t) same enough;
      }

  pub portion_there : (v : Traversed R) (n k : ℕ) (old mid new : List R) (part : R) → take v.left old ≡ [] →
      mid ≡ old → TakesPortion S w v.whole n mid part k new → TakesPart S w v n old part k new
  portion_there v n k old mid new part none same taken = record {
    next = subst (λ us. IsNext S w v.whole n us part (take k new)) (sym none) taken.next;
    after = nothing_before v.left old none ∙ (sym same ∙ taken.after);
    enough = taken.enough;
  }
    where
      nothing_before : (j : ℕ) (xs : List R) → take j xs ≡ [] → drop j xs ≡ xs
      nothing_before zero xs e = refl
      nothing_before (suc j) [] e = refl
      nothing_before (suc j) (x ∷ xs) e = absurd (cc)

-- a later portion is looked for
pub later_found : {W R Y N : Type 0} (S : Space W R Y N) (w : W) (v : Traversed R) (n m : ℕ) (old mid new : List R) →
    m ≡ n → take v.left old ≡ [] → mid ≡ old →
    (o : Option (TakenPart R)) → MatchOption o (HasNoneAfter S w v.whole m mid new)
    (λ x. TakesPortion S w v.whole m mid x.part x.left new) →
    MatchOption o (HasNone S w v n old new) (λ x. TakesPart S w v n old x.part x.left new)
later_found S w v n m old mid new many none same None h =
    record { kept = h.kept ∙ same; none = none; no_more = subst (λ i. HasNoMore S w v.whole i) many h.no_more }
later_found S w v n m old mid new many none same (Some x) h =
    portion_there v n x.left old mid new x.part none same
    (subst (λ i. TakesPortion S w v.whole i mid x.part x.left new) many h)
