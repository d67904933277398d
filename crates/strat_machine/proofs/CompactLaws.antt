-- Compact records: the newest one changed in place.
use Rattle.std.proofs.Common.{◌≡◌, ℕ, suc, ◌+◌, ◌-◌, ◌<◌, List, [], ◌∷◌, ◌++◌, length, reverse, take, get_or, sym, ◌∙◌, ap, subst, refl, arith, add-one}
use Rattle.std.specs.Prelude.{Option, Some, None, MatchOption, slice_set}
use Rattle.std.proofs.lemmas.List.{reverse-append, reverse-reverse, length-reverse, length-append}
use Rattle.std.proofs.Math.Seq.{set-append_seam, get_or-append_seam}
use Rattle.strat_machine.specs.CompactRecords.{joined, traversed_in, AdvancesAll, HasNoCall, HasNoChoice, HasChoice}
use Rattle.strat_machine.specs.declared.compact_records.CompactRecord.{CompactRecord}
use Rattle.strat_machine.specs.declared.compact_records.CompactRecord.TheVariants as compact
use Rattle.strat_machine.specs.declared.compact_records.Checkpoint.{Checkpoint}
use Rattle.strat_machine.specs.declared.compact_records.CompactTraversed.{CompactTraversed}
use Rattle.strat_machine.specs.declared.records.Record.{Record}
use Rattle.strat_machine.specs.declared.records.Record.TheVariants as records
use Rattle.strat_machine.specs.declared.records.Saved.{Saved}
use Rattle.strat_machine.specs.RecordStack.{records_in, saved_of, IsNoCall, IsNoChoice, IsChoice}
use Rattle.strat_steps.specs.References.{ref_call}

-- the last item of a vector is the newest of its stack
module _ {A : Type 0} (xs : List A) {v : A} {rest : List A} (is : reverse xs ≡ v ∷ rest) where
  in_front : xs ≡ reverse rest ++ v ∷ []
  in_front = sym (reverse-reverse xs) ∙ (ap reverse is ∙ reverse-append (v ∷ []) rest)

  before : length xs - 1 ≡ length (reverse rest)
  before = let a = ap length in_front in let b = length-append (reverse rest) (v ∷ []) in omega (arith, a, b)

  pub newest_set : (u : A) (i : ℕ) → i ≡ length xs - 1 → reverse (slice_set xs i u) ≡ u ∷ rest
  newest_set u i at =
      ap (λ ys. reverse (slice_set ys i u)) in_front ∙
      (ap (λ k. reverse (slice_set (reverse rest ++ v ∷ []) k u)) (at ∙ before) ∙
      (ap reverse (set-append_seam (reverse rest) v [] u) ∙
      (reverse-append (reverse rest) (u ∷ []) ∙ ap (λ ys. u ∷ ys) (reverse-reverse rest))))

  pub newest_read : (d : A) (i : ℕ) → i ≡ length xs - 1 → get_or xs i d ≡ v
  newest_read d i at = ap (λ ys. get_or ys i d) in_front ∙
      (ap (λ k. get_or (reverse rest ++ v ∷ []) k d) (at ∙ before) ∙ get_or-append_seam (reverse rest) v [] d)

pub newest_is : {A : Type 0} (xs : List A) (x : A) (i : ℕ) → 0 < length xs → i ≡ length xs - 1 → x ≡ get_or xs i x →
    (rest : List A) × (reverse xs ≡ x ∷ rest)
newest_is {A} xs x i some at read = split (reverse xs) refl_is
  where
    refl_is : reverse xs ≡ reverse xs
    refl_is = refl

    split : (ys : List A) → reverse xs ≡ ys → (rest : List A) × (reverse xs ≡ x ∷ rest)
    split [] none = let a = length-reverse xs in let b = ap length none in absurd (omega (arith, a, b, some))
    split (v ∷ rest) is = (rest, is ∙ ap (λ u. u ∷ rest) (sym (read ∙ newest_read xs is x i at)))

pub newest_in : {A : Type 0} (ys xs : List A) (x : A) → ys ≡ xs → 0 < length ys → x ≡ get_or ys (length ys - 1) x →
    (rest : List A) × (reverse xs ≡ x ∷ rest)
newest_in ys xs x same some read =
    subst (λ zs. (rest : List _) × (reverse zs ≡ x ∷ rest)) same (newest_is ys x (length ys - 1) some refl read)

-- the counts of the newest traversal are changed
pub counts_set : {R : Type 0} (xs : List (CompactTraversed R)) (n : ℕ) (x : CompactTraversed R) (done left : ℕ)
    (v : CompactTraversed R) (rest : List (CompactTraversed R)) → reverse xs ≡ v ∷ rest → n ≡ length xs →
    x ≡ get_or xs (n - 1) x →
    reverse (slice_set xs (n - 1) (record x { done = done; left = left })) ≡ record v { done = done; left = left } ∷
    rest
counts_set {R} xs n x done left v rest is many read =
    let at : n - 1 ≡ length xs - 1 = ap (λ k. k - 1) many in
    let counts : CompactTraversed R → List (CompactTraversed R) = λ u. record u { done = done; left = left } ∷ rest in
    newest_set xs is (record x { done = done; left = left }) (n - 1) at ∙
    ap counts (read ∙ newest_read xs is x (n - 1) at)

-- all(s) goes on
module _ {R Y : Type 0} (Z : List (Checkpoint Y)) (xs ys : List (CompactTraversed R)) (x : CompactTraversed R)
    (left others : List R) (part : R) where
  pub advances : (rs : List (CompactRecord R)) (L : List (Record R Y)) (item : CompactRecord R) (done less : ℕ) →
      joined rs Z (reverse xs) ≡ L → take 1 rs ≡ item ∷ [] → item ≡ compact.All → (rest : List (CompactTraversed R)) ×
      (reverse xs ≡ x ∷ rest) → 0 < x.left →
      done ≡ x.done + 1 → less ≡ x.left - 1 → left ≡ part ∷ others →
      ((v : CompactTraversed R) (rest : List (CompactTraversed R)) → reverse xs ≡ v ∷ rest →
      reverse ys ≡ record v { done = done; left = less } ∷ rest) →
      AdvancesAll L left x.body part (joined rs Z (reverse ys)) others
  advances [] L item done less seen newest all there more d l taken changes = absurd (cc)
  advances (r ∷ rs) L item done less seen newest all there more d l taken changes =
      let kind : r ≡ compact.All = cc in
      let now = changes x there.0 there.1 in
      record {
        traversed = traversed_in x;
        rest = joined rs Z there.0;
        was = sym seen ∙ (ap (λ q. joined (q ∷ rs) Z (reverse xs)) kind ∙
            ap (λ vs. joined (compact.All ∷ rs) Z vs) there.1);
        is = ap (λ q. joined (q ∷ rs) Z (reverse ys)) kind ∙
            (ap (λ vs. joined (compact.All ∷ rs) Z vs) now ∙
            (ap (λ k. joined (compact.All ∷ rs) Z (record x { done = k; left = less } ∷ there.0)) (d ∙ add-one x.done) ∙
            ap (λ k. joined (compact.All ∷ rs) Z (record x { done = suc x.done; left = k } ∷ there.0)) l));
        more = more;
        code = refl;
        taken = taken;
      }

-- what the newest record is, as records over references
module _ {R Y : Type 0} (D E : List R) where
  no_call : (L : List (Record R Y)) → HasNoCall L → IsNoCall (records_in L D E)
  no_call [] h = tt
  no_call (records.Call a q ∷ L) h = absurd h
  no_call (records.Choice a t s m ∷ L) h = tt
  no_call (records.All v ∷ L) h = tt
  no_call (records.One v u s m ∷ L) h = tt
  no_call (records.Some v u found s m ∷ L) h = tt

  no_choice : (L : List (Record R Y)) → HasNoChoice L → IsNoChoice (records_in L D E)
  no_choice [] h = tt
  no_choice (records.Call a q ∷ L) h = tt
  no_choice (records.Choice a t s m ∷ L) h = absurd h
  no_choice (records.All v ∷ L) h = tt
  no_choice (records.One v u s m ∷ L) h = tt
  no_choice (records.Some v u found s m ∷ L) h = tt

  pub call_popped : (L K : List (Record R Y)) (o : Option (ℕ × ℕ)) →
      MatchOption o ((K ≡ L) × HasNoCall L) (λ c. L ≡ records.Call c.0 c.1 ∷ K) →
      MatchOption o (IsNoCall (records_in L D E)) (λ c. records_in L D E ≡ ref_call c.0 c.1 ∷ records_in K D E)
  call_popped L K None h = no_call L h.1
  call_popped L K (Some c) h = ap (λ x. records_in x D E) h

  pub choice_dropped : (L K : List (Record R Y)) (o : Option Saved) →
      MatchOption o (HasNoChoice L) (λ s. HasChoice L s K) →
      MatchOption o (IsNoChoice (records_in L D E)) (λ s. IsChoice (records_in L D E) (saved_of s) (records_in K D E))
  choice_dropped L K None h = no_choice L h
  choice_dropped L K (Some s) h =
      record { otherwise = h.otherwise; term = h.term; mark = h.mark; are = ap (λ x. records_in x D E) h.are }
