-- Steps after a failure, of the Rust machine.
use Rattle.std.proofs.Common.{◌≡◌, ℕ, zero, suc, ◌-◌, Option, Some, None, List, [], ◌∷◌, length, take, drop, refl, sym, ◌∙◌, ap, subst, arith}
use Rattle.std.specs.Prelude.{Bool, true, false, MatchOption}
use Rattle.term_model.specs.Flat.{Meaning}
use Rattle.strat_code.specs.Code.{Code}
use Rattle.strat_patterns.proofs.ElementLaws.{refs_later}
use Rattle.strat_steps.specs.State as state
use Rattle.strat_steps.specs.State.{Frame}
use Rattle.strat_steps.specs.Binding.{undone, above, down_to}
use Rattle.term_model.specs.Space.{Space, GoesBack, IsMark, Stands}
use Rattle.strat_steps.specs.References.{Places, RefRecord, ref_all, ref_one, ref_some, RefState, ref_running, ref_failing, AllRefs}
use Rattle.strat_steps.specs.ReferenceSteps.{IsNext}
use Rattle.strat_steps.specs.Marks.{Safe, Covered, one_covered, some_covered}
use Rattle.strat_patterns.specs.PlaceStack.{PlaceStack}
use Rattle.strat_machine.specs.CompactRecords.{HasNoCall}
use Rattle.strat_machine.specs.Opened.{StepOpened}
use Rattle.strat_machine.specs.RecordStack.{saved_of, records_in, records_of, with_record}
use Rattle.strat_machine.specs.Traversing.{HasNone, TakesPart}
use Rattle.strat_machine.specs.declared.records.Saved.{Saved}
use Rattle.strat_machine.specs.declared.records.Traversed.{Traversed}
use Rattle.strat_machine.specs.declared.records.Record.{Record}
use Rattle.strat_machine.specs.declared.records.Record.TheVariants as records
use Rattle.strat_machine.specs.declared.records.Records.{Records}
use Rattle.strat_machine.proofs.OpenedLaws.{call_failed, one_last_failed, one_next_failed, some_none_failed, some_last_failed, some_next_failed}

take_none : {A : Type 0} (n : ℕ) → take {A = A} n [] ≡ []
take_none zero = refl
take_none (suc n) = refl

-- the next of n parts is taken
pub part_taken : {R : Type 0} (n : ℕ) (old new : List R) (v : Option R) → (n ≡ 0 → ⊥) →
    MatchOption v ((old ≡ []) × (new ≡ [])) (λ r. old ≡ r ∷ new) →
    MatchOption v ((take n old ≡ []) × (new ≡ old)) (λ r. (take n old ≡ r ∷ take (n - 1) new) ×
    (drop n old ≡ drop (n - 1) new))
part_taken zero old new v some h = absurd (some refl)
part_taken (suc n) old new None some h = (ap (take (suc n)) h.0 ∙ take_none (suc n), h.1 ∙ sym h.0)
part_taken (suc n) old new (Some r) some h =
    let k : suc n - 1 ≡ n = omega arith in (
      ap (take (suc n)) h ∙ ap (λ j. r ∷ take j new) (sym k),
      ap (drop (suc n)) h ∙ ap (λ j. drop j new) (sym k),
    )

-- the same parts after a traversal's record is off
module _ {R Y : Type 0} (rs np : Records R Y) (kept : np ≡ record rs { left = np.left }) where
  same_records : np.records ≡ rs.records
  same_records = ap (λ r. r.records) kept

  same_done : np.done ≡ rs.done
  same_done = ap (λ r. r.done) kept

  -- the traversal's parts are taken off
  pub cut_records : (cut : Records R Y) (d l : ℕ) → np.left ≡ rs.left →
      cut ≡ record { records = np.records; done = drop d np.done; left = drop l np.left } →
      records_in rs.records (drop d rs.done) (drop l rs.left) ≡ records_of cut
  cut_records cut d l same is =
      let a = same_records in let b = same_done in
      let e = ap (λ r. r.records) is in let f = ap (λ r. r.done) is in let g = ap (λ r. r.left) is in
      cc

-- the next part after one that failed
module _ {R Y : Type 0} (rs np : Records R Y) (kept : np ≡ record rs { left = np.left }) (v others : Traversed R)
    (part next : R) (k : ℕ) (D : List R)
    (other : others ≡ record v { done = suc v.done; left = k }) (put : D ≡ part ∷ np.done)
    (after : drop v.left rs.left ≡ drop k np.left) where
  rest_same : records_in np.records (drop others.done D) (drop others.left np.left) ≡
      records_in rs.records (drop v.done rs.done) (drop v.left rs.left)
  rest_same =
      let a = same_records rs np kept in let b = same_done rs np kept in
      let n = ap (λ u. u.done) other in let j = ap (λ u. u.left) other in
      ap (λ i. records_in np.records (drop i D) (drop others.left np.left)) n ∙
      (ap (λ l. records_in np.records (drop (suc v.done) l) (drop others.left np.left)) put ∙
      (ap (λ l. records_in np.records (drop v.done l) (drop others.left np.left)) b ∙
      (ap (λ i. records_in np.records (drop v.done rs.done) (drop i np.left)) j ∙
      (ap (λ l. records_in np.records (drop v.done rs.done) l) (sym after) ∙
      ap (λ r. records_in r (drop v.done rs.done) (drop v.left rs.left)) a))))

  done_same : take others.done D ≡ part ∷ take v.done rs.done
  done_same = ap (λ i. take i D) (ap (λ u. u.done) other) ∙
      (ap (take (suc v.done)) put ∙ ap (λ l. part ∷ take v.done l) (same_done rs np kept))

  left_same : take others.left np.left ≡ take k np.left
  left_same = ap (λ i. take i np.left) (ap (λ u. u.left) other)

  pub one_next : (g : Saved) (m : Y) (sv : state.Saved) → saved_of g ≡ sv →
      with_record (records.One others next g m) (record { records = np.records; done = D; left = np.left }) ≡
      ref_one v.body v.next_address v.whole (part ∷ take v.done rs.done) next (take k np.left) sv m ∷
      records_in rs.records (drop v.done rs.done) (drop v.left rs.left)
  one_next g m sv is =
      let a = rest_same in let b = done_same in let c = left_same in
      let body = ap (λ u. u.body) other in let to = ap (λ u. u.next_address) other in let whole =
      ap (λ u. u.whole) other in
      cc

  pub some_next : (found : Bool) (g : Saved) (m : Y) (sv : state.Saved) → saved_of g ≡ sv →
      with_record (records.Some others next found g m) (record { records = np.records; done = D; left = np.left }) ≡
      ref_some v.body v.next_address v.whole (part ∷ take v.done rs.done) next (take k np.left) found sv m ∷
      records_in rs.records (drop v.done rs.done) (drop v.left rs.left)
  some_next found g m sv is =
      let a = rest_same in let b = done_same in let c = left_same in
      let body = ap (λ u. u.body) other in let to = ap (λ u. u.next_address) other in let whole =
      ap (λ u. u.whole) other in
      cc

-- what is saved after going back
saves_same : {R : Type 0} {P : PlaceStack R} {F F1 : List Frame} {s : state.Saved} {X : Places R} {T : List ℕ}
    (q d : ℕ) → P ≡ record { slots = X; trail = T; barrier = d } → F1 ≡ F →
    s ≡ state.saved q (length F1) (length P.trail) P.barrier → s ≡ state.saved q (length F) (length T) d
saves_same {P = P} {F} {T = T} q d restored fewer saves =
    saves ∙ (ap (λ G. state.saved q (length G) (length P.trail) P.barrier) fewer ∙
    (ap (λ U. state.saved q (length F) (length U) P.barrier) (ap (λ p. p.trail) restored) ∙
    ap (λ c. state.saved q (length F) (length T) c) (ap (λ p. p.barrier) restored)))

-- one part more is done, and so many are left
pub other_is : {R : Type 0} (v more other : Traversed R) (k : ℕ) → more ≡ record v { done = suc v.done } →
    other ≡ record more { left = k } → other ≡ record v { done = suc v.done; left = k }
other_is v more other k is less = less ∙ ap (λ (u : Traversed _). record u { left = k }) is

-- states from parts that are the same
pub same_failing : {R Y : Type 0} {b d l : ℕ} {e f : Places R} {F G : List Frame} {T U : List ℕ}
    {K L : List (RefRecord R Y)} → e ≡ f → F ≡ G → T ≡ U → b ≡ d → K ≡ L →
    ref_failing e F T b K l ≡ ref_failing f G U d L l
same_failing e F T b K = cc

pub same_running : {R Y : Type 0} {i p b d l : ℕ} {t : R} {e f : Places R} {F G : List Frame} {T U : List ℕ}
    {K L : List (RefRecord R Y)} → e ≡ f → F ≡ G → T ≡ U → b ≡ d → K ≡ L →
    ref_running i p t e F T b K l ≡ ref_running i p t f G U d L l
same_running e F T b K = cc

module _ {W R Y N : Type 0} {S : Space W R Y N} {code : Code} {M : Meaning} {w w1 : W} where
  pub step_to : {m n n1 : RefState R Y} → StepOpened S code M w m w1 n → n ≡ n1 → StepOpened S code M w m w1 n1
  step_to {m} x is = subst (λ n. StepOpened S code M w m w1 n) is x

  pub step_from : {m m1 n : RefState R Y} → StepOpened S code M w m w1 n → m ≡ m1 → StepOpened S code M w m1 w1 n
  step_from {n = n} x is = subst (λ m. StepOpened S code M w m w1 n) is x

module _ {W R Y N : Type 0} {S : Space W R Y N} {code : Code} {M : Meaning} {w w1 : W} {e : Places R}
    {F F1 : List Frame} {T : List ℕ} {b l q k h d : ℕ} {P : PlaceStack R} (mark : Y) (back : GoesBack S w mark w1)
    (restored : P ≡ record { slots = take b (undone (above h T) e); trail = down_to h T; barrier = d })
    (fewer : F1 ≡ take k F) (rs : Records R Y) {np : Records R Y} (kept : np ≡ record rs { left = np.left })
    (v : Traversed R) (part : R) where
  pub one_ends : (cut : Records R Y) → HasNone S w1 v (suc (length (take v.done rs.done))) rs.left np.left →
      cut ≡ record { records = np.records; done = drop v.done np.done; left = drop v.left np.left } →
      StepOpened S code M w (ref_failing e F T b
      (with_record (records.One v part (record { frame = q; frames = k; height = h; barrier = d }) mark) rs) l)
      w1 (ref_failing P.slots F1 P.trail P.barrier (records_of cut) l)
  one_ends cut found_none is =
      let none = found_none.none in let same = found_none.kept in
      let K0 = records_in rs.records (drop v.done rs.done) (drop v.left rs.left) in
      step_from
      (step_to (one_last_failed back found_none.no_more)
      (same_failing (ap (λ p. p.slots) (sym restored)) (sym fewer) (ap (λ p. p.trail) (sym restored))
      (ap (λ p. p.barrier) (sym restored)) (cut_records rs np kept cut v.done v.left same is)))
      (ap (λ us. ref_failing e F T b
      (ref_one v.body v.next_address v.whole (take v.done rs.done) part us (state.saved q k h d) mark ∷ K0) l)
      (sym none))

  pub some_ends : (cut : Records R Y) (found : Bool) → found ≡ false →
      HasNone S w1 v (suc (length (take v.done rs.done))) rs.left np.left →
      cut ≡ record { records = np.records; done = drop v.done np.done; left = drop v.left np.left } →
      StepOpened S code M w (ref_failing e F T b
      (with_record (records.Some v part found (record { frame = q; frames = k; height = h; barrier = d }) mark) rs)
      l) w1 (ref_failing P.slots F1 P.trail P.barrier (records_of cut) l)
  some_ends cut found not_found found_none is =
      let none = found_none.none in let same = found_none.kept in
      let K0 = records_in rs.records (drop v.done rs.done) (drop v.left rs.left) in
      step_from
      (step_to (some_none_failed back found_none.no_more)
      (same_failing (ap (λ p. p.slots) (sym restored)) (sym fewer) (ap (λ p. p.trail) (sym restored))
      (ap (λ p. p.barrier) (sym restored)) (cut_records rs np kept cut v.done v.left same is)))
      (ap (λ us. ref_failing e F T b
      (ref_some v.body v.next_address v.whole (take v.done rs.done) part us false (state.saved q k h d) mark ∷ K0)
      l) (sym none)
      ∙ ap (λ y. ref_failing e F T b
      (ref_some v.body v.next_address v.whole (take v.done rs.done) part (take v.left rs.left)
      y (state.saved q k h d) mark ∷ K0) l) (sym not_found))

  -- the whole is made next
  pub some_last : (stack : List (Record R Y)) (E : List R) (found : Bool) (ending : Traversed R) (address : ℕ) →
      found ≡ true → HasNone S w1 v (suc (length (take v.done rs.done))) rs.left np.left → E ≡ drop v.left np.left →
      ending ≡ record v { left = 0 } →
      stack ≡ records.All ending ∷ np.records → address ≡ v.next_address - 1 →
      StepOpened S code M w (ref_failing e F T b
      (with_record (records.Some v part found (record { frame = q; frames = k; height = h; barrier = d }) mark) rs)
      l) w1
      (ref_running address q part P.slots F1 P.trail P.barrier (records_in stack np.done E) l)
  some_last stack E found ending address was_found found_none cut end put at =
      let none = found_none.none in let same = found_none.kept in
      let K0 = records_in rs.records (drop v.done rs.done) (drop v.left rs.left) in
      let all : ref_all v.body v.next_address v.whole (take v.done rs.done) [] ∷ K0 ≡ records_in stack np.done E =
      ap (λ r. ref_all v.body v.next_address v.whole (take v.done rs.done) [] ∷
      records_in r (drop v.done rs.done) (drop v.left rs.left)) (sym (same_records rs np kept)) ∙
      (ap (λ D. ref_all v.body v.next_address v.whole (take v.done D) [] ∷
      records_in np.records (drop v.done D) (drop v.left rs.left)) (sym (same_done rs np kept)) ∙
      (ap (λ G. ref_all v.body v.next_address v.whole (take v.done np.done) [] ∷
      records_in np.records (drop v.done np.done) (drop v.left G)) (sym same) ∙
      (ap (λ G. ref_all v.body v.next_address v.whole (take v.done np.done) [] ∷
      records_in np.records (drop v.done np.done) G) (sym cut) ∙
      (ap (λ u. records_in (records.All u ∷ np.records) np.done E) (sym end) ∙
      ap (λ r. records_in r np.done E) (sym put)))))
      in
      step_from
      (step_to (some_last_failed back found_none.no_more)
      (same_running (ap (λ p. p.slots) (sym restored)) (sym fewer) (ap (λ p. p.trail) (sym restored))
      (ap (λ p. p.barrier) (sym restored)) all
      ∙ ap (λ a. ref_running a q part P.slots F1 P.trail P.barrier (records_in stack np.done E) l) (sym at)))
      (ap (λ us. ref_failing e F T b
      (ref_some v.body v.next_address v.whole (take v.done rs.done) part us true (state.saved q k h d) mark ∷ K0) l)
      (sym none)
      ∙ ap (λ y. ref_failing e F T b
      (ref_some v.body v.next_address v.whole (take v.done rs.done) part (take v.left rs.left)
      y (state.saved q k h d) mark ∷ K0) l) (sym was_found))

  module _ (others : Traversed R) (next : R) (j : ℕ) (D : List R)
      (other : others ≡ record v { done = suc v.done; left = j }) (put : D ≡ part ∷ np.done)
      (taken : TakesPart S w1 v (suc (length (take v.done rs.done))) rs.left next j np.left) (g : Saved) (mark2 : Y)
      (saves : saved_of g ≡ state.saved q (length F1) (length P.trail) P.barrier) (marks : IsMark S w1 mark2) where
    pub one_goes_on : StepOpened S code M w
        (ref_failing e F T b (with_record
        (records.One v part (record { frame = q; frames = k; height = h; barrier = d }) mark) rs) l) w1
        (ref_running others.body q next P.slots F1 P.trail (length P.slots)
        (with_record (records.One others next g mark2) (record { records = np.records; done = D; left = np.left }))
        l)
    one_goes_on =
        let slots = ap (λ p. p.slots) (sym restored) in
        step_to (one_next_failed back taken.next marks taken.enough)
        (same_running slots (sym fewer) (ap (λ p. p.trail) (sym restored)) (ap length slots)
        (sym (one_next rs np kept v others part next j D other put taken.after g mark2
        (state.saved q (length (take k F)) (length (down_to h T)) d) (saves_same q d restored fewer saves)))
        ∙ ap (λ a. ref_running a q next P.slots F1 P.trail (length P.slots)
        (with_record (records.One others next g mark2) (record { records = np.records; done = D; left = np.left }))
        l) (ap (λ u. u.body) (sym other)))

    pub some_goes_on : (found : Bool) →
        StepOpened S code M w (ref_failing e F T b
        (with_record (records.Some v part found (record { frame = q; frames = k; height = h; barrier = d }) mark) rs) l)
        w1
        (ref_running others.body q next P.slots F1 P.trail (length P.slots)
        (with_record (records.Some others next found g mark2)
        (record { records = np.records; done = D; left = np.left })) l)
    some_goes_on found =
        let slots = ap (λ p. p.slots) (sym restored) in
        step_to (some_next_failed back taken.next marks taken.enough)
        (same_running slots (sym fewer) (ap (λ p. p.trail) (sym restored)) (ap length slots)
        (sym (some_next rs np kept v others part next j D other put taken.after found g mark2
        (state.saved q (length (take k F)) (length (down_to h T)) d) (saves_same q d restored fewer saves)))
        ∙ ap (λ a. ref_running a q next P.slots F1 P.trail (length P.slots)
        (with_record (records.Some others next found g mark2)
        (record { records = np.records; done = D; left = np.left })) l) (ap (λ u. u.body) (sym other)))

-- the newest record is taken off
module _ {W R Y N : Type 0} {S : Space W R Y N} {w : W} {e : Places R} {T : List ℕ} {b : ℕ}
    {old new : List (Record R Y)} {r v : Record R Y} (D E : List R) where
  pub safe_at : Safe S w e T b (records_in old D E) → old ≡ v ∷ new → v ≡ r → Safe S w e T b (records_in (r ∷ new) D E)
  safe_at safe popped is = subst (λ x. Safe S w e T b (records_in (x ∷ new) D E))
      is (subst (λ rs. Safe S w e T b (records_in rs D E)) popped safe)

  pub step_at : {code : Code} {M : Meaning} {w1 : W} {F : List Frame} {l : ℕ} {n : RefState R Y} →
      StepOpened S code M w (ref_failing e F T b (records_in (r ∷ new) D E) l) w1 n → old ≡ v ∷ new → v ≡ r →
      StepOpened S code M w (ref_failing e F T b (records_in old D E) l) w1 n
  step_at {F = F} {l} x popped is =
      step_from x (ap (λ y. ref_failing e F T b (records_in (y ∷ new) D E) l) (sym is) ∙
      ap (λ rs. ref_failing e F T b (records_in rs D E) l) (sym popped))

-- the next part stands after a failure of the one before
module _ {W R Y N : Type 0} {S : Space W R Y N} {w w1 : W} {e : Places R} {T : List ℕ}
    {body after q k h d b n : ℕ} {t u v : R} {done rest us : List R} {m : Y} {K : List (RefRecord R Y)}
    (back : GoesBack S w m w1) where
  pub one_stands : Safe S w e T b (ref_one body after t done u rest (state.saved q k h d) m ∷ K) →
      IsNext S w1 t n rest v us → Stands S w1 v
  one_stands safe next = by safe.covered
    where
      by : Covered S e T b (ref_one body after t done u rest (state.saved q k h d) m ∷ K) → Stands S w1 v
      by (one_covered kept ct cd cu cr c) =
          (next.standing ((back.exactly t).1 ct) (refs_later (λ r. (back.exactly r).1) rest cr)).0

  pub some_stands : {found : Bool} →
      Safe S w e T b (ref_some body after t done u rest found (state.saved q k h d) m ∷ K) →
      IsNext S w1 t n rest v us → Stands S w1 v
  some_stands {found} safe next = by safe.covered
    where
      by : Covered S e T b (ref_some body after t done u rest found (state.saved q k h d) m ∷ K) → Stands S w1 v
      by (some_covered kept ct cd cu cr c) =
          (next.standing ((back.exactly t).1 ct) (refs_later (λ r. (back.exactly r).1) rest cr)).0

-- the record of a call is taken off
pub fails_popped : {W R Y N : Type 0} {S : Space W R Y N} {code : Code} {M : Meaning} {w : W} {e : Places R}
    {F : List Frame} {T : List ℕ} {b l : ℕ} (L K : List (Record R Y)) (D E : List R) (o : Option (ℕ × ℕ)) →
    MatchOption o ((K ≡ L) × HasNoCall L) (λ c. L ≡ records.Call c.0 c.1 ∷ K) → (HasNoCall L → ⊥) →
    StepOpened S code M w (ref_failing e F T b (records_in L D E) l) w (ref_failing e F T b (records_in K D E) l)
fails_popped L K D E None h call = absurd (call h.1)
fails_popped {e = e} {F} {T} {b} {l} L K D E (Some c) h call =
    step_from call_failed (ap (λ rs. ref_failing e F T b (records_in rs D E) l) (sym h))
