-- A step over references is the step over the trees that they are, and keeps what the marks must cover.
use Rattle.std.proofs.Common.{◌≡◌, ℕ, suc, ◌-◌, List, [], ◌∷◌, length, take, map, refl, sym, ◌∙◌, ap, arith}
use Rattle.std.specs.Prelude.{Bool, true, false}
use Rattle.std.specs.Option.{option_map}
use Rattle.term_model.specs.Term.{more}
use Rattle.term_model.specs.Flat.{Meaning}
use Rattle.strat_code.specs.Code.{Code, nodes_of}
use Rattle.strat_steps.specs.Binding.{undone, above, down_to}
use Rattle.strat_steps.specs.State.{Frame, saved, run_spent, ended}
use Rattle.strat_steps.specs.Step.{on_one, on_some_unchanged, effect, performed, next, IsGoing, Steps, no_step, more_steps}
use Rattle.term_model.specs.Space.{Space, GoesBack, IsMark, Covers}
use Rattle.strat_steps.specs.References.{Places, RefRecord, ref_choice, ref_all, ref_one, ref_some, RefState, ref_running, ref_failing, trees, record_tree, state_tree}
use Rattle.strat_steps.specs.ReferenceSteps.{IsNext, HasNoMore, StepsRef, no_step_ref, more_steps_ref, StepRef, performs, cannot_pay, leaves_code, fails_whole, fails_call, fails_all, fails_choice, fails_one_last, fails_one_next, fails_some_none, fails_some_last, fails_some_next}
use Rattle.strat_steps.specs.Marks.{Covered, all_covered, choice_covered, one_covered, some_covered, Safe, Holds}
use Rattle.strat_steps.proofs.TrailLaws.{if_less, if_more}
use Rattle.strat_steps.proofs.ReferenceParts.{left_same, refs_changed, map_length, run_same, fail_same, new_kept, new_covered, passed_call, passed_all, back_safe, back_places, back_records, back_trees}
use Rattle.strat_steps.proofs.ReferenceEffects.{does_so}

module _ {W R Y N : Type 0} {S : Space W R Y N} where
  choice_back : (code : Code) (M : Meaning) {a q k h d b l : ℕ} {t : R} {e : Places R} (F : List Frame) {T : List ℕ} {K : List (RefRecord R Y)} {m : Y} {w w1 : W} → GoesBack S w m w1 → Safe S w e T b (ref_choice a t (saved q k h d) m ∷ K) → Covered S e T b (ref_choice a t (saved q k h d) m ∷ K) →
      (next code M (state_tree (S.term_of w) (ref_failing e F T b (ref_choice a t (saved q k h d) m ∷ K) l)) ≡ state_tree (S.term_of w1) (ref_running a q t (take b (undone (above h T) e)) (take k F) (down_to h T) d K l)) × Holds S w1 (ref_running a q t (take b (undone (above h T) e)) (take k F) (down_to h T) d K l)
  choice_back code M {t = t} F back safe (choice_covered kept ct c) =
      (run_same (sym (back.terms t ct)) (back_places back kept) (back_records back kept), ((back.exactly t).1 ct, back_safe back safe.low kept c))

  one_back_last : (code : Code) (M : Meaning) {body after q k h d b l : ℕ} {t u : R} {done : List R} {e : Places R} (F : List Frame)
      {T : List ℕ} {K : List (RefRecord R Y)} {m : Y} {w w1 : W} → GoesBack S w m w1 →
      HasNoMore S w1 t (suc (length done)) →
      Safe S w e T b (ref_one body after t done u [] (saved q k h d) m ∷ K) → Covered S e T b (ref_one body after t done u [] (saved q k h d) m ∷ K) →
      (next code M (state_tree (S.term_of w) (ref_failing e F T b (ref_one body after t done u [] (saved q k h d) m ∷ K) l)) ≡
      state_tree (S.term_of w1) (ref_failing (take b (undone (above h T) e)) (take k F) (down_to h T) d K l)) × Holds S w1 (ref_failing (take b (undone (above h T) e)) (take k F) (down_to h T) d K l)
  one_back_last code M {body = body} {after} {q} {k} {h} {d} {b} {l} {t} {u} {done} {e} F {T} {K} {m} {w} {w1}
      back none safe (one_covered kept ct cd cu cr c) =
      let f = S.term_of w in let ht = back.terms t ct in
      let hl = sym (left_same (Covers S m) f (S.term_of w1) back.terms t ht (suc (length done)) [] cr) in (
        ap (on_one (take k F) (down_to h T) d (map (record_tree f) K) l body after q (f t)
            (take b (undone (above h T) (map (option_map f) e))) (more (f u) (trees f done))) (hl ∙ none) ∙
            fail_same (back_places back kept) (back_records back kept),
        back_safe back safe.low kept c,
      )

  some_back_none : (code : Code) (M : Meaning) {body after q k h d b l : ℕ} {t u : R} {done : List R} {e : Places R} (F : List Frame)
      {T : List ℕ} {K : List (RefRecord R Y)} {m : Y} {w w1 : W} → GoesBack S w m w1 →
      HasNoMore S w1 t (suc (length done)) →
      Safe S w e T b (ref_some body after t done u [] false (saved q k h d) m ∷ K) → Covered S e T b (ref_some body after t done u [] false (saved q k h d) m ∷ K) →
      (next code M (state_tree (S.term_of w) (ref_failing e F T b (ref_some body after t done u [] false (saved q k h d) m ∷ K) l)) ≡
      state_tree (S.term_of w1) (ref_failing (take b (undone (above h T) e)) (take k F) (down_to h T) d K l)) × Holds S w1 (ref_failing (take b (undone (above h T) e)) (take k F) (down_to h T) d K l)
  some_back_none code M {body = body} {after} {q} {k} {h} {d} {b} {l} {t} {u} {done} {e} F {T} {K} {m} {w} {w1}
      back none safe (some_covered kept ct cd cu cr c) =
      let f = S.term_of w in let ht = back.terms t ct in
      let hl = sym (left_same (Covers S m) f (S.term_of w1) back.terms t ht (suc (length done)) [] cr) in (
        ap (on_some_unchanged (take k F) (down_to h T) d (map (record_tree f) K) l body after q (f t)
            (take b (undone (above h T) (map (option_map f) e))) false (trees f done) (f u)) (hl ∙ none) ∙
            fail_same (back_places back kept) (back_records back kept),
        back_safe back safe.low kept c,
      )

  some_back_last : (code : Code) (M : Meaning) {body after q k h d b l : ℕ} {t u : R} {done : List R} {e : Places R} (F : List Frame)
      {T : List ℕ} {K : List (RefRecord R Y)} {m : Y} {w w1 : W} → GoesBack S w m w1 →
      HasNoMore S w1 t (suc (length done)) →
      Safe S w e T b (ref_some body after t done u [] true (saved q k h d) m ∷ K) → Covered S e T b (ref_some body after t done u [] true (saved q k h d) m ∷ K) →
      (next code M (state_tree (S.term_of w) (ref_failing e F T b (ref_some body after t done u [] true (saved q k h d) m ∷ K) l)) ≡
      state_tree (S.term_of w1) (ref_running (after - 1) q u (take b (undone (above h T) e)) (take k F) (down_to h T) d
      (ref_all body after t done [] ∷ K) l)) × Holds S w1 (ref_running (after - 1) q u (take b (undone (above h T) e)) (take k F) (down_to h T) d
      (ref_all body after t done [] ∷ K) l)
  some_back_last code M {body = body} {after} {q} {k} {h} {d} {b} {l} {t} {u} {done} {e} F {T} {K} {m} {w} {w1}
      back none safe (some_covered kept ct cd cu cr c) =
      let f = S.term_of w in let ht = back.terms t ct in
      let hl = sym (left_same (Covers S m) f (S.term_of w1) back.terms t ht (suc (length done)) [] cr) in
      let s = back_safe back safe.low kept c in let hp = back_places back kept in let hr = back_records back kept in
      let hu = back.terms u cu in let hd = back_trees back done cd in (
        ap (on_some_unchanged (take k F) (down_to h T) d (map (record_tree f) K) l body after q (f t)
            (take b (undone (above h T) (map (option_map f) e))) true (trees f done) (f u)) (hl ∙ none) ∙ cc,
        (
          (back.exactly u).1 cu,
          record {
            places = s.places;
            records = (((back.exactly t).1 ct, refs_changed (λ r. (back.exactly r).1) done cd, tt), s.records);
            covered = all_covered s.covered;
            low = s.low;
          },
        ),
      )

  one_back_next : (code : Code) (M : Meaning) {body after q k h d b l : ℕ} {t u v : R} {done rest us : List R} {e : Places R} (F : List Frame)
      {T : List ℕ} {K : List (RefRecord R Y)} {m n : Y} {w w1 : W} → GoesBack S w m w1 →
      IsNext S w1 t (suc (length done)) rest v us → IsMark S w1 n →
      Safe S w e T b (ref_one body after t done u rest (saved q k h d) m ∷ K) → Covered S e T b (ref_one body after t done u rest (saved q k h d) m ∷ K) →
      (next code M (state_tree (S.term_of w) (ref_failing e F T b (ref_one body after t done u rest (saved q k h d) m ∷ K) l)) ≡
      state_tree (S.term_of w1) (ref_running body q v (take b (undone (above h T) e)) (take k F) (down_to h T) (length (take b (undone (above h T) e)))
      (ref_one body after t (u ∷ done) v us
      (saved q (length (take k F)) (length (down_to h T)) d) n ∷ K) l)) × Holds S w1 (ref_running body q v (take b (undone (above h T) e)) (take k F) (down_to h T) (length (take b (undone (above h T) e)))
      (ref_one body after t (u ∷ done) v us
      (saved q (length (take k F)) (length (down_to h T)) d) n ∷ K) l)
  one_back_next code M {body = body} {after} {q} {k} {h} {d} {b} {l} {t} {u} {v} {done} {rest} {us} {e} F {T} {K} {m} {n} {w}
      {w1} back x mark safe (one_covered kept ct cd cu cr c) =
      let f = S.term_of w in let ht = back.terms t ct in
      let hl = sym (left_same (Covers S m) f (S.term_of w1) back.terms t ht (suc (length done)) rest cr) in
      let s = back_safe back safe.low kept c in let hp = back_places back kept in let hr = back_records back kept in
      let hu = back.terms u cu in let hd = back_trees back done cd in
      let hn = map_length (option_map (S.term_of w1)) (take b (undone (above h T) e)) in
      let st = (back.exactly t).1 ct in let su = (back.exactly u).1 cu in
      let sd = refs_changed (λ r. (back.exactly r).1) done cd in
      let sn = x.standing st (refs_changed (λ r. (back.exactly r).1) rest cr) in (
        ap (on_one (take k F) (down_to h T) d (map (record_tree f) K) l body after q (f t)
            (take b (undone (above h T) (map (option_map f) e))) (more (f u) (trees f done))) (hl ∙ x.are) ∙ cc,
        (
          sn.0,
          record {
            places = s.places;
            records = ((st, (su, sd), sn.0, sn.1, mark.valid), s.records);
            covered = one_covered (new_kept mark s) ((mark.exactly t).1 st)
                ((mark.exactly u).1 su, refs_changed (λ r. (mark.exactly r).1) done sd) ((mark.exactly v).1 sn.0)
                (refs_changed (λ r. (mark.exactly r).1) us sn.1) (new_covered s);
            low = omega arith;
          },
        ),
      )

  some_back_next : (code : Code) (M : Meaning) {body after q k h d b l : ℕ} {t u v : R} {done rest us : List R} {found : Bool} {e : Places R} (F : List Frame)
      {T : List ℕ} {K : List (RefRecord R Y)} {m n : Y} {w w1 : W} → GoesBack S w m w1 →
      IsNext S w1 t (suc (length done)) rest v us → IsMark S w1 n →
      Safe S w e T b (ref_some body after t done u rest found (saved q k h d) m ∷ K) → Covered S e T b (ref_some body after t done u rest found (saved q k h d) m ∷ K) →
      (next code M (state_tree (S.term_of w) (ref_failing e F T b (ref_some body after t done u rest found (saved q k h d) m ∷ K) l)) ≡
      state_tree (S.term_of w1) (ref_running body q v (take b (undone (above h T) e)) (take k F) (down_to h T) (length (take b (undone (above h T) e)))
      (ref_some body after t (u ∷ done) v us found
      (saved q (length (take k F)) (length (down_to h T)) d) n ∷ K) l)) × Holds S w1 (ref_running body q v (take b (undone (above h T) e)) (take k F) (down_to h T) (length (take b (undone (above h T) e)))
      (ref_some body after t (u ∷ done) v us found
      (saved q (length (take k F)) (length (down_to h T)) d) n ∷ K) l)
  some_back_next code M {body = body} {after} {q} {k} {h} {d} {b} {l} {t} {u} {v} {done} {rest} {us} {found} {e} F {T} {K} {m}
      {n} {w} {w1} back x mark safe (some_covered kept ct cd cu cr c) =
      let f = S.term_of w in let ht = back.terms t ct in
      let hl = sym (left_same (Covers S m) f (S.term_of w1) back.terms t ht (suc (length done)) rest cr) in
      let s = back_safe back safe.low kept c in let hp = back_places back kept in let hr = back_records back kept in
      let hu = back.terms u cu in let hd = back_trees back done cd in
      let hn = map_length (option_map (S.term_of w1)) (take b (undone (above h T) e)) in
      let st = (back.exactly t).1 ct in let su = (back.exactly u).1 cu in
      let sd = refs_changed (λ r. (back.exactly r).1) done cd in
      let sn = x.standing st (refs_changed (λ r. (back.exactly r).1) rest cr) in (
        ap (on_some_unchanged (take k F) (down_to h T) d (map (record_tree f) K) l body after q (f t)
            (take b (undone (above h T) (map (option_map f) e))) found (trees f done) (f u)) (hl ∙ x.are) ∙ cc,
        (
          sn.0,
          record {
            places = s.places;
            records = ((st, (su, sd), sn.0, sn.1, mark.valid), s.records);
            covered = some_covered (new_kept mark s) ((mark.exactly t).1 st)
                ((mark.exactly u).1 su, refs_changed (λ r. (mark.exactly r).1) done sd) ((mark.exactly v).1 sn.0)
                (refs_changed (λ r. (mark.exactly r).1) us sn.1) (new_covered s);
            low = omega arith;
          },
        ),
      )

  -- a step is the step of the trees
  pub step_so : {code : Code} {M : Meaning} {w w1 : W} {m m1 : RefState R Y} → StepRef S code M w m w1 m1 → Holds S w m → (next code M (state_tree (S.term_of w) m) ≡ state_tree (S.term_of w1) m1) × Holds S w1 m1
  step_so {code} {M} (performs {v = v} {i} {p} {b} {l} {t} {e} {F} {T} {K} {w} rest at cost x) h =
      let y = does_so x h.0 h.1 in (
        ap (λ o. performed M o i p (S.term_of w t) (map (option_map (S.term_of w)) e) F T b (map (record_tree (S.term_of w)) K) l) at
            ∙ if_more (ended run_spent l) (effect M v i p (S.term_of w t) (map (option_map (S.term_of w)) e) F T b (map (record_tree (S.term_of w)) K) (l - nodes_of v)) l (nodes_of v) (omega arith)
            ∙ ap (λ r. effect M v i p (S.term_of w t) (map (option_map (S.term_of w)) e) F T b (map (record_tree (S.term_of w)) K) r) (let q : l - nodes_of v ≡ rest = omega arith in q)
            ∙ y.0,
        y.1,
      )
  step_so {code} {M} (cannot_pay {v = v} {i} {p} {b} {l} {t} {e} {F} {T} {K} {w} at cost) h = (
    ap (λ o. performed M o i p (S.term_of w t) (map (option_map (S.term_of w)) e) F T b (map (record_tree (S.term_of w)) K) l) at
        ∙ if_less (ended run_spent l) (effect M v i p (S.term_of w t) (map (option_map (S.term_of w)) e) F T b (map (record_tree (S.term_of w)) K) (l - nodes_of v)) l (nodes_of v) cost,
    tt,
  )
  step_so {code} {M} (leaves_code {i = i} {p} {b} {l} {t} {e} {F} {T} {K} {w} none) h =
      (ap (λ o. performed M o i p (S.term_of w t) (map (option_map (S.term_of w)) e) F T b (map (record_tree (S.term_of w)) K) l) none, tt)
  step_so fails_whole h = (refl, tt)
  step_so fails_call h = (refl, passed_call h.covered h)
  step_so fails_all h = (refl, passed_all h.covered h)
  step_so {code} {M} (fails_choice {F = F} back) safe = choice_back code M F back safe safe.covered
  step_so {code} {M} (fails_one_last {F = F} back none) safe = one_back_last code M F back none safe safe.covered
  step_so {code} {M} (fails_one_next {F = F} back x mark) safe = one_back_next code M F back x mark safe safe.covered
  step_so {code} {M} (fails_some_none {F = F} back none) safe = some_back_none code M F back none safe safe.covered
  step_so {code} {M} (fails_some_last {F = F} back none) safe = some_back_last code M F back none safe safe.covered
  step_so {code} {M} (fails_some_next {F = F} back x mark) safe = some_back_next code M F back x mark safe safe.covered

  goes_from : {code : Code} {M : Meaning} {w w1 : W} {m m1 : RefState R Y} → StepRef S code M w m w1 m1 → IsGoing (state_tree (S.term_of w) m)
  goes_from (performs rest at cost x) = tt
  goes_from (cannot_pay at cost) = tt
  goes_from (leaves_code none) = tt
  goes_from fails_whole = tt
  goes_from fails_call = tt
  goes_from fails_all = tt
  goes_from (fails_choice back) = tt
  goes_from (fails_one_last back none) = tt
  goes_from (fails_one_next back x mark) = tt
  goes_from (fails_some_none back none) = tt
  goes_from (fails_some_last back none) = tt
  goes_from (fails_some_next back x mark) = tt

  -- a run is the run of the trees
  pub steps_so : {code : Code} {M : Meaning} {k : ℕ} {w w1 : W} {m m1 : RefState R Y} → StepsRef S code M k w m w1 m1 → Holds S w m → Steps code M k (state_tree (S.term_of w) m) (state_tree (S.term_of w1) m1) × Holds S w1 m1
  steps_so no_step_ref h = (no_step, h)
  steps_so (more_steps_ref x xs) h = let y = step_so x h in let z = steps_so xs y.1 in (more_steps (goes_from x) y.0 z.0, z.1)
