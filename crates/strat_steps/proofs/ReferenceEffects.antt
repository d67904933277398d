-- What an instruction does over references is its effect on the trees that they are.
use Rattle.std.proofs.Common.{◌≡◌, ℕ, suc, ◌-◌, Some, None, List, [], ◌∷◌, length, take, map, ◌++◌, refl, sym, ◌∙◌, ap, arith}
use Rattle.std.specs.Prelude.{Bool, true, false, replicate}
use Rattle.std.specs.Option.{option_map}
use Rattle.std.proofs.lemmas.List.{map-append}
use Rattle.term_model.specs.Term.{end, more}
use Rattle.term_model.specs.Flat.{Meaning}
use Rattle.core_lang.specs.Environment.{empty_places}
use Rattle.strat_code.specs.Code.{Case, Instr}
use Rattle.strat_steps.specs.Binding.{trimmed}
use Rattle.strat_steps.specs.State.{Frame, frame, saved, call_record, choice_record, one_record, some_record, run_spent, stuck, running, ended, frames_up, closed}
use Rattle.strat_steps.specs.Step.{on_all, on_one, on_some, called_with, selected, cut_to, goes_on, matched, left, returned, effect}
use Rattle.term_model.specs.Space.{Space, Stands}
use Rattle.strat_steps.specs.References.{Places, RefRecord, RefState, trees, trees_left, record_tree, state_tree, AllRefs}
use Rattle.strat_steps.specs.ReferenceSteps.{Does, counts, gives_up_so, jumps, matches, matches_not, builds, builds_none, builds_oversize, answers, answers_none, answers_oversize, enters, leaves, leaves_low, extends, shrinks, shrinks_low, calls_closure, ends_argument, ends_definition, ends_definition_low, tries, commits, finishes, sticks, calls, calls_none, calls_oversize, selects, begins_all, begins_one, begins_some, part_of_all, part_of_some, part_of_one, part_of_one_oversize, OnAll, all_goes_on, all_whole, all_oversize, OnOne, one_goes_on, one_none, OnSome, some_goes_on, some_whole, some_oversize, some_none, Selecting, selects_none, selects_this, selects_later, selects_spent}
use Rattle.strat_steps.specs.Marks.{call_covered, all_covered, choice_covered, one_covered, some_covered, Safe, Holds}
use Rattle.strat_steps.proofs.TrailLaws.{if_less, if_more}
use Rattle.strat_steps.proofs.ReferenceParts.{refs_changed, map_taken, map_length, map_none, all_more, all_none, all_some, run_same, fail_same, call_same, new_kept, new_covered, commit_covered, commit_one, commit_some, taken_off, bound_safe, grown_safe, taken_safe, more_safe, passed_call, passed_all, grown_places, grown_records, call_places}

module _ {W R Y N : Type 0} {S : Space W R Y N} where
  on_all_so : {w w1 : W} {body after p b l : ℕ} {t : R} {e : Places R} {F : List Frame} {T : List ℕ}
      {K : List (RefRecord R Y)} {done rest : List R} {m1 : RefState R Y} →
      OnAll S w body after p t e F T b K l done rest w1 m1 →
      Stands S w t → AllRefs (Stands S w) done → AllRefs (Stands S w) rest → Safe S w e T b K →
      (on_all F T b (map (record_tree (S.term_of w)) K) l body after p (S.term_of w t)
      (map (option_map (S.term_of w)) e) (trees (S.term_of w) done) (trees_left (S.term_of w) t (length done) rest) ≡
      state_tree (S.term_of w1) m1) × Holds S w1 m1
  on_all_so {w} {body = body} {after} {p} {b} {l} {t} {e} {F} {T} {K} {done} (all_goes_on x) st sd sr safe =
      let sn = x.standing st sr in (
        ap (on_all F T b (map (record_tree (S.term_of w)) K) l body after p (S.term_of w t)
            (map (option_map (S.term_of w)) e) (trees (S.term_of w) done)) x.are,
        (
          sn.0,
          record {
            places = safe.places;
            records = ((st, sd, sn.1), safe.records);
            covered = all_covered safe.covered;
            low = safe.low;
          },
        ),
      )
  on_all_so {w} {body = body} {after} {p} {b} {l} {t} {e} {F} {T} {K} {done} (all_whole none g su h) st sd sr safe = (
    ap (on_all F T b (map (record_tree (S.term_of w)) K) l body after p (S.term_of w t)
        (map (option_map (S.term_of w)) e) (trees (S.term_of w) done)) none
        ∙ ap (goes_on F T b (map (record_tree (S.term_of w)) K) l after p (map (option_map (S.term_of w)) e)) h
        ∙ run_same refl (grown_places g e safe.places) (grown_records g K safe.records),
    (su, grown_safe g safe),
  )
  on_all_so {w} {body = body} {after} {p} {b} {l} {t} {e} {F} {T} {K} {done} (all_oversize none g h) st sd sr safe = (
    ap (on_all F T b (map (record_tree (S.term_of w)) K) l body after p (S.term_of w t)
        (map (option_map (S.term_of w)) e) (trees (S.term_of w) done)) none
        ∙ ap (goes_on F T b (map (record_tree (S.term_of w)) K) l after p (map (option_map (S.term_of w)) e)) h,
    tt,
  )

  on_one_so : {w : W} {body after p b l : ℕ} {t : R} {e : Places R} {F : List Frame} {T : List ℕ}
      {K : List (RefRecord R Y)} {done rest : List R} {m1 : RefState R Y} →
      OnOne S w body after p t e F T b K l done rest m1 →
      Stands S w t → AllRefs (Stands S w) done → AllRefs (Stands S w) rest → Safe S w e T b K →
      (on_one F T b (map (record_tree (S.term_of w)) K) l body after p (S.term_of w t)
      (map (option_map (S.term_of w)) e) (trees (S.term_of w) done) (trees_left (S.term_of w) t (length done) rest) ≡
      state_tree (S.term_of w) m1) × Holds S w m1
  on_one_so {w} {body = body} {after} {p} {b} {l} {t} {e} {F} {T} {K} {done}
      (one_goes_on {us = us} {u} x mark) st sd sr safe =
      let f = S.term_of w in
      let hn = map_length (option_map (S.term_of w)) e in let sn = x.standing st sr in (
        ap (on_one F T b (map (record_tree f) K) l body after p (f t) (map (option_map f) e) (trees f done)) x.are
            ∙ ap (λ n. running body p (f u) (map (option_map f) e) F T n
            (one_record body after (f t) (trees f done) (f u) (trees_left f t (suc (length done)) us)
            (saved p (length F) (length T) b) ∷ map (record_tree f) K) l) hn,
        (
          sn.0,
          record {
            places = safe.places;
            records = ((st, sd, sn.0, sn.1, mark.valid), safe.records);
            low = omega arith;
            covered = one_covered (new_kept mark safe) ((mark.exactly _).1 st)
                (refs_changed (λ r. (mark.exactly r).1) done sd) ((mark.exactly _).1 sn.0)
                (refs_changed (λ r. (mark.exactly r).1) us sn.1) (new_covered safe);
          },
        ),
      )
  on_one_so {w} {body = body} {after} {p} {b} {l} {t} {e} {F} {T} {K} {done} (one_none none) st sd sr safe = (
    ap (on_one F T b (map (record_tree (S.term_of w)) K) l body after p (S.term_of w t)
        (map (option_map (S.term_of w)) e) (trees (S.term_of w) done)) none,
    safe,
  )

  on_some_so : {w w1 : W} {body after p b l : ℕ} {t : R} {e : Places R} {F : List Frame} {T : List ℕ}
      {K : List (RefRecord R Y)} {done rest : List R} {found : Bool} {m1 : RefState R Y} →
      OnSome S w body after p t e F T b K l done found rest w1 m1 →
      Stands S w t → AllRefs (Stands S w) done → AllRefs (Stands S w) rest → Safe S w e T b K →
      (on_some F T b (map (record_tree (S.term_of w)) K) l body after p (S.term_of w t)
      (map (option_map (S.term_of w)) e) found (trees (S.term_of w) done)
      (trees_left (S.term_of w) t (length done) rest) ≡ state_tree (S.term_of w1) m1) × Holds S w1 m1
  on_some_so {w} {body = body} {after} {p} {b} {l} {t} {e} {F} {T} {K} {done} {found = found}
      (some_goes_on {us = us} {u} x mark) st sd sr safe =
      let f = S.term_of w in
      let hn = map_length (option_map (S.term_of w)) e in let sn = x.standing st sr in
      let here : on_some F T b (map (record_tree f) K) l body after p (f t) (map (option_map f) e) found (trees f done)
      (more (f u) (trees_left f t (suc (length done)) us)) ≡
      running body p (f u) (map (option_map f) e) F T (length e)
      (some_record body after (f t) (trees f done) (f u) (trees_left f t (suc (length done)) us) found
      (saved p (length F) (length T) b) ∷ map (record_tree f) K) l = cc in (
        ap (on_some F T b (map (record_tree f) K) l body after p (f t) (map (option_map f) e) found (trees f done))
            x.are ∙ here,
        (
          sn.0,
          record {
            places = safe.places;
            records = ((st, sd, sn.0, sn.1, mark.valid), safe.records);
            low = omega arith;
            covered = some_covered (new_kept mark safe) ((mark.exactly _).1 st)
                (refs_changed (λ r. (mark.exactly r).1) done sd) ((mark.exactly _).1 sn.0)
                (refs_changed (λ r. (mark.exactly r).1) us sn.1) (new_covered safe);
          },
        ),
      )
  on_some_so {w} {body = body} {after} {p} {b} {l} {t} {e} {F} {T} {K} {done} (some_whole none g su h) st sd sr safe = (
    ap (on_some F T b (map (record_tree (S.term_of w)) K) l body after p (S.term_of w t)
        (map (option_map (S.term_of w)) e) true (trees (S.term_of w) done)) none
        ∙ ap (goes_on F T b (map (record_tree (S.term_of w)) K) l after p (map (option_map (S.term_of w)) e)) h
        ∙ run_same refl (grown_places g e safe.places) (grown_records g K safe.records),
    (su, grown_safe g safe),
  )
  on_some_so {w} {body = body} {after} {p} {b} {l} {t} {e} {F} {T} {K} {done} (some_oversize none g h) st sd sr safe = (
    ap (on_some F T b (map (record_tree (S.term_of w)) K) l body after p (S.term_of w t)
        (map (option_map (S.term_of w)) e) true (trees (S.term_of w) done)) none
        ∙ ap (goes_on F T b (map (record_tree (S.term_of w)) K) l after p (map (option_map (S.term_of w)) e)) h,
    tt,
  )
  on_some_so {w} {body = body} {after} {p} {b} {l} {t} {e} {F} {T} {K} {done} (some_none none) st sd sr safe = (
    ap (on_some F T b (map (record_tree (S.term_of w)) K) l body after p (S.term_of w t)
        (map (option_map (S.term_of w)) e) false (trees (S.term_of w) done)) none,
    safe,
  )

  selecting_so : {w : W} {last p b : ℕ} {t : R} {e : Places R} {F : List Frame} {T : List ℕ} {K : List (RefRecord R Y)} {cs : List Case} {l : ℕ} {m1 : RefState R Y} → Selecting S w last p t e F T b K cs l m1 → Stands S w t → Safe S w e T b K →
      (selected cs last p (S.term_of w t) (map (option_map (S.term_of w)) e) F T b (map (record_tree (S.term_of w)) K) l ≡ state_tree (S.term_of w) m1) × Holds S w m1
  selecting_so selects_none st safe = (refl, (st, safe))
  selecting_so {w} {e = e} (selects_this can mark) st safe =
      let hn = map_length (option_map (S.term_of w)) e in
      (cc, (st, record { places = safe.places; records = ((st, mark.valid), safe.records); covered = choice_covered (new_kept mark safe) ((mark.exactly _).1 st) (new_covered safe); low = omega arith }))
  selecting_so {w} {last} {p} {b} {t} {e} {F} {T} {K} {l = l} (selects_later {n = n} {cs = cs} can pays x) st safe =
      let y = selecting_so x st safe in
      let paid = if_more (ended run_spent l) (selected cs last p (S.term_of w t) (map (option_map (S.term_of w)) e) F T b (map (record_tree (S.term_of w)) K) (l - n)) l n pays in
      let h = y.0 in (cc, y.1)
  selecting_so {w} {last} {p} {b} {t} {e} {F} {T} {K} {l = l} (selects_spent {n = n} {cs = cs} can at_once) st safe =
      let paid = if_less (ended run_spent l) (selected cs last p (S.term_of w t) (map (option_map (S.term_of w)) e) F T b (map (record_tree (S.term_of w)) K) (l - n)) l n at_once in (cc, tt)

  -- what an instruction does is its effect
  pub does_so : {M : Meaning} {w w1 : W} {v : Instr} {i p b l : ℕ} {t : R} {e : Places R} {F : List Frame} {T : List ℕ} {K : List (RefRecord R Y)} {m1 : RefState R Y} → Does S M w v i p t e F T b K l w1 m1 →
      Stands S w t → Safe S w e T b K →
      (effect M v i p (S.term_of w t) (map (option_map (S.term_of w)) e) F T b (map (record_tree (S.term_of w)) K) l ≡ state_tree (S.term_of w1) m1) × Holds S w1 m1
  does_so counts st safe = (refl, (st, safe))
  does_so gives_up_so st safe = (refl, safe)
  does_so jumps st safe = (refl, (st, safe))
  does_so {w = w} {i = i} {p} {b} {l} {t} {e} {F} {T} {K} (matches g k x h) st safe =
      (ap (matched F T b (map (record_tree (S.term_of w)) K) l (suc i) p (S.term_of w t)) h ∙ run_same (sym (g.terms t st)) refl (grown_records g K safe.records), (g.standing t st, bound_safe g x safe))
  does_so {w = w} {i = i} {p} {b} {l} {t} {e} {F} {T} {K} (matches_not g k x h) st safe =
      (ap (matched F T b (map (record_tree (S.term_of w)) K) l (suc i) p (S.term_of w t)) h ∙ fail_same refl (grown_records g K safe.records), bound_safe g x safe)
  does_so {w = w} {i = i} {p} {b} {l} {t} {e} {F} {T} {K} (builds g u h) st safe =
      (ap (goes_on F T b (map (record_tree (S.term_of w)) K) l (suc i) p (map (option_map (S.term_of w)) e)) h ∙ run_same refl (grown_places g e safe.places) (grown_records g K safe.records), (u, grown_safe g safe))
  does_so {w = w} {i = i} {p} {b} {l} {t} {e} {F} {T} {K} (builds_none g h) st safe =
      (ap (goes_on F T b (map (record_tree (S.term_of w)) K) l (suc i) p (map (option_map (S.term_of w)) e)) h ∙ fail_same (grown_places g e safe.places) (grown_records g K safe.records), grown_safe g safe)
  does_so {w = w} {i = i} {p} {b} {l} {t} {e} {F} {T} {K} (builds_oversize g h) st safe =
      (ap (goes_on F T b (map (record_tree (S.term_of w)) K) l (suc i) p (map (option_map (S.term_of w)) e)) h, tt)
  does_so {w = w} {i = i} {p} {b} {l} {t} {e} {F} {T} {K} (answers g u h) st safe =
      (ap (goes_on F T b (map (record_tree (S.term_of w)) K) l (suc i) p (map (option_map (S.term_of w)) e)) h ∙ run_same refl (grown_places g e safe.places) (grown_records g K safe.records), (u, grown_safe g safe))
  does_so {w = w} {i = i} {p} {b} {l} {t} {e} {F} {T} {K} (answers_none g h) st safe =
      (ap (goes_on F T b (map (record_tree (S.term_of w)) K) l (suc i) p (map (option_map (S.term_of w)) e)) h ∙ fail_same (grown_places g e safe.places) (grown_records g K safe.records), grown_safe g safe)
  does_so {w = w} {i = i} {p} {b} {l} {t} {e} {F} {T} {K} (answers_oversize g h) st safe =
      (ap (goes_on F T b (map (record_tree (S.term_of w)) K) l (suc i) p (map (option_map (S.term_of w)) e)) h, tt)
  does_so {w = w} {i = i} {p} {b} {l} {t} {e} {F} {T} {K} (leaves {base = base} is low) st safe =
      (ap (left F T b (map (record_tree (S.term_of w)) K) l (suc i) p (S.term_of w t) (map (option_map (S.term_of w)) e)) is ∙ if_more _ _ base b low ∙ run_same refl (sym (map_taken (option_map (S.term_of w)) base e)) refl, (st, taken_safe base low safe))
  does_so {w = w} {i = i} {p} {b} {l} {t} {e} {F} {T} {K} (leaves_low {base = base} is low) st safe =
      (ap (left F T b (map (record_tree (S.term_of w)) K) l (suc i) p (S.term_of w t) (map (option_map (S.term_of w)) e)) is ∙ if_less _ _ base b low, tt)
  does_so {w = w} {i = i} {p} {b} {l} {t} {e} {F} {T} {K} (extends {k = k}) st safe =
      (run_same refl (ap (λ A. map (option_map (S.term_of w)) e ++ A) (sym (map_none (S.term_of w) k)) ∙ sym (map-append (option_map (S.term_of w)) e (replicate k None))) refl, (st, more_safe (replicate k None) (all_none (Stands S w) k) safe))
  does_so {w = w} {i = i} {p} {b} {l} {t} {e} {F} {T} {K} (shrinks {k = k} low) st safe = (
    ap (λ n. cut_to (n - k) b l (running (suc i) p (S.term_of w t) (take (n - k) (map (option_map (S.term_of w)) e)) F T b (map (record_tree (S.term_of w)) K) l)) (map_length (option_map (S.term_of w)) e)
        ∙ if_more (ended stuck l) (running (suc i) p (S.term_of w t) (take (length e - k) (map (option_map (S.term_of w)) e)) F T b (map (record_tree (S.term_of w)) K) l) (length e - k) b low
        ∙ run_same refl (sym (map_taken (option_map (S.term_of w)) (length e - k) e)) refl,
    (st, taken_safe (length e - k) low safe),
  )
  does_so {w = w} {i = i} {p} {b} {l} {t} {e} {F} {T} {K} (shrinks_low {k = k} low) st safe = (
    ap (λ n. cut_to (n - k) b l (running (suc i) p (S.term_of w t) (take (n - k) (map (option_map (S.term_of w)) e)) F T b (map (record_tree (S.term_of w)) K) l)) (map_length (option_map (S.term_of w)) e)
        ∙ if_less (ended stuck l) (running (suc i) p (S.term_of w t) (take (length e - k) (map (option_map (S.term_of w)) e)) F T b (map (record_tree (S.term_of w)) K) l) (length e - k) b low,
    tt,
  )
  does_so calls_closure st safe = (refl, (st, record { places = safe.places; records = (tt, safe.records); covered = call_covered safe.covered; low = safe.low }))
  does_so ends_argument st safe = (refl, (st, passed_call safe.covered safe))
  does_so {w = w} {i = i} {p} {b} {l} {t} {e} {F} {T} {K = _ ∷ K} (ends_definition {a = a} {h} {base = base} is low) st safe = (
    ap (returned p (S.term_of w t) (map (option_map (S.term_of w)) e) F T b (call_record a h ∷ map (record_tree (S.term_of w)) K) l) is ∙ if_more _ _ base b low ∙ run_same refl (sym (map_taken (option_map (S.term_of w)) base e)) refl,
    (st, taken_safe base low (passed_call safe.covered safe)),
  )
  does_so {w = w} {i = i} {p} {b} {l} {t} {e} {F} {T} {K = _ ∷ K} (ends_definition_low {a = a} {h} {base = base} is low) st safe =
      (ap (returned p (S.term_of w t) (map (option_map (S.term_of w)) e) F T b (call_record a h ∷ map (record_tree (S.term_of w)) K) l) is ∙ if_less _ _ base b low, tt)
  does_so {w = w} {i = i} {p} {b} {l} {t} {e} {F} {T} {K} (enters {k = k}) st safe = (
    ap (λ n. running (suc i) (length F) (S.term_of w t) (map (option_map (S.term_of w)) e ++ empty_places k) (F ++ frame n p [] ∷ []) T b (map (record_tree (S.term_of w)) K) l) (map_length (option_map (S.term_of w)) e)
        ∙ run_same refl (ap (λ A. map (option_map (S.term_of w)) e ++ A) (sym (map_none (S.term_of w) k)) ∙ sym (map-append (option_map (S.term_of w)) e (replicate k None))) refl,
    (st, more_safe (replicate k None) (all_none (Stands S w) k) safe),
  )
  does_so {w = w} {i = i} {p} {b} {l} {t} {e} {F} {T} {K} (tries {a = a} {m = m} mark) st safe = (
    ap (λ n. running (suc i) p (S.term_of w t) (map (option_map (S.term_of w)) e) F T n (choice_record a (S.term_of w t) (saved p (length F) (length T) b) ∷ map (record_tree (S.term_of w)) K) l) (map_length (option_map (S.term_of w)) e),
    (st, record { places = safe.places; records = ((st, mark.valid), safe.records); covered = choice_covered (new_kept mark safe) ((mark.exactly _).1 st) (new_covered safe); low = omega arith }),
  )
  does_so (sticks h) st safe = (h, tt)
  does_so {b = b} {e = e} {K = _ ∷ K} (commits {d = d}) st safe =
      let c = commit_covered safe.covered in let low = safe.low in let lower = c.0 in (refl, (st, record { places = safe.places; records = safe.records.1; covered = c.1; low = omega arith }))
  does_so {w = w} {i = i} {p} {b} {l} {t} {e} {F} {T} {K} (calls {h = h} {a} {k} {to} {us = us} rs g all is) st safe =
      let hl = map_length (option_map (S.term_of w)) e in let hs = grown_places g e safe.places in let hr = grown_records g K safe.records in let ht = g.terms t st in (
        ap (called_with F T b (map (record_tree (S.term_of w)) K) l to p (S.term_of w t) (map (option_map (S.term_of w)) e) h a k us) is
            ∙ call_same to p (sym ht) (call_places k rs g e safe.places) (ap (λ n. F ++ frame n (frames_up F p h) (closed F p us) ∷ []) hl) hr,
        (
          g.standing t st,
          (let s = more_safe (map (λ r. Some r) rs ++ replicate k None) (all_more (Stands S _) (map (λ r. Some r) rs) (replicate k None) (all_some (Stands S _) rs all) (all_none (Stands S _) k)) (grown_safe g safe) in
              record { places = s.places; records = (tt, s.records); covered = call_covered s.covered; low = s.low }),
        ),
      )
  does_so {w = w} {i = i} {p} {b} {l} {t} {e} {F} {T} {K} (calls_none {h = h} {a} {k} {to} {us = us} g is) st safe =
      (ap (called_with F T b (map (record_tree (S.term_of w)) K) l to p (S.term_of w t) (map (option_map (S.term_of w)) e) h a k us) is ∙ fail_same (grown_places g e safe.places) (grown_records g K safe.records), grown_safe g safe)
  does_so {w = w} {i = i} {p} {b} {l} {t} {e} {F} {T} {K} (calls_oversize {h = h} {a} {k} {to} {us = us} g is) st safe = (ap (called_with F T b (map (record_tree (S.term_of w)) K) l to p (S.term_of w t) (map (option_map (S.term_of w)) e) h a k us) is, tt)
  does_so (selects x) st safe = selecting_so x st safe
  does_so {w = w} {i = i} {p} {b} {l} {t} {e} {F} {T} {K} (begins_all {after = after} is all x) st safe =
      let y = on_all_so x st tt all safe in (ap (on_all F T b (map (record_tree (S.term_of w)) K) l (suc i) after p (S.term_of w t) (map (option_map (S.term_of w)) e) end) (sym is) ∙ y.0, y.1)
  does_so {w = w} {i = i} {p} {b} {l} {t} {e} {F} {T} {K} (begins_one {after = after} is all x) st safe =
      let y = on_one_so x st tt all safe in (ap (on_one F T b (map (record_tree (S.term_of w)) K) l (suc i) after p (S.term_of w t) (map (option_map (S.term_of w)) e) end) (sym is) ∙ y.0, y.1)
  does_so {w = w} {i = i} {p} {b} {l} {t} {e} {F} {T} {K} (begins_some {after = after} is all x) st safe =
      let y = on_some_so x st tt all safe in (ap (on_some F T b (map (record_tree (S.term_of w)) K) l (suc i) after p (S.term_of w t) (map (option_map (S.term_of w)) e) false end) (sym is) ∙ y.0, y.1)
  does_so (part_of_all x) st safe = on_all_so x safe.records.0.0 (st, safe.records.0.1) safe.records.0.2 (passed_all safe.covered safe)
  does_so (part_of_some x) st safe = on_some_so x safe.records.0.0 (st, safe.records.0.1) safe.records.0.3 (taken_off (commit_some safe.covered) safe)
  does_so {w = w} {i = i} {p} {b} {l} {t} {e} {F} {T} {K = _ ∷ K} (part_of_one {after = after} {h = h} {d = d} g sx is) st safe =
      let off = taken_off (commit_one safe.covered) safe in
      (ap (goes_on F (trimmed h d T) d (map (record_tree (S.term_of w)) K) l after p (map (option_map (S.term_of w)) e)) is ∙ run_same refl (grown_places g e off.places) (grown_records g K off.records), (sx, grown_safe g off))
  does_so {w = w} {i = i} {p} {b} {l} {t} {e} {F} {T} {K = _ ∷ K} (part_of_one_oversize {after = after} {h = h} {d = d} g is) st safe = (ap (goes_on F (trimmed h d T) d (map (record_tree (S.term_of w)) K) l after p (map (option_map (S.term_of w)) e)) is, tt)
  does_so finishes st safe = (refl, st)
