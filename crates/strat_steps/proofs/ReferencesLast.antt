-- What stood before a run over references stands after it, with its term.
use Rattle.std.proofs.Common.{◌≡◌, ℕ, List, refl, ◌∙◌}
use Rattle.std.specs.Prelude.{Bool}
use Rattle.term_model.specs.Flat.{Meaning}
use Rattle.strat_code.specs.Code.{Case, Instr, Code}
use Rattle.strat_steps.specs.State.{Frame}
use Rattle.term_model.specs.Space.{Space, Stands}
use Rattle.strat_steps.specs.References.{Places, RefRecord, RefState}
use Rattle.strat_steps.specs.Marks.{Lasts, MarksCover}
use Rattle.strat_steps.specs.ReferenceSteps.{Does, sticks, leaves_code, OnAll, OnOne, OnSome, Selecting, StepRef, StepsRef, all_goes_on, all_oversize, all_whole, answers, answers_none, answers_oversize, begins_all, begins_one, begins_some, builds, builds_none, builds_oversize, calls, calls_closure, calls_none, calls_oversize, cannot_pay, commits, counts, ends_argument, ends_definition, ends_definition_low, enters, extends, fails_all, fails_call, fails_choice, fails_one_last, fails_one_next, fails_some_last, fails_some_next, fails_some_none, fails_whole, finishes, gives_up_so, jumps, leaves, leaves_low, matches, matches_not, more_steps_ref, no_step_ref, one_goes_on, one_none, part_of_all, part_of_one, part_of_one_oversize, part_of_some, performs, selects, selects_spent, selects_later, selects_none, selects_this, shrinks, shrinks_low, some_goes_on, some_none, some_oversize, some_whole, tries}

module _ {W R Y N : Type 0} {S : Space W R Y N} (r : R) where
  selecting_lasts : {w : W} {last p b : ℕ} {t : R} {e : Places R} {F : List Frame} {T : List ℕ}
      {K : List (RefRecord R Y)} {cs : List Case} {l : ℕ} {m1 : RefState R Y} →
      Selecting S w last p t e F T b K cs l m1 → Stands S w r → MarksCover S r K → Lasts S r w m1
  selecting_lasts selects_none st c = (st, c)
  selecting_lasts (selects_this can mark) st c = (st, ((mark.exactly r).1 st, c))
  selecting_lasts (selects_later can pays x) st c = selecting_lasts x st c
  selecting_lasts (selects_spent can at_once) st c = st

  all_lasts : {w w1 : W} {body after p b l : ℕ} {t : R} {e : Places R} {F : List Frame} {T : List ℕ}
      {K : List (RefRecord R Y)} {done rest : List R} {m1 : RefState R Y} →
      OnAll S w body after p t e F T b K l done rest w1 m1 → Stands S w r → MarksCover S r K →
      (S.term_of w1 r ≡ S.term_of w r) × Lasts S r w1 m1
  all_lasts (all_goes_on x) st c = (refl, (st, c))
  all_lasts (all_whole none g su h) st c = (g.terms r st, (g.standing r st, c))
  all_lasts (all_oversize none g h) st c = (g.terms r st, g.standing r st)

  one_lasts : {w : W} {body after p b l : ℕ} {t : R} {e : Places R} {F : List Frame} {T : List ℕ}
      {K : List (RefRecord R Y)} {done rest : List R} {m1 : RefState R Y} →
      OnOne S w body after p t e F T b K l done rest m1 → Stands S w r → MarksCover S r K → Lasts S r w m1
  one_lasts (one_goes_on x mark) st c = (st, ((mark.exactly r).1 st, c))
  one_lasts (one_none none) st c = (st, c)

  some_lasts : {w w1 : W} {body after p b l : ℕ} {t : R} {e : Places R} {F : List Frame} {T : List ℕ}
      {K : List (RefRecord R Y)} {done rest : List R} {found : Bool} {m1 : RefState R Y} →
      OnSome S w body after p t e F T b K l done found rest w1 m1 → Stands S w r → MarksCover S r K →
      (S.term_of w1 r ≡ S.term_of w r) × Lasts S r w1 m1
  some_lasts (some_goes_on x mark) st c = (refl, (st, ((mark.exactly r).1 st, c)))
  some_lasts (some_whole none g su h) st c = (g.terms r st, (g.standing r st, c))
  some_lasts (some_oversize none g h) st c = (g.terms r st, g.standing r st)
  some_lasts (some_none none) st c = (refl, (st, c))

  does_lasts : {M : Meaning} {w w1 : W} {v : Instr} {i p b l : ℕ} {t : R} {e : Places R} {F : List Frame} {T : List ℕ}
      {K : List (RefRecord R Y)} {m1 : RefState R Y} → Does S M w v i p t e F T b K l w1 m1 → Stands S w r →
      MarksCover S r K →
      (S.term_of w1 r ≡ S.term_of w r) × Lasts S r w1 m1
  does_lasts counts st c = (refl, (st, c))
  does_lasts gives_up_so st c = (refl, (st, c))
  does_lasts jumps st c = (refl, (st, c))
  does_lasts enters st c = (refl, (st, c))
  does_lasts (leaves is low) st c = (refl, (st, c))
  does_lasts extends st c = (refl, (st, c))
  does_lasts (shrinks low) st c = (refl, (st, c))
  does_lasts calls_closure st c = (refl, (st, c))
  does_lasts ends_argument st c = (refl, (st, c))
  does_lasts (ends_definition is low) st c = (refl, (st, c))
  does_lasts (leaves_low is low) st c = (refl, st)
  does_lasts (shrinks_low low) st c = (refl, st)
  does_lasts (ends_definition_low is low) st c = (refl, st)
  does_lasts finishes st c = (refl, st)
  does_lasts (sticks h) st c = (refl, st)
  does_lasts (matches g k x h) st c = (g.terms r st, (g.standing r st, c))
  does_lasts (matches_not g k x h) st c = (g.terms r st, (g.standing r st, c))
  does_lasts (builds g u h) st c = (g.terms r st, (g.standing r st, c))
  does_lasts (builds_none g h) st c = (g.terms r st, (g.standing r st, c))
  does_lasts (answers g u h) st c = (g.terms r st, (g.standing r st, c))
  does_lasts (answers_none g h) st c = (g.terms r st, (g.standing r st, c))
  does_lasts (calls rs g all is) st c = (g.terms r st, (g.standing r st, c))
  does_lasts (calls_none g is) st c = (g.terms r st, (g.standing r st, c))
  does_lasts (builds_oversize g h) st c = (g.terms r st, g.standing r st)
  does_lasts (answers_oversize g h) st c = (g.terms r st, g.standing r st)
  does_lasts (calls_oversize g is) st c = (g.terms r st, g.standing r st)
  does_lasts (tries mark) st c = (refl, (st, ((mark.exactly r).1 st, c)))
  does_lasts commits st c = (refl, (st, c.1))
  does_lasts (selects x) st c = (refl, selecting_lasts x st c)
  does_lasts (begins_all is all x) st c = all_lasts x st c
  does_lasts (begins_one is all x) st c = (refl, one_lasts x st c)
  does_lasts (begins_some is all x) st c = some_lasts x st c
  does_lasts (part_of_all x) st c = all_lasts x st c
  does_lasts (part_of_some x) st c = some_lasts x st c.1
  does_lasts (part_of_one g sx is) st c = (g.terms r st, (g.standing r st, c.1))
  does_lasts (part_of_one_oversize g is) st c = (g.terms r st, g.standing r st)

  pub step_lasts : {code : Code} {M : Meaning} {w w1 : W} {m m1 : RefState R Y} → StepRef S code M w m w1 m1 →
      Lasts S r w m → (S.term_of w1 r ≡ S.term_of w r) × Lasts S r w1 m1
  step_lasts (performs rest at cost x) h = does_lasts x h.0 h.1
  step_lasts (cannot_pay at cost) h = (refl, h.0)
  step_lasts (leaves_code none) h = (refl, h.0)
  step_lasts fails_whole h = (refl, h.0)
  step_lasts fails_call h = (refl, h)
  step_lasts fails_all h = (refl, h)
  step_lasts (fails_choice back) h = (back.terms r h.1.0, ((back.exactly r).1 h.1.0, h.1.1))
  step_lasts (fails_one_last back none) h = (back.terms r h.1.0, ((back.exactly r).1 h.1.0, h.1.1))
  step_lasts (fails_one_next back x mark) h =
      (back.terms r h.1.0, ((back.exactly r).1 h.1.0, ((mark.exactly r).1 ((back.exactly r).1 h.1.0), h.1.1)))
  step_lasts (fails_some_none back none) h = (back.terms r h.1.0, ((back.exactly r).1 h.1.0, h.1.1))
  step_lasts (fails_some_last back none) h = (back.terms r h.1.0, ((back.exactly r).1 h.1.0, h.1.1))
  step_lasts (fails_some_next back x mark) h =
      (back.terms r h.1.0, ((back.exactly r).1 h.1.0, ((mark.exactly r).1 ((back.exactly r).1 h.1.0), h.1.1)))

  pub steps_last : {code : Code} {M : Meaning} {k : ℕ} {w w1 : W} {m m1 : RefState R Y} →
      StepsRef S code M k w m w1 m1 → Lasts S r w m → (S.term_of w1 r ≡ S.term_of w r) × Lasts S r w1 m1
  steps_last no_step_ref h = (refl, h)
  steps_last (more_steps_ref x xs) h = let y = step_lasts x h in let z = steps_last xs y.1 in (z.0 ∙ y.0, z.1)
