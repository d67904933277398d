-- Each traversal keeps its first portion.
use Rattle.std.proofs.Common.{◌≡◌, ◌≤◌, ℕ, suc, ◌+◌, ◌-◌, min, List, [], ◌∷◌, length, take, sym, subst}
use Rattle.std.specs.Prelude.{Bool, true, false, Result, Ok, Err, IfOk}
use Rattle.term_model.specs.Flat.{Meaning}
use Rattle.term_model.specs.Space.{Space, Keeps, GoesBack, IsMark, Stands, Valid, Covers, CoversMark}
use Rattle.term_model.specs.TermParts.{parts_of}
use Rattle.strat_code.specs.Code.{Case, Instr, traverse, part_done, Code}
use Rattle.strat_steps.specs.State.{Frame, saved, run_failed}
use Rattle.strat_steps.specs.Binding.{undone, above, down_to}
use Rattle.strat_steps.specs.References.{Places, RefRecord, ref_call, ref_choice, ref_all, ref_one, ref_some, RefState, ref_running, ref_failing, ref_stopped, OfRecords}
use Rattle.strat_steps.specs.Marks.{Safe, Covered, choice_covered, one_covered, some_covered}
use Rattle.strat_steps.specs.ReferenceSteps.{HasNoMore, IsNext, Does, sticks, Selecting, StepRef, answers, answers_none, answers_oversize, begins_all, begins_one, begins_some, builds, builds_none, builds_oversize, calls, calls_closure, calls_none, calls_oversize, commits, counts, ends_argument, ends_definition, ends_definition_low, enters, extends, fails_all, fails_call, fails_choice, fails_one_last, fails_one_next, fails_some_last, fails_some_next, fails_some_none, fails_whole, finishes, gives_up_so, jumps, leaves, leaves_low, matches, matches_not, part_of_all, part_of_one, part_of_one_oversize, part_of_some, selects, selects_spent, selects_later, selects_none, selects_this, shrinks, shrinks_low, tries}
use Rattle.strat_machine.specs.Opened.{HasOpened, IsOpened, AllOpened, StateOpened, StepOpened}
use Rattle.strat_machine.specs.Traversing.{RebuildsTo, rebuilds, rebuilds_none}
use Rattle.strat_machine.specs.declared.stacks.Stacks.{Stacks}
use Rattle.strat_machine.specs.declared.portions.TheConstants.{FIRST_PORTION}

-- what two clauses say of a result
pub both_ok : {X E : Type 0} (r : Result X E) (P Q : X → Type 0) → IfOk r P → IfOk r Q → IfOk r (λ x. P x × Q x)
both_ok (Ok x) P Q p q = (p, q)
both_ok (Err e) P Q p q = tt

-- neither begins a traversal nor ends the code for a part
abbrev pub IsPlain : Instr → Type 0
IsPlain (traverse n kind next) = ⊥
IsPlain part_done = ⊥
IsPlain _ = Unit {0}

module _ {W R Y N : Type 0} (S : Space W R Y N) where
  -- the same term
  pub has_then : {w w1 : W} {t : R} {n : ℕ} → S.term_of w1 t ≡ S.term_of w t → HasOpened S w t n → HasOpened S w1 t n
  has_then {n = n} same h = subst (λ u. min FIRST_PORTION (length (parts_of u)) ≤ n) (sym same) h

  opened_then : {w w1 : W} (P : R → Type 0) (Q : Y → Type 0) → ((r : R) → P r → S.term_of w1 r ≡ S.term_of w r) →
      (K : List (RefRecord R Y)) → OfRecords P Q K → AllOpened S w K → AllOpened S w1 K
  opened_then P Q same [] x o = tt
  opened_then P Q same (ref_call a h ∷ K) x o = (tt, opened_then P Q same K x.1 o.1)
  opened_then P Q same (ref_choice a t s m ∷ K) x o = (tt, opened_then P Q same K x.1 o.1)
  opened_then P Q same (ref_all body next t done rest ∷ K) x o =
      (has_then (same t x.0.0) o.0, opened_then P Q same K x.1 o.1)
  opened_then P Q same (ref_one body next t done u rest s m ∷ K) x o =
      (has_then (same t x.0.0) o.0, opened_then P Q same K x.1 o.1)
  opened_then P Q same (ref_some body next t done u rest found s m ∷ K) x o =
      (has_then (same t x.0.0) o.0, opened_then P Q same K x.1 o.1)

  -- a state that is this one
  pub opened_at : (w : W) {m m1 : RefState R Y} → m ≡ m1 → StateOpened S w m → StateOpened S w m1
  opened_at w is o = subst (StateOpened S w) is o

module _ {W R Y N : Type 0} {S : Space W R Y N} where
  -- terms stand
  pub opened_kept : {w w1 : W} {e : Places R} {T : List ℕ} {b : ℕ} {K : List (RefRecord R Y)} → Keeps S w w1 →
      Safe S w e T b K → AllOpened S w K → AllOpened S w1 K
  opened_kept {w} {K = K} g safe o = opened_then S (Stands S w) (Valid S w) g.terms K safe.records o

  -- terms that a mark covers stand after going back to it
  opened_back : {w w1 : W} {m : Y} (K : List (RefRecord R Y)) → GoesBack S w m w1 →
      OfRecords (Covers S m) (CoversMark S m) K → AllOpened S w K → AllOpened S w1 K
  opened_back {m = m} K back x o = opened_then S (Covers S m) (CoversMark S m) back.terms K x o

  -- the records below one that a failure goes back to, and the traversal in which a part failed
  module _ {w w1 : W} {e : Places R} {T : List ℕ} {q k h d b : ℕ} {m : Y} {K : List (RefRecord R Y)}
      (back : GoesBack S w m w1) where
    choice_kept : {a : ℕ} {t : R} → Covered S e T b (ref_choice a t (saved q k h d) m ∷ K) → AllOpened S w K →
        AllOpened S w1 K
    choice_kept (choice_covered kept ct c) o = opened_back K back kept.records o

    module _ {body after : ℕ} {t u : R} {done rest : List R} where
      one_kept : Covered S e T b (ref_one body after t done u rest (saved q k h d) m ∷ K) → AllOpened S w K →
          AllOpened S w1 K
      one_kept (one_covered kept ct cd cu cr c) o = opened_back K back kept.records o

      some_kept : {found : Bool} → Covered S e T b (ref_some body after t done u rest found (saved q k h d) m ∷ K) →
          AllOpened S w K → AllOpened S w1 K
      some_kept (some_covered kept ct cd cu cr c) o = opened_back K back kept.records o

      one_same : Covered S e T b (ref_one body after t done u rest (saved q k h d) m ∷ K) →
          S.term_of w1 t ≡ S.term_of w t
      one_same (one_covered kept ct cd cu cr c) = back.terms t ct

      some_same : {found : Bool} → Covered S e T b (ref_some body after t done u rest found (saved q k h d) m ∷ K) →
          S.term_of w1 t ≡ S.term_of w t
      some_same (some_covered kept ct cd cu cr c) = back.terms t ct

      pub one_back : {n : ℕ} → Safe S w e T b (ref_one body after t done u rest (saved q k h d) m ∷ K) →
          HasOpened S w t n → HasOpened S w1 t n
      one_back s o = has_then S (one_same s.covered) o

      pub some_back : {n : ℕ} {found : Bool} →
          Safe S w e T b (ref_some body after t done u rest found (saved q k h d) m ∷ K) → HasOpened S w t n →
          HasOpened S w1 t n
      some_back s o = has_then S (some_same s.covered) o

  -- the whole is made
  pub opened_rebuilt : {w w1 : W} {t : R} {first : List R} {m : Stacks R Y} {K : List (RefRecord R Y)} {next here : ℕ}
      {n : RefState R Y} → RebuildsTo S w t first m K next here w1 n → AllOpened S w1 K → StateOpened S w1 n
  opened_rebuilt (rebuilds g u is) o = o
  opened_rebuilt (rebuilds_none g is) o = tt

  selecting_opened : {w : W} {last p b : ℕ} {t : R} {e : Places R} {F : List Frame} {T : List ℕ}
      {K : List (RefRecord R Y)} {cs : List Case} {l : ℕ} {m1 : RefState R Y} →
      Selecting S w last p t e F T b K cs l m1 → AllOpened S w K → StateOpened S w m1
  selecting_opened selects_none o = o
  selecting_opened (selects_this can mark) o = (tt, o)
  selecting_opened (selects_later can pays x) o = selecting_opened x o
  selecting_opened (selects_spent can at_once) o = tt

  -- an instruction that goes on with no traversal
  pub does_opened : {M : Meaning} {w w1 : W} {v : Instr} {i p b l : ℕ} {t : R} {e : Places R} {F : List Frame}
      {T : List ℕ} {K : List (RefRecord R Y)} {m1 : RefState R Y} → Does S M w v i p t e F T b K l w1 m1 → IsPlain v →
      Safe S w e T b K → AllOpened S w K → StateOpened S w1 m1
  does_opened counts plain s o = o
  does_opened gives_up_so plain s o = o
  does_opened jumps plain s o = o
  does_opened enters plain s o = o
  does_opened (leaves is low) plain s o = o
  does_opened extends plain s o = o
  does_opened (shrinks low) plain s o = o
  does_opened calls_closure plain s o = (tt, o)
  does_opened ends_argument plain s o = o.1
  does_opened (ends_definition is low) plain s o = o.1
  does_opened (leaves_low is low) plain s o = tt
  does_opened (shrinks_low low) plain s o = tt
  does_opened (ends_definition_low is low) plain s o = tt
  does_opened finishes plain s o = tt
  does_opened (sticks h) plain s o = tt
  does_opened (matches g k x h) plain s o = opened_kept g s o
  does_opened (matches_not g k x h) plain s o = opened_kept g s o
  does_opened (builds g u h) plain s o = opened_kept g s o
  does_opened (builds_none g h) plain s o = opened_kept g s o
  does_opened (answers g u h) plain s o = opened_kept g s o
  does_opened (answers_none g h) plain s o = opened_kept g s o
  does_opened (calls rs g all is) plain s o = (tt, opened_kept g s o)
  does_opened (calls_none g is) plain s o = opened_kept g s o
  does_opened (builds_oversize g h) plain s o = tt
  does_opened (answers_oversize g h) plain s o = tt
  does_opened (calls_oversize g is) plain s o = tt
  does_opened (tries mark) plain s o = (tt, o)
  does_opened commits plain s o = o.1
  does_opened (selects x) plain s o = selecting_opened x o
  does_opened (begins_all is all x) plain s o = absurd plain
  does_opened (begins_one is all x) plain s o = absurd plain
  does_opened (begins_some is all x) plain s o = absurd plain
  does_opened (part_of_all x) plain s o = absurd plain
  does_opened (part_of_some x) plain s o = absurd plain
  does_opened (part_of_one g sx is) plain s o = absurd plain
  does_opened (part_of_one_oversize g is) plain s o = absurd plain

-- the steps after a failure
module _ {W R Y N : Type 0} {S : Space W R Y N} {code : Code} {M : Meaning} {b l : ℕ} {e : Places R} {F : List Frame}
    {T : List ℕ} {w : W} where
  pub whole_failed : StepOpened S code M w (ref_failing e F T b [] l) w (ref_stopped run_failed l)
  whole_failed = record { step = fails_whole; opened = λ s o. tt }

  pub call_failed : {a h : ℕ} {K : List (RefRecord R Y)} →
      StepOpened S code M w (ref_failing e F T b (ref_call a h ∷ K) l) w (ref_failing e F T b K l)
  call_failed = record { step = fails_call; opened = λ s o. o.1 }

  pub all_failed : {body after : ℕ} {t : R} {done rest : List R} {K : List (RefRecord R Y)} →
      StepOpened S code M w (ref_failing e F T b (ref_all body after t done rest ∷ K) l) w (ref_failing e F T b K l)
  all_failed = record { step = fails_all; opened = λ s o. o.1 }

  module _ {w1 : W} {q k h d : ℕ} {m : Y} {K : List (RefRecord R Y)} (back : GoesBack S w m w1) where
    pub choice_failed : {a : ℕ} {t : R} →
        StepOpened S code M w (ref_failing e F T b (ref_choice a t (saved q k h d) m ∷ K) l)
        w1 (ref_running a q t (take b (undone (above h T) e)) (take k F) (down_to h T) d K l)
    choice_failed = record { step = fails_choice back; opened = λ s o. choice_kept back s.covered o.1 }

    module _ {body after : ℕ} {t u : R} {done : List R} (none : HasNoMore S w1 t (suc (length done))) where
      pub one_last_failed :
          StepOpened S code M w (ref_failing e F T b (ref_one body after t done u [] (saved q k h d) m ∷ K) l)
          w1 (ref_failing (take b (undone (above h T) e)) (take k F) (down_to h T) d K l)
      one_last_failed = record { step = fails_one_last back none; opened = λ s o. one_kept back s.covered o.1 }

      pub some_none_failed :
          StepOpened S code M w (ref_failing e F T b (ref_some body after t done u [] false (saved q k h d) m ∷ K) l)
          w1 (ref_failing (take b (undone (above h T) e)) (take k F) (down_to h T) d K l)
      some_none_failed = record { step = fails_some_none back none; opened = λ s o. some_kept back s.covered o.1 }

      pub some_last_failed :
          StepOpened S code M w (ref_failing e F T b (ref_some body after t done u [] true (saved q k h d) m ∷ K) l) w1
          (ref_running (after - 1) q u (take b (undone (above h T) e)) (take k F) (down_to h T)
          d (ref_all body after t done [] ∷ K) l)
      some_last_failed =
          record {
            step = fails_some_last back none;
            opened = λ s o. (some_back back s o.0, some_kept back s.covered o.1);
          }

    module _ {body after : ℕ} {t u v : R} {done rest us : List R} {n : Y}
        (next : IsNext S w1 t (suc (length done)) rest v us) (mark : IsMark S w1 n)
        (enough : HasOpened S w1 t (suc (length done) + suc (length us))) where
      pub one_next_failed :
          StepOpened S code M w (ref_failing e F T b (ref_one body after t done u rest (saved q k h d) m ∷ K) l)
          w1 (ref_running body q v (take b (undone (above h T) e)) (take k F) (down_to h T)
          (length (take b (undone (above h T) e)))
          (ref_one body after t (u ∷ done) v us (saved q (length (take k F)) (length (down_to h T)) d) n ∷ K) l)
      one_next_failed =
          record { step = fails_one_next back next mark; opened = λ s o. (enough, one_kept back s.covered o.1) }

      pub some_next_failed : {found : Bool} →
          StepOpened S code M w (ref_failing e F T b (ref_some body after t done u rest found (saved q k h d) m ∷ K) l)
          w1 (ref_running body q v (take b (undone (above h T) e)) (take k F) (down_to h T)
          (length (take b (undone (above h T) e)))
          (ref_some body after t (u ∷ done) v us found (saved q (length (take k F)) (length (down_to h T)) d) n ∷ K)
          l)
      some_next_failed =
          record { step = fails_some_next back next mark; opened = λ s o. (enough, some_kept back s.covered o.1) }
