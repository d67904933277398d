-- The headline does not rest on this file.
-- Steps of the machine over references into a space: what a step does to the state and to the space.
use Rattle.std.specs.Prelude.{◌≡◌, ℕ, suc, ◌+◌, ◌-◌, ◌<◌, ◌≤◌, Bool, true, false, Some, None, List, [], ◌∷◌, length, ◌++◌, take, map, replicate, slice_get}
use Rattle.std.specs.Option.{option_map}
use Rattle.term_model.specs.Term.{end, more}
use Rattle.term_model.specs.Flat.{Meaning}
use Rattle.core_lang.specs.Building.{instance, instances}
use Rattle.core_lang.specs.Ending.{ok, failed, oversize, built, rebuilt, arguments, answered}
use Rattle.core_lang.specs.Derivation.{parts}
use Rattle.core_lang.specs.Roots.{has_root}
use Rattle.strat_steps.specs.Step.{in_order, effect}
use Rattle.strat_code.specs.Code.{Argument, Case, case, all_parts, one_part, some_parts, Instr, select, traverse, part_done, call_definition, count, give_up, match_term, build_term, enter, leave, extend, shrink, try, commit, jump, call_closure, end_definition, end_argument, apply_primitive, finish, Code, At, nodes_of}
use Rattle.core_lang.specs.Roots.{Root}
use Rattle.strat_steps.specs.State.{Frame, frame, saved, run_failed, run_oversize, run_spent, stuck, ended, place_at, closure_in, frames_up, closed}
use Rattle.strat_steps.specs.Matches.{LeavesSpace}
use Rattle.strat_steps.specs.Binding.{undone, above, down_to, trimmed, attempt, attempted}
use Rattle.term_model.specs.Space.{Space, Keeps, GoesBack, IsMark, Stands}
use Rattle.strat_steps.specs.References.{Places, RefRecord, ref_call, ref_choice, ref_all, ref_one, ref_some, RefState, ref_running, ref_failing, ref_rewritten, ref_stopped, trees, trees_left, record_tree, AllRefs, Binds}

module _ {W R Y N : Type 0} (S : Space W R Y N) where
  -- Of the parts of a term that are left, where n come before: with references to the next ones, this is the first of
  -- them, and these are references to some that come after it. None of them is made, for the term's own parts stand
  pub record IsNext (w : W) (t : R) (n : ℕ) (rest : List R) (u : R) (us : List R) : Type 0 where
    pub are : trees_left (S.term_of w) t n rest ≡ more (S.term_of w u) (trees_left (S.term_of w) t (suc n) us)
    pub standing : Stands S w t → AllRefs (Stands S w) rest → Stands S w u × AllRefs (Stands S w) us

  -- the term has no more than n parts
  abbrev pub HasNoMore : W → R → ℕ → Type 0
  HasNoMore w t n = trees_left (S.term_of w) t n [] ≡ end

  -- the next part of a traversal, or its end
  module _ (w : W) (body after p : ℕ) (t : R) (e : Places R) (F : List Frame) (T : List ℕ) (b : ℕ)
      (K : List (RefRecord R Y)) (l : ℕ) (done : List R) where
    pub data OnAll : List R → W → RefState R Y → Type 0 where
      all_goes_on : {rest us : List R} {u : R} → IsNext w t (length done) rest u us →
          OnAll rest w (ref_running body p u e F T b (ref_all body after t done us ∷ K) l)
      all_whole : {u : R} {w1 : W} → HasNoMore w t (length done) → Keeps S w w1 → Stands S w1 u →
          rebuilt (S.term_of w t) (ok (in_order (trees (S.term_of w) done) end) (map (option_map (S.term_of w)) e)) ≡
          ok (S.term_of w1 u) (map (option_map (S.term_of w)) e) →
          OnAll [] w1 (ref_running after p u e F T b K l)
      all_oversize : {w1 : W} → HasNoMore w t (length done) → Keeps S w w1 →
          rebuilt (S.term_of w t) (ok (in_order (trees (S.term_of w) done) end) (map (option_map (S.term_of w)) e)) ≡
          oversize →
          OnAll [] w1 (ref_stopped run_oversize l)

    pub data OnOne : List R → RefState R Y → Type 0 where
      one_goes_on : {rest us : List R} {u : R} {m : Y} → IsNext w t (length done) rest u us → IsMark S w m →
          OnOne rest (ref_running body p u e F T (length e)
          (ref_one body after t done u us (saved p (length F) (length T) b) m ∷ K) l)
      one_none : HasNoMore w t (length done) → OnOne [] (ref_failing e F T b K l)

    pub data OnSome : Bool → List R → W → RefState R Y → Type 0 where
      some_goes_on : {found : Bool} {rest us : List R} {u : R} {m : Y} → IsNext w t (length done) rest u us →
          IsMark S w m →
          OnSome found rest
          w (ref_running body p u e F T (length e)
          (ref_some body after t done u us found (saved p (length F) (length T) b) m ∷ K) l)
      some_whole : {u : R} {w1 : W} → HasNoMore w t (length done) → Keeps S w w1 → Stands S w1 u →
          rebuilt (S.term_of w t) (ok (in_order (trees (S.term_of w) done) end) (map (option_map (S.term_of w)) e)) ≡
          ok (S.term_of w1 u) (map (option_map (S.term_of w)) e) →
          OnSome true [] w1 (ref_running after p u e F T b K l)
      some_oversize : {w1 : W} → HasNoMore w t (length done) → Keeps S w w1 →
          rebuilt (S.term_of w t) (ok (in_order (trees (S.term_of w) done) end) (map (option_map (S.term_of w)) e)) ≡
          oversize →
          OnSome true [] w1 (ref_stopped run_oversize l)
      some_none : HasNoMore w t (length done) → OnSome false [] w (ref_failing e F T b K l)

  -- the first alternative that can have the root
  module _ (w : W) (last p : ℕ) (t : R) (e : Places R) (F : List Frame) (T : List ℕ) (b : ℕ) (K : List (RefRecord R Y))
    where
      pub data Selecting : List Case → ℕ → RefState R Y → Type 0 where
        selects_none : {l : ℕ} → Selecting [] l (ref_running last p t e F T b K l)
        selects_this : {r : Root} {n body otherwise l : ℕ} {cs : List Case} {m : Y} → has_root r (S.term_of w t) ≡ true →
            IsMark S w m →
            Selecting (case r n body otherwise ∷ cs)
            l (ref_running body p t e F T (length e) (ref_choice otherwise t (saved p (length F) (length T) b) m ∷ K)
            l)
        selects_later : {r : Root} {n body otherwise l : ℕ} {cs : List Case} {m1 : RefState R Y} →
            has_root r (S.term_of w t) ≡ false → n ≤ l →
            Selecting cs (l - n) m1 → Selecting (case r n body otherwise ∷ cs) l m1
        selects_spent : {r : Root} {n body otherwise l : ℕ} {cs : List Case} → has_root r (S.term_of w t) ≡ false →
            l < n →
            Selecting (case r n body otherwise ∷ cs) l (ref_stopped run_spent l)

  module _ (M : Meaning) (w : W) where
    -- what a paid instruction at i does: the state of the space and of the machine afterwards
    pub data Does : Instr → (i p : ℕ) → R → Places R → List Frame → List ℕ → ℕ → List (RefRecord R Y) → ℕ → W →
        RefState R Y → Type 0 where
      counts : {n i p b l : ℕ} {t : R} {e : Places R} {F : List Frame} {T : List ℕ} {K : List (RefRecord R Y)} →
          Does (count n) i p t e F T b K l w (ref_running (suc i) p t e F T b K l)
      gives_up_so : {n i p b l : ℕ} {t : R} {e : Places R} {F : List Frame} {T : List ℕ} {K : List (RefRecord R Y)} →
          Does (give_up n) i p t e F T b K l w (ref_failing e F T b K l)
      jumps : {a i p b l : ℕ} {t : R} {e : Places R} {F : List Frame} {T : List ℕ} {K : List (RefRecord R Y)} →
          Does (jump a) i p t e F T b K l w (ref_running a p t e F T b K l)
      -- a match may make the list of the rest of a list, and a term without its annotations
      matches : {n i p b l : ℕ} {q : _} {t : R} {e f : Places R} {F : List Frame} {T U : List ℕ}
          {K : List (RefRecord R Y)} {w1 : W} → Keeps S w w1 →
          (LeavesSpace q → w1 ≡ w) → Binds (Stands S w1) b e T f U →
          attempted (place_at F p) b q (S.term_of w t) (map (option_map (S.term_of w)) e) T ≡
          attempt true (map (option_map (S.term_of w1)) f) U →
          Does (match_term n q) i p t e F T b K l w1 (ref_running (suc i) p t f F U b K l)
      matches_not : {n i p b l : ℕ} {q : _} {t : R} {e f : Places R} {F : List Frame} {T U : List ℕ}
          {K : List (RefRecord R Y)} {w1 : W} →
          Keeps S w w1 → (LeavesSpace q → w1 ≡ w) → Binds (Stands S w1) b e T f U →
          attempted (place_at F p) b q (S.term_of w t) (map (option_map (S.term_of w)) e) T ≡
          attempt false (map (option_map (S.term_of w1)) f) U →
          Does (match_term n q) i p t e F T b K l w1 (ref_failing f F U b K l)
      builds : {n i p b l : ℕ} {q : _} {t u : R} {e : Places R} {F : List Frame} {T : List ℕ} {K : List (RefRecord R Y)}
          {w1 : W} → Keeps S w w1 →
          Stands S w1 u →
          built (instance (place_at F p) q (map (option_map (S.term_of w)) e)) (map (option_map (S.term_of w)) e) ≡
          ok (S.term_of w1 u) (map (option_map (S.term_of w)) e) →
          Does (build_term n q) i p t e F T b K l w1 (ref_running (suc i) p u e F T b K l)
      builds_none : {n i p b l : ℕ} {q : _} {t : R} {e : Places R} {F : List Frame} {T : List ℕ}
          {K : List (RefRecord R Y)} {w1 : W} → Keeps S w w1 →
          built (instance (place_at F p) q (map (option_map (S.term_of w)) e)) (map (option_map (S.term_of w)) e) ≡
          failed →
          Does (build_term n q) i p t e F T b K l w1 (ref_failing e F T b K l)
      builds_oversize : {n i p b l : ℕ} {q : _} {t : R} {e : Places R} {F : List Frame} {T : List ℕ}
          {K : List (RefRecord R Y)} {w1 : W} →
          Keeps S w w1 →
          built (instance (place_at F p) q (map (option_map (S.term_of w)) e)) (map (option_map (S.term_of w)) e) ≡
          oversize →
          Does (build_term n q) i p t e F T b K l w1 (ref_stopped run_oversize l)
      enters : {n k i p b l : ℕ} {t : R} {e : Places R} {F : List Frame} {T : List ℕ} {K : List (RefRecord R Y)} →
          Does (enter n k) i p t e F T b K l w
          (ref_running (suc i) (length F) t (e ++ replicate k None) (F ++ frame (length e) p [] ∷ []) T b K l)
      leaves : {i p b l base up : ℕ} {cs : List (ℕ × ℕ)} {t : R} {e : Places R} {F : List Frame} {T : List ℕ}
          {K : List (RefRecord R Y)} →
          slice_get F p ≡ Some (frame base up cs) → b ≤ base →
          Does leave i p t e F T b K l w (ref_running (suc i) up t (take base e) (take p F) T b K l)
      leaves_low : {i p b l base up : ℕ} {cs : List (ℕ × ℕ)} {t : R} {e : Places R} {F : List Frame} {T : List ℕ}
          {K : List (RefRecord R Y)} →
          slice_get F p ≡ Some (frame base up cs) → base < b →
          Does leave i p t e F T b K l w (ref_stopped stuck l)
      extends : {n k i p b l : ℕ} {t : R} {e : Places R} {F : List Frame} {T : List ℕ} {K : List (RefRecord R Y)} →
          Does (extend n k) i p t e F T b K l w (ref_running (suc i) p t (e ++ replicate k None) F T b K l)
      shrinks : {k i p b l : ℕ} {t : R} {e : Places R} {F : List Frame} {T : List ℕ} {K : List (RefRecord R Y)} →
          b ≤ length e - k →
          Does (shrink k) i p t e F T b K l w (ref_running (suc i) p t (take (length e - k) e) F T b K l)
      shrinks_low : {k i p b l : ℕ} {t : R} {e : Places R} {F : List Frame} {T : List ℕ} {K : List (RefRecord R Y)} →
          length e - k < b →
          Does (shrink k) i p t e F T b K l w (ref_stopped stuck l)
      calls_closure : {n i p b l : ℕ} {y : _} {t : R} {e : Places R} {F : List Frame} {T : List ℕ}
          {K : List (RefRecord R Y)} →
          Does (call_closure n y)
          i p t e F T b K l w
          (ref_running (closure_in F p y).0 (closure_in F p y).1 t e F T b (ref_call (suc i) p ∷ K) l)
      ends_argument : {i p a h b l : ℕ} {t : R} {e : Places R} {F : List Frame} {T : List ℕ}
          {K : List (RefRecord R Y)} →
          Does end_argument i p t e F T b (ref_call a h ∷ K) l w (ref_running a h t e F T b K l)
      ends_definition : {i p a h b l base up : ℕ} {cs : List (ℕ × ℕ)} {t : R} {e : Places R} {F : List Frame}
          {T : List ℕ} {K : List (RefRecord R Y)} → slice_get F p ≡ Some (frame base up cs) → b ≤ base →
          Does end_definition i p t e F T b (ref_call a h ∷ K) l w (ref_running a h t (take base e) (take p F) T b K l)
      ends_definition_low : {i p a h b l base up : ℕ} {cs : List (ℕ × ℕ)} {t : R} {e : Places R} {F : List Frame}
          {T : List ℕ} {K : List (RefRecord R Y)} → slice_get F p ≡ Some (frame base up cs) → base < b →
          Does end_definition i p t e F T b (ref_call a h ∷ K) l w (ref_stopped stuck l)
      tries : {n a i p b l : ℕ} {t : R} {e : Places R} {F : List Frame} {T : List ℕ} {K : List (RefRecord R Y)}
          {m : Y} → IsMark S w m →
          Does (try n a) i p t e F T b K l w
          (ref_running (suc i) p t e F T (length e) (ref_choice a t (saved p (length F) (length T) b) m ∷ K) l)
      commits : {n a x i p q k h d b l : ℕ} {t u : R} {e : Places R} {F : List Frame} {T : List ℕ}
          {K : List (RefRecord R Y)} {m : Y} →
          Does (commit n a) i p t e F T b (ref_choice x u (saved q k h d) m ∷ K)
          l w (ref_running a p t e F (trimmed h d T) d K l)
      answers : {n i p b l : ℕ} {f : List ℕ} {ps : _} {t u : R} {e : Places R} {F : List Frame} {T : List ℕ}
          {K : List (RefRecord R Y)} {w1 : W} →
          Keeps S w w1 → Stands S w1 u →
          answered (M f) (arguments (instances (place_at F p) ps (map (option_map (S.term_of w)) e))
          (map (option_map (S.term_of w)) e)) ≡ ok (S.term_of w1 u) (map (option_map (S.term_of w)) e) →
          Does (apply_primitive n f ps) i p t e F T b K l w1 (ref_running (suc i) p u e F T b K l)
      answers_none : {n i p b l : ℕ} {f : List ℕ} {ps : _} {t : R} {e : Places R} {F : List Frame} {T : List ℕ}
          {K : List (RefRecord R Y)} {w1 : W} →
          Keeps S w w1 →
          answered (M f) (arguments (instances (place_at F p) ps (map (option_map (S.term_of w)) e))
          (map (option_map (S.term_of w)) e)) ≡ failed →
          Does (apply_primitive n f ps) i p t e F T b K l w1 (ref_failing e F T b K l)
      answers_oversize : {n i p b l : ℕ} {f : List ℕ} {ps : _} {t : R} {e : Places R} {F : List Frame} {T : List ℕ}
          {K : List (RefRecord R Y)} {w1 : W} → Keeps S w w1 →
          answered (M f) (arguments (instances (place_at F p) ps (map (option_map (S.term_of w)) e))
          (map (option_map (S.term_of w)) e)) ≡ oversize →
          Does (apply_primitive n f ps) i p t e F T b K l w1 (ref_stopped run_oversize l)
      calls : {n h a k to i p b l : ℕ} {us : List Argument} {ps : _} {t : R} {e : Places R} {F : List Frame}
          {T : List ℕ} {K : List (RefRecord R Y)} {w1 : W} (rs : List R) → Keeps S w w1 → AllRefs (Stands S w1) rs →
          arguments (instances (place_at F p) ps (map (option_map (S.term_of w)) e))
          (map (option_map (S.term_of w)) e) ≡ ok (trees (S.term_of w1) rs) (map (option_map (S.term_of w)) e) →
          Does (call_definition n h a k to us ps)
          i p t e F T b K l w1
          (ref_running a (length F) t (e ++ (map (λ r. Some r) rs ++ replicate k None)) (F ++
          frame (length e) (frames_up F p h) (closed F p us) ∷ []) T b (ref_call to p ∷ K) l)
      calls_none : {n h a k to i p b l : ℕ} {us : List Argument} {ps : _} {t : R} {e : Places R} {F : List Frame}
          {T : List ℕ} {K : List (RefRecord R Y)} {w1 : W} → Keeps S w w1 →
          arguments (instances (place_at F p) ps (map (option_map (S.term_of w)) e))
          (map (option_map (S.term_of w)) e) ≡ failed →
          Does (call_definition n h a k to us ps) i p t e F T b K l w1 (ref_failing e F T b K l)
      calls_oversize : {n h a k to i p b l : ℕ} {us : List Argument} {ps : _} {t : R} {e : Places R} {F : List Frame}
          {T : List ℕ} {K : List (RefRecord R Y)} {w1 : W} → Keeps S w w1 →
          arguments (instances (place_at F p) ps (map (option_map (S.term_of w)) e))
          (map (option_map (S.term_of w)) e) ≡ oversize →
          Does (call_definition n h a k to us ps) i p t e F T b K l w1 (ref_stopped run_oversize l)
      selects : {n last i p b l : ℕ} {cs : List Case} {t : R} {e : Places R} {F : List Frame} {T : List ℕ}
          {K : List (RefRecord R Y)} {m1 : RefState R Y} → Selecting w last p t e F T b K cs l m1 →
          Does (select n cs last) i p t e F T b K l w m1
      begins_all : {n after i p b l : ℕ} {rs : List R} {t : R} {e : Places R} {F : List Frame} {T : List ℕ}
          {K : List (RefRecord R Y)} {w1 : W} {m1 : RefState R Y} → trees_left (S.term_of w) t 0 rs ≡ parts (S.term_of w t) →
          AllRefs (Stands S w) rs →
          OnAll w (suc i) after p t e F T b K l [] rs w1 m1 → Does (traverse n all_parts after) i p t e F T b K l w1 m1
      begins_one : {n after i p b l : ℕ} {rs : List R} {t : R} {e : Places R} {F : List Frame} {T : List ℕ}
          {K : List (RefRecord R Y)} {m1 : RefState R Y} → trees_left (S.term_of w) t 0 rs ≡ parts (S.term_of w t) →
          AllRefs (Stands S w) rs →
          OnOne w (suc i) after p t e F T b K l [] rs m1 → Does (traverse n one_part after) i p t e F T b K l w m1
      begins_some : {n after i p b l : ℕ} {rs : List R} {t : R} {e : Places R} {F : List Frame} {T : List ℕ}
          {K : List (RefRecord R Y)} {w1 : W} {m1 : RefState R Y} → trees_left (S.term_of w) t 0 rs ≡ parts (S.term_of w t) →
          AllRefs (Stands S w) rs →
          OnSome w (suc i) after p t e F T b K l [] false rs w1 m1 →
          Does (traverse n some_parts after) i p t e F T b K l w1 m1
      part_of_all : {i p body after b l : ℕ} {u : R} {done us : List R} {t : R} {e : Places R} {F : List Frame}
          {T : List ℕ} {K : List (RefRecord R Y)} {w1 : W} {m1 : RefState R Y} →
          OnAll w body after p u e F T b K l (t ∷ done) us w1 m1 →
          Does part_done i p t e F T b (ref_all body after u done us ∷ K) l w1 m1
      part_of_some : {i p body after q k h d b l : ℕ} {u v : R} {done us : List R} {found : Bool} {m : Y} {t : R}
          {e : Places R} {F : List Frame} {T : List ℕ} {K : List (RefRecord R Y)} {w1 : W} {m1 : RefState R Y} →
          OnSome w body after p u e F (trimmed h d T) d K l (t ∷ done) true us w1 m1 →
          Does part_done i p t e F T b (ref_some body after u done v us found (saved q k h d) m ∷ K) l w1 m1
      part_of_one : {i p body after q k h d b l : ℕ} {u v x : R} {done us : List R} {m : Y} {t : R} {e : Places R}
          {F : List Frame} {T : List ℕ} {K : List (RefRecord R Y)} {w1 : W} → Keeps S w w1 → Stands S w1 x →
          rebuilt (S.term_of w u)
          (ok (in_order (trees (S.term_of w) done) (more (S.term_of w t)
          (trees_left (S.term_of w) u (suc (length done)) us)))
          (map (option_map (S.term_of w)) e)) ≡ ok (S.term_of w1 x) (map (option_map (S.term_of w)) e) →
          Does part_done i p t e F T b (ref_one body after u done v us (saved q k h d) m ∷ K)
          l w1 (ref_running after p x e F (trimmed h d T) d K l)
      part_of_one_oversize : {i p body after q k h d b l : ℕ} {u v : R} {done us : List R} {m : Y} {t : R}
          {e : Places R} {F : List Frame} {T : List ℕ} {K : List (RefRecord R Y)} {w1 : W} → Keeps S w w1 →
          rebuilt (S.term_of w u)
          (ok (in_order (trees (S.term_of w) done) (more (S.term_of w t)
          (trees_left (S.term_of w) u (suc (length done)) us)))
          (map (option_map (S.term_of w)) e)) ≡ oversize →
          Does part_done i p t e F T b (ref_one body after u done v us (saved q k h d) m ∷ K)
          l w1 (ref_stopped run_oversize l)
      finishes : {i p b l : ℕ} {t : R} {e : Places R} {F : List Frame} {T : List ℕ} {K : List (RefRecord R Y)} →
          Does finish i p t e F T b K l w (ref_rewritten t l)
      -- what code of no program comes to
      sticks : {v : Instr} {i p b l : ℕ} {t : R} {e : Places R} {F : List Frame} {T : List ℕ}
          {K : List (RefRecord R Y)} →
          effect M v i p (S.term_of w t) (map (option_map (S.term_of w)) e) F T b (map (record_tree (S.term_of w)) K)
          l ≡ ended stuck l →
          Does v i p t e F T b K l w (ref_stopped stuck l)

  -- one step, with the states of the space
  pub data StepRef (code : Code) (M : Meaning) : W → RefState R Y → W → RefState R Y → Type 0 where
    performs : {v : Instr} {i p b l : ℕ} {t : R} {e : Places R} {F : List Frame} {T : List ℕ} {K : List (RefRecord R Y)}
        {w w1 : W} {m1 : RefState R Y} (rest : ℕ) →
        At code i v → l ≡ nodes_of v + rest → Does M w v i p t e F T b K rest w1 m1 →
        StepRef code M w (ref_running i p t e F T b K l) w1 m1
    cannot_pay : {v : Instr} {i p b l : ℕ} {t : R} {e : Places R} {F : List Frame} {T : List ℕ}
        {K : List (RefRecord R Y)} {w : W} →
        At code i v → l < nodes_of v → StepRef code M w (ref_running i p t e F T b K l) w (ref_stopped run_spent l)
    leaves_code : {i p b l : ℕ} {t : R} {e : Places R} {F : List Frame} {T : List ℕ} {K : List (RefRecord R Y)}
        {w : W} →
        slice_get code i ≡ None → StepRef code M w (ref_running i p t e F T b K l) w (ref_stopped stuck l)
    fails_whole : {b l : ℕ} {e : Places R} {F : List Frame} {T : List ℕ} {w : W} →
        StepRef code M w (ref_failing e F T b [] l) w (ref_stopped run_failed l)
    fails_call : {a h b l : ℕ} {e : Places R} {F : List Frame} {T : List ℕ} {K : List (RefRecord R Y)} {w : W} →
        StepRef code M w (ref_failing e F T b (ref_call a h ∷ K) l) w (ref_failing e F T b K l)
    fails_all : {body after b l : ℕ} {t : R} {done rest : List R} {e : Places R} {F : List Frame} {T : List ℕ}
        {K : List (RefRecord R Y)} {w : W} →
        StepRef code M w (ref_failing e F T b (ref_all body after t done rest ∷ K) l) w (ref_failing e F T b K l)
    -- exactly what the mark covers stands afterwards
    fails_choice : {a q k h d b l : ℕ} {t : R} {e : Places R} {F : List Frame} {T : List ℕ} {K : List (RefRecord R Y)}
        {m : Y} {w w1 : W} →
        GoesBack S w m w1 →
        StepRef code M w (ref_failing e F T b (ref_choice a t (saved q k h d) m ∷ K) l)
        w1 (ref_running a q t (take b (undone (above h T) e)) (take k F) (down_to h T) d K l)
    fails_one_last : {body after q k h d b l : ℕ} {t u : R} {done : List R} {e : Places R} {F : List Frame} {T : List ℕ}
        {K : List (RefRecord R Y)} {m : Y} {w w1 : W} → GoesBack S w m w1 →
        HasNoMore w1 t (suc (length done)) →
        StepRef code M w (ref_failing e F T b (ref_one body after t done u [] (saved q k h d) m ∷ K) l)
        w1 (ref_failing (take b (undone (above h T) e)) (take k F) (down_to h T) d K l)
    fails_one_next : {body after q k h d b l : ℕ} {t u v : R} {done rest us : List R} {e : Places R} {F : List Frame}
        {T : List ℕ} {K : List (RefRecord R Y)} {m n : Y} {w w1 : W} → GoesBack S w m w1 →
        IsNext w1 t (suc (length done)) rest v us → IsMark S w1 n →
        StepRef code M w (ref_failing e F T b (ref_one body after t done u rest (saved q k h d) m ∷ K) l)
        w1 (ref_running body q v (take b (undone (above h T) e)) (take k F) (down_to h T)
        (length (take b (undone (above h T) e)))
        (ref_one body after t (u ∷ done) v us (saved q (length (take k F)) (length (down_to h T)) d) n ∷ K) l)
    fails_some_none : {body after q k h d b l : ℕ} {t u : R} {done : List R} {e : Places R} {F : List Frame}
        {T : List ℕ} {K : List (RefRecord R Y)} {m : Y} {w w1 : W} → GoesBack S w m w1 → HasNoMore w1 t (suc (length done)) →
        StepRef code M w (ref_failing e F T b (ref_some body after t done u [] false (saved q k h d) m ∷ K) l)
        w1 (ref_failing (take b (undone (above h T) e)) (take k F) (down_to h T) d K l)
    -- the whole is made by the next step
    fails_some_last : {body after q k h d b l : ℕ} {t u : R} {done : List R} {e : Places R} {F : List Frame}
        {T : List ℕ} {K : List (RefRecord R Y)} {m : Y} {w w1 : W} → GoesBack S w m w1 → HasNoMore w1 t (suc (length done)) →
        StepRef code M w (ref_failing e F T b (ref_some body after t done u [] true (saved q k h d) m ∷ K) l) w1
        (ref_running (after - 1) q u (take b (undone (above h T) e)) (take k F) (down_to h T)
        d (ref_all body after t done [] ∷ K) l)
    fails_some_next : {body after q k h d b l : ℕ} {t u v : R} {done rest us : List R} {found : Bool} {e : Places R}
        {F : List Frame} {T : List ℕ} {K : List (RefRecord R Y)} {m n : Y} {w w1 : W} → GoesBack S w m w1 →
        IsNext w1 t (suc (length done)) rest v us → IsMark S w1 n →
        StepRef code M w (ref_failing e F T b (ref_some body after t done u rest found (saved q k h d) m ∷ K) l)
        w1 (ref_running body q v (take b (undone (above h T) e)) (take k F) (down_to h T)
        (length (take b (undone (above h T) e)))
        (ref_some body after t (u ∷ done) v us found (saved q (length (take k F)) (length (down_to h T)) d) n ∷ K)
        l)

  -- n steps
  pub data StepsRef (code : Code) (M : Meaning) : ℕ → W → RefState R Y → W → RefState R Y → Type 0 where
    no_step_ref : {w : W} {m : RefState R Y} → StepsRef code M 0 w m w m
    more_steps_ref : {k : ℕ} {w w1 w2 : W} {m m1 m2 : RefState R Y} → StepRef code M w m w1 m1 →
        StepsRef code M k w1 m1 w2 m2 →
        StepsRef code M (suc k) w m w2 m2
