-- The headline does not rest on this file.
-- One step of the machine.
use Rattle.std.specs.Prelude.{◌≡◌, ℕ, suc, ◌-◌, nat_lt, Bool, true, false, if◌then◌else◌, Option, Some, None, List, [], ◌∷◌, length, ◌++◌, take, slice_get}
use Rattle.term_model.specs.Term.{Tree, Trees, end, more}
use Rattle.term_model.specs.Flat.{Meaning}
use Rattle.core_lang.specs.Environment.{Bindings, empty_places, filled_places}
use Rattle.core_lang.specs.Building.{instance, instances}
use Rattle.core_lang.specs.Ending.{Ending, ok, failure, excess, stop, built, rebuilt, arguments, answered}
use Rattle.core_lang.specs.Derivation.{parts}
use Rattle.strat_code.specs.Code.{Argument, Case, case, Traversal, all_parts, one_part, some_parts, Instr, count, give_up, match_term, build_term, enter, leave, extend, shrink, try, commit, select, jump, traverse, part_done, call_definition, call_closure, end_definition, end_argument, apply_primitive, finish, Code, nodes_of}
use Rattle.strat_steps.specs.State.{Frame, frame, saved, Record, call_record, choice_record, all_record, one_record, some_record, rewritten, run_failed, run_oversize, run_spent, stuck, State, running, failing, ended, frames_up, place_at, closure_in, closed}
use Rattle.core_lang.specs.Roots.{has_root}
use Rattle.strat_steps.specs.Binding.{undone, above, down_to, trimmed, Attempt, attempt, attempted}

-- the terms in front, the last first
abbrev pub in_order : Trees → Trees → Trees
in_order end us = us
in_order (more u done) us = in_order done (more u us)

-- places are never cut below the barrier
abbrev pub cut_to : (places barrier left : ℕ) → State → State
cut_to n b l m = if nat_lt n b then ended stuck l else m

module _ (F : List Frame) (T : List ℕ) (b : ℕ) (K : List Record) (l : ℕ) where
  -- goes on at i in the frame p as an ending says; a failure leaves the places e
  abbrev pub goes_on : (i p : ℕ) → Bindings → Ending Tree → State
  goes_on i p e (ok u f) = running i p u f F T b K l
  goes_on i p e (stop failure) = failing e F T b K l
  goes_on i p e (stop excess) = ended run_oversize l

  -- a match has been tried
  abbrev pub matched : (i p : ℕ) → Tree → Attempt → State
  matched i p t (attempt true f U) = running i p t f F U b K l
  matched i p t (attempt false f U) = failing f F U b K l

  -- the next part of all(s), or the end
  abbrev pub on_all : (body after p : ℕ) → Tree → Bindings → (done : Trees) → Trees → State
  on_all body after p t e done end = goes_on after p e (rebuilt t (ok (in_order done end) e))
  on_all body after p t e done (more u us) = running body p u e F T b (all_record body after t done us ∷ K) l

  -- the next part of one(s), or the end
  abbrev pub on_one : (body after p : ℕ) → Tree → Bindings → (done : Trees) → Trees → State
  on_one body after p t e done end = failing e F T b K l
  on_one body after p t e done (more u us) =
      running body p u e F T (length e) (one_record body after t done u us (saved p (length F) (length T) b) ∷ K) l

  -- the next part of some(s), or the end
  abbrev pub on_some : (body after p : ℕ) → Tree → Bindings → Bool → (done : Trees) → Trees → State
  on_some body after p t e true done end = goes_on after p e (rebuilt t (ok (in_order done end) e))
  on_some body after p t e false done end = failing e F T b K l
  on_some body after p t e found done (more u us) =
      running body p u e F T (length e) (some_record body after t done u us found (saved p (length F) (length T) b) ∷ K)
      l

  -- a part of some(s) has failed and stays as it is. Where it is the last one and the whole is to be made, the next
  -- step makes it, at the end of the code for a part, which is right before the address that the machine goes on at
  abbrev pub on_some_unchanged : (body after p : ℕ) → Tree → Bindings → Bool → (done : Trees) → Tree → Trees → State
  on_some_unchanged body after p t e true done u end =
      running (after - 1) p u e F T b (all_record body after t done end ∷ K) l
  on_some_unchanged body after p t e false done u end = failing e F T b K l
  on_some_unchanged body after p t e found done u (more v us) =
      running body p v e F T (length e)
      (some_record body after t (more u done) v us found (saved p (length F) (length T) b) ∷ K) l

  -- a new frame and places of a call, or where its arguments stop it
  abbrev pub called_with : (i p : ℕ) → Tree → Bindings → (frames entry room : ℕ) → List Argument → Ending Trees → State
  called_with i p t e h a k us (ok ts f) =
      running a (length F) t (e ++ (filled_places ts ++ empty_places k)) (F ++
      frame (length e) (frames_up F p h) (closed F p us) ∷ []) T b (call_record i p ∷ K) l
  called_with i p t e h a k us (stop failure) = failing e F T b K l
  called_with i p t e h a k us (stop excess) = ended run_oversize l

  -- in a closure
  abbrev pub in_closure : (i p : ℕ) → Tree → Bindings → ℕ × ℕ → State
  in_closure i p t e c = running c.0 c.1 t e F T b (call_record i p ∷ K) l

  -- out of a scope
  abbrev pub left : (i p : ℕ) → Tree → Bindings → Option Frame → State
  left i p t e None = ended stuck l
  left i p t e (Some (frame base up cs)) = cut_to base b l (running i up t (take base e) (take p F) T b K l)

-- out of a call
abbrev pub returned : ℕ → Tree → Bindings → List Frame → List ℕ → ℕ → List Record → ℕ → Option Frame → State
returned p t e F T b (call_record a h ∷ K) l (Some (frame base up cs)) =
    cut_to base b l (running a h t (take base e) (take p F) T b K l)
returned p t e F T b K l v = ended stuck l

abbrev pub out_of_argument : Tree → Bindings → List Frame → List ℕ → ℕ → List Record → ℕ → State
out_of_argument t e F T b (call_record a h ∷ K) l = running a h t e F T b K l
out_of_argument t e F T b K l = ended stuck l

-- a choice has chosen
abbrev pub committed : (i p : ℕ) → Tree → Bindings → List Frame → List ℕ → ℕ → List Record → ℕ → State
committed i p t e F T b (choice_record a u (saved q n h d) ∷ K) l = running i p t e F (trimmed h d T) d K l
committed i p t e F T b K l = ended stuck l

-- the first alternative that can have the root; those passed by are paid for
abbrev pub selected : List Case → (last p : ℕ) → Tree → Bindings → List Frame → List ℕ → ℕ → List Record → ℕ → State
selected [] last p t e F T b K l = running last p t e F T b K l
selected (case r n body otherwise ∷ cs) last p t e F T b K l =
    if has_root r t then running body p t e F T (length e)
    (choice_record otherwise t (saved p (length F) (length T) b) ∷ K) l
    else (if nat_lt l n then ended run_spent l else selected cs last p t e F T b K (l - n))

-- a part is done
abbrev pub part_ended : (p : ℕ) → Tree → Bindings → List Frame → List ℕ → ℕ → List Record → ℕ → State
part_ended p t e F T b (all_record body after u done us ∷ K) l = on_all F T b K l body after p u e (more t done) us
part_ended p t e F T b (one_record body after u done v us (saved q n h d) ∷ K) l =
    goes_on F (trimmed h d T) d K l after p e (rebuilt u (ok (in_order done (more t us)) e))
part_ended p t e F T b (some_record body after u done v us found (saved q n h d) ∷ K) l =
    on_some F (trimmed h d T) d K l body after p u e true (more t done) us
part_ended p t e F T b K l = ended stuck l

-- the parts of a term
abbrev pub traversal_begun : Traversal → (after i p : ℕ) → Tree → Bindings → List Frame → List ℕ → ℕ → List Record → ℕ →
    State
traversal_begun all_parts after i p t e F T b K l = on_all F T b K l i after p t e end (parts t)
traversal_begun one_part after i p t e F T b K l = on_one F T b K l i after p t e end (parts t)
traversal_begun some_parts after i p t e F T b K l = on_some F T b K l i after p t e false end (parts t)

module _ (M : Meaning) where
  -- the effect of an instruction at i, which is paid for
  abbrev pub effect : Instr → (i p : ℕ) → Tree → Bindings → List Frame → List ℕ → ℕ → List Record → ℕ → State
  effect (count n) i p t e F T b K l = running (suc i) p t e F T b K l
  effect (give_up n) i p t e F T b K l = failing e F T b K l
  effect (match_term n q) i p t e F T b K l = matched F T b K l (suc i) p t (attempted (place_at F p) b q t e T)
  effect (build_term n q) i p t e F T b K l = goes_on F T b K l (suc i) p e (built (instance (place_at F p) q e) e)
  effect (enter n k) i p t e F T b K l =
      running (suc i) (length F) t (e ++ empty_places k) (F ++ frame (length e) p [] ∷ []) T b K l
  effect leave i p t e F T b K l = left F T b K l (suc i) p t e (slice_get F p)
  effect (extend n k) i p t e F T b K l = running (suc i) p t (e ++ empty_places k) F T b K l
  effect (shrink k) i p t e F T b K l =
      cut_to (length e - k) b l (running (suc i) p t (take (length e - k) e) F T b K l)
  effect (try n a) i p t e F T b K l =
      running (suc i) p t e F T (length e) (choice_record a t (saved p (length F) (length T) b) ∷ K) l
  effect (commit n a) i p t e F T b K l = committed a p t e F T b K l
  effect (select n cs a) i p t e F T b K l = selected cs a p t e F T b K l
  effect (jump a) i p t e F T b K l = running a p t e F T b K l
  effect (traverse n kind after) i p t e F T b K l = traversal_begun kind after (suc i) p t e F T b K l
  effect part_done i p t e F T b K l = part_ended p t e F T b K l
  effect (call_definition n h a k to us ps) i p t e F T b K l =
      called_with F T b K l to p t e h a k us (arguments (instances (place_at F p) ps e) e)
  effect (call_closure n y) i p t e F T b K l = in_closure F T b K l (suc i) p t e (closure_in F p y)
  effect end_definition i p t e F T b K l = returned p t e F T b K l (slice_get F p)
  effect end_argument i p t e F T b K l = out_of_argument t e F T b K l
  effect (apply_primitive n f ps) i p t e F T b K l =
      goes_on F T b K l (suc i) p e (answered (M f) (arguments (instances (place_at F p) ps e) e))
  effect finish i p t e F T b K l = ended (rewritten t) l

  -- the nodes are paid for from the budget, or it is spent
  abbrev pub paid : Instr → (i p : ℕ) → Tree → Bindings → List Frame → List ℕ → ℕ → List Record → ℕ → State
  paid v i p t e F T b K l = if nat_lt l (nodes_of v) then ended run_spent l
      else effect v i p t e F T b K (l - nodes_of v)

  abbrev pub performed : Option Instr → (i p : ℕ) → Tree → Bindings → List Frame → List ℕ → ℕ → List Record → ℕ → State
  performed None i p t e F T b K l = ended stuck l
  performed (Some v) i p t e F T b K l = paid v i p t e F T b K l

-- after a failure the last record is taken off. No such step makes a term, and no other step goes back
abbrev pub backtracked : Bindings → List Frame → List ℕ → ℕ → List Record → ℕ → State
backtracked e F T b [] l = ended run_failed l
backtracked e F T b (call_record a h ∷ K) l = failing e F T b K l
backtracked e F T b (choice_record a t (saved q n h d) ∷ K) l =
    running a q t (take b (undone (above h T) e)) (take n F) (down_to h T) d K l
backtracked e F T b (all_record body after t done us ∷ K) l = failing e F T b K l
backtracked e F T b (one_record body after t done u us (saved q n h d) ∷ K) l =
    on_one (take n F) (down_to h T) d K l body after q t (take b (undone (above h T) e)) (more u done) us
backtracked e F T b (some_record body after t done u us found (saved q n h d) ∷ K) l =
    on_some_unchanged (take n F) (down_to h T) d K l body after q t (take b (undone (above h T) e)) found done u us

-- one step; a run that has ended stays
abbrev pub next : Code → Meaning → State → State
next code M (running i p t e F T b K l) = performed M (slice_get code i) i p t e F T b K l
next code M (failing e F T b K l) = backtracked e F T b K l
next code M (ended r l) = ended r l

-- the run has not ended
abbrev pub IsGoing : State → Type 0
IsGoing (running i p t e F T b K l) = Unit {0}
IsGoing (failing e F T b K l) = Unit {0}
IsGoing (ended r l) = ⊥

-- n steps lead from one state to another
pub data Steps (code : Code) (M : Meaning) : ℕ → State → State → Type 0 where
  no_step : {m : State} → Steps code M 0 m m
  more_steps : {k : ℕ} {m m1 m2 : State} → IsGoing m → next code M m ≡ m1 → Steps code M k m1 m2 →
      Steps code M (suc k) m m2
