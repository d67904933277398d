-- Each step keeps that in a traversal no part is lost.
use Rattle.std.proofs.Common.{◌≡◌, ℕ, suc, ◌+◌, ◌-◌, Option, Some, None, List, [], ◌∷◌, length, arith, subst}
use Rattle.std.specs.Prelude.{Bool, true, false, if◌then◌else◌, nat_lt, slice_get}
use Rattle.term_model.specs.Term.{Tree, node, Trees, end, more, list_of}
use Rattle.term_model.specs.TermParts.{parts_of}
use Rattle.term_model.specs.Flat.{Meaning}
use Rattle.core_lang.specs.Environment.{Bindings}
use Rattle.core_lang.specs.Building.{instance, instances}
use Rattle.core_lang.specs.Ending.{Ending, ok, stop, failure, excess, built, rebuilt, arguments, answered}
use Rattle.core_lang.specs.Roots.{has_root}
use Rattle.strat_code.specs.Code.{Argument, Case, case, Traversal, all_parts, one_part, some_parts, Instr, count, give_up, match_term, build_term, enter, leave, extend, shrink, try, commit, select, jump, traverse, part_done, call_definition, call_closure, end_definition, end_argument, apply_primitive, finish, Code, nodes_of}
use Rattle.strat_steps.specs.State.{Frame, frame, saved, Record, call_record, choice_record, all_record, one_record, some_record, State, running, failing, ended, place_at}
use Rattle.strat_steps.specs.Binding.{Attempt, attempt, attempted, trimmed}
use Rattle.strat_steps.specs.Step.{in_order, goes_on, matched, on_all, on_one, on_some, on_some_unchanged, called_with, left, returned, out_of_argument, committed, selected, part_ended, traversal_begun, effect, performed, backtracked, next}
use Rattle.term_model.specs.Space.{Space}
use Rattle.strat_steps.specs.References.{RefState, state_tree}
use Rattle.strat_steps.specs.ReferenceSteps.{StepRef, StepsRef, no_step_ref, more_steps_ref}
use Rattle.strat_steps.specs.Marks.{Holds}
use Rattle.strat_steps.proofs.ReferenceSteps.{step_so}
use Rattle.strat_steps.specs.Counted.{AllCounted, StateCounted}

if_counted : (c : Bool) (x y : State) → StateCounted x → StateCounted y → StateCounted (if c then x else y)
if_counted true x y h k = h
if_counted false x y h k = k

module _ (F : List Frame) (T : List ℕ) (b : ℕ) (K : List Record) (l : ℕ) (h : AllCounted K) where
  goes_counted : (i p : ℕ) (e : Bindings) (o : Ending Tree) → StateCounted (goes_on F T b K l i p e o)
  goes_counted i p e (ok u f) = h
  goes_counted i p e (stop failure) = h
  goes_counted i p e (stop excess) = tt

  matched_counted : (i p : ℕ) (t : Tree) (a : Attempt) → StateCounted (matched F T b K l i p t a)
  matched_counted i p t (attempt true f U) = h
  matched_counted i p t (attempt false f U) = h

  all_counted : (body after p : ℕ) (t : Tree) (e : Bindings) (done us : Trees) →
      length (list_of done) + length (list_of us) ≡ length (parts_of t) →
      StateCounted (on_all F T b K l body after p t e done us)
  all_counted body after p t e done end n = goes_counted after p e (rebuilt t (ok (in_order done end) e))
  all_counted body after p t e done (more u us) n = (n, h)

  one_counted : (body after p : ℕ) (t : Tree) (e : Bindings) (done us : Trees) →
      length (list_of done) + length (list_of us) ≡ length (parts_of t) →
      StateCounted (on_one F T b K l body after p t e done us)
  one_counted body after p t e done end n = h
  one_counted body after p t e done (more u us) n = (n, h)

  some_counted : (body after p : ℕ) (t : Tree) (e : Bindings) (found : Bool) (done us : Trees) →
      length (list_of done) + length (list_of us) ≡ length (parts_of t) →
      StateCounted (on_some F T b K l body after p t e found done us)
  some_counted body after p t e true done end n = goes_counted after p e (rebuilt t (ok (in_order done end) e))
  some_counted body after p t e false done end n = h
  some_counted body after p t e true done (more u us) n = (n, h)
  some_counted body after p t e false done (more u us) n = (n, h)

  unchanged_counted : (body after p : ℕ) (t : Tree) (e : Bindings) (found : Bool) (done : Trees) (u : Tree)
      (us : Trees) → length (list_of done) + suc (length (list_of us)) ≡ length (parts_of t) →
      StateCounted (on_some_unchanged F T b K l body after p t e found done u us)
  unchanged_counted body after p t e true done u end n = (n, h)
  unchanged_counted body after p t e false done u end n = h
  unchanged_counted body after p t e true done u (more v us) n = (omega (arith, n), h)
  unchanged_counted body after p t e false done u (more v us) n = (omega (arith, n), h)

  begun_counted : (kind : Traversal) (after i p : ℕ) (t : Tree) (e : Bindings) →
      StateCounted (traversal_begun kind after i p t e F T b K l)
  begun_counted all_parts after i p (node head ts annos) e =
      all_counted i after p (node head ts annos) e end ts (omega arith)
  begun_counted one_part after i p (node head ts annos) e =
      one_counted i after p (node head ts annos) e end ts (omega arith)
  begun_counted some_parts after i p (node head ts annos) e =
      some_counted i after p (node head ts annos) e false end ts (omega arith)

  called_counted : (i p : ℕ) (t : Tree) (e : Bindings) (frames entry room : ℕ) (us : List Argument) (o : Ending Trees) →
      StateCounted (called_with F T b K l i p t e frames entry room us o)
  called_counted i p t e j a k us (ok ts f) = (tt, h)
  called_counted i p t e j a k us (stop failure) = h
  called_counted i p t e j a k us (stop excess) = tt

  left_counted : (i p : ℕ) (t : Tree) (e : Bindings) (o : Option Frame) → StateCounted (left F T b K l i p t e o)
  left_counted i p t e None = tt
  left_counted i p t e (Some (frame base up cs)) = if_counted (nat_lt base b) _ _ tt h

module _ (F : List Frame) (T : List ℕ) (b : ℕ) where
  returned_counted : (p : ℕ) (t : Tree) (e : Bindings) (K : List Record) (l : ℕ) (o : Option Frame) → AllCounted K →
      StateCounted (returned p t e F T b K l o)
  returned_counted p t e [] l o h = tt
  returned_counted p t e (call_record a q ∷ K) l None h = tt
  returned_counted p t e (call_record a q ∷ K) l (Some (frame base up cs)) h = if_counted (nat_lt base b) _ _ tt h.1
  returned_counted p t e (choice_record a u s ∷ K) l o h = tt
  returned_counted p t e (all_record body after u done us ∷ K) l o h = tt
  returned_counted p t e (one_record body after u done x us s ∷ K) l o h = tt
  returned_counted p t e (some_record body after u done x us found s ∷ K) l o h = tt

  argument_counted : (t : Tree) (e : Bindings) (K : List Record) (l : ℕ) → AllCounted K →
      StateCounted (out_of_argument t e F T b K l)
  argument_counted t e [] l h = tt
  argument_counted t e (call_record a q ∷ K) l h = h.1
  argument_counted t e (choice_record a u s ∷ K) l h = tt
  argument_counted t e (all_record body after u done us ∷ K) l h = tt
  argument_counted t e (one_record body after u done x us s ∷ K) l h = tt
  argument_counted t e (some_record body after u done x us found s ∷ K) l h = tt

  committed_counted : (i p : ℕ) (t : Tree) (e : Bindings) (K : List Record) (l : ℕ) → AllCounted K →
      StateCounted (committed i p t e F T b K l)
  committed_counted i p t e [] l h = tt
  committed_counted i p t e (call_record a q ∷ K) l h = tt
  committed_counted i p t e (choice_record a u (saved q n j d) ∷ K) l h = h.1
  committed_counted i p t e (all_record body after u done us ∷ K) l h = tt
  committed_counted i p t e (one_record body after u done x us s ∷ K) l h = tt
  committed_counted i p t e (some_record body after u done x us found s ∷ K) l h = tt

  selected_counted : (cs : List Case) (last p : ℕ) (t : Tree) (e : Bindings) (K : List Record) (l : ℕ) → AllCounted K →
      StateCounted (selected cs last p t e F T b K l)
  selected_counted [] last p t e K l h = h
  selected_counted (case r n body otherwise ∷ cs) last p t e K l h =
      if_counted (has_root r t) _ _ (tt, h)
      (if_counted (nat_lt l n) _ _ tt (selected_counted cs last p t e K (l - n) h))

  ended_counted : (p : ℕ) (t : Tree) (e : Bindings) (K : List Record) (l : ℕ) → AllCounted K →
      StateCounted (part_ended p t e F T b K l)
  ended_counted p t e [] l h = tt
  ended_counted p t e (call_record a q ∷ K) l h = tt
  ended_counted p t e (choice_record a u s ∷ K) l h = tt
  ended_counted p t e (all_record body after u done us ∷ K) l h = let n = h.0 in
      all_counted F T b K l h.1 body after p u e (more t done) us (omega arith)
  ended_counted p t e (one_record body after u done x us (saved q n j d) ∷ K) l h =
      goes_counted F (trimmed j d T) d K l h.1 after p e (rebuilt u (ok (in_order done (more t us)) e))
  ended_counted p t e (some_record body after u done x us found (saved q n j d) ∷ K) l h = let n = h.0 in
      some_counted F (trimmed j d T) d K l h.1 body after p u e true (more t done) us (omega arith)

  module _ (M : Meaning) where
    effect_counted : (v : Instr) (i p : ℕ) (t : Tree) (e : Bindings) (K : List Record) (l : ℕ) → AllCounted K →
        StateCounted (effect M v i p t e F T b K l)
    effect_counted (count n) i p t e K l h = h
    effect_counted (give_up n) i p t e K l h = h
    effect_counted (match_term n q) i p t e K l h =
        matched_counted F T b K l h (suc i) p t (attempted (place_at F p) b q t e T)
    effect_counted (build_term n q) i p t e K l h =
        goes_counted F T b K l h (suc i) p e (built (instance (place_at F p) q e) e)
    effect_counted (enter n k) i p t e K l h = h
    effect_counted leave i p t e K l h = left_counted F T b K l h (suc i) p t e (slice_get F p)
    effect_counted (extend n k) i p t e K l h = h
    effect_counted (shrink k) i p t e K l h = if_counted (nat_lt (length e - k) b) _ _ tt h
    effect_counted (try n a) i p t e K l h = (tt, h)
    effect_counted (commit n a) i p t e K l h = committed_counted a p t e K l h
    effect_counted (select n cs a) i p t e K l h = selected_counted cs a p t e K l h
    effect_counted (jump a) i p t e K l h = h
    effect_counted (traverse n kind after) i p t e K l h = begun_counted F T b K l h kind after (suc i) p t e
    effect_counted part_done i p t e K l h = ended_counted p t e K l h
    effect_counted (call_definition n j a k to us ps) i p t e K l h =
        called_counted F T b K l h to p t e j a k us (arguments (instances (place_at F p) ps e) e)
    effect_counted (call_closure n y) i p t e K l h = (tt, h)
    effect_counted end_definition i p t e K l h = returned_counted p t e K l (slice_get F p) h
    effect_counted end_argument i p t e K l h = argument_counted t e K l h
    effect_counted (apply_primitive n f ps) i p t e K l h =
        goes_counted F T b K l h (suc i) p e (answered (M f) (arguments (instances (place_at F p) ps e) e))
    effect_counted finish i p t e K l h = tt

    performed_counted : (o : Option Instr) (i p : ℕ) (t : Tree) (e : Bindings) (K : List Record) (l : ℕ) →
        AllCounted K → StateCounted (performed M o i p t e F T b K l)
    performed_counted None i p t e K l h = tt
    performed_counted (Some v) i p t e K l h =
        if_counted (nat_lt l (nodes_of v)) _ _ tt (effect_counted v i p t e K (l - nodes_of v) h)

backtracked_counted : (e : Bindings) (F : List Frame) (T : List ℕ) (b : ℕ) (K : List Record) (l : ℕ) → AllCounted K →
    StateCounted (backtracked e F T b K l)
backtracked_counted e F T b [] l h = tt
backtracked_counted e F T b (call_record a q ∷ K) l h = h.1
backtracked_counted e F T b (choice_record a t (saved q n j d) ∷ K) l h = h.1
backtracked_counted e F T b (all_record body after t done us ∷ K) l h = h.1
backtracked_counted e F T b (one_record body after t done u us (saved q n j d) ∷ K) l h = let n = h.0 in
    one_counted _ _ d K l h.1 body after q t _ (more u done) us (omega arith)
backtracked_counted e F T b (some_record body after t done u us found (saved q n j d) ∷ K) l h =
    unchanged_counted _ _ d K l h.1 body after q t _ found done u us h.0

pub next_counted : (code : Code) (M : Meaning) (m : State) → StateCounted m → StateCounted (next code M m)
next_counted code M (running i p t e F T b K l) h = performed_counted F T b M (slice_get code i) i p t e K l h
next_counted code M (failing e F T b K l) h = backtracked_counted e F T b K l h
next_counted code M (ended r l) h = tt

-- so does each step over references, which keeps what the marks must cover too
module _ {W R Y N : Type 0} {S : Space W R Y N} {code : Code} {M : Meaning} where
  pub step_keeps : {w w1 : W} {m m1 : RefState R Y} → StepRef S code M w m w1 m1 → Holds S w m →
      StateCounted (state_tree (S.term_of w) m) → Holds S w1 m1 × StateCounted (state_tree (S.term_of w1) m1)
  step_keeps {w} {w1} {m} {m1} x h c = let y = step_so x h in
      (y.1, subst StateCounted y.0 (next_counted code M (state_tree (S.term_of w) m) c))

  pub steps_keep : {k : ℕ} {w w1 : W} {m m1 : RefState R Y} → StepsRef S code M k w m w1 m1 → Holds S w m →
      StateCounted (state_tree (S.term_of w) m) → Holds S w1 m1 × StateCounted (state_tree (S.term_of w1) m1)
  steps_keep no_step_ref h c = (h, c)
  steps_keep (more_steps_ref x xs) h c = let y = step_keeps x h c in steps_keep xs y.0 y.1

  -- one step more
  pub steps_then : {k : ℕ} {w w1 w2 : W} {m m1 m2 : RefState R Y} → StepsRef S code M k w m w1 m1 →
      StepRef S code M w1 m1 w2 m2 → StepsRef S code M (suc k) w m w2 m2
  steps_then no_step_ref y = more_steps_ref y no_step_ref
  steps_then (more_steps_ref x xs) y = more_steps_ref x (steps_then xs y)
