-- The headline does not rest on this file.
-- States of the machine, on the level of terms.
use Rattle.std.specs.Prelude.{ℕ, zero, suc, ◌+◌, Bool, Option, Some, None, List, [], ◌∷◌, slice_get}
use Rattle.term_model.specs.Term.{Tree, Trees}
use Rattle.core_lang.specs.declared.coordinate.Coordinate.{Coordinate}
use Rattle.core_lang.specs.Environment.{Bindings}
use Rattle.strat_code.specs.Code.{Argument, code_at, parameter_at}

-- A frame of a call or of a scope: its first place, the position of the frame around it, and the closures of its
-- strategy parameters. A closure is an address and the position of the frame that its code runs in
pub data Frame : Type 0 where
  frame : (base up : ℕ) → (closures : List (ℕ × ℕ)) → Frame

-- What a failure restores: the current frame, how many frames there were, how many entries the trail had, and the
-- barrier that held before. The places need no number, for the barrier that holds while the record is there is theirs
pub data Saved : Type 0 where
  saved : (current frames height barrier : ℕ) → Saved

-- Control records. In a traversal record stand the address of the code for a part, the next address after the
-- traversal, the whole term, what the parts before have become (the last first), and the parts that are left
pub data Record : Type 0 where
  -- of a call: the next address and the frame that is current again
  call_record : (next_address current : ℕ) → Record
  -- of a choice: the address where a failure goes on, with this term
  choice_record : (otherwise : ℕ) → Tree → Saved → Record
  -- of all(s). A traversal by some(s) whose last part has failed goes on as this one, with no part left
  all_record : (body next_address : ℕ) → Tree → (done : Trees) → (left : Trees) → Record
  -- of one(s), with the part that s is tried on
  one_record : (body next_address : ℕ) → Tree → (done : Trees) → Tree → (left : Trees) → Saved → Record
  -- of some(s), with that part, and whether s was ok on a part before
  some_record : (body next_address : ℕ) → Tree → (done : Trees) → Tree → (left : Trees) → (found : Bool) → Saved →
      Record

pub data Result : Type 0 where
  rewritten : Tree → Result
  run_failed : Result
  run_oversize : Result
  run_spent : Result
  -- what code of no program may come to
  stuck : Result

-- The barrier is the number of places that there were when the last record that a failure goes back to was put on, and
-- 0 where there is none: places below it are put on the trail when they are given a term
pub data State : Type 0 where
  -- at an address, in a frame, with the current term; the places, the frames, the trail and the records (the last first
  -- both), and the budget that is left
  running : (address current : ℕ) → Tree → Bindings → List Frame → (trail : List ℕ) → (barrier : ℕ) → List Record →
      (left : ℕ) → State
  -- a failure is being dealt with
  failing : Bindings → List Frame → (trail : List ℕ) → (barrier : ℕ) → List Record → (left : ℕ) → State
  ended : Result → (left : ℕ) → State

-- the frame n frames up
abbrev pub around : Option Frame → ℕ → ℕ
around None p = p
around (Some (frame base up cs)) p = up

abbrev pub frames_up : List Frame → ℕ → ℕ → ℕ
frames_up F p zero = p
frames_up F p (suc n) = frames_up F (around (slice_get F p) p) n

-- the place of a variable
abbrev pub place_of_frame : Option Frame → ℕ → Option ℕ
place_of_frame None i = None
place_of_frame (Some (frame base up cs)) i = Some (base + i)

abbrev pub place_at : List Frame → ℕ → Coordinate → Option ℕ
place_at F p y = place_of_frame (slice_get F (frames_up F p y.layers_up)) y.slot

-- the closure of a strategy parameter
abbrev pub closure_or : Option (ℕ × ℕ) → ℕ × ℕ
closure_or None = (0, 0)
closure_or (Some c) = c

abbrev pub closure_of_frame : Option Frame → ℕ → ℕ × ℕ
closure_of_frame None i = (0, 0)
closure_of_frame (Some (frame base up cs)) i = closure_or (slice_get cs i)

abbrev pub closure_in : List Frame → ℕ → Coordinate → ℕ × ℕ
closure_in F p y = closure_of_frame (slice_get F (frames_up F p y.layers_up)) y.slot

-- the closures of a call's arguments
abbrev pub closed : List Frame → ℕ → List Argument → List (ℕ × ℕ)
closed F p [] = []
closed F p (code_at a ∷ us) = (a, p) ∷ closed F p us
closed F p (parameter_at y ∷ us) = closure_in F p y ∷ closed F p us
