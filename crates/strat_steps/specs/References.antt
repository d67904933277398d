-- The headline does not rest on this file.
-- The machine over references into a space: its states, and the trees that they are.
use Rattle.std.specs.Prelude.{◌≡◌, ℕ, zero, suc, nat_lt, Bool, if◌then◌else◌, Option, Some, None, List, [], ◌∷◌, length, map, slice_get}
use Rattle.std.specs.Option.{option_map}
use Rattle.term_model.specs.Term.{Tree, Trees, end, more}
use Rattle.core_lang.specs.Derivation.{parts}
use Rattle.strat_steps.specs.State.{Frame, Saved, Record, call_record, choice_record, all_record, one_record, some_record, Result, rewritten, State, running, failing, ended}
use Rattle.strat_steps.specs.Binding.{with_term}

-- places with references
abbrev pub Places : Type 0 → Type 0
Places R = List (Option R)

-- control records; those that a failure goes back to have a mark. Of the parts that are left, a traversal has references
-- to some of the next ones
pub data RefRecord (R Y : Type 0) : Type 0 where
  ref_call : (to here : ℕ) → RefRecord R Y
  ref_choice : (otherwise : ℕ) → R → Saved → Y → RefRecord R Y
  ref_all : (body after : ℕ) → R → (done rest : List R) → RefRecord R Y
  ref_one : (body after : ℕ) → R → (done : List R) → R → (rest : List R) → Saved → Y → RefRecord R Y
  ref_some : (body after : ℕ) → R → (done : List R) → R → (rest : List R) → (found : Bool) → Saved → Y → RefRecord R Y

pub data RefState (R Y : Type 0) : Type 0 where
  ref_running : (at here : ℕ) → R → Places R → List Frame → List ℕ → (barrier : ℕ) → List (RefRecord R Y) → (left : ℕ) →
      RefState R Y
  ref_failing : Places R → List Frame → List ℕ → (barrier : ℕ) → List (RefRecord R Y) → (left : ℕ) → RefState R Y
  ref_rewritten : R → (left : ℕ) → RefState R Y
  ref_stopped : Result → (left : ℕ) → RefState R Y

-- the trees
abbrev pub trees : {R : Type 0} → (R → Tree) → List R → Trees
trees f [] = end
trees f (r ∷ rs) = more (f r) (trees f rs)

-- the trees after the first n
abbrev pub trees_after : ℕ → Trees → Trees
trees_after zero ts = ts
trees_after (suc n) end = end
trees_after (suc n) (more t ts) = trees_after n ts

-- what is left of a term's parts where n come before: first these references, and then the term's own parts after them,
-- which have no references yet
abbrev pub trees_left : {R : Type 0} → (R → Tree) → R → (n : ℕ) → List R → Trees
trees_left f t n [] = trees_after n (parts (f t))
trees_left f t n (r ∷ rs) = more (f r) (trees_left f t (suc n) rs)

-- in a traversal, the parts that are done and the one that the body is tried on come before those that are left
abbrev pub record_tree : {R Y : Type 0} → (R → Tree) → RefRecord R Y → Record
record_tree f (ref_call a h) = call_record a h
record_tree f (ref_choice a t s m) = choice_record a (f t) s
record_tree f (ref_all body after t done rest) =
    all_record body after (f t) (trees f done) (trees_left f t (suc (length done)) rest)
record_tree f (ref_one body after t done u rest s m) =
    one_record body after (f t) (trees f done) (f u) (trees_left f t (suc (length done)) rest) s
record_tree f (ref_some body after t done u rest found s m) =
    some_record body after (f t) (trees f done) (f u) (trees_left f t (suc (length done)) rest) found s

abbrev pub state_tree : {R Y : Type 0} → (R → Tree) → RefState R Y → State
state_tree f (ref_running i p t e F T b K l) = running i p (f t) (map (option_map f) e) F T b (map (record_tree f) K) l
state_tree f (ref_failing e F T b K l) = failing (map (option_map f) e) F T b (map (record_tree f) K) l
state_tree f (ref_rewritten t l) = ended (rewritten (f t)) l
state_tree f (ref_stopped r l) = ended r l

-- something of all references and all marks
abbrev pub AllPlaces : {R : Type 0} → (R → Type 0) → Places R → Type 0
AllPlaces P [] = Unit {0}
AllPlaces P (None ∷ e) = AllPlaces P e
AllPlaces P (Some r ∷ e) = P r × AllPlaces P e

abbrev pub AllRefs : {R : Type 0} → (R → Type 0) → List R → Type 0
AllRefs P [] = Unit {0}
AllRefs P (r ∷ rs) = P r × AllRefs P rs

abbrev pub OfRecord : {R Y : Type 0} → (R → Type 0) → (Y → Type 0) → RefRecord R Y → Type 0
OfRecord P Q (ref_call a h) = Unit {0}
OfRecord P Q (ref_choice a t s m) = P t × Q m
OfRecord P Q (ref_all body after t done rest) = P t × AllRefs P done × AllRefs P rest
OfRecord P Q (ref_one body after t done u rest s m) = P t × AllRefs P done × P u × AllRefs P rest × Q m
OfRecord P Q (ref_some body after t done u rest found s m) = P t × AllRefs P done × P u × AllRefs P rest × Q m

abbrev pub OfRecords : {R Y : Type 0} → (R → Type 0) → (Y → Type 0) → List (RefRecord R Y) → Type 0
OfRecords P Q [] = Unit {0}
OfRecords P Q (r ∷ K) = OfRecord P Q r × OfRecords P Q K

-- places are given references, and put on the trail below the barrier
pub data Binds {R : Type 0} (P : R → Type 0) (b : ℕ) : Places R → List ℕ → Places R → List ℕ → Type 0 where
  binds_none : {e : Places R} {T : List ℕ} → Binds P b e T e T
  binds_one : {e f : Places R} {T U : List ℕ} (i : ℕ) (r : R) → slice_get e i ≡ Some None → P r →
      Binds P b (with_term i r e) (if nat_lt i b then i ∷ T else T) f U → Binds P b e T f U
