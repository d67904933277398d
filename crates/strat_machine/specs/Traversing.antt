-- The headline does not rest on this file.
-- What the steps of a traversal do to the Rust machine.
use Rattle.std.specs.Prelude.{◌≡◌, ◌≤◌, ℕ, suc, ◌+◌, Bool, List, [], ◌++◌, length, map, take, drop}
use Rattle.std.specs.Option.{option_map}
use Rattle.term_model.specs.TermParts.{parts_of}
use Rattle.core_lang.specs.Ending.{ok, oversize, rebuilt}
use Rattle.strat_steps.specs.State.{run_oversize}
use Rattle.term_model.specs.Space.{Space, Keeps, Stands}
use Rattle.strat_steps.specs.References.{RefRecord, RefState, ref_running, ref_stopped, trees_left, AllRefs}
use Rattle.strat_steps.specs.ReferenceSteps.{IsNext, HasNoMore, OnAll, OnSome}
use Rattle.strat_machine.specs.Opened.{HasOpened, AllOpened, StateOpened}
use Rattle.strat_machine.specs.RecordStack.{records_in}
use Rattle.strat_machine.specs.Stacks.{state_of}
use Rattle.strat_machine.specs.declared.stacks.Stacks.{Stacks}
use Rattle.strat_machine.specs.declared.stacks.Position.{Position}
use Rattle.strat_machine.specs.declared.stacks.Next.{Next}
use Rattle.strat_machine.specs.declared.records.Traversed.{Traversed}
use Rattle.strat_machine.specs.declared.records.Records.{Records}

-- where each traversal of these records has its first portion, so has each of the machine's
pub record StaysOpened {W R Y N : Type 0} (S : Space W R Y N) (K : List (RefRecord R Y)) (w : W) (next : Next)
    (p : Position R) (m : Stacks R Y) : Type 0 where
  pub all : AllOpened S w K → StateOpened S w (state_of next p m)

-- the stacks without so many of the parts that are left
abbrev pub without_left : {R Y : Type 0} → ℕ → Stacks R Y → Stacks R Y
without_left k m = record m { records = record m.records { left = drop k m.records.left } }

module _ {W R Y N : Type 0} (S : Space W R Y N) (w : W) where
  -- the term is rebuilt with these parts in place of its first ones, and the machine goes on with it at an address, or
  -- ends
  pub data RebuildsTo (t : R) (first : List R) (m : Stacks R Y) (K : List (RefRecord R Y)) (next here : ℕ)
      (w1 : W) : RefState R Y → Type 0 where
    rebuilds : {u : R} → Keeps S w w1 → Stands S w1 u →
        rebuilt (S.term_of w t)
        (ok (trees_left (S.term_of w) t 0 first) (map (option_map (S.term_of w)) m.places.slots)) ≡
        ok (S.term_of w1 u) (map (option_map (S.term_of w)) m.places.slots) →
        RebuildsTo t first m K next here w1
        (ref_running next here u m.places.slots m.frames m.places.trail m.places.barrier K m.left)
    rebuilds_none : Keeps S w w1 →
        rebuilt (S.term_of w t)
        (ok (trees_left (S.term_of w) t 0 first) (map (option_map (S.term_of w)) m.places.slots)) ≡
        oversize →
        RebuildsTo t first m K next here w1 (ref_stopped run_oversize m.left)

  -- the term has no more than n parts, and no further part has a reference
  pub record HasNoneAfter (t : R) (n : ℕ) (old new : List R) : Type 0 where
    pub kept : new ≡ old
    pub no_more : HasNoMore S w t n

  -- no part of a traversal is left, where n come before
  pub record HasNone (v : Traversed R) (n : ℕ) (old new : List R) : Type 0 where
    pub kept : new ≡ old
    pub none : take v.left old ≡ []
    pub no_more : HasNoMore S w v.whole n

  -- the next part of a traversal is taken off those that are left, where n come before; then k of them have references
  pub record TakesPart (v : Traversed R) (n : ℕ) (old : List R) (part : R) (k : ℕ) (new : List R) : Type 0 where
    pub next : IsNext S w v.whole n (take v.left old) part (take k new)
    pub after : drop v.left old ≡ drop k new
    pub enough : HasOpened S w v.whole (n + suc (length (take k new)))

  -- the same where none has a reference before
  pub record TakesPortion (t : R) (n : ℕ) (old : List R) (part : R) (k : ℕ) (new : List R) : Type 0 where
    pub next : IsNext S w t n [] part (take k new)
    pub after : old ≡ drop k new
    pub enough : HasOpened S w t (n + suc (length (take k new)))

  -- a traversal whose record is off: its references stand, no more parts are done than the whole has, and no fewer are
  -- done or left with a reference than a first portion has
  pub record HasParts (rs : Records R Y) (v : Traversed R) : Type 0 where
    pub whole : Stands S w v.whole
    pub done : AllRefs (Stands S w) (take v.done rs.done)
    pub left : AllRefs (Stands S w) (take v.left rs.left)
    pub count : length (take v.done rs.done) ≤ length (parts_of (S.term_of w v.whole))
    pub enough : HasOpened S w v.whole (length (take v.done rs.done) + length (take v.left rs.left))

  -- the same, with a part that was tried, which has become this, and those that are left
  pub record HasTried (rs : Records R Y) (v : Traversed R) (t : R) : Type 0 where
    pub part : Stands S w t
    pub whole : Stands S w v.whole
    pub done : AllRefs (Stands S w) (take v.done rs.done)
    pub left : AllRefs (Stands S w) (take v.left rs.left)
    pub count : length (take v.done rs.done) + suc (length (take v.left rs.left)) ≤
        length (parts_of (S.term_of w v.whole))
    pub enough : HasOpened S w v.whole (length (take v.done rs.done) + suc (length (take v.left rs.left)))

  -- such a traversal goes on with its next part, or ends
  pub record GoesOnAll (m : Stacks R Y) (v : Traversed R) (done : List R) (here : ℕ) (w1 : W) (next : Next)
      (p : Position R) (m1 : Stacks R Y) : Type 0 where
    pub goes : OnAll S w v.body v.next_address here v.whole m.places.slots m.frames m.places.trail m.places.barrier
        (records_in m.records.records (drop v.done m.records.done) (drop v.left m.records.left)) m.left
        done (take v.left m.records.left) w1 (state_of next p m1)
    pub stays : StaysOpened S
        (records_in m.records.records (drop v.done m.records.done) (drop v.left m.records.left)) w1 next p m1

  pub record GoesOnSome (m : Stacks R Y) (v : Traversed R) (done : List R) (found : Bool) (here : ℕ) (w1 : W)
      (next : Next) (p : Position R) (m1 : Stacks R Y) : Type 0 where
    pub goes : OnSome S w v.body v.next_address here v.whole m.places.slots m.frames m.places.trail m.places.barrier
        (records_in m.records.records (drop v.done m.records.done) (drop v.left m.records.left)) m.left
        done found (take v.left m.records.left) w1 (state_of next p m1)
    pub stays : StaysOpened S
        (records_in m.records.records (drop v.done m.records.done) (drop v.left m.records.left)) w1 next p m1
