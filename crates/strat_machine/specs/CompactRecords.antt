-- The headline does not rest on this file.
-- What compact records are seen as.
use Rattle.std.specs.Prelude.{◌≡◌, ℕ, suc, ◌-◌, ◌<◌, List, [], ◌∷◌}
use Rattle.strat_machine.specs.declared.compact_records.CompactRecord.{CompactRecord}
use Rattle.strat_machine.specs.declared.compact_records.CompactRecord.TheVariants as compact
use Rattle.strat_machine.specs.declared.compact_records.Checkpoint.{Checkpoint}
use Rattle.strat_machine.specs.declared.compact_records.CompactTraversed.{CompactTraversed}
use Rattle.strat_machine.specs.declared.records.Saved.{Saved}
use Rattle.strat_machine.specs.declared.records.Traversed.{Traversed}
use Rattle.strat_machine.specs.declared.records.Record.{Record}
use Rattle.strat_machine.specs.declared.records.Record.TheVariants as records

abbrev pub traversed_in : {R : Type 0} → CompactTraversed R → Traversed R
traversed_in c = record { body = c.body; next_address = c.next_address; whole = c.whole; done = c.done; left = c.left }

-- the records, each with its checkpoint and its traversal; they end where one of these is missing
abbrev pub joined : {R Y : Type 0} → List (CompactRecord R) → List (Checkpoint Y) → List (CompactTraversed R) →
    List (Record R Y)
joined [] Z V = []
joined (compact.Call a h ∷ rs) Z V = records.Call a h ∷ joined rs Z V
joined (compact.Choice a t ∷ rs) [] V = []
joined (compact.Choice a t ∷ rs) (c ∷ Z) V = records.Choice a t c.saved c.mark ∷ joined rs Z V
joined (compact.All ∷ rs) Z [] = []
joined (compact.All ∷ rs) Z (v ∷ V) = records.All (traversed_in v) ∷ joined rs Z V
joined (compact.One u ∷ rs) [] V = []
joined (compact.One u ∷ rs) (c ∷ Z) [] = []
joined (compact.One u ∷ rs) (c ∷ Z) (v ∷ V) = records.One (traversed_in v) u c.saved c.mark ∷ joined rs Z V
joined (compact.Some u found ∷ rs) [] V = []
joined (compact.Some u found ∷ rs) (c ∷ Z) [] = []
joined (compact.Some u found ∷ rs) (c ∷ Z) (v ∷ V) =
    records.Some (traversed_in v) u found c.saved c.mark ∷ joined rs Z V

module _ {R Y : Type 0} where
  -- the newest record is not of a call
  abbrev pub HasNoCall : List (Record R Y) → Type 0
  HasNoCall (records.Call a h ∷ rs) = ⊥
  HasNoCall _ = Unit {0}

  -- the newest record is not of a choice
  abbrev pub HasNoChoice : List (Record R Y) → Type 0
  HasNoChoice (records.Choice a t s m ∷ rs) = ⊥
  HasNoChoice _ = Unit {0}

  -- the newest record is not of all(s)
  abbrev pub HasNoAll : List (Record R Y) → Type 0
  HasNoAll (records.All v ∷ rs) = ⊥
  HasNoAll _ = Unit {0}

  -- the newest record is of a choice, with these others after it
  pub record HasChoice (old : List (Record R Y)) (s : Saved) (new : List (Record R Y)) : Type 0 where
    pub otherwise : ℕ
    pub term : R
    pub mark : Y
    pub are : old ≡ records.Choice otherwise term s mark ∷ new

  -- the newest record is of all(s), whose next part is taken off those that are left; one more is done
  pub record AdvancesAll (old : List (Record R Y)) (left : List R) (body : ℕ) (part : R) (new : List (Record R Y))
      (others : List R) : Type 0 where
    pub traversed : Traversed R
    pub rest : List (Record R Y)
    pub was : old ≡ records.All traversed ∷ rest
    pub is : new ≡ records.All (record traversed { done = suc traversed.done; left = traversed.left - 1 }) ∷ rest
    pub more : 0 < traversed.left
    pub code : body ≡ traversed.body
    pub taken : left ≡ part ∷ others
