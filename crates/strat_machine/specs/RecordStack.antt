-- The headline does not rest on this file.
-- What the control records of the Rust machine are seen as.
use Rattle.std.specs.Prelude.{◌≡◌, ℕ, List, [], ◌∷◌, take, drop}
use Rattle.strat_steps.specs.State as state
use Rattle.strat_steps.specs.References.{RefRecord, ref_call, ref_choice, ref_all, ref_one, ref_some}
use Rattle.strat_machine.specs.declared.records.Saved.{Saved}
use Rattle.strat_machine.specs.declared.records.Record.{Record}
use Rattle.strat_machine.specs.declared.records.Record.TheVariants as records
use Rattle.strat_machine.specs.declared.records.Records.{Records}

abbrev pub saved_of : Saved → state.Saved
saved_of s = state.saved s.frame s.frames s.height s.barrier

-- the records with the parts done and the parts left of all of them, those of the first record in front
abbrev pub records_in : {R Y : Type 0} → List (Record R Y) → (done left : List R) → List (RefRecord R Y)
records_in [] D E = []
records_in (records.Call a h ∷ rs) D E = ref_call a h ∷ records_in rs D E
records_in (records.Choice a t s m ∷ rs) D E = ref_choice a t (saved_of s) m ∷ records_in rs D E
records_in (records.All v ∷ rs) D E =
    ref_all v.body v.next_address v.whole (take v.done D) (take v.left E) ∷
    records_in rs (drop v.done D) (drop v.left E)
records_in (records.One v u s m ∷ rs) D E =
    ref_one v.body v.next_address v.whole (take v.done D) u (take v.left E) (saved_of s) m ∷
    records_in rs (drop v.done D) (drop v.left E)
records_in (records.Some v u found s m ∷ rs) D E =
    ref_some v.body v.next_address v.whole (take v.done D) u (take v.left E) found (saved_of s) m ∷
    records_in rs (drop v.done D) (drop v.left E)

abbrev pub records_of : {R Y : Type 0} → Records R Y → List (RefRecord R Y)
records_of rs = records_in rs.records rs.done rs.left

-- the records with one more, whose parts are there already
abbrev pub with_record : {R Y : Type 0} → Record R Y → Records R Y → List (RefRecord R Y)
with_record r rs = records_in (r ∷ rs.records) rs.done rs.left

-- the first record is not of a call
abbrev pub IsNoCall : {R Y : Type 0} → List (RefRecord R Y) → Type 0
IsNoCall [] = Unit {0}
IsNoCall (ref_call a h ∷ K) = ⊥
IsNoCall (ref_choice a t s m ∷ K) = Unit {0}
IsNoCall (ref_all body after t done left ∷ K) = Unit {0}
IsNoCall (ref_one body after t done u left s m ∷ K) = Unit {0}
IsNoCall (ref_some body after t done u left found s m ∷ K) = Unit {0}

-- the first record is not of a choice
abbrev pub IsNoChoice : {R Y : Type 0} → List (RefRecord R Y) → Type 0
IsNoChoice [] = Unit {0}
IsNoChoice (ref_call a h ∷ K) = Unit {0}
IsNoChoice (ref_choice a t s m ∷ K) = ⊥
IsNoChoice (ref_all body after t done left ∷ K) = Unit {0}
IsNoChoice (ref_one body after t done u left s m ∷ K) = Unit {0}
IsNoChoice (ref_some body after t done u left found s m ∷ K) = Unit {0}

-- the first record is of a choice, with these others after it
pub record IsChoice {R Y : Type 0} (L : List (RefRecord R Y)) (s : state.Saved)
    (K : List (RefRecord R Y)) : Type 0 where
  pub otherwise : ℕ
  pub term : R
  pub mark : Y
  pub are : L ≡ ref_choice otherwise term s mark ∷ K
