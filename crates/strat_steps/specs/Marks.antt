-- The headline does not rest on this file.
-- What marks cover while the machine runs over references into a space.
use Rattle.std.specs.Prelude.{ℕ, ◌≤◌, Bool, List, [], ◌∷◌, length, take}
use Rattle.strat_steps.specs.State.{saved}
use Rattle.strat_steps.specs.Binding.{undone, above, down_to}
use Rattle.term_model.specs.Space.{Space, Stands, Valid, Covers, CoversMark}
use Rattle.strat_steps.specs.References.{Places, RefRecord, ref_call, ref_choice, ref_all, ref_one, ref_some, RefState, ref_running, ref_failing, ref_rewritten, ref_stopped, AllPlaces, AllRefs, OfRecords}

module _ {W R Y N : Type 0} (S : Space W R Y N) where
  -- For each record with a mark: what a failure restores there, the mark covers
  pub record Kept (e : Places R) (T : List ℕ) (b h d : ℕ) (m : Y) (K : List (RefRecord R Y)) : Type 0 where
    pub places : AllPlaces (Covers S m) (take b (undone (above h T) e))
    pub records : OfRecords (Covers S m) (CoversMark S m) K
    pub height : h ≤ length T
    pub lower : d ≤ b

  pub data Covered : Places R → List ℕ → ℕ → List (RefRecord R Y) → Type 0 where
    nothing_covered : {e : Places R} {T : List ℕ} {b : ℕ} → Covered e T b []
    call_covered : {e : Places R} {T : List ℕ} {a h b : ℕ} {K : List (RefRecord R Y)} → Covered e T b K →
        Covered e T b (ref_call a h ∷ K)
    all_covered : {e : Places R} {T : List ℕ} {body after b : ℕ} {t : R} {done rest : List R}
        {K : List (RefRecord R Y)} → Covered e T b K →
        Covered e T b (ref_all body after t done rest ∷ K)
    choice_covered : {e : Places R} {T : List ℕ} {a q k h d b : ℕ} {t : R} {m : Y} {K : List (RefRecord R Y)} →
        Kept e T b h d m K → Covers S m t →
        Covered (take b (undone (above h T) e)) (down_to h T) d K → Covered e T b (ref_choice a t (saved q k h d) m ∷ K)
    one_covered : {e : Places R} {T : List ℕ} {body after q k h d b : ℕ} {t u : R} {done rest : List R} {m : Y}
        {K : List (RefRecord R Y)} →
        Kept e T b h d m K →
        Covers S m t → AllRefs (Covers S m) done → Covers S m u → AllRefs (Covers S m) rest →
        Covered (take b (undone (above h T) e)) (down_to h T) d K →
        Covered e T b (ref_one body after t done u rest (saved q k h d) m ∷ K)
    some_covered : {e : Places R} {T : List ℕ} {body after q k h d b : ℕ} {t u : R} {done rest : List R} {found : Bool}
        {m : Y} {K : List (RefRecord R Y)} → Kept e T b h d m K →
        Covers S m t → AllRefs (Covers S m) done → Covers S m u → AllRefs (Covers S m) rest →
        Covered (take b (undone (above h T) e)) (down_to h T) d K →
        Covered e T b (ref_some body after t done u rest found (saved q k h d) m ∷ K)

  -- what holds of places and records: all stands, all marks are valid, and they cover what is restored with them
  pub record Safe (w : W) (e : Places R) (T : List ℕ) (b : ℕ) (K : List (RefRecord R Y)) : Type 0 where
    pub places : AllPlaces (Stands S w) e
    pub records : OfRecords (Stands S w) (Valid S w) K
    pub covered : Covered e T b K
    pub low : b ≤ length e

  abbrev pub Holds : W → RefState R Y → Type 0
  Holds w (ref_running i p t e F T b K l) = Stands S w t × Safe w e T b K
  Holds w (ref_failing e F T b K l) = Safe w e T b K
  Holds w (ref_rewritten t l) = Stands S w t
  Holds w (ref_stopped r l) = Unit {0}

module _ {W R Y N : Type 0} (S : Space W R Y N) (r : R) where
  -- all marks cover the reference
  abbrev pub MarksCover : List (RefRecord R Y) → Type 0
  MarksCover [] = Unit {0}
  MarksCover (ref_call a h ∷ K) = MarksCover K
  MarksCover (ref_choice a t s m ∷ K) = Covers S m r × MarksCover K
  MarksCover (ref_all body after t done rest ∷ K) = MarksCover K
  MarksCover (ref_one body after t done u rest s m ∷ K) = Covers S m r × MarksCover K
  MarksCover (ref_some body after t done u rest found s m ∷ K) = Covers S m r × MarksCover K

  -- the reference stands, and does so after each failure
  abbrev pub Lasts : W → RefState R Y → Type 0
  Lasts w (ref_running i p t e F T b K l) = Stands S w r × MarksCover K
  Lasts w (ref_failing e F T b K l) = Stands S w r × MarksCover K
  Lasts w (ref_rewritten t l) = Stands S w r
  Lasts w (ref_stopped v l) = Stands S w r
