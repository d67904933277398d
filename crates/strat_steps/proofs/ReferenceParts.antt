-- The trees that places, records and parts of a term are, and what the marks must cover as they change.
use Rattle.std.proofs.Common.{◌≡◌, ℕ, zero, suc, ◌≤◌, Option, Some, None, List, [], ◌∷◌, length, take, map, ◌++◌, refl, sym, ◌∙◌, ap, arith, subst, length-append}
use Rattle.std.specs.Prelude.{Bool, replicate}
use Rattle.std.specs.Option.{option_map}
use Rattle.std.proofs.lemmas.List.{map-append}
use Rattle.term_model.specs.Term.{Tree, more}
use Rattle.core_lang.specs.Environment.{Bindings, empty_places, filled_places}
use Rattle.strat_steps.specs.Binding.{cleared, undone, above, down_to, trimmed}
use Rattle.strat_steps.specs.State.{Frame, saved, Record, call_record, choice_record, running, failing}
use Rattle.term_model.specs.Space.{Space, Keeps, GoesBack, IsMark, Stands, Valid, Covers, CoversMark}
use Rattle.strat_steps.specs.References.{Places, RefRecord, ref_call, ref_choice, ref_all, ref_one, ref_some, trees, trees_after, trees_left, record_tree, AllPlaces, AllRefs, OfRecord, OfRecords, Binds}
use Rattle.core_lang.specs.Derivation.{parts}
use Rattle.strat_steps.specs.Marks.{Kept, Covered, call_covered, all_covered, choice_covered, one_covered, some_covered, Safe}
use Rattle.strat_steps.proofs.TrailLaws.{take_undone, take_less, take_grown, down_self, above_new, down_new, trimmed_new}
use Rattle.strat_steps.proofs.ReferenceLaws.{Less, less_trans, less_taken, undone_less, all_less, all_changed, length_undone, parted, covered_moves, bound_so}

-- the same trees

trees_same : {R : Type 0} (P : R → Type 0) (f g : R → Tree) → ((r : R) → P r → g r ≡ f r) → (rs : List R) → AllRefs P rs → trees g rs ≡ trees f rs
trees_same P f g h [] x = refl
trees_same P f g h (r ∷ rs) x = ap (λ u. more u (trees g rs)) (h r x.0) ∙ ap (λ us. more (f r) us) (trees_same P f g h rs x.1)

pub places_same : {R : Type 0} (P : R → Type 0) (f g : R → Tree) → ((r : R) → P r → g r ≡ f r) → (e : Places R) → AllPlaces P e → map (option_map g) e ≡ map (option_map f) e
places_same P f g h [] x = refl
places_same P f g h (None ∷ e) x = ap (λ A. None ∷ A) (places_same P f g h e x)
places_same P f g h (Some r ∷ e) x = ap (λ u. Some u ∷ map (option_map g) e) (h r x.0) ∙ ap (λ A. Some (f r) ∷ A) (places_same P f g h e x.1)

-- what is left of a term's parts, too
pub left_same : {R : Type 0} (P : R → Type 0) (f g : R → Tree) → ((r : R) → P r → g r ≡ f r) → (t : R) → g t ≡ f t →
    (n : ℕ) (rs : List R) → AllRefs P rs → trees_left g t n rs ≡ trees_left f t n rs
left_same P f g h t same n [] x = ap (λ u. trees_after n (parts u)) same
left_same P f g h t same n (r ∷ rs) x = ap (λ u. more u (trees_left g t (suc n) rs)) (h r x.0) ∙
    ap (λ us. more (f r) us) (left_same P f g h t same (suc n) rs x.1)

record_same : {R Y : Type 0} (P : R → Type 0) (Q : Y → Type 0) (f g : R → Tree) → ((r : R) → P r → g r ≡ f r) → (v : RefRecord R Y) → OfRecord P Q v → record_tree g v ≡ record_tree f v
record_same P Q f g h (ref_call a i) x = refl
record_same P Q f g h (ref_choice a t s m) x = ap (λ u. choice_record a u s) (h t x.0)
record_same P Q f g h (ref_all body after t done rest) x =
    let a = h t x.0 in let b = trees_same P f g h done x.1 in let c =
    left_same P f g h t a (suc (length done)) rest x.2 in cc
record_same P Q f g h (ref_one body after t done u rest s m) x =
    let a = h t x.0 in let b = trees_same P f g h done x.1 in let c = h u x.2 in let d =
    left_same P f g h t a (suc (length done)) rest x.3 in cc
record_same P Q f g h (ref_some body after t done u rest found s m) x =
    let a = h t x.0 in let b = trees_same P f g h done x.1 in let c = h u x.2 in let d =
    left_same P f g h t a (suc (length done)) rest x.3 in cc

records_same : {R Y : Type 0} (P : R → Type 0) (Q : Y → Type 0) (f g : R → Tree) → ((r : R) → P r → g r ≡ f r) → (K : List (RefRecord R Y)) → OfRecords P Q K → map (record_tree g) K ≡ map (record_tree f) K
records_same P Q f g h [] x = refl
records_same P Q f g h (v ∷ K) x = ap (λ u. u ∷ map (record_tree g) K) (record_same P Q f g h v x.0) ∙ ap (λ A. record_tree f v ∷ A) (records_same P Q f g h K x.1)

-- what holds of all references still does

pub refs_changed : {R : Type 0} {P Q : R → Type 0} → ((r : R) → P r → Q r) → (rs : List R) → AllRefs P rs → AllRefs Q rs
refs_changed g [] x = tt
refs_changed g (r ∷ rs) x = (g r x.0, refs_changed g rs x.1)

record_changed : {R Y : Type 0} {P P1 : R → Type 0} {Q Q1 : Y → Type 0} → ((r : R) → P r → P1 r) → ((m : Y) → Q m → Q1 m) → (v : RefRecord R Y) → OfRecord P Q v → OfRecord P1 Q1 v
record_changed g k (ref_call a i) x = tt
record_changed g k (ref_choice a t s m) x = (g t x.0, k m x.1)
record_changed g k (ref_all body after t done rest) x = (g t x.0, refs_changed g done x.1, refs_changed g rest x.2)
record_changed g k (ref_one body after t done u rest s m) x = (g t x.0, refs_changed g done x.1, g u x.2, refs_changed g rest x.3, k m x.4)
record_changed g k (ref_some body after t done u rest found s m) x = (g t x.0, refs_changed g done x.1, g u x.2, refs_changed g rest x.3, k m x.4)

records_changed : {R Y : Type 0} {P P1 : R → Type 0} {Q Q1 : Y → Type 0} → ((r : R) → P r → P1 r) → ((m : Y) → Q m → Q1 m) → (K : List (RefRecord R Y)) → OfRecords P Q K → OfRecords P1 Q1 K
records_changed g k [] x = tt
records_changed g k (v ∷ K) x = (record_changed g k v x.0, records_changed g k K x.1)

-- the trees of fewer places

map_cleared : {A B : Type 0} (f : A → B) (i : ℕ) (e : List (Option A)) → map (option_map f) (cleared i e) ≡ cleared i (map (option_map f) e)
map_cleared f i [] = refl
map_cleared f zero (v ∷ e) = refl
map_cleared f (suc i) (v ∷ e) = ap (λ A. option_map f v ∷ A) (map_cleared f i e)

map_undone : {A B : Type 0} (f : A → B) (T : List ℕ) (e : List (Option A)) → map (option_map f) (undone T e) ≡ undone T (map (option_map f) e)
map_undone f [] e = refl
map_undone f (i ∷ T) e = map_undone f T (cleared i e) ∙ ap (undone T) (map_cleared f i e)

pub map_taken : {A B : Type 0} (f : A → B) (b : ℕ) (l : List A) → map f (take b l) ≡ take b (map f l)
map_taken f zero l = refl
map_taken f (suc b) [] = refl
map_taken f (suc b) (v ∷ l) = ap (λ m. f v ∷ m) (map_taken f b l)

pub map_length : {A B : Type 0} (f : A → B) (l : List A) → length (map f l) ≡ length l
map_length f [] = refl
map_length f (v ∷ l) = ap suc (map_length f l)

pub map_none : {A B : Type 0} (f : A → B) (k : ℕ) → map (option_map f) (replicate k None) ≡ replicate k None
map_none f zero = refl
map_none f (suc k) = ap (λ A. None ∷ A) (map_none f k)

low_taken : {A : Type 0} (b d : ℕ) (l : List A) → b ≤ d → b ≤ length l → b ≤ length (take d l)
low_taken zero d l h k = omega arith
low_taken (suc b) zero l h k = absurd (omega arith)
low_taken (suc b) (suc d) [] h k = absurd (omega arith)
low_taken (suc b) (suc d) (v ∷ l) h k = let x = low_taken b d l (omega arith) (omega arith) in omega arith

pub all_more : {R : Type 0} (P : R → Type 0) (e f : Places R) → AllPlaces P e → AllPlaces P f → AllPlaces P (e ++ f)
all_more P [] f h k = k
all_more P (None ∷ e) f h k = all_more P e f h k
all_more P (Some r ∷ e) f h k = (h.0, all_more P e f h.1 k)

pub all_none : {R : Type 0} (P : R → Type 0) (k : ℕ) → AllPlaces P (replicate k None)
all_none P zero = tt
all_none P (suc k) = all_none P k

pub all_some : {R : Type 0} (P : R → Type 0) (rs : List R) → AllRefs P rs → AllPlaces P (map (λ r. Some r) rs)
all_some P [] h = tt
all_some P (r ∷ rs) h = (h.0, all_some P rs h.1)

filled_same : {R : Type 0} (f : R → Tree) (rs : List R) → filled_places (trees f rs) ≡ map (option_map f) (map (λ r. Some r) rs)
filled_same f [] = refl
filled_same f (r ∷ rs) = ap (λ A. Some (f r) ∷ A) (filled_same f rs)

-- the states of a machine whose terms and records are the same
pub run_same : {i p b l : ℕ} {t u : Tree} {e f : Bindings} {F : List Frame} {T : List ℕ} {K K1 : List Record} → t ≡ u → e ≡ f → K ≡ K1 → running i p t e F T b K l ≡ running i p u f F T b K1 l
run_same h1 h2 h3 = cc

pub fail_same : {b l : ℕ} {e f : Bindings} {F : List Frame} {T : List ℕ} {K K1 : List Record} → e ≡ f → K ≡ K1 → failing e F T b K l ≡ failing f F T b K1 l
fail_same h2 h3 = cc

new_less : {R : Type 0} (e : Places R) (T : List ℕ) → Less (take (length e) (undone (above (length T) T) e)) e
new_less e T = less_trans (less_taken (length e) (undone (above (length T) T) e)) (undone_less (above (length T) T) e)

pub call_same : {i j b l : ℕ} {t u : Tree} {e f : Bindings} {F G : List Frame} {T : List ℕ} {K K1 : List Record} (to p : ℕ) → t ≡ u → e ≡ f → F ≡ G → K ≡ K1 → running i j t e F T b (call_record to p ∷ K) l ≡ running i j u f G T b (call_record to p ∷ K1) l
call_same to p h1 h2 h3 h4 = cc

module _ {W R Y N : Type 0} {S : Space W R Y N} where
  -- a record with a mark is put on
  pub new_kept : {w : W} {m : Y} {b : ℕ} {e : Places R} {T : List ℕ} {K : List (RefRecord R Y)} → IsMark S w m → Safe S w e T b K → Kept S e T (length e) (length T) b m K
  new_kept {m = m} {b} {e} {T} {K} mark safe = let low = safe.low in record {
    places = all_less (Covers S m) (new_less e T) (all_changed (λ r. (mark.exactly r).1) e safe.places);
    records = records_changed (λ r. (mark.exactly r).1) mark.marks K safe.records;
    height = omega arith;
    lower = low;
  }

  pub new_covered : {w : W} {b : ℕ} {e : Places R} {T : List ℕ} {K : List (RefRecord R Y)} → Safe S w e T b K → Covered S (take (length e) (undone (above (length T) T) e)) (down_to (length T) T) b K
  new_covered {b = b} {e} {T} {K} safe =
      subst (λ A. Covered S (take (length e) (undone (above (length T) T) e)) A b K) (sym (down_self T (length T) (omega arith)))
      (covered_moves [] (take (length e) (undone (above (length T) T) e)) safe.covered (less_trans (less_taken b _) (new_less e T)))

  -- it is taken off without a failure
  commit_kept : {h d b : ℕ} {m : Y} {e : Places R} {T : List ℕ} {K : List (RefRecord R Y)} → Kept S e T b h d m K → Covered S (take b (undone (above h T) e)) (down_to h T) d K → (d ≤ b) × Covered S e (trimmed h d T) d K
  commit_kept {h = h} {d} {b} {e = e} {T} {K} kept c =
      let pt = parted T h kept.height in
      let less = trimmed_new R d pt.new pt.old in
      let above_is : above h T ≡ pt.new = ap (above h) pt.are ∙ ap (λ n. above n (pt.new ++ pt.old)) (sym pt.height) ∙ above_new pt.new pt.old in
      let down_is : down_to h T ≡ pt.old = ap (down_to h) pt.are ∙ ap (λ n. down_to n (pt.new ++ pt.old)) (sym pt.height) ∙ down_new pt.new pt.old in
      let trimmed_is : trimmed h d T ≡ less.kept ++ pt.old = ap (trimmed h d) pt.are ∙ ap (λ n. trimmed n d (pt.new ++ pt.old)) (sym pt.height) ∙ less.are in
      let c1 = subst (λ A. Covered S (take b (undone A e)) (down_to h T) d K) above_is c in
      let c2 = subst (λ A. Covered S (take b (undone pt.new e)) A d K) down_is c1 in (
        kept.lower,
        subst (λ A. Covered S e A d K) (sym trimmed_is)
            (covered_moves less.kept e c2 (subst (λ g. Less g (take b (undone pt.new e)))
            (take_less d b (undone pt.new e) kept.lower ∙ take_undone d pt.new e ∙ sym (less.undo_same e) ∙ sym (take_undone d less.kept e)) (less_taken d (take b (undone pt.new e))))),
      )

  pub commit_covered : {a q k h d b : ℕ} {t : R} {m : Y} {e : Places R} {T : List ℕ} {K : List (RefRecord R Y)} → Covered S e T b (ref_choice a t (saved q k h d) m ∷ K) → (d ≤ b) × Covered S e (trimmed h d T) d K
  commit_covered (choice_covered kept t c) = commit_kept kept c

  pub commit_one : {body after q k h d b : ℕ} {t u : R} {done rest : List R} {m : Y} {e : Places R} {T : List ℕ} {K : List (RefRecord R Y)} → Covered S e T b (ref_one body after t done u rest (saved q k h d) m ∷ K) → (d ≤ b) × Covered S e (trimmed h d T) d K
  commit_one (one_covered kept t done u rest c) = commit_kept kept c

  pub commit_some : {body after q k h d b : ℕ} {t u : R} {done rest : List R} {found : Bool} {m : Y} {e : Places R} {T : List ℕ} {K : List (RefRecord R Y)} → Covered S e T b (ref_some body after t done u rest found (saved q k h d) m ∷ K) → (d ≤ b) × Covered S e (trimmed h d T) d K
  commit_some (some_covered kept t done u rest c) = commit_kept kept c

  pub taken_off : {w : W} {v : RefRecord R Y} {d b : ℕ} {e : Places R} {T U : List ℕ} {K : List (RefRecord R Y)} → (d ≤ b) × Covered S e U d K → Safe S w e T b (v ∷ K) → Safe S w e U d K
  taken_off c safe = let low = safe.low in let lower = c.0 in record { places = safe.places; records = safe.records.1; covered = c.1; low = omega arith }

  pub bound_safe : {w w1 : W} {b : ℕ} {e f : Places R} {T U : List ℕ} {K : List (RefRecord R Y)} → Keeps S w w1 → Binds (Stands S w1) b e T f U → Safe S w e T b K → Safe S w1 f U b K
  bound_safe {b = b} {e} {f} {K = K} g x safe =
      let bound = bound_so x (all_changed g.standing e safe.places) in let low = safe.low in let same = bound.same in record {
        places = bound.all;
        records = records_changed g.standing g.valid K safe.records;
        covered = subst (λ A. Covered S f A b K) (sym bound.are) (covered_moves bound.new f safe.covered bound.back);
        low = omega arith;
      }

  pub grown_safe : {w w1 : W} {b : ℕ} {e : Places R} {T : List ℕ} {K : List (RefRecord R Y)} → Keeps S w w1 → Safe S w e T b K → Safe S w1 e T b K
  grown_safe {e = e} {K = K} g safe = record { places = all_changed g.standing e safe.places; records = records_changed g.standing g.valid K safe.records; covered = safe.covered; low = safe.low }

  pub taken_safe : {w : W} {b : ℕ} {e : Places R} {T : List ℕ} {K : List (RefRecord R Y)} (base : ℕ) → b ≤ base → Safe S w e T b K → Safe S w (take base e) T b K
  taken_safe {w} {b} {e} base h safe = record {
    places = all_less (Stands S w) (less_taken base e) safe.places;
    records = safe.records;
    covered = covered_moves [] (take base e) safe.covered (less_trans (less_taken b _) (less_taken base e));
    low = low_taken b base e h safe.low;
  }

  pub more_safe : {w : W} {b : ℕ} {e : Places R} {T : List ℕ} {K : List (RefRecord R Y)} (f : Places R) → AllPlaces (Stands S w) f → Safe S w e T b K → Safe S w (e ++ f) T b K
  more_safe {w} {b} {e} f all safe = let low = safe.low in let n = length-append e f in record {
    places = all_more (Stands S w) e f safe.places all;
    records = safe.records;
    covered = covered_moves [] (e ++ f) safe.covered (subst (λ A. Less A e) (sym (take_grown b e f low)) (less_taken b e));
    low = omega arith;
  }

  pub passed_call : {w : W} {a h b : ℕ} {e : Places R} {T : List ℕ} {K : List (RefRecord R Y)} → Covered S e T b (ref_call a h ∷ K) → Safe S w e T b (ref_call a h ∷ K) → Safe S w e T b K
  passed_call (call_covered c) safe = record { places = safe.places; records = safe.records.1; covered = c; low = safe.low }

  pub passed_all : {w : W} {body after b : ℕ} {t : R} {done rest : List R} {e : Places R} {T : List ℕ} {K : List (RefRecord R Y)} → Covered S e T b (ref_all body after t done rest ∷ K) → Safe S w e T b (ref_all body after t done rest ∷ K) → Safe S w e T b K
  passed_all (all_covered c) safe = record { places = safe.places; records = safe.records.1; covered = c; low = safe.low }

  pub grown_places : {w w1 : W} → Keeps S w w1 → (e : Places R) → AllPlaces (Stands S w) e → map (option_map (S.term_of w)) e ≡ map (option_map (S.term_of w1)) e
  grown_places {w} {w1} g e x = sym (places_same (Stands S w) (S.term_of w) (S.term_of w1) g.terms e x)

  pub grown_records : {w w1 : W} → Keeps S w w1 → (K : List (RefRecord R Y)) → OfRecords (Stands S w) (Valid S w) K → map (record_tree (S.term_of w)) K ≡ map (record_tree (S.term_of w1)) K
  grown_records {w} {w1} g K x = sym (records_same (Stands S w) (Valid S w) (S.term_of w) (S.term_of w1) g.terms K x)

  -- a failure goes back to a mark
  pub back_safe : {w w1 : W} {m : Y} {b h d : ℕ} {e : Places R} {T : List ℕ} {K : List (RefRecord R Y)} → GoesBack S w m w1 → b ≤ length e → Kept S e T b h d m K → Covered S (take b (undone (above h T) e)) (down_to h T) d K →
      Safe S w1 (take b (undone (above h T) e)) (down_to h T) d K
  back_safe {b = b} {h} {d} {e} {T} {K} back low kept c = let n = length_undone (above h T) e in let lower = kept.lower in record {
    places = all_changed (λ r. (back.exactly r).1) (take b (undone (above h T) e)) kept.places;
    records = records_changed (λ r. (back.exactly r).1) back.valid K kept.records;
    covered = c;
    low = low_taken d b (undone (above h T) e) lower (omega arith);
  }

  pub back_places : {w w1 : W} {m : Y} {b h d : ℕ} {e : Places R} {T : List ℕ} {K : List (RefRecord R Y)} → GoesBack S w m w1 → Kept S e T b h d m K →
      take b (undone (above h T) (map (option_map (S.term_of w)) e)) ≡ map (option_map (S.term_of w1)) (take b (undone (above h T) e))
  back_places {w} {w1} {m} {b} {h} {e = e} {T} back kept = sym (places_same (Covers S m) (S.term_of w) (S.term_of w1) back.terms (take b (undone (above h T) e)) kept.places
      ∙ map_taken (option_map (S.term_of w)) b (undone (above h T) e) ∙ ap (take b) (map_undone (S.term_of w) (above h T) e))

  pub back_records : {w w1 : W} {m : Y} {b h d : ℕ} {e : Places R} {T : List ℕ} {K : List (RefRecord R Y)} → GoesBack S w m w1 → Kept S e T b h d m K →
      map (record_tree (S.term_of w)) K ≡ map (record_tree (S.term_of w1)) K
  back_records {w} {w1} {m} {K = K} back kept = sym (records_same (Covers S m) (CoversMark S m) (S.term_of w) (S.term_of w1) back.terms K kept.records)

  pub back_trees : {w w1 : W} {m : Y} → GoesBack S w m w1 → (rs : List R) → AllRefs (Covers S m) rs → trees (S.term_of w) rs ≡ trees (S.term_of w1) rs
  back_trees {w} {w1} {m} back rs h = sym (trees_same (Covers S m) (S.term_of w) (S.term_of w1) back.terms rs h)

  pub call_places : {w w1 : W} (k : ℕ) (rs : List R) → Keeps S w w1 → (e : Places R) → AllPlaces (Stands S w) e →
      map (option_map (S.term_of w)) e ++ (filled_places (trees (S.term_of w1) rs) ++ empty_places k) ≡ map (option_map (S.term_of w1)) (e ++ (map (λ r. Some r) rs ++ replicate k None))
  call_places {w} {w1} k rs g e x =
      ap (λ A. A ++ (filled_places (trees (S.term_of w1) rs) ++ empty_places k)) (grown_places g e x)
      ∙ ap (λ A. map (option_map (S.term_of w1)) e ++ (A ++ empty_places k)) (filled_same (S.term_of w1) rs)
      ∙ ap (λ A. map (option_map (S.term_of w1)) e ++ (map (option_map (S.term_of w1)) (map (λ r. Some r) rs) ++ A)) (sym (map_none (S.term_of w1) k))
      ∙ ap (λ A. map (option_map (S.term_of w1)) e ++ A) (sym (map-append (option_map (S.term_of w1)) (map (λ r. Some r) rs) (replicate k None)))
      ∙ sym (map-append (option_map (S.term_of w1)) e (map (λ r. Some r) rs ++ replicate k None))

  grown_trees : {w w1 : W} → Keeps S w w1 → (rs : List R) → AllRefs (Stands S w) rs → trees (S.term_of w) rs ≡ trees (S.term_of w1) rs
  grown_trees {w} {w1} g rs x = sym (trees_same (Stands S w) (S.term_of w) (S.term_of w1) g.terms rs x)
