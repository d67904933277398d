-- A step over references is a step over trees, and keeps what marks must cover.
use Rattle.std.proofs.Common.{◌≡◌, ℕ, zero, suc, ◌≤◌, ◌<◌, Option, Some, None, List, [], ◌∷◌, length, take, ◌++◌, refl, sym, ◌∙◌, ap, arith, subst, length-append}
use Rattle.std.specs.Prelude.{nat_lt, if◌then◌else◌, slice_get}
use Rattle.strat_steps.specs.Binding.{cleared, undone, above, down_to, with_term}
use Rattle.term_model.specs.Space.{Space, Covers}
use Rattle.strat_steps.specs.References.{Places, RefRecord, AllPlaces, Binds, binds_none, binds_one}
use Rattle.strat_steps.specs.Marks.{Kept, Covered, nothing_covered, call_covered, all_covered, choice_covered, one_covered, some_covered}
use Rattle.strat_steps.proofs.TrailLaws.{take_cleared, take_undone, undone_append, take_less, if_less, if_more}
use Rattle.strat_steps.proofs.Landing.{append_assoc}

-- fewer places, or more empty ones
pub data Less {R : Type 0} : Places R → Places R → Type 0 where
  less_end : {f : Places R} → Less [] f
  less_none : {v : Option R} {e f : Places R} → Less e f → Less (None ∷ e) (v ∷ f)
  less_same : {v : Option R} {e f : Places R} → Less e f → Less (v ∷ e) (v ∷ f)

pub less_refl : {R : Type 0} (e : Places R) → Less e e
less_refl [] = less_end
less_refl (v ∷ e) = less_same (less_refl e)

pub less_trans : {R : Type 0} {e f g : Places R} → Less e f → Less f g → Less e g
less_trans less_end y = less_end
less_trans (less_none x) (less_none y) = less_none (less_trans x y)
less_trans (less_none x) (less_same y) = less_none (less_trans x y)
less_trans (less_same x) (less_none y) = less_none (less_trans x y)
less_trans (less_same x) (less_same y) = less_same (less_trans x y)

pub less_taken : {R : Type 0} (b : ℕ) (e : Places R) → Less (take b e) e
less_taken zero e = less_end
less_taken (suc b) [] = less_end
less_taken (suc b) (v ∷ e) = less_same (less_taken b e)

pub take_keeps : {R : Type 0} (b : ℕ) {e f : Places R} → Less e f → Less (take b e) (take b f)
take_keeps zero x = less_end
take_keeps (suc b) less_end = less_end
take_keeps (suc b) (less_none x) = less_none (take_keeps b x)
take_keeps (suc b) (less_same x) = less_same (take_keeps b x)

pub cleared_keeps : {R : Type 0} (i : ℕ) {e f : Places R} → Less e f → Less (cleared i e) (cleared i f)
cleared_keeps i less_end = less_end
cleared_keeps zero (less_none x) = less_none x
cleared_keeps (suc i) (less_none x) = less_none (cleared_keeps i x)
cleared_keeps zero (less_same x) = less_none x
cleared_keeps (suc i) (less_same x) = less_same (cleared_keeps i x)

pub undone_keeps : {R : Type 0} (T : List ℕ) {e f : Places R} → Less e f → Less (undone T e) (undone T f)
undone_keeps [] x = x
undone_keeps (i ∷ T) x = undone_keeps T (cleared_keeps i x)

pub cleared_less : {R : Type 0} (i : ℕ) (e : Places R) → Less (cleared i e) e
cleared_less i [] = less_end
cleared_less zero (v ∷ e) = less_none (less_refl e)
cleared_less (suc i) (v ∷ e) = less_same (cleared_less i e)

pub undone_less : {R : Type 0} (T : List ℕ) (e : Places R) → Less (undone T e) e
undone_less [] e = less_refl e
undone_less (i ∷ T) e = less_trans (undone_less T (cleared i e)) (cleared_less i e)

pub all_less : {R : Type 0} (P : R → Type 0) {e f : Places R} → Less e f → AllPlaces P f → AllPlaces P e
all_less P less_end h = tt
all_less P (less_none {v = None} x) h = all_less P x h
all_less P (less_none {v = Some r} x) h = all_less P x h.1
all_less P (less_same {v = None} x) h = all_less P x h
all_less P (less_same {v = Some r} x) h = (h.0, all_less P x h.1)

pub all_changed : {R : Type 0} {P Q : R → Type 0} → ((r : R) → P r → Q r) → (e : Places R) → AllPlaces P e →
    AllPlaces Q e
all_changed g [] h = tt
all_changed g (None ∷ e) h = all_changed g e h
all_changed g (Some r ∷ e) h = (g r h.0, all_changed g e h.1)

-- lengths
pub length_cleared : {R : Type 0} (i : ℕ) (e : Places R) → length (cleared i e) ≡ length e
length_cleared i [] = refl
length_cleared zero (v ∷ e) = refl
length_cleared (suc i) (v ∷ e) = ap suc (length_cleared i e)

pub length_undone : {R : Type 0} (T : List ℕ) (e : Places R) → length (undone T e) ≡ length e
length_undone [] e = refl
length_undone (i ∷ T) e = length_undone T (cleared i e) ∙ length_cleared i e

pub length_taken : {A : Type 0} (b : ℕ) (l : List A) → b ≤ length l → length (take b l) ≡ b
length_taken zero l h = refl
length_taken (suc b) [] h = absurd (omega arith)
length_taken (suc b) (v ∷ l) h = ap suc (length_taken b l (omega arith))

pub length_with : {R : Type 0} (i : ℕ) (r : R) (e : Places R) → length (with_term i r e) ≡ length e
length_with i r [] = refl
length_with zero r (v ∷ e) = refl
length_with (suc i) r (v ∷ e) = ap suc (length_with i r e)

-- the trail
pub above_append : (new T : List ℕ) (h : ℕ) → h ≤ length T → above h (new ++ T) ≡ new ++ above h T
above_append [] T h l = refl
above_append (i ∷ new) T h l = if_less _ _ h (suc (length (new ++ T))) (let k = length-append new T in omega arith) ∙
    ap (λ A. i ∷ A) (above_append new T h l)

pub down_append : (new T : List ℕ) (h : ℕ) → h ≤ length T → down_to h (new ++ T) ≡ down_to h T
down_append [] T h l = refl
down_append (i ∷ new) T h l = if_less _ _ h (suc (length (new ++ T))) (let k = length-append new T in omega arith) ∙
    down_append new T h l

-- a trail in two parts at a height
pub record Parted (T : List ℕ) (h : ℕ) : Type 0 where
  pub new : List ℕ
  pub old : List ℕ
  pub are : T ≡ new ++ old
  pub height : length old ≡ h

parted_on : {T : List ℕ} {h : ℕ} (i : ℕ) → Parted T h → Parted (i ∷ T) h
parted_on i p = record { new = i ∷ p.new; old = p.old; are = ap (λ A. i ∷ A) p.are; height = p.height }

data NatCases (h n : ℕ) : Type 0 where
  is_all : h ≡ n → NatCases h n
  is_less : h < n → NatCases h n

one_more : {h n : ℕ} → NatCases h n → NatCases (suc h) (suc n)
one_more (is_all e) = is_all (ap suc e)
one_more (is_less e) = is_less (omega arith)

nat_cases : (h n : ℕ) → h ≤ n → NatCases h n
nat_cases zero zero l = is_all refl
nat_cases zero (suc n) l = is_less (omega arith)
nat_cases (suc h) zero l = absurd (omega arith)
nat_cases (suc h) (suc n) l = one_more (nat_cases h n (omega arith))

pub parted : (T : List ℕ) (h : ℕ) → h ≤ length T → Parted T h
parted [] h l = record { new = []; old = []; are = refl; height = omega arith }
parted (i ∷ T) h l = by_height (nat_cases h (suc (length T)) l) (λ k. parted T h k)
  where
    by_height : NatCases h (suc (length T)) → (h ≤ length T → Parted T h) → Parted (i ∷ T) h
    by_height (is_all e) others = record { new = []; old = i ∷ T; are = refl; height = sym e }
    by_height (is_less e) others = parted_on i (others (omega arith))

-- what a record restores is no more than before
pub restored_less : {R : Type 0} (b h : ℕ) (new T : List ℕ) (e f : Places R) → h ≤ length T →
    Less (take b (undone new f)) e →
    Less (take b (undone (above h (new ++ T)) f)) (take b (undone (above h T) e))
restored_less b h new T e f l x =
    subst (λ g. Less g (take b (undone (above h T) e)))
    (take_less b b (undone (above h T) (undone new f)) (omega arith) ∙
    ap (take b) (sym (undone_append new (above h T) f) ∙ ap (λ A. undone A f) (sym (above_append new T h l))))
    (take_keeps b (subst (λ g. Less g (undone (above h T) e)) (sym (take_undone b (above h T) (undone new f)))
    (undone_keeps (above h T) x)))

module _ {W R Y N : Type 0} {S : Space W R Y N} where
  -- what is covered stays so, as places below the barrier are given terms and put on the trail
  kept_moves : {e : Places R} {T : List ℕ} {b h d : ℕ} {m : Y} {K : List (RefRecord R Y)} (new : List ℕ)
      (f : Places R) → Kept S e T b h d m K → Less (take b (undone new f)) e → Kept S f (new ++ T) b h d m K
  kept_moves {e} {T} {b} {h} {m = m} new f k x = let l = length-append new T in let l1 = k.height in record {
    places = all_less (Covers S m) (restored_less b h new T e f k.height x) k.places;
    records = k.records;
    height = omega arith;
    lower = k.lower;
  }

  pub covered_moves : {e : Places R} {T : List ℕ} {b : ℕ} {K : List (RefRecord R Y)} (new : List ℕ) (f : Places R) →
      Covered S e T b K → Less (take b (undone new f)) e → Covered S f (new ++ T) b K
  covered_moves new f nothing_covered x = nothing_covered
  covered_moves new f (call_covered c) x = call_covered (covered_moves new f c x)
  covered_moves new f (all_covered c) x = all_covered (covered_moves new f c x)
  covered_moves {e} {T} {b} new f (choice_covered {h = h} {d = d} {K = K} k t c) x =
      choice_covered (kept_moves new f k x) t
      (subst (λ A. Covered S (take b (undone (above h (new ++ T)) f)) A d K) (sym (down_append new T h k.height))
      (covered_moves [] (take b (undone (above h (new ++ T)) f))
      c (less_trans (less_taken d _) (restored_less b h new T e f k.height x))))
  covered_moves {e} {T} {b} new f (one_covered {h = h} {d = d} {K = K} k t done u rest c) x =
      one_covered (kept_moves new f k x) t done u rest
      (subst (λ A. Covered S (take b (undone (above h (new ++ T)) f)) A d K) (sym (down_append new T h k.height))
      (covered_moves [] (take b (undone (above h (new ++ T)) f))
      c (less_trans (less_taken d _) (restored_less b h new T e f k.height x))))
  covered_moves {e} {T} {b} new f (some_covered {h = h} {d = d} {K = K} k t done u rest c) x =
      some_covered (kept_moves new f k x) t done u rest
      (subst (λ A. Covered S (take b (undone (above h (new ++ T)) f)) A d K) (sym (down_append new T h k.height))
      (covered_moves [] (take b (undone (above h (new ++ T)) f))
      c (less_trans (less_taken d _) (restored_less b h new T e f k.height x))))

-- what binding comes to
pub record Bound {R : Type 0} (P : R →
    Type 0) (b : ℕ) (e : Places R) (T : List ℕ) (f : Places R) (U : List ℕ) : Type 0 where
  pub new : List ℕ
  pub are : U ≡ new ++ T
  pub back : Less (take b (undone new f)) e
  pub same : length f ≡ length e
  pub all : AllPlaces P f

data NatLess (b i : ℕ) : Type 0 where
  below : i < b → NatLess b i
  above_it : b ≤ i → NatLess b i

less_suc : {b i : ℕ} → NatLess b i → NatLess (suc b) (suc i)
less_suc (below h) = below (omega arith)
less_suc (above_it h) = above_it (omega arith)

nat_less : (b i : ℕ) → NatLess b i
nat_less zero i = above_it (omega arith)
nat_less (suc b) zero = below (omega arith)
nat_less (suc b) (suc i) = less_suc (nat_less b i)

unbind_less : {R : Type 0} (i : ℕ) (r : R) (e : Places R) → slice_get e i ≡ Some None →
    Less (cleared i (with_term i r e)) e
unbind_less i r [] h = less_end
unbind_less zero r (v ∷ e) h = less_none (less_refl e)
unbind_less (suc i) r (v ∷ e) h = less_same (unbind_less i r e h)

beyond_less : {R : Type 0} (b i : ℕ) (r : R) (e : Places R) → b ≤ i → Less (take b (with_term i r e)) e
beyond_less zero i r e h = less_end
beyond_less (suc b) i r [] h = less_end
beyond_less (suc b) zero r (v ∷ e) h = absurd (omega arith)
beyond_less (suc b) (suc i) r (v ∷ e) h = less_same (beyond_less b i r e (omega arith))

pub all_with : {R : Type 0} (P : R → Type 0) (i : ℕ) (r : R) (e : Places R) → P r → AllPlaces P e →
    AllPlaces P (with_term i r e)
all_with P i r [] p h = tt
all_with P zero r (None ∷ e) p h = (p, h)
all_with P zero r (Some u ∷ e) p h = (p, h.1)
all_with P (suc i) r (None ∷ e) p h = all_with P i r e p h
all_with P (suc i) r (Some u ∷ e) p h = (h.0, all_with P i r e p h.1)

-- one more place, given a term before the others
bound_more : {R : Type 0} {P : R → Type 0} {b i : ℕ} {e f : Places R} {T U : List ℕ} (r : R) →
    slice_get e i ≡ Some None → NatLess b i → Bound P b (with_term i r e) (if nat_lt i b then i ∷ T else T) f U →
    Bound P b e T f U
bound_more {b = b} {i} {e} {f} {T} {U} r free (below h) x = record {
  new = x.new ++ (i ∷ []);
  are = x.are ∙ ap (λ A. x.new ++ A) (if_less (i ∷ T) T i b h) ∙ append_assoc x.new (i ∷ []) T;
  back = subst (λ g. Less g e) (sym (take_cleared b i (undone x.new f)) ∙
      ap (take b) (sym (undone_append x.new (i ∷ []) f)))
      (less_trans (cleared_keeps i x.back) (unbind_less i r e free));
  same = x.same ∙ length_with i r e;
  all = x.all;
}
bound_more {b = b} {i} {e} {f} {T} {U} r free (above_it h) x = record {
  new = x.new;
  are = x.are ∙ ap (λ A. x.new ++ A) (if_more (i ∷ T) T i b h);
  back = subst (λ g. Less g e) (take_less b b (undone x.new f) (omega arith))
      (less_trans (take_keeps b x.back) (beyond_less b i r e h));
  same = x.same ∙ length_with i r e;
  all = x.all;
}

pub bound_so : {R : Type 0} {P : R → Type 0} {b : ℕ} {e f : Places R} {T U : List ℕ} → Binds P b e T f U →
    AllPlaces P e → Bound P b e T f U
bound_so {b = b} {e = e} binds_none h = record { new = []; are = refl; back = less_taken b e; same = refl; all = h }
bound_so {P = P} {b = b} {e = e} (binds_one i r free p x) h =
    bound_more r free (nat_less b i) (bound_so x (all_with P i r e p h))
