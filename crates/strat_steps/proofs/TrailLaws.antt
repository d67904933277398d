-- Undoing the trail.
use Rattle.std.proofs.Common.{◌≡◌, ℕ, zero, suc, ◌≤◌, ◌<◌, List, [], ◌∷◌, length, take, Option, ◌++◌, refl, sym, ◌∙◌, ap, arith, subst, length-append, length-take}
use Rattle.std.proofs.Math.Nat.{min-le_left}
use Rattle.std.proofs.lemmas.Bool.{lt-ltb, le-ltb, ltb-false}
use Rattle.std.specs.Prelude.{Bool, true, false, nat_lt, if◌then◌else◌}
use Rattle.term_model.specs.Term.{Tree}
use Rattle.core_lang.specs.Environment.{Bindings}
use Rattle.strat_steps.specs.Binding.{cleared, undone, above, down_to, trimmed}
use Rattle.strat_steps.specs.Trail.{Restores}

pub cleared_beyond : {X : Type 0} (i : ℕ) (e : List (Option X)) → length e ≤ i → cleared i e ≡ e
cleared_beyond i [] h = refl
cleared_beyond zero (v ∷ e) h = absurd (omega arith)
cleared_beyond (suc i) (v ∷ e) h = ap (λ f. v ∷ f) (cleared_beyond i e (omega arith))

pub take_cleared : {X : Type 0} (b i : ℕ) (e : List (Option X)) → take b (cleared i e) ≡ cleared i (take b e)
take_cleared zero i e = refl
take_cleared (suc b) i [] = refl
take_cleared (suc b) zero (v ∷ e) = refl
take_cleared (suc b) (suc i) (v ∷ e) = ap (λ f. v ∷ f) (take_cleared b i e)

pub take_undone : {X : Type 0} (b : ℕ) (T : List ℕ) (e : List (Option X)) → take b (undone T e) ≡ undone T (take b e)
take_undone b [] e = refl
take_undone b (i ∷ T) e = take_undone b T (cleared i e) ∙ ap (undone T) (take_cleared b i e)

pub undone_append : {X : Type 0} (A B : List ℕ) (e : List (Option X)) → undone (A ++ B) e ≡ undone B (undone A e)
undone_append [] B e = refl
undone_append (i ∷ A) B e = undone_append A B (cleared i e)

pub take_less : {A : Type 0} (a b : ℕ) (l : List A) → a ≤ b → take a (take b l) ≡ take a l
take_less zero b l h = refl
take_less (suc a) zero l h = absurd (omega arith)
take_less (suc a) (suc b) [] h = refl
take_less (suc a) (suc b) (v ∷ l) h = ap (λ m. v ∷ m) (take_less a b l (omega arith))

pub take_whole : {A : Type 0} (l : List A) → take (length l) l ≡ l
take_whole [] = refl
take_whole (v ∷ l) = ap (λ m. v ∷ m) (take_whole l)

pub take_grown : {A : Type 0} (a : ℕ) (l m : List A) → a ≤ length l → take a (l ++ m) ≡ take a l
take_grown zero l m h = refl
take_grown (suc a) [] m h = absurd (omega arith)
take_grown (suc a) (v ∷ l) m h = ap (λ n. v ∷ n) (take_grown a l m (omega arith))

lt_true : (a b : ℕ) → a < b → nat_lt a b ≡ true
lt_true a b h = lt-ltb a b h

lt_false : (a b : ℕ) → b ≤ a → nat_lt a b ≡ false
lt_false a b h = le-ltb a b h

pub if_less : {A : Type 0} (x y : A) (a b : ℕ) → a < b → (if nat_lt a b then x else y) ≡ x
if_less x y a b h = ap (λ v. if v then x else y) (lt_true a b h)

pub if_more : {A : Type 0} (x y : A) (a b : ℕ) → b ≤ a → (if nat_lt a b then x else y) ≡ y
if_more x y a b h = ap (λ v. if v then x else y) (lt_false a b h)

pub above_self : (T : List ℕ) (h : ℕ) → length T ≤ h → above h T ≡ []
above_self [] h l = refl
above_self (i ∷ T) h l = if_more _ _ h (suc (length T)) l

pub down_self : (T : List ℕ) (h : ℕ) → length T ≤ h → down_to h T ≡ T
down_self [] h l = refl
down_self (i ∷ T) h l = if_more _ _ h (suc (length T)) l

-- the entries since a record are those above its height
pub above_new : (new T : List ℕ) → above (length T) (new ++ T) ≡ new
above_new [] T = above_self T (length T) (omega arith)
above_new (i ∷ new) T =
    if_less _ _ (length T) (suc (length (new ++ T))) (let h = length-append new T in omega arith) ∙
    ap (λ l. i ∷ l) (above_new new T)

pub down_new : (new T : List ℕ) → down_to (length T) (new ++ T) ≡ T
down_new [] T = down_self T (length T) (omega arith)
down_new (i ∷ new) T =
    if_less _ _ (length T) (suc (length (new ++ T))) (let h = length-append new T in omega arith) ∙ down_new new T

-- what trimming leaves
pub record Trimmed (X : Type 0) (d : ℕ) (new T U : List ℕ) : Type 0 where
  pub kept : List ℕ
  pub are : U ≡ kept ++ T
  pub undo_same : (e : List (Option X)) → undone kept (take d e) ≡ undone new (take d e)

trim_self : (T : List ℕ) (h d : ℕ) → length T ≤ h → trimmed h d T ≡ T
trim_self [] h d l = refl
trim_self (i ∷ T) h d l = if_more _ _ h (suc (length T)) l

trim_on : {X : Type 0} (i d : ℕ) (new T U : List ℕ) → d ≤ i → Trimmed X d new T U → Trimmed X d (i ∷ new) T U
trim_on i d new T U h t = record {
  kept = t.kept;
  are = t.are;
  undo_same = λ e. t.undo_same e ∙
      ap (undone new) (sym (cleared_beyond i (take d e) (let k = length-take d e in let m = min-le_left d (length e) in
      omega arith)));
}

trim_cases : {X : Type 0} (v : Bool) (i d : ℕ) (new T U : List ℕ) → nat_lt i d ≡ v → Trimmed X d new T U →
    Trimmed X d (i ∷ new) T (if v then i ∷ (new ++ T) else U)
trim_cases true i d new T U h t = record { kept = i ∷ new; are = refl; undo_same = λ e. refl }
trim_cases false i d new T U h t = trim_on i d new T U (ltb-false i d h) t

pub trimmed_new : (X : Type 0) (d : ℕ) (new T : List ℕ) → Trimmed X d new T (trimmed (length T) d (new ++ T))
trimmed_new X d [] T = record { kept = []; are = trim_self T (length T) d (omega arith); undo_same = λ e. refl }
trimmed_new X d (i ∷ new) T =
    subst (λ U. Trimmed X d (i ∷ new) T U)
    (sym (if_less _ _ (length T) (suc (length (new ++ T))) (let h = length-append new T in omega arith)))
    (trim_cases (nat_lt i d) i d new T (trimmed (length T) d (new ++ T)) refl (trimmed_new X d new T))

-- ways back

pub restores_same : (b : ℕ) (e : Bindings) → Restores b e [] e
restores_same b e = refl

-- one after the other
pub restores_then : (b : ℕ) (e f g : Bindings) (A B : List ℕ) → Restores b e A f → Restores b f B g →
    Restores b e (B ++ A) g
restores_then b e f g A B h k = undone_append B A (take b g) ∙ ap (undone A) k ∙ h

-- with a lower barrier
pub restores_lower : (d b : ℕ) (e f : Bindings) (A : List ℕ) → d ≤ b → Restores b e A f → Restores d e A f
restores_lower d b e f A l h =
    ap (undone A) (sym (take_less d b f l)) ∙ sym (take_undone d A (take b f)) ∙ ap (take d) h ∙ take_less d b e l

-- all places that there were
pub restores_whole : (e f : Bindings) (A : List ℕ) → Restores (length e) e A f → take (length e) (undone A f) ≡ e
restores_whole e f A h = take_undone (length e) A f ∙ h ∙ take_whole e

-- of new places nothing is known, and none are there at first
pub restores_grown : (b : ℕ) (e g f : Bindings) (A : List ℕ) → b ≤ length e → Restores b (e ++ g) A f → Restores b e A f
restores_grown b e g f A l h = h ∙ take_grown b e g l

pub restores_taken : (b l : ℕ) (e f : Bindings) (A : List ℕ) → b ≤ l → Restores b e A f → Restores b e A (take l f)
restores_taken b l e f A k h = ap (undone A) (take_less b l f k) ∙ h

pub restores_trimmed : (d : ℕ) (e f : Bindings) (new T U : List ℕ) (t : Trimmed Tree d new T U) → Restores d e new f →
    Restores d e t.kept f
restores_trimmed d e f new T U t h = t.undo_same f ∙ h
