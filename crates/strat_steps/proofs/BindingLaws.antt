-- The machine's matching agrees with matching as a function, and the trail leads back.
use Rattle.std.proofs.Common.{◌≡◌, ℕ, zero, suc, ◌≤◌, Option, Some, None, List, [], ◌∷◌, length, take, ◌++◌, refl, sym, ◌∙◌, ap, arith, subst}
use Rattle.std.specs.Prelude.{Bool, true, false, nat_lt, if◌then◌else◌, slice_get}
use Rattle.std.specs.Option.{option_map}
use Rattle.std.proofs.lemmas.Bool.{ltb-false}
use Rattle.term_model.specs.declared.term.Head.TheVariants as heads
use Rattle.term_model.specs.Term.{Tree, node, Trees, end, more}
use Rattle.term_model.specs.Same.{same, same_head}
use Rattle.core_lang.specs.declared.coordinate.Coordinate.{Coordinate}
use Rattle.core_lang.specs.Program.{Pattern, anything, variable, alias, integer, applied, list, like, annotated, Patterns, no_patterns, more_patterns, Elements, no_elements, the_rest, more_elements}
use Rattle.core_lang.specs.Environment.{Bindings}
use Rattle.core_lang.specs.InRange.{Layers, VariableInRange, PatternInRange, PatternsInRange, ElementsInRange}
use Rattle.core_lang.specs.Building.{value_in, with_front, applied_to, list_term, elements_of, made_like, made_with, instance, instances, element_instances}
use Rattle.core_lang.specs.Roots.{are_many, count_of_patterns}
use Rattle.core_lang.specs.Tried.{put, put_at, and_then, tried, tried_all, tried_elements}
use Rattle.strat_code.specs.Renamed.{renamed, all_renamed, elements_renamed}
use Rattle.strat_steps.specs.Binding.{cleared, with_term, Attempt, attempt, bind_value, bind, and_go, only_if, attempted, all_attempted, elements_attempted}
use Rattle.strat_steps.specs.Trail.{Restores}
use Rattle.strat_steps.proofs.TrailLaws.{restores_same, restores_then}

-- what matching comes to, and the attempt: the same places where it matches; always a way back, and as many places
pub data Agrees (b : ℕ) (e : Bindings) (T : List ℕ) : Option Bindings → Attempt → Type 0 where
  agrees_on : {f : Bindings} {U : List ℕ} (new : List ℕ) → U ≡ new ++ T → Restores b e new f → length f ≡ length e →
      Agrees b e T (Some f) (attempt true f U)
  agrees_not : {f : Bindings} {U : List ℕ} (new : List ℕ) → U ≡ new ++ T → Restores b e new f → length f ≡ length e →
      Agrees b e T None (attempt false f U)

yes_at_once : (b : ℕ) (e : Bindings) (T : List ℕ) → Agrees b e T (Some e) (attempt true e T)
yes_at_once b e T = agrees_on [] refl (restores_same b e) refl

no_at_once : (b : ℕ) (e : Bindings) (T : List ℕ) → Agrees b e T None (attempt false e T)
no_at_once b e T = agrees_not [] refl (restores_same b e) refl

by_test : (b : ℕ) (e : Bindings) (T : List ℕ) (v : Bool) → Agrees b e T (if v then Some e else None) (attempt v e T)
by_test b e T true = yes_at_once b e T
by_test b e T false = no_at_once b e T

if_test : (b : ℕ) (e : Bindings) (T : List ℕ) (v : Bool) (o : Option Bindings) (a : Attempt) → Agrees b e T o a →
    Agrees b e T (if v then o else None) (only_if v e T a)
if_test b e T true o a h = h
if_test b e T false o a h = no_at_once b e T

if_as_many : (b : ℕ) (e : Bindings) (T : List ℕ) (v : Bool) (o : Option Bindings) (a : Attempt) →
    (v ≡ false → o ≡ None) → Agrees b e T o a → Agrees b e T o (only_if v e T a)
if_as_many b e T true o a none h = h
if_as_many b e T false o a none h = subst (λ x. Agrees b e T x (attempt false e T)) (sym (none refl)) (no_at_once b e T)

then_none : (o : Option Bindings) (go : Bindings → Option Bindings) → ((e : Bindings) → go e ≡ None) →
    and_then o go ≡ None
then_none None go h = refl
then_none (Some e) go h = h e

append_assoc : (A B T : List ℕ) → A ++ (B ++ T) ≡ (A ++ B) ++ T
append_assoc [] B T = refl
append_assoc (i ∷ A) B T = ap (λ l. i ∷ l) (append_assoc A B T)

after : {b : ℕ} {e f : Bindings} {T U : List ℕ} {o : Option Bindings} {a : Attempt} (A : List ℕ) → U ≡ A ++ T →
    Restores b e A f → length f ≡ length e → Agrees b f U o a → Agrees b e T o a
after {b} {e} {f} {T} A is back same (agrees_on {f = g} B is' back' same') =
    agrees_on (B ++ A) (is' ∙ ap (λ l. B ++ l) is ∙ append_assoc B A T) (restores_then b e f g A B back back') (same' ∙
    same)
after {b} {e} {f} {T} A is back same (agrees_not {f = g} B is' back' same') =
    agrees_not (B ++ A) (is' ∙ ap (λ l. B ++ l) is ∙ append_assoc B A T) (restores_then b e f g A B back back') (same' ∙
    same)

then_on : {b : ℕ} {e : Bindings} {T : List ℕ} {o : Option Bindings} {a : Attempt} (go : Bindings →
    Option Bindings) (going : Bindings → List ℕ → Attempt) →
    Agrees b e T o a → ((f : Bindings) (U : List ℕ) → Agrees b f U (go f) (going f U)) →
    Agrees b e T (and_then o go) (and_go a going)
then_on go going (agrees_on {f = f} {U = U} A is back same) others = after A is back same (others f U)
then_on go going (agrees_not A is back same) others = agrees_not A is back same

-- one place
slice_cases : (v : Option (Option Tree)) (P : Option (Option Tree) → Type 0) → P None → P (Some None) →
    ((u : Tree) → P (Some (Some u))) → P v
slice_cases None P a b c = a
slice_cases (Some None) P a b c = b
slice_cases (Some (Some u)) P a b c = c u

put_outside : (i : ℕ) (t : Tree) (e : Bindings) → slice_get e i ≡ None → put i t e ≡ None
put_outside zero t [] h = refl
put_outside zero t (v ∷ e) h = absurd (cc)
put_outside (suc i) t [] h = refl
put_outside (suc i) t (v ∷ e) h = ap (option_map (λ f. v ∷ f)) (put_outside i t e h)

put_new : (i : ℕ) (t : Tree) (e : Bindings) → slice_get e i ≡ Some None → put i t e ≡ Some (with_term i t e)
put_new zero t [] h = absurd (cc)
put_new zero t (None ∷ e) h = refl
put_new zero t (Some u ∷ e) h = absurd (cc)
put_new (suc i) t [] h = absurd (cc)
put_new (suc i) t (v ∷ e) h = ap (option_map (λ f. v ∷ f)) (put_new i t e h)

map_if : (v : Option Tree) (c : Bool) (e : Bindings) →
    option_map (λ f. v ∷ f) (if c then Some e else None) ≡ (if c then Some (v ∷ e) else None)
map_if v true e = refl
map_if v false e = refl

put_old : (i : ℕ) (t u : Tree) (e : Bindings) → slice_get e i ≡ Some (Some u) →
    put i t e ≡ (if same u t then Some e else None)
put_old zero t u [] h = absurd (cc)
put_old zero t u (None ∷ e) h = absurd (cc)
put_old zero t u (Some w ∷ e) h = let q : w ≡ u = cc in ap (λ z. if same z t then Some (Some w ∷ e) else None) q
put_old (suc i) t u [] h = absurd (cc)
put_old (suc i) t u (v ∷ e) h = ap (option_map (λ f. v ∷ f)) (put_old i t u e h) ∙ map_if v (same u t) e

length_with : (i : ℕ) (t : Tree) (e : Bindings) → length (with_term i t e) ≡ length e
length_with i t [] = refl
length_with zero t (v ∷ e) = refl
length_with (suc i) t (v ∷ e) = ap suc (length_with i t e)

back_below_barrier : (b i : ℕ) (t : Tree) (e : Bindings) → slice_get e i ≡ Some None →
    cleared i (take b (with_term i t e)) ≡ take b e
back_below_barrier zero i t e h = refl
back_below_barrier (suc b) i t [] h = refl
back_below_barrier (suc b) zero t (v ∷ e) h = let q : v ≡ None = cc in ap (λ w. w ∷ take b e) (sym q)
back_below_barrier (suc b) (suc i) t (v ∷ e) h = ap (λ f. v ∷ f) (back_below_barrier b i t e h)

same_below_barrier : (b i : ℕ) (t : Tree) (e : Bindings) → b ≤ i → take b (with_term i t e) ≡ take b e
same_below_barrier zero i t e h = refl
same_below_barrier (suc b) i t [] h = refl
same_below_barrier (suc b) zero t (v ∷ e) h = absurd (omega arith)
same_below_barrier (suc b) (suc i) t (v ∷ e) h = ap (λ f. v ∷ f) (same_below_barrier b i t e (omega arith))

bind_new : (b i : ℕ) (t : Tree) (e : Bindings) (T : List ℕ) (v : Bool) → nat_lt i b ≡ v → slice_get e i ≡ Some None →
    Agrees b e T (Some (with_term i t e)) (attempt true (with_term i t e) (if v then i ∷ T else T))
bind_new b i t e T true h k = agrees_on (i ∷ []) refl (back_below_barrier b i t e k) (length_with i t e)
bind_new b i t e T false h k = agrees_on [] refl (same_below_barrier b i t e (ltb-false i b h)) (length_with i t e)

bind_cases : (b i : ℕ) (t : Tree) (e : Bindings) (T : List ℕ) (v : Option (Option Tree)) → slice_get e i ≡ v →
    Agrees b e T (put i t e) (bind_value b i t e T v)
bind_cases b i t e T None h = subst (λ o. Agrees b e T o (attempt false e T)) (sym (put_outside i t e h))
    (no_at_once b e T)
bind_cases b i t e T (Some None) h =
    subst (λ o. Agrees b e T o (bind_value b i t e T (Some None))) (sym (put_new i t e h))
    (bind_new b i t e T (nat_lt i b) refl h)
bind_cases b i t e T (Some (Some u)) h =
    subst (λ o. Agrees b e T o (attempt (same u t) e T)) (sym (put_old i t u e h)) (by_test b e T (same u t))

bind_at : (b : ℕ) (i : Option ℕ) (t : Tree) (e : Bindings) (T : List ℕ) → Agrees b e T (put_at i t e) (bind b i t e T)
bind_at b None t e T = no_at_once b e T
bind_at b (Some i) t e T = bind_cases b i t e T (slice_get e i) refl

-- patterns whose variables have other identifiers, with the same places
module _ (L : Layers) (f : Coordinate → Coordinate) (place other : Coordinate → Option ℕ) (agree : (y : Coordinate) →
    VariableInRange L y → other (f y) ≡ place y) where
  bind_other : (b : ℕ) (y : Coordinate) (t : Tree) (e : Bindings) (T : List ℕ) → VariableInRange L y →
      Agrees b e T (put_at (place y) t e) (bind b (other (f y)) t e T)
  bind_other b y t e T r = subst (λ i. Agrees b e T (put_at (place y) t e) (bind b i t e T)) (sym (agree y r))
      (bind_at b (place y) t e T)

  -- another number of terms is not matched
  others_none : (ps : Patterns Coordinate) (ts : Trees) (e : Bindings) →
      are_many (count_of_patterns (all_renamed f ps)) false ts ≡ false → tried_all place ps ts e ≡ None
  others_none no_patterns end e h = absurd (cc)
  others_none no_patterns (more t ts) e h = refl
  others_none (more_patterns p ps) end e h = refl
  others_none (more_patterns p ps) (more t ts) e h =
      then_none (tried place p t e) (λ g. tried_all place ps ts g) (λ g. others_none ps ts g h)

  module _ (b : ℕ) where
    mutual
      pub attempts : (p : Pattern Coordinate) (t : Tree) (e : Bindings) (T : List ℕ) → PatternInRange L p →
          Agrees b e T (tried place p t e) (attempted other b (renamed f p) t e T)
      attempts anything t e T r = yes_at_once b e T
      attempts (variable y) t e T r = bind_other b y t e T r
      attempts (alias y p) t e T r = then_on _ _ (bind_other b y t e T r.0) (λ g U. attempts p t g U r.1)
      attempts (integer z) (node h ts annos) e T r = by_test b e T (same_head h (heads.Int z))
      attempts (applied g ps) (node h ts annos) e T r =
          if_test b e T (same_head h (heads.App g)) _ _ (attempts_all ps ts e T r)
      attempts (list ps) (node h ts annos) e T r =
          if_test b e T (same_head h heads.List) _ _ (attempts_elements ps ts e T r)
      attempts (like p y) t e T r = no_at_once b e T
      attempts (annotated p qs) (node h ts annos) e T r =
          if_as_many b e T (are_many (count_of_patterns (all_renamed f qs)) false annos)
          _ _ (λ m. then_none (tried place p (node h ts end) e) (λ g. tried_all place qs annos g)
          (λ g. others_none qs annos g m))
          (then_on _ _ (attempts p (node h ts end) e T r.0) (λ g U. attempts_all qs annos g U r.1))

      pub attempts_all : (ps : Patterns Coordinate) (ts : Trees) (e : Bindings) (T : List ℕ) → PatternsInRange L ps →
          Agrees b e T (tried_all place ps ts e) (all_attempted other b (all_renamed f ps) ts e T)
      attempts_all no_patterns end e T r = yes_at_once b e T
      attempts_all no_patterns (more t ts) e T r = no_at_once b e T
      attempts_all (more_patterns p ps) end e T r = no_at_once b e T
      attempts_all (more_patterns p ps) (more t ts) e T r =
          then_on _ _ (attempts p t e T r.0) (λ g U. attempts_all ps ts g U r.1)

      attempts_elements : (ps : Elements Coordinate) (ts : Trees) (e : Bindings) (T : List ℕ) → ElementsInRange L ps →
          Agrees b e T (tried_elements place ps ts e) (elements_attempted other b (elements_renamed f ps) ts e T)
      attempts_elements no_elements end e T r = yes_at_once b e T
      attempts_elements no_elements (more t ts) e T r = no_at_once b e T
      attempts_elements (the_rest p) ts e T r = attempts p (node heads.List ts end) e T r
      attempts_elements (more_elements p ps) end e T r = no_at_once b e T
      attempts_elements (more_elements p ps) (more t ts) e T r =
          then_on _ _ (attempts p t e T r.0) (λ g U. attempts_elements ps ts g U r.1)

  mutual
    pub same_instance : (p : Pattern Coordinate) (e : Bindings) → PatternInRange L p →
        instance other (renamed f p) e ≡ instance place p e
    same_instance anything e r = refl
    same_instance (variable y) e r = ap (λ i. value_in i e) (agree y r)
    same_instance (alias y p) e r = refl
    same_instance (integer z) e r = refl
    same_instance (applied g ps) e r = ap (λ o. applied_to o g) (same_instances ps e r)
    same_instance (list ps) e r = ap list_term (same_elements ps e r)
    same_instance (like p y) e r = ap (λ o. made_like o (value_in (other (f y)) e)) (same_instance p e r.0) ∙
        ap (λ i. made_like (instance place p e) (value_in i e)) (agree y r.1)
    same_instance (annotated p qs) e r =
        ap (λ o. made_with o (instances other (all_renamed f qs) e)) (same_instance p e r.0) ∙
        ap (made_with (instance place p e)) (same_instances qs e r.1)

    pub same_instances : (ps : Patterns Coordinate) (e : Bindings) → PatternsInRange L ps →
        instances other (all_renamed f ps) e ≡ instances place ps e
    same_instances no_patterns e r = refl
    same_instances (more_patterns p ps) e r =
        ap (λ o. with_front o (instances other (all_renamed f ps) e)) (same_instance p e r.0) ∙
        ap (with_front (instance place p e)) (same_instances ps e r.1)

    same_elements : (ps : Elements Coordinate) (e : Bindings) → ElementsInRange L ps →
        element_instances other (elements_renamed f ps) e ≡ element_instances place ps e
    same_elements no_elements e r = refl
    same_elements (the_rest p) e r = ap elements_of (same_instance p e r)
    same_elements (more_elements p ps) e r =
        ap (λ o. with_front o (element_instances other (elements_renamed f ps) e)) (same_instance p e r.0) ∙
        ap (with_front (instance place p e)) (same_elements ps e r.1)
