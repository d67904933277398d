-- What matching over references comes to, one step after another.
use Rattle.std.proofs.Common.{◌≡◌, ℕ, ℤ, zero, suc, ◌+◌, ◌<◌, ◌≤◌, Option, Some, None, List, [], ◌∷◌, ◌++◌, length, map, drop, take, min, get_or, Box, Global, refl, sym, ◌∙◌, ap, subst, arith, add-one}
use Rattle.std.specs.Prelude.{Bool, true, false, IsTrue, ◌↔◌, nat_lt, nat_eq, if◌then◌else◌, slice_get}
use Rattle.std.specs.Option.{option_map}
use Rattle.std.proofs.lemmas.Option.{slice_get-map, slice_get_past}
use Rattle.std.proofs.lemmas.List.{drop_all, length-map, length-take}
use Rattle.std.proofs.lemmas.Bool.{eq-eqb, eqb-true}
use Rattle.term_model.specs.Symbol.{Symbol}
use Rattle.term_model.specs.declared.term.Head.TheVariants as heads
use Rattle.term_model.specs.Term.{Tree, node, Trees, end, more, term, list_of, trees_of}
use Rattle.term_model.specs.TermParts.{head_of, parts_of, annos_of}
use Rattle.term_model.specs.Same.{same, same_head, same-refl, same-true}
use Rattle.term_model.specs.Space.{Space, Keeps, Pushes}
use Rattle.term_model.proofs.TermLemmas.{trees_of-list_of}
use Rattle.core_lang.specs.declared.coordinate.Coordinate.{Coordinate}
use Rattle.core_lang.specs.Environment.{Bindings}
use Rattle.core_lang.specs.Program.{Pattern, anything, variable, alias, integer, applied, list, like, annotated}
use Rattle.core_lang.specs.Roots.{are_many, count_of_patterns}
use Rattle.core_lang.specs.Views.{patterns_in, elements_in}
use Rattle.strat_steps.specs.Binding.{with_term, Attempt, attempt, bind_value, bind, and_go, only_if, attempted, all_attempted, elements_attempted}
use Rattle.strat_patterns.specs.Loaded.{loaded_of, rest_loaded_of, Known, AllKnown}
use Rattle.strat_patterns.specs.declared.loaded.LoadedPattern.{LoadedPattern}
use Rattle.strat_steps.specs.Matches.{AreFirst, Goes, LeavesSpace, AllLeaveSpace, ElementsLeaveSpace, first_attempted, rest_attempted, sees_annotations}
use Rattle.strat_patterns.specs.PlaceStack.{PlaceStack}
use Rattle.strat_steps.specs.References.{Places, AllPlaces, AllRefs, Binds, binds_none, binds_one}
use Rattle.strat_steps.proofs.ReferenceLaws.{all_with}
use Rattle.strat_steps.proofs.ReferenceParts.{places_same}
use Rattle.strat_patterns.proofs.LoadedLaws.{loaded_same}
use Rattle.strat_patterns.proofs.ReferenceLists.{refs_of_all}

-- places that are bound, and then others
binds_later : {R : Type 0} {P Q : R → Type 0} {b : ℕ} {e f : Places R} {T U : List ℕ} → ((r : R) → P r → Q r) → Binds P b e T f U → Binds Q b e T f U
binds_later later binds_none = binds_none
binds_later later (binds_one i r free p x) = binds_one i r free (later r p) (binds_later later x)

binds_then : {R : Type 0} {P : R → Type 0} {b : ℕ} {e f g : Places R} {T U V : List ℕ} → Binds P b e T f U → Binds P b f U g V → Binds P b e T g V
binds_then binds_none y = y
binds_then (binds_one i r free p x) y = binds_one i r free p (binds_then x y)

module _ {W R Y N : Type 0} {S : Space W R Y N} {b : ℕ} where
  pub goes_at_once : {whole rest : Bindings → List ℕ → Attempt} {w : W} {e : Places R} {T : List ℕ} → AllPlaces (λ r. IsTrue (S.stands w r)) e →
      whole (map (option_map (S.term_of w)) e) T ≡ rest (map (option_map (S.term_of w)) e) T → Goes S b whole rest w e T w e T
  goes_at_once all is = record { bound = binds_none; standing = all; comes_to = is }

  pub goes_then : {whole middle rest : Bindings → List ℕ → Attempt} {w w1 w2 : W} {e f g : Places R} {T U V : List ℕ} → Goes S b whole middle w e T w1 f U → ((r : R) → IsTrue (S.stands w1 r) → IsTrue (S.stands w2 r)) →
      Goes S b middle rest w1 f U w2 g V → Goes S b whole rest w e T w2 g V
  goes_then x later y = record { bound = binds_then (binds_later later x.bound) y.bound; standing = y.standing; comes_to = x.comes_to ∙ y.comes_to }

  pub goes_as : {whole whole1 rest rest1 : Bindings → List ℕ → Attempt} {w w1 : W} {e f : Places R} {T U : List ℕ} → ((g : Bindings) (V : List ℕ) → whole1 g V ≡ whole g V) → ((g : Bindings) (V : List ℕ) → rest g V ≡ rest1 g V) →
      Goes S b whole rest w e T w1 f U → Goes S b whole1 rest1 w e T w1 f U
  goes_as before after x = record { bound = x.bound; standing = x.standing; comes_to = before _ _ ∙ (x.comes_to ∙ after _ _) }

  pub goes_and : {one : Bindings → List ℕ → Attempt} {w w1 : W} {e f : Places R} {T U : List ℕ} (go : Bindings → List ℕ → Attempt) (test : Bool) → test ≡ true → Goes S b one (attempt test) w e T w1 f U →
      Goes S b (λ g V. and_go (one g V) go) go w e T w1 f U
  goes_and go true is x = record { bound = x.bound; standing = x.standing; comes_to = ap (λ a. and_go a go) x.comes_to }
  goes_and go false is x = absurd (cc)

  pub goes_not : {one : Bindings → List ℕ → Attempt} {w w1 : W} {e f : Places R} {T U : List ℕ} (go : Bindings → List ℕ → Attempt) (test : Bool) → test ≡ false → Goes S b one (attempt test) w e T w1 f U →
      Goes S b (λ g V. and_go (one g V) go) (attempt false) w e T w1 f U
  goes_not go true is x = absurd (cc)
  goes_not go false is x = record { bound = x.bound; standing = x.standing; comes_to = ap (λ a. and_go a go) x.comes_to }

-- one place
map_with : {A B : Type 0} (f : A → B) (i : ℕ) (r : A) (e : List (Option A)) → map (option_map f) (with_term i r e) ≡ with_term i (f r) (map (option_map f) e)
map_with f i r [] = refl
map_with f zero r (v ∷ e) = refl
map_with f (suc i) r (v ∷ e) = ap (λ g. option_map f v ∷ g) (map_with f i r e)

same_by : (u t : Tree) (test : Bool) → IsTrue test ↔ (u ≡ t) → same u t ≡ test
same_by u t test h = by_test (same u t) test refl h
  where
    by_test : (v answer : Bool) → same u t ≡ v → IsTrue answer ↔ (u ≡ t) → v ≡ answer
    by_test true true at h = refl
    by_test false false at h = refl
    by_test true false at h = sym (h.1 (same-true u t at))
    by_test false true at h = sym at ∙ (ap (λ v. same u v) (sym (h.0 refl)) ∙ same-refl u)

module _ {R : Type 0} (f : R → Tree) (b : ℕ) (o : Option ℕ) (t : Tree) (e : Places R) (T : List ℕ) where
  bind_by : (i : ℕ) (v : Option (Option R)) → o ≡ Some i → slice_get e i ≡ v → bind b o t (map (option_map f) e) T ≡ bind_value b i t (map (option_map f) e) T (option_map (option_map f) v)
  bind_by i v is at = ap (λ p. bind b p t (map (option_map f) e) T) is ∙ ap (λ u. bind_value b i t (map (option_map f) e) T u) (slice_get-map (option_map f) e i ∙ ap (option_map (option_map f)) at)

  bind_past : (n : ℕ) → ((i : ℕ) → o ≡ Some i → n ≤ i) → n ≡ length e → (p : Option ℕ) → o ≡ p → bind b o t (map (option_map f) e) T ≡ attempt false (map (option_map f) e) T
  bind_past n h is None at = ap (λ p. bind b p t (map (option_map f) e) T) at
  bind_past n h is (Some i) at = let far = h i at in bind_by i None at (slice_get_past e i (omega arith))

  pub bind_nowhere : (n : ℕ) → ((i : ℕ) → o ≡ Some i → n ≤ i) → n ≡ length e → bind b o t (map (option_map f) e) T ≡ attempt false (map (option_map f) e) T
  bind_nowhere n h is = bind_past n h is o refl

  pub bind_no_place : (i : ℕ) → o ≡ Some i → slice_get e i ≡ None → bind b o t (map (option_map f) e) T ≡ attempt false (map (option_map f) e) T
  bind_no_place i is at = bind_by i None is at

  pub bind_held : (i : ℕ) (r : R) (test : Bool) → o ≡ Some i → slice_get e i ≡ Some (Some r) → IsTrue test ↔ (f r ≡ t) → bind b o t (map (option_map f) e) T ≡ attempt test (map (option_map f) e) T
  bind_held i r test is at h = bind_by i (Some (Some r)) is at ∙ ap (λ v. attempt v (map (option_map f) e) T) (same_by (f r) t test h)

  pub bind_free : (i : ℕ) (r : R) → o ≡ Some i → slice_get e i ≡ Some None → f r ≡ t → bind b o t (map (option_map f) e) T ≡ attempt true (map (option_map f) (with_term i r e)) (if nat_lt i b then i ∷ T else T)
  bind_free i r is at same = bind_by i (Some None) is at ∙ ap (λ g. attempt true g (if nat_lt i b then i ∷ T else T)) (ap (λ u. with_term i u (map (option_map f) e)) (sym same) ∙ sym (map_with f i r e))

pub held_stands : {R : Type 0} (P : R → Type 0) (e : Places R) (i : ℕ) (r : R) → AllPlaces P e → slice_get e i ≡ Some (Some r) → P r
held_stands P [] i r h is = absurd (cc)
held_stands P (None ∷ e) zero r h is = absurd (cc)
held_stands P (Some u ∷ e) zero r h is = let q : u ≡ r = cc in subst P q h.0
held_stands P (None ∷ e) (suc i) r h is = held_stands P e i r h is
held_stands P (Some u ∷ e) (suc i) r h is = held_stands P e i r h.1 is

module _ {W R Y N : Type 0} {S : Space W R Y N} {w : W} where
  pub goes_given : (o : Option ℕ) (t : Tree) (old new : PlaceStack R) (i : ℕ) (r : R) → AllPlaces (λ u. IsTrue (S.stands w u)) old.slots → o ≡ Some i → slice_get old.slots i ≡ Some None → IsTrue (S.stands w r) → S.term_of w r ≡ t →
      new ≡ record old { slots = with_term i r old.slots; trail = (if nat_lt i old.barrier then i ∷ old.trail else old.trail) } →
      Goes S old.barrier (bind old.barrier o t) (attempt true) w old.slots old.trail w new.slots new.trail
  goes_given o t old new i r all is at stands_too same becomes = subst (λ n. Goes S old.barrier (bind old.barrier o t) (attempt true) w old.slots old.trail w n.slots n.trail) (sym becomes) (record {
    bound = binds_one i r at stands_too binds_none;
    standing = all_with (λ u. IsTrue (S.stands w u)) i r old.slots stands_too all;
    comes_to = bind_free (S.term_of w) old.barrier o t old.slots old.trail i r is at same;
  })

-- several patterns with the parts of a term
and_go_then : (a : Attempt) (whole g go : Bindings → List ℕ → Attempt) → ((f : Bindings) (U : List ℕ) → whole f U ≡ and_go (g f U) go) → and_go a whole ≡ and_go (and_go a g) go
and_go_then (attempt false e T) whole g go h = refl
and_go_then (attempt true e T) whole g go h = h e T

module _ (place : Coordinate → Option ℕ) (b : ℕ) where
  all_by : (ps : List (Pattern Coordinate)) (ts : List Tree) (e : Bindings) (T : List ℕ) →
      all_attempted place b (patterns_in ps) (trees_of ts) e T ≡ and_go (first_attempted place b ps ts e T) (λ f U. rest_attempted place b None (drop (length ps) ts) f U)
  all_by [] [] e T = refl
  all_by [] (t ∷ ts) e T = refl
  all_by (p ∷ ps) [] e T = refl
  all_by (p ∷ ps) (t ∷ ts) e T =
      and_go_then (attempted place b p t e T) (λ f U. all_attempted place b (patterns_in ps) (trees_of ts) f U) (λ f U. first_attempted place b ps ts f U) (λ f U. rest_attempted place b None (drop (length ps) ts) f U) (λ f U. all_by ps ts f U)

  elements_by : (ps : List (Pattern Coordinate)) (rest : Option (Pattern Coordinate)) (ts : List Tree) (e : Bindings) (T : List ℕ) →
      elements_attempted place b (elements_in ps rest) (trees_of ts) e T ≡ and_go (first_attempted place b ps ts e T) (λ f U. rest_attempted place b rest (drop (length ps) ts) f U)
  elements_by [] None [] e T = refl
  elements_by [] None (t ∷ ts) e T = refl
  elements_by [] (Some p) ts e T = refl
  elements_by (p ∷ ps) rest [] e T = refl
  elements_by (p ∷ ps) rest (t ∷ ts) e T =
      and_go_then (attempted place b p t e T) (λ f U. elements_attempted place b (elements_in ps rest) (trees_of ts) f U) (λ f U. first_attempted place b ps ts f U) (λ f U. rest_attempted place b rest (drop (length ps) ts) f U) (λ f U. elements_by ps rest ts f U)

  tested : (v test : Bool) (a : Attempt) (e : Bindings) (T : List ℕ) → test ≡ v → test ≡ true → only_if v e T a ≡ a
  tested true test a e T is at = refl
  tested false test a e T is at = absurd (cc)

  not_so : (v test : Bool) (a : Attempt) (e : Bindings) (T : List ℕ) → test ≡ v → test ≡ false → only_if v e T a ≡ attempt false e T
  not_so true test a e T is at = absurd (cc)
  not_so false test a e T is at = refl

  pub applied_goes_on : (p : Pattern Coordinate) (s : Symbol) (ps : List (Pattern Coordinate)) (t : Tree) (test : Bool) → p ≡ applied s (patterns_in ps) → test ≡ same_head (head_of t) (heads.App s) → test ≡ true → (e : Bindings) (T : List ℕ) →
      attempted place b p t e T ≡ and_go (first_attempted place b ps (parts_of t) e T) (λ f U. rest_attempted place b None (drop (length ps) (parts_of t)) f U)
  applied_goes_on p s ps (node h ts annos) test is at yes_so e T =
      ap (λ q. attempted place b q (node h ts annos) e T) is ∙
      (tested (same_head h (heads.App s)) test (all_attempted place b (patterns_in ps) ts e T) e T at yes_so ∙
      (ap (λ us. all_attempted place b (patterns_in ps) us e T) (sym (trees_of-list_of ts)) ∙ all_by ps (list_of ts) e T))

  pub applied_stops : (p : Pattern Coordinate) (s : Symbol) (ps : List (Pattern Coordinate)) (t : Tree) (test : Bool) → p ≡ applied s (patterns_in ps) → test ≡ same_head (head_of t) (heads.App s) → test ≡ false → (e : Bindings) (T : List ℕ) →
      attempted place b p t e T ≡ attempt false e T
  applied_stops p s ps (node h ts annos) test is at no_so e T =
      ap (λ q. attempted place b q (node h ts annos) e T) is ∙ not_so (same_head h (heads.App s)) test (all_attempted place b (patterns_in ps) ts e T) e T at no_so

  pub list_goes_on : (p : Pattern Coordinate) (ps : List (Pattern Coordinate)) (rest : Option (Pattern Coordinate)) (t : Tree) (test : Bool) → p ≡ list (elements_in ps rest) → test ≡ same_head (head_of t) heads.List → test ≡ true → (e : Bindings) (T : List ℕ) →
      attempted place b p t e T ≡ and_go (first_attempted place b ps (parts_of t) e T) (λ f U. rest_attempted place b rest (drop (length ps) (parts_of t)) f U)
  list_goes_on p ps rest (node h ts annos) test is at yes_so e T =
      ap (λ q. attempted place b q (node h ts annos) e T) is ∙
      (tested (same_head h heads.List) test (elements_attempted place b (elements_in ps rest) ts e T) e T at yes_so ∙
      (ap (λ us. elements_attempted place b (elements_in ps rest) us e T) (sym (trees_of-list_of ts)) ∙ elements_by ps rest (list_of ts) e T))

  pub list_stops : (p : Pattern Coordinate) (ps : List (Pattern Coordinate)) (rest : Option (Pattern Coordinate)) (t : Tree) (test : Bool) → p ≡ list (elements_in ps rest) → test ≡ same_head (head_of t) heads.List → test ≡ false → (e : Bindings) (T : List ℕ) →
      attempted place b p t e T ≡ attempt false e T
  list_stops p ps rest (node h ts annos) test is at no_so e T =
      ap (λ q. attempted place b q (node h ts annos) e T) is ∙ not_so (same_head h heads.List) test (elements_attempted place b (elements_in ps rest) ts e T) e T at no_so

  pub integer_tested : (z : ℤ) (t : Tree) (test : Bool) → test ≡ same_head (head_of t) (heads.Int z) → (e : Bindings) (T : List ℕ) → attempted place b (integer z) t e T ≡ attempt test e T
  integer_tested z (node h ts annos) test is e T = ap (λ v. attempt v e T) (sym is)

  -- the term without its annotations
  bare_alike : (p : Pattern Coordinate) (t : Tree) → sees_annotations p ≡ false → (e : Bindings) (T : List ℕ) → attempted place b p (term (head_of t) (parts_of t) []) e T ≡ attempted place b p t e T
  bare_alike p (node h ts annos) is e T = ap (λ us. attempted place b p (node h us end) e T) (trees_of-list_of ts) ∙ by_form p is
    where
      by_form : (p : Pattern Coordinate) → sees_annotations p ≡ false → attempted place b p (node h ts end) e T ≡ attempted place b p (node h ts annos) e T
      by_form anything is = refl
      by_form (variable x) is = absurd (cc)
      by_form (alias x q) is = absurd (cc)
      by_form (integer z) is = refl
      by_form (applied f ps) is = refl
      by_form (list ps) is = refl
      by_form (like q x) is = refl
      by_form (annotated q qs) is = absurd (cc)

  go_with : (a : Attempt) (go other : Bindings → List ℕ → Attempt) → ((f : Bindings) (U : List ℕ) → go f U ≡ other f U) → and_go a go ≡ and_go a other
  go_with (attempt false e T) go other h = refl
  go_with (attempt true e T) go other h = h e T

  -- patterns look at no more terms than there are patterns
  pub first_of_first : (ps : List (Pattern Coordinate)) (ts : List Tree) (e : Bindings) (T : List ℕ) → first_attempted place b ps (take (length ps) ts) e T ≡ first_attempted place b ps ts e T
  first_of_first [] ts e T = refl
  first_of_first (p ∷ ps) [] e T = refl
  first_of_first (p ∷ ps) (t ∷ ts) e T =
      go_with (attempted place b p t e T) (λ f U. first_attempted place b ps (take (length ps) ts) f U) (λ f U. first_attempted place b ps ts f U) (λ f U. first_of_first ps ts f U)

  -- as many patterns as terms
  all_as_first : (ps : List (Pattern Coordinate)) (ts : Trees) → length (list_of ts) ≡ length ps → (e : Bindings) (T : List ℕ) → all_attempted place b (patterns_in ps) ts e T ≡ first_attempted place b ps (list_of ts) e T
  all_as_first [] end h e T = refl
  all_as_first [] (more t ts) h e T = absurd (omega arith)
  all_as_first (p ∷ ps) end h e T = absurd (omega arith)
  all_as_first (p ∷ ps) (more t ts) h e T =
      go_with (attempted place b p t e T) (λ f U. all_attempted place b (patterns_in ps) ts f U) (λ f U. first_attempted place b ps (list_of ts) f U) (λ f U. all_as_first ps ts (omega arith) f U)

  as_many : (ps : List (Pattern Coordinate)) (ts : Trees) → length (list_of ts) ≡ length ps → are_many (count_of_patterns (patterns_in ps)) false ts ≡ true
  as_many [] end h = refl
  as_many [] (more t ts) h = absurd (omega arith)
  as_many (p ∷ ps) end h = absurd (omega arith)
  as_many (p ∷ ps) (more t ts) h = as_many ps ts (omega arith)

  not_as_many : (ps : List (Pattern Coordinate)) (ts : Trees) → (length (list_of ts) ≡ length ps → ⊥) → are_many (count_of_patterns (patterns_in ps)) false ts ≡ false
  not_as_many [] end h = absurd (h refl)
  not_as_many [] (more t ts) h = refl
  not_as_many (p ∷ ps) end h = refl
  not_as_many (p ∷ ps) (more t ts) h = not_as_many ps ts (λ k. h (ap suc k))

  pub annotated_stops : (p q : Pattern Coordinate) (qs : List (Pattern Coordinate)) (t : Tree) → p ≡ annotated q (patterns_in qs) → (length (annos_of t) ≡ length qs → ⊥) → (e : Bindings) (T : List ℕ) → attempted place b p t e T ≡ attempt false e T
  annotated_stops p q qs (node h ts annos) is differ e T =
      ap (λ r. attempted place b r (node h ts annos) e T) is ∙
      not_so (are_many (count_of_patterns (patterns_in qs)) false annos) false (and_go (attempted place b q (node h ts end) e T) (λ f U. all_attempted place b (patterns_in qs) annos f U)) e T (sym (not_as_many qs annos differ)) refl

  pub annotated_goes_on : (p q : Pattern Coordinate) (qs : List (Pattern Coordinate)) (t : Tree) → p ≡ annotated q (patterns_in qs) → length (annos_of t) ≡ length qs → (e : Bindings) (T : List ℕ) →
      attempted place b p t e T ≡ and_go (attempted place b q (term (head_of t) (parts_of t) []) e T) (λ f U. first_attempted place b qs (annos_of t) f U)
  annotated_goes_on p q qs (node h ts annos) is many e T =
      ap (λ r. attempted place b r (node h ts annos) e T) is ∙
      (tested (are_many (count_of_patterns (patterns_in qs)) false annos) true (and_go (attempted place b q (node h ts end) e T) (λ f U. all_attempted place b (patterns_in qs) annos f U)) e T (sym (as_many qs annos many)) refl ∙
      (go_with (attempted place b q (node h ts end) e T) (λ f U. all_attempted place b (patterns_in qs) annos f U) (λ f U. first_attempted place b qs (list_of annos) f U) (λ f U. all_as_first qs annos many f U) ∙
      ap (λ us. and_go (attempted place b q (node h us end) e T) (λ f U. first_attempted place b qs (list_of annos) f U)) (sym (trees_of-list_of ts))))

  -- whether there are terms left
  pub none_left : (ts : List Tree) (n : ℕ) (test : Bool) → n ≤ length ts → test ≡ nat_eq n (length ts) → (e : Bindings) (T : List ℕ) → rest_attempted place b None (drop n ts) e T ≡ attempt test e T
  none_left ts n true h is e T = ap (λ us. rest_attempted place b None us e T) (drop_all n ts (let same = eqb-true n (length ts) (sym is) in omega arith))
  none_left ts n false h is e T = some_left ts n (less_than n (length ts) h (λ same. differ (is ∙ eq-eqb n (length ts) same))) e T
    where
      differ : false ≡ true → ⊥
      differ d = cc

      less_than : (n m : ℕ) → n ≤ m → (n ≡ m → ⊥) → n < m
      less_than n m h k = omega (arith, k)

      some_left : (ts : List Tree) (n : ℕ) → n < length ts → (e : Bindings) (T : List ℕ) → rest_attempted place b None (drop n ts) e T ≡ attempt false e T
      some_left [] n h e T = absurd (omega arith)
      some_left (t ∷ ts) zero h e T = refl
      some_left (t ∷ ts) (suc n) h e T = some_left ts n (omega arith) e T

  first_step : (ps : List (Pattern Coordinate)) (ts : List Tree) (i : ℕ) (q : Pattern Coordinate) (t : Tree) (e : Bindings) (T : List ℕ) → slice_get ps i ≡ Some q → slice_get ts i ≡ Some t →
      first_attempted place b (drop i ps) (drop i ts) e T ≡ and_go (attempted place b q t e T) (λ f U. first_attempted place b (drop (suc i) ps) (drop (suc i) ts) f U)
  first_step [] ts i q t e T h k = absurd (cc)
  first_step (p ∷ ps) [] i q t e T h k = absurd (cc)
  first_step (p ∷ ps) (u ∷ ts) zero q t e T h k = let same_pattern : p ≡ q = cc in let same_term : u ≡ t = cc in
      ap (λ x. and_go (attempted place b x u e T) (λ f U. first_attempted place b ps ts f U)) same_pattern ∙ ap (λ x. and_go (attempted place b q x e T) (λ f U. first_attempted place b ps ts f U)) same_term
  first_step (p ∷ ps) (u ∷ ts) (suc i) q t e T h k = first_step ps ts i q t e T h k

  first_empty : (ps : List (Pattern Coordinate)) (i : ℕ) (e : Bindings) (T : List ℕ) → i < length ps → first_attempted place b (drop i ps) [] e T ≡ attempt false e T
  first_empty [] i e T h = absurd (omega arith)
  first_empty (p ∷ ps) zero e T h = refl
  first_empty (p ∷ ps) (suc i) e T h = first_empty ps i e T (omega arith)

  pub first_lacks : (ps : List (Pattern Coordinate)) (ts : List Tree) (i : ℕ) (e : Bindings) (T : List ℕ) → i < length ps → length ts ≤ i → first_attempted place b (drop i ps) (drop i ts) e T ≡ attempt false e T
  first_lacks ps ts i e T h k = ap (λ us. first_attempted place b (drop i ps) us e T) (drop_all i ts k) ∙ first_empty ps i e T h

  pub first_done : (ps : List (Pattern Coordinate)) (ts : List Tree) (i : ℕ) (e : Bindings) (T : List ℕ) → length ps ≤ i → first_attempted place b (drop i ps) (drop i ts) e T ≡ attempt true e T
  first_done ps ts i e T h = ap (λ qs. first_attempted place b qs (drop i ts) e T) (drop_all i ps h)

-- the pattern and the part at a position
pub known_at : {N : Type 0} (knows : N → Bool) (ps : List (LoadedPattern N)) (i : ℕ) (p : LoadedPattern N) → AllKnown knows ps → i < length ps → p ≡ get_or ps i p → Known knows p
known_at knows [] i p h k is = absurd (omega arith)
known_at knows (q ∷ ps) zero p h k is = subst (λ x. Known knows x) (sym is) h.0
known_at knows (q ∷ ps) (suc i) p h k is = known_at knows ps i p h.1 (omega arith) is

ref_at : {R : Type 0} (P : R → Type 0) (rs : List R) (i : ℕ) (r : R) → AllRefs P rs → i < length rs → r ≡ get_or rs i r → P r
ref_at P [] i r h k is = absurd (omega arith)
ref_at P (u ∷ rs) zero r h k is = subst P (sym is) h.0
ref_at P (u ∷ rs) (suc i) r h k is = ref_at P rs i r h.1 (omega arith) is

mapped_at : {A B : Type 0} (f : A → B) (xs : List A) (i : ℕ) (x : A) → i < length xs → x ≡ get_or xs i x → slice_get (map f xs) i ≡ Some (f x)
mapped_at f [] i x h is = absurd (omega arith)
mapped_at f (y ∷ xs) zero x h is = ap (λ z. Some (f z)) (sym is)
mapped_at f (y ∷ xs) (suc i) x h is = mapped_at f xs i x (omega arith) is

module _ {W R Y N : Type 0} {S : Space W R Y N} where
  -- a part of a term, or an annotation, is that of the term as it was
  pub part_was : {w w1 : W} {t : Tree} (some_of : Tree → List Tree) (at : R) (i : ℕ) → Keeps S w w1 → IsTrue (S.stands w at) → slice_get (some_of (S.term_of w1 at)) i ≡ Some t → slice_get (some_of (S.term_of w at)) i ≡ Some t
  part_was some_of at i keeps here_at part = ap (λ u. slice_get (some_of u) i) (sym (keeps.terms at here_at)) ∙ part

  -- a reference of several stands, and its term is as it was
  pub ref_stands : {w w1 : W} (rs : List R) (i : ℕ) (r : R) → Keeps S w w1 → AllRefs (λ u. IsTrue (S.stands w u)) rs → i < length rs → r ≡ get_or rs i r → IsTrue (S.stands w1 r)
  ref_stands {w} rs i r keeps all within is = keeps.standing r (ref_at (λ u. IsTrue (S.stands w u)) rs i r all within is)

  pub ref_was : {w w1 : W} (rs : List R) (i : ℕ) (r : R) → Keeps S w w1 → AllRefs (λ u. IsTrue (S.stands w u)) rs → i < length rs → r ≡ get_or rs i r → slice_get (map (S.term_of w) rs) i ≡ Some (S.term_of w1 r)
  ref_was {w} rs i r keeps all within is = mapped_at (S.term_of w) rs i r within is ∙ ap (λ t. Some t) (sym (keeps.terms r (ref_at (λ u. IsTrue (S.stands w u)) rs i r all within is)))

module _ {W R Y N : Type 0} {S : Space W R Y N} (place : Coordinate → Option ℕ) where
  -- one pattern of several, and the others after it, with several terms
  one_goes : {whole : Bindings → List ℕ → Attempt} {w w1 : W} {e f : Places R} {T U : List ℕ} {b : ℕ} (ps : List (LoadedPattern N)) (ts : List Tree) (i : ℕ) (p : LoadedPattern N) (t : Tree) → AllKnown (S.knows w) ps → Keeps S w w1 →
      i < length ps → p ≡ get_or ps i p → slice_get ts i ≡ Some t →
      Goes S b whole (first_attempted place b (drop i (map (loaded_of (S.symbol_of w)) ps)) (drop i ts)) w e T w1 f U →
      Goes S b whole
      (λ g V. and_go (attempted place b (loaded_of (S.symbol_of w1) p) t g V) (λ g1 V1. first_attempted place b (drop (suc i) (map (loaded_of (S.symbol_of w)) ps)) (drop (suc i) ts) g1 V1)) w e T w1 f U
  one_goes {w = w} {w1 = w1} {b = b} ps ts i p t known keeps within is part x =
      let pattern = mapped_at (loaded_of (S.symbol_of w)) ps i p within is ∙ ap (λ q. Some q) (sym (loaded_same (S.knows w) (S.symbol_of w) (S.symbol_of w1) keeps.symbols p (known_at (S.knows w) ps i p known within is))) in
      goes_as (λ g V. refl) (λ g V. first_step place b (map (loaded_of (S.symbol_of w)) ps) ts i (loaded_of (S.symbol_of w1) p) t g V pattern part) x

  pub match_next : {whole : Bindings → List ℕ → Attempt} {w w1 w2 : W} {e f g : Places R} {T U V : List ℕ} {b : ℕ} (ps : List (LoadedPattern N)) (ts : List Tree) (i : ℕ) (p : LoadedPattern N) (t : Tree) (test : Bool) (d : ℕ) → AllKnown (S.knows w) ps → Keeps S w w1 →
      i < length ps → p ≡ get_or ps i p → slice_get ts i ≡ Some t →
      Goes S b whole (first_attempted place b (drop i (map (loaded_of (S.symbol_of w)) ps)) (drop i ts)) w e T w1 f U →
      Keeps S w1 w2 → d ≡ b → test ≡ true → Goes S d (attempted place d (loaded_of (S.symbol_of w1) p) t) (attempt test) w1 f U w2 g V →
      Goes S b whole (first_attempted place b (drop (i + 1) (map (loaded_of (S.symbol_of w)) ps)) (drop (i + 1) ts)) w e T w2 g V
  match_next {w = w} {w1 = w1} {w2 = w2} {f = f} {g = g} {U = U} {V = V} {b = b} ps ts i p t test d known keeps within is part x later same_barrier so y =
      let own = subst (λ d. Goes S d (attempted place d (loaded_of (S.symbol_of w1) p) t) (attempt test) w1 f U w2 g V) same_barrier y in
      rw add-one (goes_then (one_goes ps ts i p t known keeps within is part x) later.standing (goes_and (λ g1 V1. first_attempted place b (drop (suc i) (map (loaded_of (S.symbol_of w)) ps)) (drop (suc i) ts) g1 V1) test so own))

  pub match_stops : {whole : Bindings → List ℕ → Attempt} {w w1 w2 : W} {e f g : Places R} {T U V : List ℕ} {b : ℕ} (ps : List (LoadedPattern N)) (ts : List Tree) (i : ℕ) (p : LoadedPattern N) (t : Tree) (test : Bool) (d : ℕ) → AllKnown (S.knows w) ps → Keeps S w w1 →
      i < length ps → p ≡ get_or ps i p → slice_get ts i ≡ Some t →
      Goes S b whole (first_attempted place b (drop i (map (loaded_of (S.symbol_of w)) ps)) (drop i ts)) w e T w1 f U →
      Keeps S w1 w2 → d ≡ b → test ≡ false → Goes S d (attempted place d (loaded_of (S.symbol_of w1) p) t) (attempt test) w1 f U w2 g V →
      Goes S b whole (attempt false) w e T w2 g V
  match_stops {w = w} {w1 = w1} {w2 = w2} {f = f} {g = g} {U = U} {V = V} {b = b} ps ts i p t test d known keeps within is part x later same_barrier so y =
      let own = subst (λ d. Goes S d (attempted place d (loaded_of (S.symbol_of w1) p) t) (attempt test) w1 f U w2 g V) same_barrier y in
      goes_then (one_goes ps ts i p t known keeps within is part x) later.standing (goes_not (λ g1 V1. first_attempted place b (drop (suc i) (map (loaded_of (S.symbol_of w)) ps)) (drop (suc i) ts) g1 V1) test so own)

-- several patterns with references that were pushed
module _ {W R Y N : Type 0} {S : Space W R Y N} {w : W} {ts : List Tree} {old new rs : List R} (pushed : Pushes S w ts old new) (none : old ≡ []) (same : rs ≡ new) where
  pushed_is : rs ≡ pushed.pushed
  pushed_is = same ∙ (pushed.after ∙ ap (λ us. us ++ pushed.pushed) none)

  pushed_are : map (S.term_of w) rs ≡ ts
  pushed_are = ap (λ us. map (S.term_of w) us) pushed_is ∙ pushed.are

  pub pushed_stand : AllRefs (λ r. IsTrue (S.stands w r)) rs
  pushed_stand = subst (λ us. AllRefs (λ r. IsTrue (S.stands w r)) us) (sym pushed_is) (refs_of_all (λ r. IsTrue (S.stands w r)) pushed.pushed pushed.standing)

  pub pushed_goes : {w1 : W} {e f : Places R} {T U : List ℕ} {b : ℕ} (place : Coordinate → Option ℕ) (ps : List (Pattern Coordinate)) (test : Bool) → Goes S b (first_attempted place b ps (map (S.term_of w) rs)) (attempt test) w e T w1 f U →
      Goes S b (first_attempted place b ps ts) (attempt test) w e T w1 f U
  pushed_goes {w1} {e} {f} {T} {U} {b} place ps test x = subst (λ us. Goes S b (first_attempted place b ps us) (attempt test) w e T w1 f U) pushed_are x

-- several patterns with references to the first terms, as many as there are patterns
module _ {W R Y N : Type 0} {S : Space W R Y N} {w : W} {ts : List Tree} {n : ℕ} {us rs : List R} (first : AreFirst S w ts n rs) (same : us ≡ rs) where
  pub first_stand : AllRefs (λ r. IsTrue (S.stands w r)) us
  first_stand = subst (λ vs. AllRefs (λ r. IsTrue (S.stands w r)) vs) (sym same) first.standing

  pub first_goes : {w1 : W} {e f : Places R} {T U : List ℕ} {b : ℕ} (place : Coordinate → Option ℕ) (ps : List (Pattern Coordinate)) (test : Bool) → length ps ≡ n → Goes S b (first_attempted place b ps (map (S.term_of w) us)) (attempt test) w e T w1 f U →
      Goes S b (first_attempted place b ps ts) (attempt test) w e T w1 f U
  first_goes {e = e} {T = T} {b = b} place ps test many x = record {
    bound = x.bound;
    standing = x.standing;
    comes_to =
        let e1 = map (option_map (S.term_of w)) e in
        sym (first_of_first place b ps ts e1 T) ∙ ap (λ k. first_attempted place b ps (take k ts) e1 T) many ∙ ap (λ vs. first_attempted place b ps vs e1 T) (sym first.are) ∙ ap (λ vs. first_attempted place b ps (map (S.term_of w) vs) e1 T) (sym same) ∙ x.comes_to;
  }

  pub first_enough : n ≤ length us → n ≤ length ts
  first_enough enough =
      let many : length us ≡ min n (length ts) = ap length same ∙ sym (length-map rs (S.term_of w)) ∙ ap length first.are ∙ length-take n ts in
      omega (arith, many, enough)

-- patterns whose matches make no term
pub applied_leaves : (p : Pattern Coordinate) (s : Symbol) (ps : List (Pattern Coordinate)) → p ≡ applied s (patterns_in ps) → LeavesSpace p → AllLeaveSpace (patterns_in ps)
applied_leaves p s ps is h = subst LeavesSpace is h

elements_leave : (ps : List (Pattern Coordinate)) (rest : Option (Pattern Coordinate)) → ElementsLeaveSpace (elements_in ps rest) → AllLeaveSpace (patterns_in ps) × (rest ≡ None)
elements_leave [] None h = (tt, refl)
elements_leave [] (Some q) h = absurd h
elements_leave (p ∷ ps) rest h = let others = elements_leave ps rest h.1 in ((h.0, others.0), others.1)

no_rest_loaded : {N : Type 0} (symbol_of : N → Symbol) (rest : Option (Box (LoadedPattern N) Global)) → rest_loaded_of symbol_of rest ≡ None → rest ≡ None
no_rest_loaded symbol_of None h = refl
no_rest_loaded symbol_of (Some p) h = absurd (cc)

pub list_leaves : {N : Type 0} (symbol_of : N → Symbol) (p : Pattern Coordinate) (ps : List (Pattern Coordinate)) (rest : Option (Box (LoadedPattern N) Global)) → p ≡ list (elements_in ps (rest_loaded_of symbol_of rest)) → LeavesSpace p →
    AllLeaveSpace (patterns_in ps) × (rest ≡ None)
list_leaves symbol_of p ps rest is h = let both = elements_leave ps (rest_loaded_of symbol_of rest) (subst LeavesSpace is h) in (both.0, no_rest_loaded symbol_of rest both.1)

one_leaves : {N : Type 0} (f : N → Pattern Coordinate) (ps : List N) (i : ℕ) (p : N) → AllLeaveSpace (patterns_in (map f ps)) → i < length ps → p ≡ get_or ps i p → LeavesSpace (f p)
one_leaves f [] i p h k is = absurd (omega arith)
one_leaves f (q ∷ ps) zero p h k is = subst (λ x. LeavesSpace (f x)) (sym is) h.0
one_leaves f (q ∷ ps) (suc i) p h k is = one_leaves f ps i p h.1 (omega arith) is

pub part_leaves : {N : Type 0} (knows : N → Bool) (symbol_of symbol_of1 : N → Symbol) (same : (n : N) → IsTrue (knows n) → symbol_of1 n ≡ symbol_of n) (ps : List (LoadedPattern N)) (i : ℕ) (p : LoadedPattern N) → AllKnown knows ps →
    i < length ps → p ≡ get_or ps i p → AllLeaveSpace (patterns_in (map (loaded_of symbol_of) ps)) → LeavesSpace (loaded_of symbol_of1 p)
part_leaves knows symbol_of symbol_of1 same ps i p known k is h =
    subst LeavesSpace (sym (loaded_same knows symbol_of symbol_of1 same p (known_at knows ps i p known k is))) (one_leaves (loaded_of symbol_of) ps i p h k is)

-- a whole pattern
module _ {W R Y N : Type 0} {S : Space W R Y N} (place : Coordinate → Option ℕ) where
  pub goes_as_pattern : {w : W} {e : Places R} {T : List ℕ} {b : ℕ} (p q : Pattern Coordinate) (t : Tree) (test : Bool) → p ≡ q → AllPlaces (λ r. IsTrue (S.stands w r)) e → ((f : Bindings) (U : List ℕ) → attempted place b q t f U ≡ attempt test f U) →
      Goes S b (attempted place b p t) (attempt test) w e T w e T
  goes_as_pattern {w} {e} {T} {b} p q t test is all h = goes_at_once all (ap (λ x. attempted place b x t (map (option_map (S.term_of w)) e) T) is ∙ h (map (option_map (S.term_of w)) e) T)

  pub applied_none : {w : W} {e : Places R} {T : List ℕ} {b : ℕ} (p : Pattern Coordinate) (s : Symbol) (ps : List (Pattern Coordinate)) (t : Tree) (test : Bool) → p ≡ applied s (patterns_in ps) → test ≡ same_head (head_of t) (heads.App s) → test ≡ false →
      AllPlaces (λ r. IsTrue (S.stands w r)) e → Goes S b (attempted place b p t) (attempt false) w e T w e T
  applied_none {w} {e} {T} {b} p s ps t test is at no_so all = goes_at_once all (applied_stops place b p s ps t test is at no_so (map (option_map (S.term_of w)) e) T)

  pub list_none : {w : W} {e : Places R} {T : List ℕ} {b : ℕ} (p : Pattern Coordinate) (ps : List (Pattern Coordinate)) (rest : Option (Pattern Coordinate)) (t : Tree) (test : Bool) → p ≡ list (elements_in ps rest) → test ≡ same_head (head_of t) heads.List → test ≡ false →
      AllPlaces (λ r. IsTrue (S.stands w r)) e → Goes S b (attempted place b p t) (attempt false) w e T w e T
  list_none {w} {e} {T} {b} p ps rest t test is at no_so all = goes_at_once all (list_stops place b p ps rest t test is at no_so (map (option_map (S.term_of w)) e) T)

  pub alias_goes : {w w1 : W} {e f g : Places R} {T U V : List ℕ} {b : ℕ} (p q : Pattern Coordinate) (x : Coordinate) (t : Tree) (held test : Bool) (d : ℕ) → p ≡ alias x q → held ≡ true → Goes S b (bind b (place x) t) (attempt held) w e T w f U →
      ((r : R) → IsTrue (S.stands w r) → IsTrue (S.stands w1 r)) → d ≡ b → Goes S d (attempted place d q t) (attempt test) w f U w1 g V → Goes S b (attempted place b p t) (attempt test) w e T w1 g V
  alias_goes {w} {w1} {f = f} {g} {U = U} {V} {b} p q x t held test d is so y later same_barrier z =
      goes_then (goes_as (λ h H. ap (λ r. attempted place b r t h H) is) (λ h H. refl) (goes_and (λ h H. attempted place b q t h H) held so y)) later
      (subst (λ d. Goes S d (attempted place d q t) (attempt test) w f U w1 g V) same_barrier z)

  module _ {w w1 : W} {e f : Places R} {T U : List ℕ} {b : ℕ} (p : Pattern Coordinate) (ps : List (Pattern Coordinate)) (t : Tree) (test first : Bool) (x : Goes S b (first_attempted place b ps (parts_of t)) (attempt first) w e T w1 f U) where
    pub applied_fails : (s : Symbol) → p ≡ applied s (patterns_in ps) → test ≡ same_head (head_of t) (heads.App s) → test ≡ true → first ≡ false → Goes S b (attempted place b p t) (attempt false) w e T w1 f U
    applied_fails s is at so no_so = goes_as (λ g V. applied_goes_on place b p s ps t test is at so g V) (λ g V. refl) (goes_not (λ g V. rest_attempted place b None (drop (length ps) (parts_of t)) g V) first no_so x)

    pub applied_ends : (s : Symbol) (all : Bool) (n m : ℕ) → p ≡ applied s (patterns_in ps) → test ≡ same_head (head_of t) (heads.App s) → test ≡ true → first ≡ true → n ≤ length (parts_of t) → n ≡ length ps → m ≡ length (parts_of t) → all ≡ nat_eq n m →
        Goes S b (attempted place b p t) (attempt all) w e T w1 f U
    applied_ends s all n m is at so so_too enough same_n same_m ends =
        goes_as (λ g V. applied_goes_on place b p s ps t test is at so g V)
        (λ g V. ap (λ k. rest_attempted place b None (drop k (parts_of t)) g V) (sym same_n) ∙ none_left place b (parts_of t) n all enough (ends ∙ ap (nat_eq n) same_m) g V)
        (goes_and (λ g V. rest_attempted place b None (drop (length ps) (parts_of t)) g V) first so_too x)

    pub list_fails : (rest : Option (Pattern Coordinate)) → p ≡ list (elements_in ps rest) → test ≡ same_head (head_of t) heads.List → test ≡ true → first ≡ false → Goes S b (attempted place b p t) (attempt false) w e T w1 f U
    list_fails rest is at so no_so = goes_as (λ g V. list_goes_on place b p ps rest t test is at so g V) (λ g V. refl) (goes_not (λ g V. rest_attempted place b rest (drop (length ps) (parts_of t)) g V) first no_so x)

    pub list_goes : {w2 : W} {g : Places R} {V : List ℕ} (rest other : Option (Pattern Coordinate)) (t1 : Tree) (all : Bool) (n d : ℕ) → p ≡ list (elements_in ps rest) → test ≡ same_head (head_of t) heads.List → test ≡ true → first ≡ true →
        n ≡ length ps → other ≡ rest → t1 ≡ t → d ≡ b → ((r : R) → IsTrue (S.stands w1 r) → IsTrue (S.stands w2 r)) → Goes S d (rest_attempted place d other (drop n (parts_of t1))) (attempt all) w1 f U w2 g V →
        Goes S b (attempted place b p t) (attempt all) w e T w2 g V
    list_goes {w2} {g} {V} rest other t1 all n d is at so so_too same_n same_rest same_t same_barrier later y =
        let own = subst (λ d. Goes S d (rest_attempted place d other (drop n (parts_of t1))) (attempt all) w1 f U w2 g V) same_barrier y in
        goes_then (goes_as (λ h H. list_goes_on place b p ps rest t test is at so h H)
        (λ h H. ap (λ k. rest_attempted place b rest (drop k (parts_of t)) h H) (sym same_n) ∙ (ap (λ o. rest_attempted place b o (drop n (parts_of t)) h H) (sym same_rest) ∙ ap (λ u. rest_attempted place b other (drop n (parts_of u)) h H) (sym same_t)))
        (goes_and (λ h H. rest_attempted place b rest (drop (length ps) (parts_of t)) h H) first so_too x)) later own

  pub no_rest : {w : W} {e : Places R} {T : List ℕ} {b : ℕ} (rest : Option (Pattern Coordinate)) (ts : List Tree) (n m : ℕ) (all : Bool) → AllPlaces (λ r. IsTrue (S.stands w r)) e → rest ≡ None → n ≤ length ts → m ≡ length ts → all ≡ nat_eq n m →
      Goes S b (rest_attempted place b rest (drop n ts)) (attempt all) w e T w e T
  no_rest {w} {e} {T} {b} rest ts n m all standing is h at ends = goes_at_once standing (ap (λ o. rest_attempted place b o (drop n ts) (map (option_map (S.term_of w)) e) T) is ∙ none_left place b ts n all h (ends ∙ ap (nat_eq n) at) (map (option_map (S.term_of w)) e) T)

  pub rest_goes : {w w1 w2 : W} {e f : Places R} {T U : List ℕ} {b : ℕ} (rest : Option (Pattern Coordinate)) (p q : Pattern Coordinate) (ts : List Tree) (t : Tree) (all : Bool) → AllPlaces (λ r. IsTrue (S.stands w r)) e → ((r : R) → IsTrue (S.stands w r) → S.term_of w1 r ≡ S.term_of w r) →
      rest ≡ Some p → q ≡ p → t ≡ term heads.List ts [] → Goes S b (attempted place b q t) (attempt all) w1 e T w2 f U → Goes S b (rest_attempted place b rest ts) (attempt all) w e T w2 f U
  rest_goes {w} {w1} {e = e} {T = T} {b = b} rest p q ts t all standing same is same_pattern same_term y = record {
    bound = y.bound;
    standing = y.standing;
    comes_to =
        ap (λ o. rest_attempted place b o ts (map (option_map (S.term_of w)) e) T) is ∙
        (ap (λ u. attempted place b p u (map (option_map (S.term_of w)) e) T) (sym same_term) ∙
        (ap (λ r. attempted place b r t (map (option_map (S.term_of w)) e) T) (sym same_pattern) ∙
        (ap (λ h. attempted place b q t h T) (sym (places_same (λ r. IsTrue (S.stands w r)) (S.term_of w) (S.term_of w1) same e standing)) ∙ y.comes_to)));
  }

  -- a pattern with others of the annotations
  pub annotated_none : {w : W} {e : Places R} {T : List ℕ} {b : ℕ} (p q : Pattern Coordinate) (qs : List (Pattern Coordinate)) (t : Tree) → p ≡ annotated q (patterns_in qs) → (length (annos_of t) ≡ length qs → ⊥) → AllPlaces (λ r. IsTrue (S.stands w r)) e →
      Goes S b (attempted place b p t) (attempt false) w e T w e T
  annotated_none {w} {e} {T} {b} p q qs t is differ all = goes_at_once all (annotated_stops place b p q qs t is differ (map (option_map (S.term_of w)) e) T)

  module _ {w w1 : W} {e f : Places R} {T U : List ℕ} {b : ℕ} (p q : Pattern Coordinate) (qs : List (Pattern Coordinate)) (t : Tree) (held : Bool) (is : p ≡ annotated q (patterns_in qs)) (many : length (annos_of t) ≡ length qs)
      (x : Goes S b (attempted place b q (term (head_of t) (parts_of t) [])) (attempt held) w e T w1 f U) where
    pub annotated_fails : held ≡ false → Goes S b (attempted place b p t) (attempt false) w e T w1 f U
    annotated_fails no_so = goes_as (λ g V. annotated_goes_on place b p q qs t is many g V) (λ g V. refl) (goes_not (λ g V. first_attempted place b qs (annos_of t) g V) held no_so x)

    pub annotated_goes : {w2 : W} {g : Places R} {V : List ℕ} (others : List (Pattern Coordinate)) (u : Tree) (all : Bool) (d : ℕ) → held ≡ true → ((r : R) → IsTrue (S.stands w1 r) → IsTrue (S.stands w2 r)) → others ≡ qs → u ≡ t → d ≡ b →
        Goes S d (first_attempted place d others (annos_of u)) (attempt all) w1 f U w2 g V → Goes S b (attempted place b p t) (attempt all) w e T w2 g V
    annotated_goes {w2} {g} {V} others u all d so later same_patterns same_term same_barrier y =
        goes_then (goes_as (λ h H. annotated_goes_on place b p q qs t is many h H)
        (λ h H. ap (λ os. first_attempted place b os (annos_of t) h H) (sym same_patterns) ∙ ap (λ v. first_attempted place b others (annos_of v) h H) (sym same_term))
        (goes_and (λ h H. first_attempted place b qs (annos_of t) h H) held so x)) later
        (subst (λ d. Goes S d (first_attempted place d others (annos_of u)) (attempt all) w1 f U w2 g V) same_barrier y)

  -- the term without its annotations: the term itself where they do not matter, or one that was made
  pub unseen_goes : {w w1 : W} {e f : Places R} {T U : List ℕ} {b : ℕ} (p : Pattern Coordinate) (t : Tree) (test all : Bool) → test ≡ sees_annotations p → test ≡ false → Goes S b (attempted place b p t) (attempt all) w e T w1 f U →
      Goes S b (attempted place b p (term (head_of t) (parts_of t) [])) (attempt all) w e T w1 f U
  unseen_goes {b = b} p t test all is no_so x = goes_as (λ g V. bare_alike place b p t (sym is ∙ no_so) g V) (λ g V. refl) x

  pub bare_goes : {w w1 w2 : W} {e f : Places R} {T U : List ℕ} {b : ℕ} (p q : Pattern Coordinate) (t u : Tree) (all : Bool) → AllPlaces (λ r. IsTrue (S.stands w r)) e → ((r : R) → IsTrue (S.stands w r) → S.term_of w1 r ≡ S.term_of w r) →
      q ≡ p → u ≡ t → Goes S b (attempted place b q u) (attempt all) w1 e T w2 f U → Goes S b (attempted place b p t) (attempt all) w e T w2 f U
  bare_goes {w} {w1} {e = e} {T = T} {b = b} p q t u all standing same same_pattern same_term y = record {
    bound = y.bound;
    standing = y.standing;
    comes_to =
        ap (λ x. attempted place b p x (map (option_map (S.term_of w)) e) T) (sym same_term) ∙
        (ap (λ r. attempted place b r u (map (option_map (S.term_of w)) e) T) (sym same_pattern) ∙
        (ap (λ h. attempted place b q u h T) (sym (places_same (λ r. IsTrue (S.stands w r)) (S.term_of w) (S.term_of w1) same e standing)) ∙ y.comes_to));
  }

  -- several patterns that are all done, or more than there are parts
  pub match_lacks : {N : Type 0} {whole : Bindings → List ℕ → Attempt} {w w1 : W} {e f : Places R} {T U : List ℕ} {b : ℕ} (as_pattern : N → Pattern Coordinate) (ps : List N) (ts : List Tree) (i n : ℕ) → i < length ps → n ≡ length ts → n ≤ i →
      Goes S b whole (first_attempted place b (drop i (map as_pattern ps)) (drop i ts)) w e T w1 f U → Goes S b whole (attempt false) w e T w1 f U
  match_lacks {b = b} as_pattern ps ts i n h is k x = let long = length-map ps as_pattern in goes_as (λ g V. refl) (λ g V. first_lacks place b (map as_pattern ps) ts i g V (omega arith) (omega arith)) x
