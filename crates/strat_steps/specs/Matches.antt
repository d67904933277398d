-- The headline does not rest on this file.
-- Attempts to match over references into a space.
use Rattle.std.specs.Prelude.{◌≡◌, ℕ, Bool, true, false, IsTrue, Option, Some, None, List, [], ◌∷◌, map, take}
use Rattle.std.specs.Option.{option_map}
use Rattle.term_model.specs.declared.term.Head.TheVariants as heads
use Rattle.term_model.specs.Space.{Space}
use Rattle.term_model.specs.Term.{Tree, term}
use Rattle.core_lang.specs.Environment.{Bindings}
use Rattle.core_lang.specs.Program.{Pattern, anything, variable, alias, integer, applied, list, like, annotated, Patterns, no_patterns, more_patterns, Elements, no_elements, the_rest, more_elements}
use Rattle.strat_steps.specs.Binding.{Attempt, attempt, and_go, attempted}
use Rattle.strat_steps.specs.References.{Places, AllPlaces, AllRefs, Binds}

-- From the references e in the state w on, it came to the references f in the state w1. Over the trees that they are,
-- the attempt comes to what the rest of it comes to from there
pub record Goes {W R Y N : Type 0} (S : Space W R Y N) (b : ℕ) (whole rest : Bindings → List ℕ →
    Attempt) (w : W) (e : Places R) (T : List ℕ) (w1 : W) (f : Places R) (U : List ℕ) : Type 0 where
  pub bound : Binds (λ r. IsTrue (S.stands w1 r)) b e T f U
  pub standing : AllPlaces (λ r. IsTrue (S.stands w1 r)) f
  pub comes_to : whole (map (option_map (S.term_of w)) e) T ≡ rest (map (option_map (S.term_of w1)) f) U

-- the references stand for the first terms of the list, of which there are at most `count`
pub record AreFirst {W R Y N : Type 0} (S : Space W R Y N) (w : W) (terms : List Tree) (count : ℕ)
    (rs : List R) : Type 0 where
  pub standing : AllRefs (λ r. IsTrue (S.stands w r)) rs
  pub are : map (S.term_of w) rs ≡ take count terms

-- several patterns with the first n of several terms
abbrev pub first_attempted : {X : Type 0} → (X → Option ℕ) → ℕ → List (Pattern X) → List Tree → Bindings → List ℕ →
    Attempt
first_attempted place b [] ts e T = attempt true e T
first_attempted place b (p ∷ ps) [] e T = attempt false e T
first_attempted place b (p ∷ ps) (t ∷ ts) e T =
    and_go (attempted place b p t e T) (λ f U. first_attempted place b ps ts f U)

-- the rest of a list, or that there is none
abbrev pub rest_attempted : {X : Type 0} → (X → Option ℕ) → ℕ → Option (Pattern X) → List Tree → Bindings → List ℕ →
    Attempt
rest_attempted place b None [] e T = attempt true e T
rest_attempted place b None (t ∷ ts) e T = attempt false e T
rest_attempted place b (Some p) ts e T = attempted place b p (term heads.List ts []) e T

-- the pattern gives the term itself to a variable, or asks for its annotations
abbrev pub sees_annotations : {X : Type 0} → Pattern X → Bool
sees_annotations anything = false
sees_annotations (variable x) = true
sees_annotations (alias x p) = true
sees_annotations (integer z) = false
sees_annotations (applied f ps) = false
sees_annotations (list ps) = false
sees_annotations (like p x) = false
sees_annotations (annotated p qs) = true

-- the pattern has neither tails nor braces: a match makes no term
module _ {X : Type 0} where
  abbrev mutual
    pub LeavesSpace : Pattern X → Type 0
    LeavesSpace anything = Unit {0}
    LeavesSpace (variable x) = Unit {0}
    LeavesSpace (alias x p) = LeavesSpace p
    LeavesSpace (integer z) = Unit {0}
    LeavesSpace (applied f ps) = AllLeaveSpace ps
    LeavesSpace (list ps) = ElementsLeaveSpace ps
    LeavesSpace (like p x) = Unit {0}
    LeavesSpace (annotated p qs) = ⊥

    pub AllLeaveSpace : Patterns X → Type 0
    AllLeaveSpace no_patterns = Unit {0}
    AllLeaveSpace (more_patterns p ps) = LeavesSpace p × AllLeaveSpace ps

    pub ElementsLeaveSpace : Elements X → Type 0
    ElementsLeaveSpace no_elements = Unit {0}
    ElementsLeaveSpace (the_rest p) = ⊥
    ElementsLeaveSpace (more_elements p ps) = LeavesSpace p × ElementsLeaveSpace ps
