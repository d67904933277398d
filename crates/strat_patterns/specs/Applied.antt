-- The headline does not rest on this file.
-- What matching the first parts of a term comes to, and building them; arguments on places.
use Rattle.std.specs.Prelude.{◌≡◌, ℕ, ◌≤◌, ◌++◌, IsTrue, Option, Some, None, List, length, drop, map, true, false}
use Rattle.core_lang.specs.Environment.{Bindings}
use Rattle.core_lang.specs.Program.{Pattern}
use Rattle.core_lang.specs.declared.coordinate.Coordinate.{Coordinate}
use Rattle.term_model.specs.Space.{Space}
use Rattle.term_model.specs.Term.{Tree}
use Rattle.strat_steps.specs.Binding.{attempt}
use Rattle.strat_steps.specs.Matches.{Goes, first_attempted}
use Rattle.strat_steps.specs.References.{AllRefs, Places}
use Rattle.strat_patterns.specs.Builds.{instances_then, AreBuilt, AreBuiltBefore, Puts}
use Rattle.strat_patterns.specs.PlaceStack.{PlaceStack}
use Rattle.strat_patterns.specs.declared.building.Pushed.TheVariants as pushed
use Rattle.strat_patterns.specs.declared.applied.First.{First}
use Rattle.strat_patterns.specs.declared.applied.First.TheVariants.{Failed, Matched}

-- of several patterns, so many match the first of several terms, or one of them does not match its own
module _ {W R Y N : Type 0} (S : Space W R Y N) (b : ℕ) (place : Coordinate → Option ℕ) (ps : List (Pattern Coordinate))
    (ts : List Tree) where
  abbrev pub MatchesFirst : First → W → Places R → List ℕ → Places R → List ℕ → Type 0
  MatchesFirst Failed w e T f U = Goes S b (first_attempted place b ps ts) (attempt false) w e T w f U
  MatchesFirst (Matched n) w e T f U = (n ≤ length ps) × (n ≤ length ts) ×
      Goes S b (first_attempted place b ps ts) (first_attempted place b (drop n ps) (drop n ts)) w e T w f U

-- so many of the patterns, which are its first ones, have their instances on the stack; or one has no instance
module _ {W R Y N : Type 0} (S : Space W R Y N) (w : W) (place : Coordinate → Option ℕ) (e : Bindings)
    (ps : List (Pattern Coordinate)) where
  abbrev pub PutsFirst : Option ℕ → List R → List R → Type 0
  PutsFirst None old new = Puts S w old new
      (λ rs. AreBuilt S.term_of w (instances_then place e ps) rs pushed.NoInstance)
  PutsFirst (Some n) old new = (n ≤ length ps) ×
      Puts S w old new (λ rs. AreBuiltBefore S.term_of w (instances_then place e ps)
      (instances_then place e (drop n ps)) rs true)

-- places with references were added, and the references are what is said of them
module _ {W R Y N : Type 0} (S : Space W R Y N) (w : W) where
  pub record PutsOnPlaces (old new : PlaceStack R) (Are : List R → Type 0) : Type 0 where
    pub put : List R
    pub after : new ≡ record old { slots = old.slots ++ map (λ r. Some r) put }
    pub standing : AllRefs (λ r. IsTrue (S.stands w r)) put
    pub are : Are put
