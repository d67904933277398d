-- Applied patterns whose first parts are variables.
use Rattle.std.proofs.Common.{◌≡◌, ◌≤◌, ℕ, zero, suc, Option, Some, List, [], ◌∷◌, length, drop, map, ap, subst, ◌∙◌, sym, refl}
use Rattle.std.specs.Prelude.{Bool, true, false, not, IsTrue, slice_get, All}
use Rattle.std.specs.Option.{option_map}
use Rattle.std.proofs.lemmas.List.Elements.{All-get_or}
use Rattle.std.proofs.lemmas.Option.{get_or_from_slice_get, slice_get-map, slice_get_within}
use Rattle.core_lang.specs.Program.{Pattern, variable}
use Rattle.core_lang.specs.declared.coordinate.Coordinate.{Coordinate}
use Rattle.term_model.specs.Space.{Space, Keeps}
use Rattle.term_model.specs.Term.{Tree}
use Rattle.strat_steps.specs.Binding.{attempt, attempted, bind}
use Rattle.strat_steps.specs.Matches.{Goes, first_attempted}
use Rattle.strat_patterns.specs.Loaded.{AllKnown}
use Rattle.strat_patterns.specs.declared.loaded.LoadedPattern.{LoadedPattern}
use Rattle.strat_patterns.proofs.MatchingLaws.{first_done, goes_as, goes_then}
use Rattle.strat_steps.specs.References.{Places}

pub held_at : {R : Type 0} (P : R → Type 0) (rs : List R) (i : ℕ) (r : R) → All P rs → slice_get rs i ≡ Some r → P r
held_at P rs i r all at = subst P (get_or_from_slice_get rs i r r at)
    (All-get_or P rs i r (slice_get_within rs i r at) all)

pub not_so : (v : Bool) → IsTrue (not v) → v ≡ false
not_so true h = absurd (cc)
not_so false h = refl

pub held_term : {R : Type 0} (term_of : R → Tree) (rs : List R) (ts : List Tree) (i : ℕ) (r : R) → map term_of rs ≡ ts →
    slice_get rs i ≡ Some r → slice_get ts i ≡ Some (term_of r)
held_term term_of rs ts i r are at =
    subst (λ us. slice_get us i ≡ Some (term_of r)) are (slice_get-map term_of rs i ∙ ap (option_map term_of) at)

-- what a variable is bound to is what its pattern matches
pub binds_as_pattern : {W R Y N : Type 0} {S : Space W R Y N} {b : ℕ} {test : _} {w : W} {e f : Places R} {T U : List ℕ}
    (place : Coordinate → Option ℕ) (p : Pattern Coordinate) (x : Coordinate) (t : Tree) → p ≡ variable x →
    Goes S b (bind b (place x) t) (attempt test) w e T w f U →
    Goes S b (attempted place b p t) (attempt test) w e T w f U
binds_as_pattern {S = S} {b} {test} {w} {e} {f} {T} {U} place p x t is y =
    subst (λ q. Goes S b (attempted place b q t) (attempt test) w e T w f U) (sym is) y

module _ {W R Y N : Type 0} {S : Space W R Y N} {b : ℕ} {w : W} {e f : Places R} {T U : List ℕ}
    (place : Coordinate → Option ℕ) (ps : List (Pattern Coordinate)) (ts : List Tree) (n : ℕ)
    (x : Goes S b (first_attempted place b ps ts) (first_attempted place b (drop n ps) (drop n ts)) w e T w f U) where
  -- all of the patterns are among the first that match
  pub all_first : length ps ≤ n → Goes S b (first_attempted place b ps ts) (attempt true) w e T w f U
  all_first h = goes_as (λ g V. refl) (λ g V. first_done place b ps ts n g V h) x

  -- the first of the patterns match, and the others have been tried after them
  pub and_others : {w1 : W} {g : Places R} {V : List ℕ} (d : ℕ) (test : Bool) → d ≡ b → Keeps S w w1 →
      Goes S d (first_attempted place d (drop n ps) (drop n ts)) (attempt test) w f U w1 g V →
      Goes S b (first_attempted place b ps ts) (attempt test) w e T w1 g V
  and_others {w1} {g} {V} d test same keeps y =
      goes_then x keeps.standing
      (subst (λ d. Goes S d (first_attempted place d (drop n ps) (drop n ts)) (attempt test) w f U w1 g V) same y)

-- the patterns after the first ones
pub known_rest : {N : Type 0} (knows : N → Bool) (ps : List (LoadedPattern N)) (n : ℕ) → AllKnown knows ps →
    AllKnown knows (drop n ps)
known_rest knows ps zero h = h
known_rest knows [] (suc n) h = tt
known_rest knows (p ∷ ps) (suc n) h = known_rest knows ps n h.1
