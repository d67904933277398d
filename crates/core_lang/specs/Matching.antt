-- What it is for a pattern to match a term.
use Rattle.std.specs.Prelude.{◌≡◌, ℕ, ◌⊎◌, Option, Some, length, slice_get}
use Rattle.term_model.specs.declared.term.Head.TheVariants as heads
use Rattle.term_model.specs.Term.{Tree, node, Trees, end, more}
use Rattle.core_lang.specs.Program.{Pattern, anything, variable, alias, integer, applied, list, like, annotated, Patterns, no_patterns, more_patterns, Elements, no_elements, the_rest, more_elements}
use Rattle.core_lang.specs.Environment.{Bindings}

-- the place holds this term
abbrev pub Holds : Bindings → ℕ → Tree → Type 0
Holds e i t = slice_get e i ≡ Some (Some t)

-- patterns are read by the place of each variable
module _ {X : Type 0} (place : X → Option ℕ) where
  -- the variable's place holds this term
  abbrev pub HasValue : X → Bindings → Tree → Type 0
  HasValue x e t = (i : ℕ) × (place x ≡ Some i) × Holds e i t

  abbrev mutual
    -- the pattern conforms to the term under the bindings; annotations count in the values of variables, and where the
    -- pattern has patterns of them
    pub Conforms : Pattern X → Bindings → Tree → Type 0
    Conforms anything e t = Unit {0}
    Conforms (variable x) e t = HasValue x e t
    Conforms (alias x p) e t = HasValue x e t × Conforms p e t
    Conforms (integer z) e (node h ts annos) = h ≡ heads.Int z
    Conforms (applied f ps) e (node h ts annos) = (h ≡ heads.App f) × ConformAll ps e ts
    Conforms (list ps) e (node h ts annos) = (h ≡ heads.List) × ConformElements ps e ts
    Conforms (like p x) e t = ⊥
    -- the pattern to the term without its annotations, and each of the others to one of these
    Conforms (annotated p qs) e (node h ts annos) = Conforms p e (node h ts end) × ConformAll qs e annos

    -- each pattern to one term
    pub ConformAll : Patterns X → Bindings → Trees → Type 0
    ConformAll no_patterns e ts = ts ≡ end
    ConformAll (more_patterns p ps) e end = ⊥
    ConformAll (more_patterns p ps) e (more t ts) = Conforms p e t × ConformAll ps e ts

    -- to the elements of a list
    pub ConformElements : Elements X → Bindings → Trees → Type 0
    ConformElements no_elements e ts = ts ≡ end
    -- the rest is a list without annotations
    ConformElements (the_rest p) e ts = Conforms p e (node heads.List ts end)
    ConformElements (more_elements p ps) e end = ⊥
    ConformElements (more_elements p ps) e (more t ts) = Conforms p e t × ConformElements ps e ts

  abbrev mutual
    -- the place of some variable of the pattern
    pub IsPlaceIn : Pattern X → ℕ → Type 0
    IsPlaceIn anything i = ⊥
    IsPlaceIn (variable x) i = place x ≡ Some i
    IsPlaceIn (alias x p) i = (place x ≡ Some i) ⊎ IsPlaceIn p i
    IsPlaceIn (integer z) i = ⊥
    IsPlaceIn (applied f ps) i = IsPlaceInAny ps i
    IsPlaceIn (list ps) i = IsPlaceInElements ps i
    IsPlaceIn (like p x) i = ⊥
    IsPlaceIn (annotated p qs) i = IsPlaceIn p i ⊎ IsPlaceInAny qs i

    pub IsPlaceInAny : Patterns X → ℕ → Type 0
    IsPlaceInAny no_patterns i = ⊥
    IsPlaceInAny (more_patterns p ps) i = IsPlaceIn p i ⊎ IsPlaceInAny ps i

    pub IsPlaceInElements : Elements X → ℕ → Type 0
    IsPlaceInElements no_elements i = ⊥
    IsPlaceInElements (the_rest p) i = IsPlaceIn p i
    IsPlaceInElements (more_elements p ps) i = IsPlaceIn p i ⊎ IsPlaceInElements ps i

  -- the new bindings keep each term of the old ones and have new terms at places of the pattern's variables
  -- alone, and the pattern conforms to the term under them
  pub record Matches (p : Pattern X) (e : Bindings) (t : Tree) (e' : Bindings) : Type 0 where
    pub same_places : length e' ≡ length e
    pub keeps : (i : ℕ) (u : Tree) → Holds e i u → Holds e' i u
    pub adds_only : (i : ℕ) (u : Tree) → Holds e' i u → Holds e i u ⊎ IsPlaceIn p i
    pub conforms : Conforms p e' t
