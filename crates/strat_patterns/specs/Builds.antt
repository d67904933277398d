-- The headline does not rest on this file.
-- What a build makes over references into a space.
use Rattle.std.specs.Prelude.{◌≡◌, ℕ, Bool, true, false, IsTrue, Option, Some, None, List, [], ◌∷◌, ◌++◌, map, slice_get}
use Rattle.term_model.specs.Space.{Space}
use Rattle.term_model.specs.declared.term.Head.TheVariants as heads
use Rattle.term_model.specs.declared.made.Made.{Made}
use Rattle.term_model.specs.declared.made.Made.TheVariants as made
use Rattle.term_model.specs.Term.{Tree, Trees, trees_of, fits, all_fit}
use Rattle.term_model.specs.TermParts.{head_of, parts_of, annos_of}
use Rattle.core_lang.specs.Building.{with_front, instance}
use Rattle.core_lang.specs.Environment.{Bindings}
use Rattle.core_lang.specs.Program.{Pattern}
use Rattle.strat_steps.specs.References.{AllRefs, trees}
use Rattle.strat_patterns.specs.declared.building.Built.{Built}
use Rattle.strat_patterns.specs.declared.building.Built.TheVariants as built
use Rattle.strat_patterns.specs.declared.building.Pushed.{Pushed}
use Rattle.strat_patterns.specs.declared.building.Pushed.TheVariants as pushed
use Rattle.strat_patterns.specs.declared.building.Elements.{Elements}
use Rattle.strat_patterns.specs.declared.building.Elements.TheVariants as elements

-- what a place has, if there is such a place
abbrev pub held : {X : Type 0} → Option (Option X) → Option X
held None = None
held (Some v) = v

abbrev pub held_in : {X : Type 0} → Option ℕ → List (Option X) → Option X
held_in None e = None
held_in (Some i) e = held (slice_get e i)

-- no annotations, if it is a term
abbrev pub IsBare : Option Tree → Type 0
IsBare None = Unit {0}
IsBare (Some t) = annos_of t ≡ []

abbrev pub BuiltStands : {R : Type 0} → (R → Type 0) → Built R → Type 0
BuiltStands P (built.Made r) = P r
BuiltStands P built.NoInstance = Unit {0}
BuiltStands P built.Oversize = Unit {0}

-- terms in front of others
abbrev pub in_front : List Tree → Option Trees → Option Trees
in_front [] o = o
in_front (t ∷ ts) o = with_front (Some t) (in_front ts o)

-- the instances of patterns, in front of others
abbrev pub instances_then : {X : Type 0} → (X → Option ℕ) → Bindings → List (Pattern X) → Option Trees → Option Trees
instances_then place e [] o = o
instances_then place e (p ∷ ps) o = with_front (instance place p e) (instances_then place e ps o)

abbrev pub made_built : {R : Type 0} → Made R → Built R
made_built (made.Fits r) = built.Made r
made_built made.Oversize = built.Oversize

-- what does not fit, with annotations of which this came
abbrev pub large_with : {R : Type 0} → Pushed → Built R
large_with pushed.All = built.Oversize
large_with pushed.NoInstance = built.NoInstance
large_with pushed.Oversize = built.Oversize

-- the first elements of a list, and the others
abbrev pub joined_elements : {R : Type 0} → Pushed → Elements R → Elements R
joined_elements pushed.All others = others
joined_elements pushed.NoInstance others = elements.NoInstance
joined_elements pushed.Oversize elements.All = elements.Oversize
joined_elements pushed.Oversize (elements.Before r) = elements.Oversize
joined_elements pushed.Oversize elements.NoInstance = elements.NoInstance
joined_elements pushed.Oversize elements.Oversize = elements.Oversize

module _ {W R : Type 0} (term_of : W → R → Tree) (w : W) where
  -- what several patterns make, each of which fits; or that one has no instance; else that one does not fit
  abbrev pub AreBuilt : (Option Trees → Option Trees) → List R → Pushed → Type 0
  AreBuilt all rs pushed.All = ((o : Option Trees) → all o ≡ in_front (map (term_of w) rs) o) ×
      (all_fit (trees_of (map (term_of w) rs)) ≡ true)
  AreBuilt all rs pushed.NoInstance = (o : Option Trees) → all o ≡ None
  AreBuilt all rs pushed.Oversize = (us : List Tree) × ((o : Option Trees) → all o ≡ in_front us o) ×
      (all_fit (trees_of us) ≡ false)

module _ {W R Y N : Type 0} (S : Space W R Y N) (w : W) where
  -- the reference of the instance, which fits; none; or that the instance does not fit
  abbrev pub Builds : Option Tree → Built R → Type 0
  Builds o (built.Made r) = IsTrue (S.stands w r) × (o ≡ Some (S.term_of w r)) × (fits (S.term_of w r) ≡ true)
  Builds o built.NoInstance = o ≡ None
  Builds o built.Oversize = (t : Tree) × (o ≡ Some t) × (fits t ≡ false)

  -- the list at the end of the elements stands
  abbrev pub TailStands : Elements R → Type 0
  TailStands elements.All = Unit {0}
  TailStands (elements.Before r) = IsTrue (S.stands w r) × (head_of (S.term_of w r) ≡ heads.List)
  TailStands elements.NoInstance = Unit {0}
  TailStands elements.Oversize = Unit {0}

  -- the elements of a list: those on the stack, and those of the list at their end; or that there is none, or one does
  -- not fit
  abbrev pub AreElements : Option Trees → List R → Elements R → Type 0
  AreElements all rs elements.All = all ≡ Some (trees_of (map (S.term_of w) rs))
  AreElements all rs (elements.Before r) = IsTrue (S.stands w r) × (head_of (S.term_of w r) ≡ heads.List) ×
      (all ≡ Some (trees_of (map (S.term_of w) rs ++ parts_of (S.term_of w r))))
  AreElements all rs elements.NoInstance = all ≡ None
  AreElements all rs elements.Oversize = (us : Trees) × (all ≡ Some us) × (all_fit us ≡ false)

module _ {W R Y N : Type 0} (S : Space W R Y N) (w : W) where
  -- references were put on the stack, and they are what is said of them
  pub record Puts (old new : List R) (Are : List R → Type 0) : Type 0 where
    pub put : List R
    pub after : new ≡ old ++ put
    pub standing : AllRefs (λ r. IsTrue (S.stands w r)) put
    pub are : Are put

module _ {W R : Type 0} (term_of : W → R → Tree) (w : W) where
  -- the instances of the arguments of a call, each of which fits; or that one is none; else that one does not fit
  abbrev pub AreArguments : Option Trees → List R → Pushed → Type 0
  AreArguments o rs pushed.All = (o ≡ Some (trees (term_of w) rs)) × (all_fit (trees (term_of w) rs) ≡ true)
  AreArguments o rs pushed.NoInstance = (o ≡ None) × (rs ≡ [])
  AreArguments o rs pushed.Oversize = (us : Trees) × (o ≡ Some us) × (all_fit us ≡ false) × (rs ≡ [])

  -- the same, before the patterns that are left; whether all so far fit
  abbrev pub AreBuiltBefore : (all rest : Option Trees → Option Trees) → List R → Bool → Type 0
  AreBuiltBefore all rest rs true = ((o : Option Trees) → all o ≡ in_front (map (term_of w) rs) (rest o)) ×
      (all_fit (trees_of (map (term_of w) rs)) ≡ true)
  AreBuiltBefore all rest rs false = (us : List Tree) × ((o : Option Trees) → all o ≡ in_front us (rest o)) ×
      (all_fit (trees_of us) ≡ false)

-- what was built is put on the stack, or is none, or does not fit
abbrev pub IsKept : {R : Type 0} → Built R → Option Bool → List R → List R → Type 0
IsKept (built.Made r) kept old new = (kept ≡ Some true) × (new ≡ old ++ r ∷ [])
IsKept built.NoInstance kept old new = (kept ≡ None) × (new ≡ old)
IsKept built.Oversize kept old new = (kept ≡ Some false) × (new ≡ old)
