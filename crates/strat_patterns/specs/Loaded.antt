-- The headline does not rest on this file.
-- Patterns with a space's names in place of symbols.
use Rattle.std.specs.Prelude.{◌≡◌, ℤ, Bool, IsTrue, List, [], ◌∷◌, map, Option, Some, None, Box}
use Rattle.std.specs.declared.alloc.Global.{Global}
use Rattle.term_model.specs.Symbol.{Symbol}
use Rattle.core_lang.specs.declared.coordinate.Coordinate.{Coordinate}
use Rattle.core_lang.specs.Program.{Pattern, anything, variable, alias, integer, applied, list, like, annotated, Patterns, no_patterns, more_patterns, Elements, no_elements, the_rest, more_elements}
use Rattle.core_lang.specs.Views.{patterns_in}
use Rattle.strat_patterns.specs.declared.loaded.LoadedPattern.{LoadedPattern}
use Rattle.strat_patterns.specs.declared.loaded.LoadedPattern.TheOpen.{LoadedPattern-F}
use Rattle.strat_patterns.specs.declared.loaded.LoadedPattern.TheOpen as forms
use Rattle.strat_patterns.specs.declared.loaded.LoadedPattern.TheFolds.{fold-LoadedPattern}

-- a pattern over names
mutual
  pub data Named (N : Type 0) : Type 0 where
    named_anything : Named N
    named_variable : Coordinate → Named N
    named_alias : Coordinate → Named N → Named N
    named_integer : ℤ → Named N
    named_applied : N → AllNamed N → Named N
    named_list : AllNamed N → Named N
    -- a list with a pattern of its rest
    named_open_list : AllNamed N → Named N → Named N
    named_like : Named N → Coordinate → Named N
    named_annotated : Named N → AllNamed N → Named N

  pub data AllNamed (N : Type 0) : Type 0 where
    no_named : AllNamed N
    more_named : Named N → AllNamed N → AllNamed N

abbrev pub all_named : {N : Type 0} → List (Named N) → AllNamed N
all_named [] = no_named
all_named (p ∷ ps) = more_named p (all_named ps)

abbrev pub named_elements : {N : Type 0} → AllNamed N → Option (Box (Named N) Global) → Named N
named_elements ps None = named_list ps
named_elements ps (Some p) = named_open_list ps p.value

abbrev pub named_step : {N : Type 0} → LoadedPattern-F N (Named N) → Named N
named_step forms.Anything = named_anything
named_step (forms.Variable x) = named_variable x
named_step (forms.Alias x p) = named_alias x p.value
named_step (forms.Integer z) = named_integer z
named_step (forms.Applied f ps) = named_applied f (all_named ps.items)
named_step (forms.List ps rest) = named_elements (all_named ps.items) rest
named_step (forms.Like p x) = named_like p.value x
named_step (forms.Annotated p qs) = named_annotated p.value (all_named qs.items)

-- the pattern over names that the code has
abbrev pub named_of : {N : Type 0} → LoadedPattern N → Named N
named_of {N} = fold-LoadedPattern N (Named N) named_step

module _ {N : Type 0} (symbol_of : N → Symbol) where
  -- what a pattern over names stands for
  abbrev mutual
    pub meant : Named N → Pattern Coordinate
    meant named_anything = anything
    meant (named_variable x) = variable x
    meant (named_alias x p) = alias x (meant p)
    meant (named_integer z) = integer z
    meant (named_applied f ps) = applied (symbol_of f) (all_meant ps)
    meant (named_list ps) = list (elements_meant ps no_elements)
    meant (named_open_list ps p) = list (elements_meant ps (the_rest (meant p)))
    meant (named_like p x) = like (meant p) x
    meant (named_annotated p qs) = annotated (meant p) (all_meant qs)

    pub all_meant : AllNamed N → Patterns Coordinate
    all_meant no_named = no_patterns
    all_meant (more_named p ps) = more_patterns (meant p) (all_meant ps)

    -- the elements of a list, and the end of the list
    pub elements_meant : AllNamed N → Elements Coordinate → Elements Coordinate
    elements_meant no_named rest = rest
    elements_meant (more_named p ps) rest = more_elements (meant p) (elements_meant ps rest)

  -- what loaded patterns stand for
  abbrev pub loaded_of : LoadedPattern N → Pattern Coordinate
  loaded_of p = meant (named_of p)

  abbrev pub all_loaded_of : List (LoadedPattern N) → Patterns Coordinate
  all_loaded_of ps = patterns_in (map loaded_of ps)

  -- the pattern of a rest, if there is one
  abbrev pub rest_loaded_of : Option (Box (LoadedPattern N) Global) → Option (Pattern Coordinate)
  rest_loaded_of None = None
  rest_loaded_of (Some p) = Some (loaded_of p.value)

module _ {N : Type 0} (knows : N → Bool) where
  -- each name in the pattern is known
  abbrev mutual
    pub NamedKnown : Named N → Type 0
    NamedKnown named_anything = Unit {0}
    NamedKnown (named_variable x) = Unit {0}
    NamedKnown (named_alias x p) = NamedKnown p
    NamedKnown (named_integer z) = Unit {0}
    NamedKnown (named_applied f ps) = IsTrue (knows f) × AllNamedKnown ps
    NamedKnown (named_list ps) = AllNamedKnown ps
    NamedKnown (named_open_list ps p) = AllNamedKnown ps × NamedKnown p
    NamedKnown (named_like p x) = NamedKnown p
    NamedKnown (named_annotated p qs) = NamedKnown p × AllNamedKnown qs

    pub AllNamedKnown : AllNamed N → Type 0
    AllNamedKnown no_named = Unit {0}
    AllNamedKnown (more_named p ps) = NamedKnown p × AllNamedKnown ps

  abbrev pub Known : LoadedPattern N → Type 0
  Known p = NamedKnown (named_of p)

  abbrev pub AllKnown : List (LoadedPattern N) → Type 0
  AllKnown [] = Unit {0}
  AllKnown (p ∷ ps) = Known p × AllKnown ps

  abbrev pub RestKnown : Option (Box (LoadedPattern N) Global) → Type 0
  RestKnown None = Unit {0}
  RestKnown (Some p) = Known p.value

module _ {N : Type 0} (knows : N → Bool) (symbol_of : N → Symbol) where
  -- the names in these are known, and they stand for those of a core
  pub record IsLoaded (p : LoadedPattern N) (q : Pattern Coordinate) : Type 0 where
    pub known : Known knows p
    pub is : loaded_of symbol_of p ≡ q

  pub record AreLoaded (ps : List (LoadedPattern N)) (qs : List (Pattern Coordinate)) : Type 0 where
    pub known : AllKnown knows ps
    pub are : map (loaded_of symbol_of) ps ≡ qs

  pub record IsLoadedRest (rest : Option (Box (LoadedPattern N) Global))
      (q : Option (Pattern Coordinate)) : Type 0 where
    pub known : RestKnown knows rest
    pub is : rest_loaded_of symbol_of rest ≡ q
