-- Loaded patterns mean the same for as long as their names are known.
use Rattle.std.proofs.Common.{◌≡◌, ℕ, ℤ, zero, suc, ◌+◌, ◌<◌, List, [], ◌∷◌, ◌++◌, length, take, get_or, map, Option, Some, None, Box, Vec, Global, refl, sym, ◌∙◌, ap, subst, arith, add-one}
use Rattle.std.specs.Prelude.{Bool, IsTrue}
use Rattle.std.proofs.lemmas.List.{map-append}
use Rattle.term_model.specs.Symbol.{Symbol}
use Rattle.core_lang.specs.declared.coordinate.Coordinate.{Coordinate}
use Rattle.core_lang.specs.Program.{Pattern, anything, variable, alias, integer, applied, list, like, annotated, more_patterns, Elements, no_elements, the_rest, more_elements}
use Rattle.core_lang.specs.declared.program.CorePattern.{CorePattern}
use Rattle.core_lang.specs.declared.program.CorePattern.TheVariants as patterns
use Rattle.core_lang.specs.Views.{pattern_of, rest_of, patterns_in, elements_in}
use Rattle.core_lang.proofs.ReadLaws.{reads_applied, reads_list, reads_annotated}
use Rattle.strat_patterns.specs.declared.loaded.LoadedPattern.{LoadedPattern}
use Rattle.strat_patterns.specs.declared.loaded.LoadedPattern.TheVariants as loaded
use Rattle.strat_patterns.specs.declared.loaded.LoadedPattern.TheOpen as forms
use Rattle.strat_patterns.specs.declared.loaded.LoadedPattern.TheFolds.{fold-roll-LoadedPattern, map-LoadedPattern}
use Rattle.strat_patterns.specs.declared.loaded.LoadedPattern.TheViews.{roll-LoadedPattern}
use Rattle.strat_patterns.specs.Loaded.{Named, named_anything, named_variable, named_alias, named_integer, named_applied, named_list, named_open_list, named_like, named_annotated, AllNamed, no_named, more_named, all_named, named_step, named_of, meant, all_meant, elements_meant, loaded_of, all_loaded_of, rest_loaded_of, NamedKnown, AllNamedKnown, Known, AllKnown, RestKnown, IsLoaded, AreLoaded, IsLoadedRest}

module _ {N : Type 0} {knows knows1 : N → Bool} (later : (n : N) → IsTrue (knows n) → IsTrue (knows1 n)) where
  mutual
    named_later : (p : Named N) → NamedKnown knows p → NamedKnown knows1 p
    named_later named_anything h = tt
    named_later (named_variable x) h = tt
    named_later (named_alias x p) h = named_later p h
    named_later (named_integer z) h = tt
    named_later (named_applied f ps) h = (later f h.0, all_named_later ps h.1)
    named_later (named_list ps) h = all_named_later ps h
    named_later (named_open_list ps p) h = (all_named_later ps h.0, named_later p h.1)
    named_later (named_like p x) h = named_later p h
    named_later (named_annotated p qs) h = (named_later p h.0, all_named_later qs h.1)

    all_named_later : (ps : AllNamed N) → AllNamedKnown knows ps → AllNamedKnown knows1 ps
    all_named_later no_named h = tt
    all_named_later (more_named p ps) h = (named_later p h.0, all_named_later ps h.1)

  -- what is known stays known
  pub known_later : (p : LoadedPattern N) → Known knows p → Known knows1 p
  known_later p h = named_later (named_of p) h

  pub all_known_later : (ps : List (LoadedPattern N)) → AllKnown knows ps → AllKnown knows1 ps
  all_known_later [] h = tt
  all_known_later (p ∷ ps) h = (known_later p h.0, all_known_later ps h.1)

  pub rest_known_later : (rest : Option (Box (LoadedPattern N) Global)) → RestKnown knows rest → RestKnown knows1 rest
  rest_known_later None h = tt
  rest_known_later (Some p) h = known_later p.value h

module _ {N : Type 0} (knows : N → Bool) (symbol_of symbol_of1 : N → Symbol) (same : (n : N) → IsTrue (knows n) →
    symbol_of1 n ≡ symbol_of n) where
  mutual
    named_same : (p : Named N) → NamedKnown knows p → meant symbol_of1 p ≡ meant symbol_of p
    named_same named_anything h = refl
    named_same (named_variable x) h = refl
    named_same (named_alias x p) h = ap (alias x) (named_same p h)
    named_same (named_integer z) h = refl
    named_same (named_applied f ps) h = ap (λ s. applied s (all_meant symbol_of1 ps)) (same f h.0) ∙
        ap (applied (symbol_of f)) (all_named_same ps h.1)
    named_same (named_list ps) h = ap list (elements_named_same ps no_elements h)
    named_same (named_open_list ps p) h =
        ap list (ap (λ q. elements_meant symbol_of1 ps (the_rest q)) (named_same p h.1) ∙
        elements_named_same ps (the_rest (meant symbol_of p)) h.0)
    named_same (named_like p x) h = ap (λ q. like q x) (named_same p h)
    named_same (named_annotated p qs) h = ap (λ q. annotated q (all_meant symbol_of1 qs)) (named_same p h.0) ∙
        ap (annotated (meant symbol_of p)) (all_named_same qs h.1)

    all_named_same : (ps : AllNamed N) → AllNamedKnown knows ps → all_meant symbol_of1 ps ≡ all_meant symbol_of ps
    all_named_same no_named h = refl
    all_named_same (more_named p ps) h = ap (λ q. more_patterns q (all_meant symbol_of1 ps)) (named_same p h.0) ∙
        ap (more_patterns (meant symbol_of p)) (all_named_same ps h.1)

    elements_named_same : (ps : AllNamed N) (rest : Elements Coordinate) → AllNamedKnown knows ps →
        elements_meant symbol_of1 ps rest ≡ elements_meant symbol_of ps rest
    elements_named_same no_named rest h = refl
    elements_named_same (more_named p ps) rest h =
        ap (λ q. more_elements q (elements_meant symbol_of1 ps rest)) (named_same p h.0) ∙
        ap (more_elements (meant symbol_of p)) (elements_named_same ps rest h.1)

  -- what known patterns mean stays the same
  pub loaded_same : (p : LoadedPattern N) → Known knows p → loaded_of symbol_of1 p ≡ loaded_of symbol_of p
  loaded_same p h = named_same (named_of p) h

  pub all_loaded_same : (ps : List (LoadedPattern N)) → AllKnown knows ps →
      map (loaded_of symbol_of1) ps ≡ map (loaded_of symbol_of) ps
  all_loaded_same [] h = refl
  all_loaded_same (p ∷ ps) h = ap (λ q. q ∷ map (loaded_of symbol_of1) ps) (loaded_same p h.0) ∙
      ap (λ qs. loaded_of symbol_of p ∷ qs) (all_loaded_same ps h.1)

  pub rest_loaded_same : (rest : Option (Box (LoadedPattern N) Global)) → RestKnown knows rest →
      rest_loaded_of symbol_of1 rest ≡ rest_loaded_of symbol_of rest
  rest_loaded_same None h = refl
  rest_loaded_same (Some p) h = ap (λ q. Some q) (loaded_same p.value h)

-- what each form of the code is
module _ {N : Type 0} where
  named_roll : (x : forms.LoadedPattern-F N (LoadedPattern N)) →
      named_of (roll-LoadedPattern N x) ≡ named_step (map-LoadedPattern N (LoadedPattern N) (Named N) named_of x)
  named_roll = fold-roll-LoadedPattern N (Named N) named_step

  named_as_applied : (f : N) (ps : Vec (LoadedPattern N) Global) →
      named_of (loaded.Applied f ps) ≡ named_applied f (all_named (map named_of ps.items))
  named_as_applied f ps = ap named_of (sym (loaded.rolls-Applied f ps)) ∙ named_roll (forms.Applied f ps)

  named_as_list : (ps : Vec (LoadedPattern N) Global) →
      named_of (loaded.List ps None) ≡ named_list (all_named (map named_of ps.items))
  named_as_list ps = ap named_of (sym (loaded.rolls-List ps None)) ∙ named_roll (forms.List ps None)

  named_as_open_list : (ps : Vec (LoadedPattern N) Global) (p : Box (LoadedPattern N) Global) →
      named_of (loaded.List ps (Some p)) ≡ named_open_list (all_named (map named_of ps.items)) (named_of p.value)
  named_as_open_list ps p = ap named_of (sym (loaded.rolls-List ps (Some p))) ∙ named_roll (forms.List ps (Some p))

  named_as_annotated : (p : Box (LoadedPattern N) Global) (qs : Vec (LoadedPattern N) Global) →
      named_of (loaded.Annotated p qs) ≡ named_annotated (named_of p.value) (all_named (map named_of qs.items))
  named_as_annotated p qs = ap named_of (sym (loaded.rolls-Annotated p qs)) ∙ named_roll (forms.Annotated p qs)

module _ {N : Type 0} (knows : N → Bool) where
  all_known : (ps : List (LoadedPattern N)) → AllKnown knows ps → AllNamedKnown knows (all_named (map named_of ps))
  all_known [] h = tt
  all_known (p ∷ ps) h = (h.0, all_known ps h.1)

  each_known : (ps : List (LoadedPattern N)) → AllNamedKnown knows (all_named (map named_of ps)) → AllKnown knows ps
  each_known [] h = tt
  each_known (p ∷ ps) h = (h.0, each_known ps h.1)

  pub all_known_push : (ps : List (LoadedPattern N)) (p : LoadedPattern N) → AllKnown knows ps → Known knows p →
      AllKnown knows (ps ++ p ∷ [])
  all_known_push [] p h k = (k, tt)
  all_known_push (x ∷ ps) p h k = (h.0, all_known_push ps p h.1 k)

  pub applied_known : (f : N) (ps : Vec (LoadedPattern N) Global) → IsTrue (knows f) → AllKnown knows ps.items →
      Known knows (loaded.Applied f ps)
  applied_known f ps h k = subst (λ q. NamedKnown knows q) (sym (named_as_applied f ps)) (h, all_known ps.items k)

  pub known_applied : (f : N) (ps : Vec (LoadedPattern N) Global) → Known knows (loaded.Applied f ps) →
      IsTrue (knows f) × AllKnown knows ps.items
  known_applied f ps h = let two = subst (λ q. NamedKnown knows q) (named_as_applied f ps) h in
      (two.0, each_known ps.items two.1)

  pub list_known : (ps : Vec (LoadedPattern N) Global) (rest : Option (Box (LoadedPattern N) Global)) →
      AllKnown knows ps.items → RestKnown knows rest → Known knows (loaded.List ps rest)
  list_known ps None h k = subst (λ q. NamedKnown knows q) (sym (named_as_list ps)) (all_known ps.items h)
  list_known ps (Some p) h k = subst (λ q. NamedKnown knows q) (sym (named_as_open_list ps p)) (all_known ps.items h, k)

  pub known_list : (ps : Vec (LoadedPattern N) Global) (rest : Option (Box (LoadedPattern N) Global)) →
      Known knows (loaded.List ps rest) → AllKnown knows ps.items × RestKnown knows rest
  known_list ps None h = (each_known ps.items (subst (λ q. NamedKnown knows q) (named_as_list ps) h), tt)
  known_list ps (Some p) h = let two = subst (λ q. NamedKnown knows q) (named_as_open_list ps p) h in
      (each_known ps.items two.0, two.1)

  pub annotated_known : (p : Box (LoadedPattern N) Global) (qs : Vec (LoadedPattern N) Global) → Known knows p.value →
      AllKnown knows qs.items → Known knows (loaded.Annotated p qs)
  annotated_known p qs h k = subst (λ q. NamedKnown knows q) (sym (named_as_annotated p qs)) (h, all_known qs.items k)

  pub known_annotated : (p : Box (LoadedPattern N) Global) (qs : Vec (LoadedPattern N) Global) →
      Known knows (loaded.Annotated p qs) → Known knows p.value × AllKnown knows qs.items
  known_annotated p qs h = let two = subst (λ q. NamedKnown knows q) (named_as_annotated p qs) h in
      (two.0, each_known qs.items two.1)

module _ {N : Type 0} (symbol_of : N → Symbol) where
  all_are : (ps : List (LoadedPattern N)) →
      all_meant symbol_of (all_named (map named_of ps)) ≡ patterns_in (map (loaded_of symbol_of) ps)
  all_are [] = refl
  all_are (p ∷ ps) = ap (more_patterns (loaded_of symbol_of p)) (all_are ps)

  closed_are : (ps : List (LoadedPattern N)) →
      elements_meant symbol_of (all_named (map named_of ps)) no_elements ≡
      elements_in (map (loaded_of symbol_of) ps) None
  closed_are [] = refl
  closed_are (p ∷ ps) = ap (more_elements (loaded_of symbol_of p)) (closed_are ps)

  open_are : (ps : List (LoadedPattern N)) (q : Pattern Coordinate) →
      elements_meant symbol_of (all_named (map named_of ps)) (the_rest q) ≡
      elements_in (map (loaded_of symbol_of) ps) (Some q)
  open_are [] q = refl
  open_are (p ∷ ps) q = ap (more_elements (loaded_of symbol_of p)) (open_are ps q)

  pub loaded_applied : (f : N) (ps : Vec (LoadedPattern N) Global) →
      loaded_of symbol_of (loaded.Applied f ps) ≡ applied (symbol_of f) (all_loaded_of symbol_of ps.items)
  loaded_applied f ps = ap (meant symbol_of) (named_as_applied f ps) ∙ ap (applied (symbol_of f)) (all_are ps.items)

  pub loaded_list : (ps : Vec (LoadedPattern N) Global) (rest : Option (Box (LoadedPattern N) Global)) →
      loaded_of symbol_of (loaded.List ps rest) ≡
      list (elements_in (map (loaded_of symbol_of) ps.items) (rest_loaded_of symbol_of rest))
  loaded_list ps None = ap (meant symbol_of) (named_as_list ps) ∙ ap list (closed_are ps.items)
  loaded_list ps (Some p) = ap (meant symbol_of) (named_as_open_list ps p) ∙
      ap list (open_are ps.items (loaded_of symbol_of p.value))

  pub loaded_annotated : (p : Box (LoadedPattern N) Global) (qs : Vec (LoadedPattern N) Global) →
      loaded_of symbol_of (loaded.Annotated p qs) ≡
      annotated (loaded_of symbol_of p.value) (all_loaded_of symbol_of qs.items)
  loaded_annotated p qs = ap (meant symbol_of) (named_as_annotated p qs) ∙
      ap (annotated (loaded_of symbol_of p.value)) (all_are qs.items)

-- what a pattern of a known form is
module _ {N : Type 0} (knows : N → Bool) (p : LoadedPattern N) where
  pub known_as_alias : (x : Coordinate) (q : Box (LoadedPattern N) Global) (v : LoadedPattern N) →
      p ≡ loaded.Alias x q → v ≡ q.value → Known knows p → Known knows v
  known_as_alias x q v is same h =
      subst (λ u. Known knows u) (sym same)
      (subst (λ n. NamedKnown knows n) (ap named_of is ∙
      (ap named_of (sym (loaded.rolls-Alias x q)) ∙ named_roll (forms.Alias x q))) h)

  pub known_as_like : (q : Box (LoadedPattern N) Global) (x : Coordinate) (v : LoadedPattern N) → p ≡ loaded.Like q x →
      v ≡ q.value → Known knows p → Known knows v
  known_as_like q x v is same h =
      subst (λ u. Known knows u) (sym same)
      (subst (λ n. NamedKnown knows n) (ap named_of is ∙
      (ap named_of (sym (loaded.rolls-Like q x)) ∙ named_roll (forms.Like q x))) h)

  pub known_as_applied : (f : N) (ps : Vec (LoadedPattern N) Global) (xs : List (LoadedPattern N)) →
      p ≡ loaded.Applied f ps → xs ≡ ps.items → Known knows p → IsTrue (knows f) × AllKnown knows xs
  known_as_applied f ps xs is same h = let two = known_applied knows f ps (subst (λ q. Known knows q) is h) in
      (two.0, subst (λ ys. AllKnown knows ys) (sym same) two.1)

  pub known_as_list : (ps : Vec (LoadedPattern N) Global) (rest : Option (Box (LoadedPattern N) Global))
      (xs : List (LoadedPattern N)) → p ≡ loaded.List ps rest → xs ≡ ps.items → Known knows p → AllKnown knows xs ×
      RestKnown knows rest
  known_as_list ps rest xs is same h = let two = known_list knows ps rest (subst (λ q. Known knows q) is h) in
      (subst (λ ys. AllKnown knows ys) (sym same) two.0, two.1)

  pub known_as_annotated : (q : Box (LoadedPattern N) Global) (ps : Vec (LoadedPattern N) Global) (v : LoadedPattern N)
      (xs : List (LoadedPattern N)) → p ≡ loaded.Annotated q ps → v ≡ q.value → xs ≡ ps.items → Known knows p →
      Known knows v × AllKnown knows xs
  known_as_annotated q ps v xs is same items h =
      let two = known_annotated knows q ps (subst (λ u. Known knows u) is h) in
      (subst (λ u. Known knows u) (sym same) two.0, subst (λ ys. AllKnown knows ys) (sym items) two.1)

module _ {N : Type 0} (knows : N →
    Bool) (rest : Option (Box (LoadedPattern N) Global)) (p : Box (LoadedPattern N) Global) (v : LoadedPattern N)
    (is : rest ≡ Some p) (same : v ≡ p.value) where
  pub rest_known_some : RestKnown knows rest → Known knows v
  rest_known_some h = subst (λ u. Known knows u) (sym same) (subst (λ r. RestKnown knows r) is h)

  pub rest_loaded_some : (symbol_of : N → Symbol) → rest_loaded_of symbol_of rest ≡ Some (loaded_of symbol_of v)
  rest_loaded_some symbol_of = ap (rest_loaded_of symbol_of) is ∙ ap (λ u. Some (loaded_of symbol_of u)) (sym same)

module _ {N : Type 0} (symbol_of : N → Symbol) (p : LoadedPattern N) where
  loaded_roll : (x : forms.LoadedPattern-F N (LoadedPattern N)) (q : LoadedPattern N) → p ≡ q →
      roll-LoadedPattern N x ≡ q →
      loaded_of symbol_of p ≡ meant symbol_of (named_step (map-LoadedPattern N (LoadedPattern N) (Named N) named_of x))
  loaded_roll x q is at = ap (loaded_of symbol_of) is ∙
      (ap (loaded_of symbol_of) (sym at) ∙ ap (meant symbol_of) (named_roll x))

  pub loaded_as_anything : p ≡ loaded.Anything → loaded_of symbol_of p ≡ anything
  loaded_as_anything is = loaded_roll forms.Anything loaded.Anything is loaded.rolls-Anything

  pub loaded_as_variable : (x : Coordinate) → p ≡ loaded.Variable x → loaded_of symbol_of p ≡ variable x
  loaded_as_variable x is = loaded_roll (forms.Variable x) (loaded.Variable x) is (loaded.rolls-Variable x)

  pub loaded_as_alias : (x : Coordinate) (q : Box (LoadedPattern N) Global) (v : LoadedPattern N) →
      p ≡ loaded.Alias x q → v ≡ q.value → loaded_of symbol_of p ≡ alias x (loaded_of symbol_of v)
  loaded_as_alias x q v is same = loaded_roll (forms.Alias x q) (loaded.Alias x q) is (loaded.rolls-Alias x q) ∙
      ap (λ u. alias x (loaded_of symbol_of u)) (sym same)

  pub loaded_as_integer : (z : ℤ) → p ≡ loaded.Integer z → loaded_of symbol_of p ≡ integer z
  loaded_as_integer z is = loaded_roll (forms.Integer z) (loaded.Integer z) is (loaded.rolls-Integer z)

  pub loaded_as_like : (q : Box (LoadedPattern N) Global) (x : Coordinate) → p ≡ loaded.Like q x →
      loaded_of symbol_of p ≡ like (loaded_of symbol_of q.value) x
  loaded_as_like q x is = loaded_roll (forms.Like q x) (loaded.Like q x) is (loaded.rolls-Like q x)

  pub loaded_as_applied : (f : N) (ps : Vec (LoadedPattern N) Global) (xs : List (LoadedPattern N)) →
      p ≡ loaded.Applied f ps → xs ≡ ps.items →
      loaded_of symbol_of p ≡ applied (symbol_of f) (all_loaded_of symbol_of xs)
  loaded_as_applied f ps xs is same =
      ap (loaded_of symbol_of) is ∙
      (loaded_applied symbol_of f ps ∙ ap (λ ys. applied (symbol_of f) (all_loaded_of symbol_of ys)) (sym same))

  pub loaded_as_list : (ps : Vec (LoadedPattern N) Global) (rest : Option (Box (LoadedPattern N) Global))
      (xs : List (LoadedPattern N)) → p ≡ loaded.List ps rest → xs ≡ ps.items →
      loaded_of symbol_of p ≡ list (elements_in (map (loaded_of symbol_of) xs) (rest_loaded_of symbol_of rest))
  loaded_as_list ps rest xs is same =
      ap (loaded_of symbol_of) is ∙
      (loaded_list symbol_of ps rest ∙
      ap (λ ys. list (elements_in (map (loaded_of symbol_of) ys) (rest_loaded_of symbol_of rest))) (sym same))

  pub loaded_as_annotated : (q : Box (LoadedPattern N) Global) (ps : Vec (LoadedPattern N) Global) (v : LoadedPattern N)
      (xs : List (LoadedPattern N)) → p ≡ loaded.Annotated q ps → v ≡ q.value → xs ≡ ps.items →
      loaded_of symbol_of p ≡ annotated (loaded_of symbol_of v) (all_loaded_of symbol_of xs)
  loaded_as_annotated q ps v xs is same items =
      ap (loaded_of symbol_of) is ∙ (loaded_annotated symbol_of q ps ∙
      (ap (λ u. annotated (loaded_of symbol_of u) (all_loaded_of symbol_of ps.items)) (sym same) ∙
      ap (λ ys. annotated (loaded_of symbol_of v) (all_loaded_of symbol_of ys)) (sym items)))

-- loaded patterns stay so
module _ {N : Type 0} {knows knows1 : N → Bool} {symbol_of symbol_of1 : N → Symbol} (later : (n : N) →
    IsTrue (knows n) → IsTrue (knows1 n)) (same : (n : N) → IsTrue (knows n) → symbol_of1 n ≡ symbol_of n) where
  pub is_loaded_later : {p : LoadedPattern N} {q : Pattern Coordinate} → IsLoaded knows symbol_of p q →
      IsLoaded knows1 symbol_of1 p q
  is_loaded_later {p} h = record {
    known = known_later later p h.known;
    is =
        loaded_same knows symbol_of symbol_of1 same p h.known ∙ h.is;
  }

  pub are_loaded_later : {ps : List (LoadedPattern N)} {qs : List (Pattern Coordinate)} →
      AreLoaded knows symbol_of ps qs → AreLoaded knows1 symbol_of1 ps qs
  are_loaded_later {ps} h = record {
    known = all_known_later later ps h.known;
    are =
        all_loaded_same knows symbol_of symbol_of1 same ps h.known ∙ h.are;
  }

-- each form
module _ {N : Type 0} {knows : N → Bool} {symbol_of : N → Symbol} where
  pub applied_is_loaded : (f : N) (ps : Vec (LoadedPattern N) Global) (s : Symbol) (qs : Vec CorePattern Global)
      (xs : List CorePattern) (q : CorePattern) → IsTrue (knows f) → symbol_of f ≡ s →
      AreLoaded knows symbol_of ps.items (map pattern_of xs) → xs ≡ qs.items → q ≡ patterns.Applied s qs →
      IsLoaded knows symbol_of (loaded.Applied f ps) (pattern_of q)
  applied_is_loaded f ps s qs xs q h is rest same form = record {
    known = applied_known knows f ps h rest.known;
    is = loaded_applied symbol_of f ps ∙
        (ap (λ g. applied g (all_loaded_of symbol_of ps.items)) is ∙
        (ap (λ ys. applied s (patterns_in ys)) (rest.are ∙ ap (map pattern_of) same) ∙
        (sym (reads_applied s qs) ∙ ap pattern_of (sym form))));
  }

  pub list_is_loaded : (ps : Vec (LoadedPattern N) Global) (rest : Option (Box (LoadedPattern N) Global))
      (qs : Vec CorePattern Global) (r : Option (Box CorePattern Global)) (xs : List CorePattern) (q : CorePattern) →
      AreLoaded knows symbol_of ps.items (map pattern_of xs) → IsLoadedRest knows symbol_of rest (rest_of r) →
      xs ≡ qs.items → q ≡ patterns.List qs r → IsLoaded knows symbol_of (loaded.List ps rest) (pattern_of q)
  list_is_loaded ps rest qs r xs q h k same form = record {
    known = list_known knows ps rest h.known k.known;
    is = loaded_list symbol_of ps rest ∙
        (ap (λ ys. list (elements_in ys (rest_loaded_of symbol_of rest))) (h.are ∙ ap (map pattern_of) same) ∙
        (ap (λ o. list (elements_in (map pattern_of qs.items) o)) k.is ∙
        (sym (reads_list qs r) ∙ ap pattern_of (sym form))));
  }

  pub annotated_is_loaded : (p : Box (LoadedPattern N) Global) (ps : Vec (LoadedPattern N) Global)
      (r : Box CorePattern Global) (qs : Vec CorePattern Global) (inner : CorePattern) (xs : List CorePattern)
      (q : CorePattern) →
      IsLoaded knows symbol_of p.value (pattern_of inner) → AreLoaded knows symbol_of ps.items (map pattern_of xs) →
      inner ≡ r.value → xs ≡ qs.items → q ≡ patterns.Annotated r qs →
      IsLoaded knows symbol_of (loaded.Annotated p ps) (pattern_of q)
  annotated_is_loaded p ps r qs inner xs q h k same items form = record {
    known = annotated_known knows p ps h.known k.known;
    is =
        loaded_annotated symbol_of p ps ∙
        (ap (λ d. annotated d (all_loaded_of symbol_of ps.items)) (h.is ∙ ap pattern_of same) ∙
        (ap (λ ys. annotated (pattern_of r.value) (patterns_in ys)) (k.are ∙ ap (map pattern_of) items) ∙
        (sym (reads_annotated r qs) ∙ ap pattern_of (sym form))));
  }

  pub none_loaded : (ps : List (LoadedPattern N)) → ps ≡ [] → AreLoaded knows symbol_of ps []
  none_loaded ps is = subst (λ xs. AreLoaded knows symbol_of xs []) (sym is) (record { known = tt; are = refl })

  pub one_more_loaded : (ps qs : List (LoadedPattern N)) (p : LoadedPattern N) (xs : List CorePattern) (i : ℕ)
      (x : CorePattern) → AreLoaded knows symbol_of ps (map pattern_of (take i xs)) →
      IsLoaded knows symbol_of p (pattern_of x) →
      i < length xs → x ≡ get_or xs i x → qs ≡ ps ++ p ∷ [] →
      AreLoaded knows symbol_of qs (map pattern_of (take (i + 1) xs))
  one_more_loaded ps qs p xs i x h k within at is =
      subst (λ ys. AreLoaded knows symbol_of ys (map pattern_of (take (i + 1) xs))) (sym is) (record {
        known = all_known_push knows ps p h.known k.known;
        are = map-append (loaded_of symbol_of) ps (p ∷ []) ∙
            (ap (λ ys. ys ++ loaded_of symbol_of p ∷ []) h.are ∙
            (ap (λ y. map pattern_of (take i xs) ++ y ∷ []) k.is ∙ sym (taken xs i x within at)));
      })
    where
      taken : (xs : List CorePattern) (i : ℕ) (x : CorePattern) → i < length xs → x ≡ get_or xs i x →
          map pattern_of (take (i + 1) xs) ≡ map pattern_of (take i xs) ++ pattern_of x ∷ []
      taken xs i x within at = rw add-one (taken_so xs i x within at)
        where
          taken_so : (xs : List CorePattern) (i : ℕ) (x : CorePattern) → i < length xs → x ≡ get_or xs i x →
              map pattern_of (take (suc i) xs) ≡ map pattern_of (take i xs) ++ pattern_of x ∷ []
          taken_so [] i x h is = absurd (omega arith)
          taken_so (y ∷ ys) zero x h is = ap (λ z. pattern_of z ∷ []) (sym is)
          taken_so (y ∷ ys) (suc i) x h is = ap (λ zs. pattern_of y ∷ zs) (taken_so ys i x (omega arith) is)
