-- A pattern over coordinates matches what the pattern over names does, and has its instance.
use Rattle.std.proofs.Common.{◌≡◌, ℕ, inl, inr, Option, Some, refl, sym, ◌∙◌, ap, ap₂}
use Rattle.term_model.specs.Term.{Tree, node, Trees, end, more}
use Rattle.term_model.specs.declared.term.Head.TheVariants as heads
use Rattle.core_lang.specs.Program.{Pattern, Patterns, Elements}
use Rattle.core_lang.specs.Environment.{Bindings}
use Rattle.core_lang.specs.Matching.{HasValue, Conforms, ConformAll, ConformElements, IsPlaceIn, IsPlaceInAny, IsPlaceInElements, Matches}
use Rattle.core_lang.specs.Building.{value_in, with_front, applied_to, list_term, elements_of, made_like, made_with, instance, instances, element_instances}
use Rattle.core_lang.specs.Named.{Name}
use Rattle.core_lang.specs.declared.coordinate.Coordinate.{Coordinate}
use Rattle.core_lang.specs.Resolution.{Scopes, variable_coordinate, ResolvesPattern, to_anything, to_variable, to_alias, to_integer, to_applied, to_list, to_like, to_annotated, ResolvesPatterns, to_no_patterns, to_more_patterns, ResolvesElements, to_no_elements, to_the_rest, to_more_elements}

module _ (S : Scopes) (P : Name → Option ℕ) (Q : Coordinate → Option ℕ) (same : (x : Name) (y : Coordinate) →
    variable_coordinate S x ≡ Some y → P x ≡ Q y) where
  value_to : (x : Name) (y : Coordinate) → variable_coordinate S x ≡ Some y → (e : Bindings) (t : Tree) →
      HasValue P x e t → HasValue Q y e t
  value_to x y is e t (i, at, holds) = (i, sym (same x y is) ∙ at, holds)

  mutual
    conforms_to : {p : Pattern Name} {q : Pattern Coordinate} → ResolvesPattern S p q → (e : Bindings) (t : Tree) →
        Conforms P p e t → Conforms Q q e t
    conforms_to to_anything e t c = tt
    conforms_to (to_variable {x = x} {y = y} is) e t c = value_to x y is e t c
    conforms_to (to_alias {x = x} {y = y} is r) e t c = (value_to x y is e t c.0, conforms_to r e t c.1)
    conforms_to to_integer e (node h ts annos) c = c
    conforms_to (to_applied rs) e (node h ts annos) c = (c.0, all_conform_to rs e ts c.1)
    conforms_to (to_list rs) e (node h ts annos) c = (c.0, elements_conform_to rs e ts c.1)
    conforms_to (to_like r is) e t c = absurd c
    conforms_to (to_annotated r rs) e (node h ts annos) c =
        (conforms_to r e (node h ts end) c.0, all_conform_to rs e annos c.1)

    all_conform_to : {ps : Patterns Name} {qs : Patterns Coordinate} → ResolvesPatterns S ps qs →
        (e : Bindings) (ts : Trees) → ConformAll P ps e ts → ConformAll Q qs e ts
    all_conform_to to_no_patterns e ts c = c
    all_conform_to (to_more_patterns r rs) e end c = absurd c
    all_conform_to (to_more_patterns r rs) e (more t ts) c = (conforms_to r e t c.0, all_conform_to rs e ts c.1)

    elements_conform_to : {ps : Elements Name} {qs : Elements Coordinate} → ResolvesElements S ps qs →
        (e : Bindings) (ts : Trees) → ConformElements P ps e ts → ConformElements Q qs e ts
    elements_conform_to to_no_elements e ts c = c
    elements_conform_to (to_the_rest r) e ts c = conforms_to r e (node heads.List ts end) c
    elements_conform_to (to_more_elements r rs) e end c = absurd c
    elements_conform_to (to_more_elements r rs) e (more t ts) c =
        (conforms_to r e t c.0, elements_conform_to rs e ts c.1)

  mutual
    place_to : {p : Pattern Name} {q : Pattern Coordinate} → ResolvesPattern S p q → (i : ℕ) → IsPlaceIn P p i →
        IsPlaceIn Q q i
    place_to to_anything i h = absurd h
    place_to (to_variable {x = x} {y = y} is) i h = sym (same x y is) ∙ h
    place_to (to_alias {x = x} {y = y} is r) i (inl h) = inl (sym (same x y is) ∙ h)
    place_to (to_alias is r) i (inr h) = inr (place_to r i h)
    place_to to_integer i h = absurd h
    place_to (to_applied rs) i h = place_in_any_to rs i h
    place_to (to_list rs) i h = place_in_elements_to rs i h
    place_to (to_like r is) i h = absurd h
    place_to (to_annotated r rs) i (inl h) = inl (place_to r i h)
    place_to (to_annotated r rs) i (inr h) = inr (place_in_any_to rs i h)

    place_in_any_to : {ps : Patterns Name} {qs : Patterns Coordinate} → ResolvesPatterns S ps qs → (i : ℕ) →
        IsPlaceInAny P ps i → IsPlaceInAny Q qs i
    place_in_any_to to_no_patterns i h = absurd h
    place_in_any_to (to_more_patterns r rs) i (inl h) = inl (place_to r i h)
    place_in_any_to (to_more_patterns r rs) i (inr h) = inr (place_in_any_to rs i h)

    place_in_elements_to : {ps : Elements Name} {qs : Elements Coordinate} → ResolvesElements S ps qs → (i : ℕ) →
        IsPlaceInElements P ps i → IsPlaceInElements Q qs i
    place_in_elements_to to_no_elements i h = absurd h
    place_in_elements_to (to_the_rest r) i h = place_to r i h
    place_in_elements_to (to_more_elements r rs) i (inl h) = inl (place_to r i h)
    place_in_elements_to (to_more_elements r rs) i (inr h) = inr (place_in_elements_to rs i h)

  pub matches_to : {p : Pattern Name} {q : Pattern Coordinate} {e f : Bindings} {t : Tree} → ResolvesPattern S p q →
      Matches P p e t f → Matches Q q e t f
  matches_to {f = f} {t = t} r m = record {
    same_places = m.same_places;
    keeps = m.keeps;
    adds_only = λ i u h. elim (m.adds_only i u h) [ inl old ↦ inl old | inr new ↦ inr (place_to r i new) ];
    conforms = conforms_to r f t m.conforms;
  }

  value_from : (x : Name) (y : Coordinate) → variable_coordinate S x ≡ Some y → (e : Bindings) (t : Tree) →
      HasValue Q y e t → HasValue P x e t
  value_from x y is e t (i, at, holds) = (i, same x y is ∙ at, holds)

  mutual
    conforms_from : {p : Pattern Name} {q : Pattern Coordinate} → ResolvesPattern S p q → (e : Bindings) (t : Tree) →
        Conforms Q q e t → Conforms P p e t
    conforms_from to_anything e t c = tt
    conforms_from (to_variable {x = x} {y = y} is) e t c = value_from x y is e t c
    conforms_from (to_alias {x = x} {y = y} is r) e t c = (value_from x y is e t c.0, conforms_from r e t c.1)
    conforms_from to_integer e (node h ts annos) c = c
    conforms_from (to_applied rs) e (node h ts annos) c = (c.0, all_conform_from rs e ts c.1)
    conforms_from (to_list rs) e (node h ts annos) c = (c.0, elements_conform_from rs e ts c.1)
    conforms_from (to_like r is) e t c = absurd c
    conforms_from (to_annotated r rs) e (node h ts annos) c =
        (conforms_from r e (node h ts end) c.0, all_conform_from rs e annos c.1)

    all_conform_from : {ps : Patterns Name} {qs : Patterns Coordinate} → ResolvesPatterns S ps qs →
        (e : Bindings) (ts : Trees) → ConformAll Q qs e ts → ConformAll P ps e ts
    all_conform_from to_no_patterns e ts c = c
    all_conform_from (to_more_patterns r rs) e end c = absurd c
    all_conform_from (to_more_patterns r rs) e (more t ts) c = (conforms_from r e t c.0, all_conform_from rs e ts c.1)

    elements_conform_from : {ps : Elements Name} {qs : Elements Coordinate} → ResolvesElements S ps qs →
        (e : Bindings) (ts : Trees) → ConformElements Q qs e ts → ConformElements P ps e ts
    elements_conform_from to_no_elements e ts c = c
    elements_conform_from (to_the_rest r) e ts c = conforms_from r e (node heads.List ts end) c
    elements_conform_from (to_more_elements r rs) e end c = absurd c
    elements_conform_from (to_more_elements r rs) e (more t ts) c =
        (conforms_from r e t c.0, elements_conform_from rs e ts c.1)

  mutual
    place_from : {p : Pattern Name} {q : Pattern Coordinate} → ResolvesPattern S p q → (i : ℕ) → IsPlaceIn Q q i →
        IsPlaceIn P p i
    place_from to_anything i h = absurd h
    place_from (to_variable {x = x} {y = y} is) i h = same x y is ∙ h
    place_from (to_alias {x = x} {y = y} is r) i (inl h) = inl (same x y is ∙ h)
    place_from (to_alias is r) i (inr h) = inr (place_from r i h)
    place_from to_integer i h = absurd h
    place_from (to_applied rs) i h = place_in_any_from rs i h
    place_from (to_list rs) i h = place_in_elements_from rs i h
    place_from (to_like r is) i h = absurd h
    place_from (to_annotated r rs) i (inl h) = inl (place_from r i h)
    place_from (to_annotated r rs) i (inr h) = inr (place_in_any_from rs i h)

    place_in_any_from : {ps : Patterns Name} {qs : Patterns Coordinate} → ResolvesPatterns S ps qs → (i : ℕ) →
        IsPlaceInAny Q qs i → IsPlaceInAny P ps i
    place_in_any_from to_no_patterns i h = absurd h
    place_in_any_from (to_more_patterns r rs) i (inl h) = inl (place_from r i h)
    place_in_any_from (to_more_patterns r rs) i (inr h) = inr (place_in_any_from rs i h)

    place_in_elements_from : {ps : Elements Name} {qs : Elements Coordinate} → ResolvesElements S ps qs → (i : ℕ) →
        IsPlaceInElements Q qs i → IsPlaceInElements P ps i
    place_in_elements_from to_no_elements i h = absurd h
    place_in_elements_from (to_the_rest r) i h = place_from r i h
    place_in_elements_from (to_more_elements r rs) i (inl h) = inl (place_from r i h)
    place_in_elements_from (to_more_elements r rs) i (inr h) = inr (place_in_elements_from rs i h)

  pub matches_from : {p : Pattern Name} {q : Pattern Coordinate} {e f : Bindings} {t : Tree} → ResolvesPattern S p q →
      Matches Q q e t f → Matches P p e t f
  matches_from {f = f} {t = t} r m = record {
    same_places = m.same_places;
    keeps = m.keeps;
    adds_only = λ i u h. elim (m.adds_only i u h) [ inl old ↦ inl old | inr new ↦ inr (place_from r i new) ];
    conforms = conforms_from r f t m.conforms;
  }

  mutual
    pub instance_same : {p : Pattern Name} {q : Pattern Coordinate} → ResolvesPattern S p q → (e : Bindings) →
        instance P p e ≡ instance Q q e
    instance_same to_anything e = refl
    instance_same (to_variable {x = x} {y = y} is) e = ap (λ v. value_in v e) (same x y is)
    instance_same (to_alias is r) e = refl
    instance_same to_integer e = refl
    instance_same (to_applied {f = f} rs) e = ap (λ v. applied_to v f) (instances_same rs e)
    instance_same (to_list rs) e = ap (λ v. list_term v) (element_instances_same rs e)
    instance_same (to_like {x = x} {y = y} r is) e =
        ap₂ made_like (instance_same r e) (ap (λ v. value_in v e) (same x y is))
    instance_same (to_annotated r rs) e = ap₂ made_with (instance_same r e) (instances_same rs e)

    pub instances_same : {ps : Patterns Name} {qs : Patterns Coordinate} → ResolvesPatterns S ps qs → (e : Bindings) →
        instances P ps e ≡ instances Q qs e
    instances_same to_no_patterns e = refl
    instances_same (to_more_patterns r rs) e = ap₂ with_front (instance_same r e) (instances_same rs e)

    element_instances_same : {ps : Elements Name} {qs : Elements Coordinate} → ResolvesElements S ps qs →
        (e : Bindings) → element_instances P ps e ≡ element_instances Q qs e
    element_instances_same to_no_elements e = refl
    element_instances_same (to_the_rest r) e = ap (λ v. elements_of v) (instance_same r e)
    element_instances_same (to_more_elements r rs) e = ap₂ with_front (instance_same r e) (element_instances_same rs e)
