-- Only the primitives that occur in a program matter to its derivations.
use Rattle.std.proofs.Common.{◌≡◌, ◌+◌, ◌⊎◌, ℕ, zero, suc, inl, inr, Option, Some, None, List, [], ◌∷◌, length, refl, sym, ◌∙◌, ap, subst, arith}
use Rattle.std.specs.Prelude.{Bool, true, false}
use Rattle.std.specs.Option.{option_and_then, option_map, option_or}
use Rattle.term_model.specs.Flat.{FlatValue, Meaning, flat_of, all_flat, with_flat, term_of}
use Rattle.term_model.specs.Term.{Tree, Trees, end, more, all_fit}
use Rattle.core_lang.specs.Building.{instance, instances, with_front}
use Rattle.core_lang.specs.Derivation.{called, Derives, by_id, by_fail, by_seq, by_seq_stop, by_choice_then, by_choice_else, by_choice_oversize, by_match, by_no_match, by_build, by_scope, by_all, by_one, by_some, by_definitions, by_call, by_call_stop, by_parameter, by_primitive, DerivesAll, all_end, all_next, all_stop, DerivesOne, one_end, one_found, one_stop, one_next, DerivesSome, some_end, some_none, some_found, some_stays, some_stop}
use Rattle.core_lang.specs.Ending.{Ending, arguments, answered, built, if_fits}
use Rattle.core_lang.specs.Environment.{Environment, outermost, layer, definitions, Bindings, Callee, closure, definition, Closures, no_closures, more_closures, Reading, handed_on, with_closure, closures_of, closure_at, definition_at}
use Rattle.core_lang.specs.Named.{Name, NamedDefinitions, NamedEnvironment, by_names, callee_named, definition_position, parameter_position, Rewrites}
use Rattle.core_lang.specs.Primitives.{OccursIn, OccursInAny, OccursInDefinitions, OccursInEnvironment, OccursInClosures, AnswerSame}
use Rattle.core_lang.specs.Program.{Patterns, no_patterns, more_patterns, patterns_count, Strategy, id, fail, seq, choice, match, build, scope, all, one, some, with_definitions, call, primitive, Strategies, no_strategies, more_strategies, strategies_count, Definitions, no_definitions, more_definitions}
use Rattle.core_lang.specs.Resolved.{here, ResolvedDefinitions, ResolvedEnvironment, by_coordinates, callee_in, layers_up, RewritesByCoordinates}

-- as many flat values as patterns
one_more : (v : Option FlatValue) (o : Option (List FlatValue)) (vs : List FlatValue) (n : ℕ) →
    with_flat v o ≡ Some vs → ((us : List FlatValue) → o ≡ Some us → length us ≡ n) → length vs ≡ 1 + n
one_more None o vs n is count = absurd (cc)
one_more (Some v) None vs n is count = absurd (cc)
one_more (Some v) (Some us) [] n is count = absurd (cc)
one_more (Some v) (Some us) (w ∷ ws) n is count = let same : us ≡ ws = cc in let many = count us refl in
    omega (arith, ap length same)

module _ {X : Type 0} (place : X → Option ℕ) (e : Bindings) where
  as_many : (ps : Patterns X) (ts : Trees) (vs : List FlatValue) → instances place ps e ≡ Some ts →
      all_flat ts ≡ Some vs → length vs ≡ patterns_count ps
  as_many no_patterns end [] is flat = refl
  as_many no_patterns end (v ∷ vs) is flat = absurd (cc)
  as_many no_patterns (more t ts) vs is flat = absurd (cc)
  as_many (more_patterns p ps) ts vs is flat =
      by (instance place p e) (instances place ps e) ts vs is flat (λ us ws. as_many ps us ws)
    where
      by : (o : Option Tree) (os : Option Trees) (ts : Trees) (vs : List FlatValue) → with_front o os ≡ Some ts →
          all_flat ts ≡ Some vs →
          ((us : Trees) (ws : List FlatValue) → os ≡ Some us → all_flat us ≡ Some ws → length ws ≡ patterns_count ps) →
          length vs ≡ 1 + patterns_count ps
      by None os ts vs is flat rest = absurd (cc)
      by (Some t) None ts vs is flat rest = absurd (cc)
      by (Some t) (Some us) end vs is flat rest = absurd (cc)
      by (Some t) (Some us) (more u ws) vs is flat rest = let same : us ≡ ws = cc in
          one_more (flat_of u) (all_flat ws) vs (patterns_count ps) flat (λ zs h. rest ws zs (ap (λ x. Some x) same) h)

  module _ (M N : Meaning) (f : List ℕ) (ps : Patterns X) (same : AnswerSame M N f (patterns_count ps)) where
    -- a primitive's answer to its arguments
    same_answered : (o : Option Trees) → instances place ps e ≡ o →
        answered (M f) (arguments o e) ≡ answered (N f) (arguments o e)
    same_answered None is = refl
    same_answered (Some ts) is = by_size (all_fit ts)
      where
        by_flat : (o : Option (List FlatValue)) → all_flat ts ≡ o → option_and_then (M f) o ≡ option_and_then (N f) o
        by_flat None flat = refl
        by_flat (Some vs) flat = same vs (as_many ps ts vs is flat)

        by_size : (b : Bool) → answered (M f) (if_fits b ts e) ≡ answered (N f) (if_fits b ts e)
        by_size true = ap (λ v. built (option_map term_of v) e) (by_flat (all_flat ts) refl)
        by_size false = refl

-- ---- what is found in an environment occurs in it

abbrev OccursInCallee : {X B : Type 0} → List ℕ → ℕ → Callee X B → Type 0
OccursInCallee f k (closure s V) = OccursIn f k s ⊎ OccursInEnvironment f k V
OccursInCallee f k (definition fs xs s V) = OccursIn f k s ⊎ OccursInEnvironment f k V

abbrev OccursInFound : {X B : Type 0} → List ℕ → ℕ → Option (Callee X B) → Type 0
OccursInFound f k None = ⊥
OccursInFound f k (Some c) = OccursInCallee f k c

-- the reading finds nothing that does not occur
record Finds {X B : Type 0} (R : Reading X B) : Type 0 where
  within : (f : List ℕ) (k : ℕ) (V : Environment X B) (x : X) (m j : ℕ) → OccursInFound f k (R.callee_of V x m j) →
      OccursInEnvironment f k V

one_further : {P Q R : Type 0} → P ⊎ Q → (R ⊎ P) ⊎ Q
one_further (inl h) = inl (inr h)
one_further (inr h) = inr h

in_own_layer : {P Q : Type 0} → P ⊎ (P ⊎ Q) → P ⊎ Q
in_own_layer (inl h) = inl h
in_own_layer (inr h) = h

module _ {X B : Type 0} (f : List ℕ) (k : ℕ) where
  closure_occurs : (cs : Closures X B) (i : ℕ) → OccursInFound f k (closure_at cs i) → OccursInClosures f k cs
  closure_occurs no_closures i h = absurd h
  closure_occurs (more_closures s V cs) zero (inl h) = inl h
  closure_occurs (more_closures s V cs) zero (inr h) = inr (inl h)
  closure_occurs (more_closures s V cs) (suc i) h = inr (inr (closure_occurs cs i h))

  definition_occurs : (ds : Definitions X B) (V : Environment X B) (i : ℕ) → OccursInFound f k (definition_at ds V i) →
      OccursInDefinitions f k ds ⊎ OccursInEnvironment f k V
  definition_occurs no_definitions V i h = absurd h
  definition_occurs (more_definitions g fs xs s ds) V zero (inl h) = inl (inl h)
  definition_occurs (more_definitions g fs xs s ds) V zero (inr h) = inr h
  definition_occurs (more_definitions g fs xs s ds) V (suc i) h = one_further (definition_occurs ds V i h)

  or_occurs : (a b : Option (Callee X B)) → OccursInFound f k (option_or a b) →
      OccursInFound f k a ⊎ OccursInFound f k b
  or_occurs None b h = inr h
  or_occurs (Some c) b h = inl h

  then_occurs : (at : ℕ → Option (Callee X B)) (o : Option ℕ) → OccursInFound f k (option_and_then at o) → (i : ℕ) ×
      OccursInFound f k (at i)
  then_occurs at None h = absurd h
  then_occurs at (Some i) h = (i, h)

module _ (f : List ℕ) (k : ℕ) where
  callee_occurs : (V : ResolvedEnvironment) (i : ℕ) → OccursInFound f k (callee_in V i) → OccursInEnvironment f k V
  callee_occurs outermost i h = absurd h
  callee_occurs (layer base m j cs V) i h = inl (closure_occurs f k cs i h)
  callee_occurs (definitions ds V) i h = in_own_layer (definition_occurs f k ds (definitions ds V) i h)

  up_occurs : (V : ResolvedEnvironment) (i : ℕ) → OccursInEnvironment f k (layers_up V i) → OccursInEnvironment f k V
  up_occurs V zero h = h
  up_occurs outermost (suc i) h = h
  up_occurs (layer base m j cs V) (suc i) h = inr (up_occurs V i h)
  up_occurs (definitions ds V) (suc i) h = inr (up_occurs V i h)

coordinates_find : Finds by_coordinates
coordinates_find = record {
  within =
      λ f k V x m j h. up_occurs f k V x.layers_up (callee_occurs f k (layers_up V x.layers_up) x.slot h);
}

module _ (f : List ℕ) (k : ℕ) (g : Name) (m j : ℕ) where
  layer_occurs : (fs : List Name) (cs : Closures Name (List Name)) (V : NamedEnvironment) →
      (OccursInFound f k (callee_named V g m j) → OccursInEnvironment f k V) →
      OccursInFound f k (option_and_then (closure_at cs) (parameter_position fs g m j)) ⊎
      OccursInFound f k (callee_named V g m j) → OccursInClosures f k cs ⊎ OccursInEnvironment f k V
  layer_occurs fs cs V outer (inl h) = let q = then_occurs f k (closure_at cs) (parameter_position fs g m j) h in
      inl (closure_occurs f k cs q.0 q.1)
  layer_occurs fs cs V outer (inr h) = inr (outer h)

  definitions_occur : (ds : NamedDefinitions) (V : NamedEnvironment) →
      (OccursInFound f k (callee_named V g m j) → OccursInEnvironment f k V) →
      OccursInFound f k (option_and_then (definition_at ds (definitions ds V)) (definition_position ds g m j)) ⊎
      OccursInFound f k (callee_named V g m j) →
      OccursInDefinitions f k ds ⊎ OccursInEnvironment f k V
  definitions_occur ds V outer (inl h) =
      let q = then_occurs f k (definition_at ds (definitions ds V)) (definition_position ds g m j) h in
      in_own_layer (definition_occurs f k ds (definitions ds V) q.0 q.1)
  definitions_occur ds V outer (inr h) = inr (outer h)

  named_occurs : (V : NamedEnvironment) → OccursInFound f k (callee_named V g m j) → OccursInEnvironment f k V
  named_occurs outermost h = absurd h
  named_occurs (layer base fs xs cs V) h =
      layer_occurs fs cs V (λ q. named_occurs V q)
      (or_occurs f k (option_and_then (closure_at cs) (parameter_position fs g m j)) (callee_named V g m j) h)
  named_occurs (definitions ds V) h =
      definitions_occur ds V (λ q. named_occurs V q)
      (or_occurs f k (option_and_then (definition_at ds (definitions ds V)) (definition_position ds g m j))
      (callee_named V g m j) h)

names_find : Finds by_names
names_find = record { within = λ f k V x m j h. named_occurs f k x m j V h }

-- ---- closures of arguments

module _ {X B : Type 0} (R : Reading X B) (finds : Finds R) (f : List ℕ) (k : ℕ) where
  handed_occurs : (c : Option (Callee X B)) (s : Strategy X B) (V : Environment X B) (cs : Closures X B) →
      OccursInClosures f k (handed_on R c s V cs) →
      OccursInFound f k c ⊎ (OccursIn f k s ⊎ (OccursInEnvironment f k V ⊎ OccursInClosures f k cs))
  handed_occurs None s V cs h = inr h
  handed_occurs (Some (closure r W)) s V cs (inl h) = inl (inl h)
  handed_occurs (Some (closure r W)) s V cs (inr (inl h)) = inl (inr h)
  handed_occurs (Some (closure r W)) s V cs (inr (inr h)) = inr (inr (inr h))
  handed_occurs (Some (definition fs xs r W)) s V cs h = inr h

  closure_of_occurs : (V : Environment X B) (s : Strategy X B) (cs : Closures X B) →
      OccursInClosures f k (with_closure R V s cs) →
      OccursIn f k s ⊎ (OccursInEnvironment f k V ⊎ OccursInClosures f k cs)
  closure_of_occurs V id cs h = h
  closure_of_occurs V fail cs h = h
  closure_of_occurs V (seq s1 s2) cs h = h
  closure_of_occurs V (choice s1 s2 s3) cs h = h
  closure_of_occurs V (match p) cs h = h
  closure_of_occurs V (build p) cs h = h
  closure_of_occurs V (scope xs s) cs h = h
  closure_of_occurs V (all s) cs h = h
  closure_of_occurs V (one s) cs h = h
  closure_of_occurs V (some s) cs h = h
  closure_of_occurs V (with_definitions ds s) cs h = h
  closure_of_occurs V (primitive g ps) cs h = h
  closure_of_occurs V (call g ss ps) cs h =
      let c = R.callee_of V g (strategies_count ss) (patterns_count ps) in
      by (λ q. finds.within f k V g (strategies_count ss) (patterns_count ps) q) (handed_occurs c (call g ss ps) V cs h)
    where
      by : {P Q S T : Type 0} → (P → Q) → P ⊎ (S ⊎ (Q ⊎ T)) → S ⊎ (Q ⊎ T)
      by there (inl q) = inr (inl (there q))
      by there (inr q) = q

  closures_occur : (V : Environment X B) (ss : Strategies X B) → OccursInClosures f k (closures_of R V ss) →
      OccursInAny f k ss ⊎ OccursInEnvironment f k V
  closures_occur V no_strategies h = absurd h
  closures_occur V (more_strategies s ss) h =
      by (λ q. closures_occur V ss q) (closure_of_occurs V s (closures_of R V ss) h)
    where
      last : OccursInAny f k ss ⊎ OccursInEnvironment f k V →
          (OccursIn f k s ⊎ OccursInAny f k ss) ⊎ OccursInEnvironment f k V
      last (inl q) = inl (inr q)
      last (inr q) = inr q

      by : (OccursInClosures f k (closures_of R V ss) → OccursInAny f k ss ⊎ OccursInEnvironment f k V) →
          OccursIn f k s ⊎ (OccursInEnvironment f k V ⊎ OccursInClosures f k (closures_of R V ss)) →
          (OccursIn f k s ⊎ OccursInAny f k ss) ⊎ OccursInEnvironment f k V
      by others (inl q) = inl (inl q)
      by others (inr (inl q)) = inr q
      by others (inr (inr q)) = last (others q)

-- ---- two meanings that answer the same at what occurs

module _ {X B : Type 0} (R : Reading X B) (finds : Finds R) (M N : Meaning) where
  record InStrategy (s : Strategy X B) : Type 0 where
    each : (f : List ℕ) (k : ℕ) → OccursIn f k s → AnswerSame M N f k

  record InEnvironment (V : Environment X B) : Type 0 where
    each : (f : List ℕ) (k : ℕ) → OccursInEnvironment f k V → AnswerSame M N f k

  first_in : {s r : Strategy X B} → InStrategy (seq s r) → InStrategy s
  first_in h = record { each = λ f k q. h.each f k (inl q) }

  second_in : {s r : Strategy X B} → InStrategy (seq s r) → InStrategy r
  second_in h = record { each = λ f k q. h.each f k (inr q) }

  guard_in : {s r q : Strategy X B} → InStrategy (choice s r q) → InStrategy s
  guard_in h = record { each = λ f k x. h.each f k (inl x) }

  then_in : {s r q : Strategy X B} → InStrategy (choice s r q) → InStrategy r
  then_in h = record { each = λ f k x. h.each f k (inr (inl x)) }

  else_in : {s r q : Strategy X B} → InStrategy (choice s r q) → InStrategy q
  else_in h = record { each = λ f k x. h.each f k (inr (inr x)) }

  scope_in : {xs : B} {s : Strategy X B} → InStrategy (scope xs s) → InStrategy s
  scope_in h = record { each = λ f k q. h.each f k q }

  all_in : {s : Strategy X B} → InStrategy (all s) → InStrategy s
  all_in h = record { each = λ f k q. h.each f k q }

  one_in : {s : Strategy X B} → InStrategy (one s) → InStrategy s
  one_in h = record { each = λ f k q. h.each f k q }

  some_in : {s : Strategy X B} → InStrategy (some s) → InStrategy s
  some_in h = record { each = λ f k q. h.each f k q }

  body_in : {ds : Definitions X B} {s : Strategy X B} → InStrategy (with_definitions ds s) → InStrategy s
  body_in h = record { each = λ f k q. h.each f k (inr q) }

  scope_layer : {base : ℕ} {fs xs : B} {V : Environment X B} → InEnvironment V →
      InEnvironment (layer base fs xs no_closures V)
  scope_layer {V = V} v = record { each = λ f k q. by f k q }
    where
      by : (f : List ℕ) (k : ℕ) → ⊥ ⊎ OccursInEnvironment f k V → AnswerSame M N f k
      by f k (inl q) = absurd q
      by f k (inr q) = v.each f k q

  let_layer : {ds : Definitions X B} {s : Strategy X B} {V : Environment X B} → InStrategy (with_definitions ds s) →
      InEnvironment V → InEnvironment (definitions ds V)
  let_layer {ds} {s} {V} h v = record { each = λ f k q. by f k q }
    where
      by : (f : List ℕ) (k : ℕ) → OccursInDefinitions f k ds ⊎ OccursInEnvironment f k V → AnswerSame M N f k
      by f k (inl q) = h.each f k (inl q)
      by f k (inr q) = v.each f k q

  module _ {V : Environment X B} {g : X} (ss : Strategies X B) (ps : Patterns X) (v : InEnvironment V) where
    found_in : {c : Callee X B} → called R V g ss ps ≡ Some c → (f : List ℕ) (k : ℕ) → OccursInCallee f k c →
        AnswerSame M N f k
    found_in {c} is f k q = v.each f k
        (finds.within f k V g (strategies_count ss) (patterns_count ps) (subst (λ o. OccursInFound f k o) (sym is) q))

    parameter_in : {W : Environment X B} {s : Strategy X B} → called R V g ss ps ≡ Some (closure s W) → InStrategy s
    parameter_in is = record { each = λ f k q. found_in is f k (inl q) }

    parameter_layer : {W : Environment X B} {s : Strategy X B} → called R V g ss ps ≡ Some (closure s W) →
        InEnvironment W
    parameter_layer is = record { each = λ f k q. found_in is f k (inr q) }

    module _ {W : Environment X B} {fs xs : B} {s : Strategy X B} (is : called R V g ss ps ≡
        Some (definition fs xs s W)) where
      definition_in : InStrategy s
      definition_in = record { each = λ f k q. found_in is f k (inl q) }

      call_layer : {base : ℕ} → InStrategy (call g ss ps) → InEnvironment (layer base fs xs (closures_of R V ss) W)
      call_layer h = record { each = λ f k q. by f k q }
        where
          argument : (f : List ℕ) (k : ℕ) → OccursInAny f k ss ⊎ OccursInEnvironment f k V → AnswerSame M N f k
          argument f k (inl q) = h.each f k q
          argument f k (inr q) = v.each f k q

          by : (f : List ℕ) (k : ℕ) → OccursInClosures f k (closures_of R V ss) ⊎ OccursInEnvironment f k W →
              AnswerSame M N f k
          by f k (inl q) = argument f k (closures_occur R finds f k V ss q)
          by f k (inr q) = found_in is f k (inr q)

  mutual
    changed : {V : Environment X B} {s : Strategy X B} {t : Tree} {e : Bindings} {o : Ending Tree} {n : ℕ} →
        Derives R M V s t e o n → InStrategy s → InEnvironment V → Derives R N V s t e o n
    changed by_id h v = by_id
    changed by_fail h v = by_fail
    changed (by_seq x y c) h v = by_seq (changed x (first_in h) v) (changed y (second_in h) v) c
    changed (by_seq_stop x c) h v = by_seq_stop (changed x (first_in h) v) c
    changed (by_choice_then x y c) h v = by_choice_then (changed x (guard_in h) v) (changed y (then_in h) v) c
    changed (by_choice_else x y c) h v = by_choice_else (changed x (guard_in h) v) (changed y (else_in h) v) c
    changed (by_choice_oversize x c) h v = by_choice_oversize (changed x (guard_in h) v) c
    changed (by_match m) h v = by_match m
    changed (by_no_match m) h v = by_no_match m
    changed (by_build is) h v = by_build is
    changed (by_scope x is c) h v = by_scope (changed x (scope_in h) (scope_layer v)) is c
    changed (by_all x is c) h v = by_all (changed_all x (all_in h) v) is c
    changed (by_one x is c) h v = by_one (changed_one x (one_in h) v) is c
    changed (by_some x is c) h v = by_some (changed_some x (some_in h) v) is c
    changed (by_definitions x c) h v = by_definitions (changed x (body_in h) (let_layer h v)) c
    changed (by_call {ss = ss} {ps = ps} is given x ends c) h v =
        by_call is given (changed x (definition_in ss ps v is) (call_layer ss ps v is h)) ends c
    changed (by_call_stop is given) h v = by_call_stop is given
    changed (by_parameter {ss = ss} {ps = ps} is x c) h v =
        by_parameter is (changed x (parameter_in ss ps v is) (parameter_layer ss ps v is)) c
    changed {V} {e = e} (by_primitive {f = f} {ps = ps} is) h v =
        by_primitive (is ∙ same_answered (R.place_of V) e M N f ps (h.each f (patterns_count ps) (refl, refl))
        (instances (R.place_of V) ps e) refl)

    changed_all : {V : Environment X B} {s : Strategy X B} {ts : Trees} {e : Bindings} {o : Ending Trees} {n : ℕ} →
        DerivesAll R M V s ts e o n → InStrategy s → InEnvironment V → DerivesAll R N V s ts e o n
    changed_all all_end h v = all_end
    changed_all (all_next x y is c) h v = all_next (changed x h v) (changed_all y h v) is c
    changed_all (all_stop x) h v = all_stop (changed x h v)

    changed_one : {V : Environment X B} {s : Strategy X B} {ts : Trees} {e : Bindings} {o : Ending Trees} {n : ℕ} →
        DerivesOne R M V s ts e o n → InStrategy s → InEnvironment V → DerivesOne R N V s ts e o n
    changed_one one_end h v = one_end
    changed_one (one_found x) h v = one_found (changed x h v)
    changed_one (one_stop x) h v = one_stop (changed x h v)
    changed_one (one_next x y is c) h v = one_next (changed x h v) (changed_one y h v) is c

    changed_some : {V : Environment X B} {s : Strategy X B} {ts : Trees} {e : Bindings} {found : Bool}
        {o : Ending Trees} {n : ℕ} →
        DerivesSome R M V s ts e found o n → InStrategy s → InEnvironment V → DerivesSome R N V s ts e found o n
    changed_some some_end h v = some_end
    changed_some some_none h v = some_none
    changed_some (some_found x y is c) h v = some_found (changed x h v) (changed_some y h v) is c
    changed_some (some_stays x y is c) h v = some_stays (changed x h v) (changed_some y h v) is c
    changed_some (some_stop x) h v = some_stop (changed x h v)

  -- a call without arguments, in the layer of definitions alone
  call_changed : (ds : Definitions X B) (main : X) {t : Tree} {o : Ending Tree} {n : ℕ} →
      ((f : List ℕ) (k : ℕ) → OccursInDefinitions f k ds → AnswerSame M N f k) →
      Derives R M (definitions ds outermost) (call main no_strategies no_patterns) t [] o n →
      Derives R N (definitions ds outermost) (call main no_strategies no_patterns) t [] o n
  call_changed ds main same x = changed x (record { each = λ f k q. absurd q }) (record { each = λ f k q. by f k q })
    where
      by : (f : List ℕ) (k : ℕ) → OccursInDefinitions f k ds ⊎ ⊥ → AnswerSame M N f k
      by f k (inl q) = same f k q
      by f k (inr q) = absurd q

pub same_turned : (M N : Meaning) (f : List ℕ) (k : ℕ) → AnswerSame M N f k → AnswerSame N M f k
same_turned M N f k same vs h = sym (same vs h)

module _ (M N : Meaning) where
  pub coordinates_changed : (C : ResolvedDefinitions) (i : ℕ) {t : Tree} {o : Ending Tree} {n : ℕ} →
      ((f : List ℕ) (k : ℕ) → OccursInDefinitions f k C → AnswerSame M N f k) →
      RewritesByCoordinates M C i t o n → RewritesByCoordinates N C i t o n
  coordinates_changed C i same x = call_changed by_coordinates coordinates_find M N C (here i) same x

  pub names_changed : (P : NamedDefinitions) (main : Name) {t : Tree} {o : Ending Tree} {n : ℕ} →
      ((f : List ℕ) (k : ℕ) → OccursInDefinitions f k P → AnswerSame M N f k) →
      Rewrites M P main t o n → Rewrites N P main t o n
  names_changed P main same x = call_changed by_names names_find M N P main same x
