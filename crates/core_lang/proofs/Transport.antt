-- Where a program over coordinates is resolved from one over names, each derivation of the one is one of the other,
-- with the same ending and as many nodes.
use Rattle.std.proofs.Common.{◌≡◌, ℕ, Option, Some, List, [], ◌∷◌, ◌++◌, length, refl, sym, ◌∙◌, ap, arith, subst}
use Rattle.core_lang.specs.Named.{NamedStrategy, NamedStrategies, NamedDefinitions, NamedEnvironment, NamedClosures, NamedCallee, Name, by_names, place_named, callee_named, Rewrites}
use Rattle.core_lang.specs.Resolved.{ResolvedStrategy, ResolvedStrategies, ResolvedDefinitions, ResolvedEnvironment, ResolvedClosures, ResolvedCallee, by_coordinates, RewritesByCoordinates}
use Rattle.std.specs.Prelude.{Bool}
use Rattle.term_model.specs.Term.{Tree, Trees}
use Rattle.core_lang.specs.Program.{call, strategies_count, patterns_count}
use Rattle.core_lang.specs.Environment.{layer, no_closures, closure, definition, Bindings, handed_on, with_closure, closures_of, empty_places}
use Rattle.term_model.specs.Flat.{Meaning}
use Rattle.core_lang.specs.Ending.{Ending, built, arguments, answered}
use Rattle.core_lang.specs.Derivation.{Derives, by_id, by_fail, by_seq, by_seq_stop, by_choice_then, by_choice_else, by_choice_oversize, by_match, by_no_match, by_build, by_scope, by_all, by_one, by_some, by_definitions, by_call, by_call_stop, by_parameter, by_primitive, DerivesAll, all_end, all_next, all_stop, DerivesOne, one_end, one_found, one_stop, one_next, DerivesSome, some_end, some_none, some_found, some_stays, some_stop}
use Rattle.core_lang.specs.declared.coordinate.Coordinate.{Coordinate}
use Rattle.core_lang.specs.Resolution.{Scopes, names, callee_coordinate, to_no_patterns, Resolves, to_id, to_fail, to_seq, to_choice, to_match, to_build, to_scope, to_all, to_one, to_some, to_definitions, to_call, to_primitive, ResolvesStrategies, to_no_strategies, to_more_strategies, ResolvesProgram}
use Rattle.core_lang.specs.Agreement.{scopes_of, Agree, agree_outermost, agree_layer, agree_definitions, AgreeClosures, agree_no_closures, agree_more_closures}
use Rattle.core_lang.proofs.PatternTransport.{matches_to, matches_from, instance_same, instances_same}
use Rattle.core_lang.proofs.LookupLaws.{AgreeCallee, agree_closure, agree_definition, Found, found_nowhere, found_at, callee_from, callee_found, place_from, same_place}

-- what is found at a place
found_there : {m : ℕ} {at : Coordinate →
    Option ResolvedCallee} {o : Option Coordinate} {c : Option NamedCallee} {y : Coordinate} → Found m at o c →
    o ≡ Some y →
    (b : NamedCallee) × (c ≡ Some b) × AgreeCallee m b (at y)
found_there found_nowhere h = absurd (cc)
found_there {m} {at} {y = y} (found_at {y = z} {c = c} g) h = let q : z ≡ y = cc in
    (c, refl, subst (λ z. AgreeCallee m c (at z)) q g)

callee_agrees : {V : NamedEnvironment} {W : ResolvedEnvironment} {y : Coordinate} (f : Name) (m k : ℕ) → Agree V W →
    callee_coordinate (scopes_of V) f m k ≡ Some y →
    (b : NamedCallee) × (callee_named V f m k ≡ Some b) × AgreeCallee m b (callee_from W y)
callee_agrees f m k a h = found_there (callee_found a f m k) h

-- the callee of the one, from that of the other
callee_to : {V : NamedEnvironment} {W : ResolvedEnvironment} {y : Coordinate} {b : NamedCallee} (f : Name) (m k : ℕ) →
    Agree V W → callee_coordinate (scopes_of V) f m k ≡ Some y →
    callee_named V f m k ≡ Some b → AgreeCallee m b (callee_from W y)
callee_to {W = W} {y = y} {b = b} f m k a h is = let q = callee_agrees f m k a h in let same : q.0 ≡ b = cc (q.1, is) in
    subst (λ c. AgreeCallee m c (callee_from W y)) same q.2

callee_back : {V : NamedEnvironment} {W : ResolvedEnvironment} {y : Coordinate} {v : Option ResolvedCallee} (f : Name)
    (m k : ℕ) → Agree V W → callee_coordinate (scopes_of V) f m k ≡ Some y →
    callee_from W y ≡ v → (b : NamedCallee) × (callee_named V f m k ≡ Some b) × AgreeCallee m b v
callee_back f m k a h is = let q = callee_agrees f m k a h in (q.0, q.1, subst (λ c. AgreeCallee m q.0 c) is q.2)

record DefinitionTo (m : ℕ) (fs xs : List Name) (s : NamedStrategy) (V : NamedEnvironment)
    (v : Option ResolvedCallee) : Type 0 where
  strategies : ℕ
  terms : ℕ
  body : ResolvedStrategy
  env : ResolvedEnvironment
  is : v ≡ Some (definition strategies terms body env)
  closures : length fs ≡ m
  places : terms ≡ length xs
  resolves : Resolves (names fs xs (scopes_of V)) s body
  agree : Agree V env

definition_to : {m : ℕ} {fs xs : List Name} {s : NamedStrategy} {V : NamedEnvironment} {v : Option ResolvedCallee} →
    AgreeCallee m (definition fs xs s V) v → DefinitionTo m fs xs s V v
definition_to (agree_definition {j = j} {k = k} {t = t} {W = W} h k' r a) =
    record {
      strategies = j;
      terms = k;
      body = t;
      env = W;
      is = refl;
      closures = h;
      places = k';
      resolves = r;
      agree =
          a;
    }

record DefinitionFrom (m j k : ℕ) (t : ResolvedStrategy) (W : ResolvedEnvironment) (c : NamedCallee) : Type 0 where
  strategies : List Name
  terms : List Name
  body : NamedStrategy
  env : NamedEnvironment
  is : c ≡ definition strategies terms body env
  closures : length strategies ≡ m
  places : k ≡ length terms
  resolves : Resolves (names strategies terms (scopes_of env)) body t
  agree : Agree env W

definition_from : {m j k : ℕ} {t : ResolvedStrategy} {W : ResolvedEnvironment} {c : NamedCallee} →
    AgreeCallee m c (Some (definition j k t W)) → DefinitionFrom m j k t W c
definition_from (agree_definition {fs = fs} {xs = xs} {s = s} {V = V} h k' r a) =
    record {
      strategies = fs;
      terms = xs;
      body = s;
      env = V;
      is = refl;
      closures = h;
      places = k';
      resolves = r;
      agree =
          a;
    }

closure_to : {m : ℕ} {s : NamedStrategy} {V : NamedEnvironment} {v : Option ResolvedCallee} →
    AgreeCallee m (closure s V) v →
    (t : ResolvedStrategy) × (W : ResolvedEnvironment) × (v ≡ Some (closure t W)) × Resolves (scopes_of V) s t ×
    Agree V W
closure_to (agree_closure {t = t} {W = W} r a) = (t, W, refl, r, a)

closure_from : {m : ℕ} {t : ResolvedStrategy} {W : ResolvedEnvironment} {c : NamedCallee} →
    AgreeCallee m c (Some (closure t W)) →
    (s : NamedStrategy) × (V : NamedEnvironment) × (c ≡ closure s V) × Resolves (scopes_of V) s t × Agree V W
closure_from (agree_closure {s = s} {V = V} r a) = (s, V, refl, r, a)

-- the closures of arguments
handed : {m : ℕ} {g : Name} {fs : List Name} {s : NamedStrategy} {t : ResolvedStrategy} {V : NamedEnvironment}
    {W : ResolvedEnvironment} {cs : NamedClosures} {ds : ResolvedClosures} {c : NamedCallee}
    {v : Option ResolvedCallee} →
    AgreeCallee m c v → Resolves (scopes_of V) s t → Agree V W → AgreeClosures fs cs ds →
    AgreeClosures (g ∷ fs) (handed_on by_names (Some c) s V cs) (handed_on by_coordinates v t W ds)
handed (agree_closure q b) r a rest = agree_more_closures q b rest
handed (agree_definition h k q b) r a rest = agree_more_closures r a rest

one_closure : {S : Scopes} {g : Name} {fs : List Name} {s : NamedStrategy} {t : ResolvedStrategy} {V : NamedEnvironment}
    {W : ResolvedEnvironment} {cs : NamedClosures} {ds : ResolvedClosures} →
    Resolves S s t → S ≡ scopes_of V → Resolves (scopes_of V) s t → Agree V W → AgreeClosures fs cs ds →
    AgreeClosures (g ∷ fs) (with_closure by_names V s cs) (with_closure by_coordinates W t ds)
one_closure to_id e r a rest = agree_more_closures r a rest
one_closure to_fail e r a rest = agree_more_closures r a rest
one_closure (to_seq _ _) e r a rest = agree_more_closures r a rest
one_closure (to_choice _ _ _) e r a rest = agree_more_closures r a rest
one_closure (to_match _) e r a rest = agree_more_closures r a rest
one_closure (to_build _) e r a rest = agree_more_closures r a rest
one_closure (to_scope _ _) e r a rest = agree_more_closures r a rest
one_closure (to_all _) e r a rest = agree_more_closures r a rest
one_closure (to_one _) e r a rest = agree_more_closures r a rest
one_closure (to_some _) e r a rest = agree_more_closures r a rest
one_closure (to_definitions _ _) e r a rest = agree_more_closures r a rest
one_closure (to_primitive _) e r a rest = agree_more_closures r a rest
one_closure {g = g} {fs = fs} {V = V} {W = W} {cs = cs} {ds =
    ds} (to_call {f = f} {y = y} {ss = ss} {zs = ts} {ps = ps} {qs = qs} h _ _) e r a rest =
    let at : callee_coordinate (scopes_of V) f (strategies_count ss) (patterns_count ps) ≡ Some y =
    subst (λ Z. callee_coordinate Z f (strategies_count ss) (patterns_count ps) ≡ Some y) e h in
    let q = callee_agrees f (strategies_count ss) (patterns_count ps) a at in
    subst (λ c. AgreeClosures (g ∷ fs) (handed_on by_names c (call f ss ps) V cs)
    (handed_on by_coordinates (callee_from W y) (call y ts qs) W ds)) (sym q.1) (handed q.2 r a rest)

closures_agree : {S : Scopes} {ss : NamedStrategies} {ts : ResolvedStrategies} {V : NamedEnvironment}
    {W : ResolvedEnvironment} → ResolvesStrategies S ss ts → S ≡ scopes_of V → Agree V W →
    (fs : List Name) → length fs ≡ strategies_count ss →
    AgreeClosures fs (closures_of by_names V ss) (closures_of by_coordinates W ts)
closures_agree to_no_strategies e a [] h = agree_no_closures
closures_agree to_no_strategies e a (g ∷ fs) h = absurd (omega arith)
closures_agree (to_more_strategies r rs) e a [] h = absurd (omega arith)
closures_agree {V = V} (to_more_strategies {s = s} {z = t} r rs) e a (g ∷ fs) h =
    one_closure r e (subst (λ Z. Resolves Z s t) e r) a (closures_agree rs e a fs (omega arith))

module _ {M : Meaning} where
  mutual
    pub carried : {V : NamedEnvironment} {W : ResolvedEnvironment} {s : NamedStrategy} {z : ResolvedStrategy} {t : Tree}
        {e : Bindings} {o : Ending Tree} {n : ℕ} →
        Derives by_names M V s t e o n → Resolves (scopes_of V) s z → Agree V W → Derives by_coordinates M W z t e o n
    carried by_id to_id a = by_id
    carried by_fail to_fail a = by_fail
    carried (by_seq x y h) (to_seq r s) a = by_seq (carried x r a) (carried y s a) h
    carried (by_seq_stop x h) (to_seq r s) a = by_seq_stop (carried x r a) h
    carried (by_choice_then x y h) (to_choice r s q) a = by_choice_then (carried x r a) (carried y s a) h
    carried (by_choice_else x y h) (to_choice r s q) a = by_choice_else (carried x r a) (carried y q a) h
    carried (by_choice_oversize x h) (to_choice r s q) a = by_choice_oversize (carried x r a) h
    carried {V} {W} (by_match m) (to_match r) a =
        by_match (matches_to (scopes_of V) (place_named V) (place_from W) (same_place a) r m)
    carried {V} {W} (by_no_match m) (to_match r) a =
        by_no_match (λ f k. m f (matches_from (scopes_of V) (place_named V) (place_from W) (same_place a) r k))
    carried {V} {W} {e = e} (by_build h) (to_build r) a =
        by_build (h ∙ (ap (λ v. built v e)
        (instance_same (scopes_of V) (place_named V) (place_from W) (same_place a) r e)))
    carried {W = W} {t = t} {e =
        e} (by_scope {xs = xs} {o1 = p} {n1 = i} x h k) (to_scope {k = m} {z = body} size r) a =
        let inner = carried x r (agree_layer {m = 0} size agree_no_closures a) in
        by_scope (subst (λ z. Derives by_coordinates M (layer (length e) 0 m no_closures W) body t (e ++ empty_places z)
        p i) (sym size) inner) h k
    carried (by_all x h k) (to_all r) a = by_all (carried_all x r a) h k
    carried (by_one x h k) (to_one r) a = by_one (carried_one x r a) h k
    carried (by_some x h k) (to_some r) a = by_some (carried_some x r a) h k
    carried (by_definitions x h) (to_definitions rs r) a = by_definitions (carried x r (agree_definitions rs a)) h
    carried {V} {W} {e = e} (by_call {fs = fs} is given x h k) (to_call {f = g} {ss = ss} {ps = vs} at rs ps) a =
        let q = definition_to (callee_to g (strategies_count ss) (patterns_count vs) a at is) in
        by_call q.is (ap (λ v. arguments v e)
        (sym (instances_same (scopes_of V) (place_named V) (place_from W) (same_place a) ps e)) ∙ given)
        (carried x q.resolves (agree_layer q.places (closures_agree rs refl a fs q.closures) q.agree)) h k
    carried {V} {W} {e = e} (by_call_stop is given) (to_call {f = g} {ss = ss} {ps = vs} at rs ps) a =
        let q = definition_to (callee_to g (strategies_count ss) (patterns_count vs) a at is) in
        by_call_stop q.is (ap (λ v. arguments v e)
        (sym (instances_same (scopes_of V) (place_named V) (place_from W) (same_place a) ps e)) ∙ given)
    carried (by_parameter is x h) (to_call {f = g} {ss = ss} {ps = vs} at rs ps) a =
        let q = closure_to (callee_to g (strategies_count ss) (patterns_count vs) a at is) in
        by_parameter q.2 (carried x q.3 q.4) h
    carried {V} {W} {e = e} (by_primitive {f = g} h) (to_primitive rs) a =
        by_primitive (h ∙ (ap (λ v. answered (M g) (arguments v e))
        (instances_same (scopes_of V) (place_named V) (place_from W) (same_place a) rs e)))

    carried_all : {V : NamedEnvironment} {W : ResolvedEnvironment} {s : NamedStrategy} {z : ResolvedStrategy}
        {ts : Trees} {e : Bindings} {o : Ending Trees} {n : ℕ} →
        DerivesAll by_names M V s ts e o n → Resolves (scopes_of V) s z → Agree V W →
        DerivesAll by_coordinates M W z ts e o n
    carried_all all_end r a = all_end
    carried_all (all_next x y h k) r a = all_next (carried x r a) (carried_all y r a) h k
    carried_all (all_stop x) r a = all_stop (carried x r a)

    carried_one : {V : NamedEnvironment} {W : ResolvedEnvironment} {s : NamedStrategy} {z : ResolvedStrategy}
        {ts : Trees} {e : Bindings} {o : Ending Trees} {n : ℕ} →
        DerivesOne by_names M V s ts e o n → Resolves (scopes_of V) s z → Agree V W →
        DerivesOne by_coordinates M W z ts e o n
    carried_one one_end r a = one_end
    carried_one (one_found x) r a = one_found (carried x r a)
    carried_one (one_stop x) r a = one_stop (carried x r a)
    carried_one (one_next x y h k) r a = one_next (carried x r a) (carried_one y r a) h k

    carried_some : {V : NamedEnvironment} {W : ResolvedEnvironment} {s : NamedStrategy} {z : ResolvedStrategy}
        {ts : Trees} {e : Bindings} {found : Bool} {o : Ending Trees} {n : ℕ} →
        DerivesSome by_names M V s ts e found o n → Resolves (scopes_of V) s z → Agree V W →
        DerivesSome by_coordinates M W z ts e found o n
    carried_some some_end r a = some_end
    carried_some some_none r a = some_none
    carried_some (some_found x y h k) r a = some_found (carried x r a) (carried_some y r a) h k
    carried_some (some_stays x y h k) r a = some_stays (carried x r a) (carried_some y r a) h k
    carried_some (some_stop x) r a = some_stop (carried x r a)

  mutual
    pub returned : {V : NamedEnvironment} {W : ResolvedEnvironment} {s : NamedStrategy} {z : ResolvedStrategy}
        {t : Tree} {e : Bindings} {o : Ending Tree} {n : ℕ} →
        Derives by_coordinates M W z t e o n → Resolves (scopes_of V) s z → Agree V W → Derives by_names M V s t e o n
    returned by_id to_id a = by_id
    returned by_fail to_fail a = by_fail
    returned (by_seq x y h) (to_seq r s) a = by_seq (returned x r a) (returned y s a) h
    returned (by_seq_stop x h) (to_seq r s) a = by_seq_stop (returned x r a) h
    returned (by_choice_then x y h) (to_choice r s q) a = by_choice_then (returned x r a) (returned y s a) h
    returned (by_choice_else x y h) (to_choice r s q) a = by_choice_else (returned x r a) (returned y q a) h
    returned (by_choice_oversize x h) (to_choice r s q) a = by_choice_oversize (returned x r a) h
    returned {V} {W} (by_match m) (to_match r) a =
        by_match (matches_from (scopes_of V) (place_named V) (place_from W) (same_place a) r m)
    returned {V} {W} (by_no_match m) (to_match r) a =
        by_no_match (λ f k. m f (matches_to (scopes_of V) (place_named V) (place_from W) (same_place a) r k))
    returned {V} {W} {e = e} (by_build h) (to_build r) a =
        by_build (h ∙ sym (ap (λ v. built v e)
        (instance_same (scopes_of V) (place_named V) (place_from W) (same_place a) r e)))
    returned {V} {W} {t = t} {e = e} (by_scope {o1 = p} {n1 = i} x h k) (to_scope {xs = xs} {s = s} size r) a =
        let inner = returned x r (agree_layer {m = 0} size agree_no_closures a) in
        by_scope (subst (λ z. Derives by_names M (layer (length e) [] xs no_closures V) s t (e ++ empty_places z) p i)
        size inner) h k
    returned (by_all x h k) (to_all r) a = by_all (returned_all x r a) h k
    returned (by_one x h k) (to_one r) a = by_one (returned_one x r a) h k
    returned (by_some x h k) (to_some r) a = by_some (returned_some x r a) h k
    returned (by_definitions x h) (to_definitions rs r) a = by_definitions (returned x r (agree_definitions rs a)) h
    returned {V} {W} {e = e} (by_call is given x h k) (to_call {f = g} {ss = ss} {ps = vs} at rs ps) a =
        let b = callee_back g (strategies_count ss) (patterns_count vs) a at is in
        let q = definition_from b.2 in
        by_call (b.1 ∙ ap (λ c. Some c) q.is)
        (ap (λ v. arguments v e) (instances_same (scopes_of V) (place_named V) (place_from W) (same_place a) ps e) ∙
        given)
        (returned x q.resolves (agree_layer q.places (closures_agree rs refl a q.strategies q.closures) q.agree)) h k
    returned {V} {W} {e = e} (by_call_stop is given) (to_call {f = g} {ss = ss} {ps = vs} at rs ps) a =
        let b = callee_back g (strategies_count ss) (patterns_count vs) a at is in
        let q = definition_from b.2 in
        by_call_stop (b.1 ∙ ap (λ c. Some c) q.is)
        (ap (λ v. arguments v e) (instances_same (scopes_of V) (place_named V) (place_from W) (same_place a) ps e) ∙
        given)
    returned (by_parameter is x h) (to_call {f = g} {ss = ss} {ps = vs} at rs ps) a =
        let b = callee_back g (strategies_count ss) (patterns_count vs) a at is in
        let q = closure_from b.2 in
        by_parameter (b.1 ∙ ap (λ c. Some c) q.2) (returned x q.3 q.4) h
    returned {V} {W} {e = e} (by_primitive {f = g} h) (to_primitive rs) a =
        by_primitive (h ∙ sym (ap (λ v. answered (M g) (arguments v e))
        (instances_same (scopes_of V) (place_named V) (place_from W) (same_place a) rs e)))

    returned_all : {V : NamedEnvironment} {W : ResolvedEnvironment} {s : NamedStrategy} {z : ResolvedStrategy}
        {ts : Trees} {e : Bindings} {o : Ending Trees} {n : ℕ} →
        DerivesAll by_coordinates M W z ts e o n → Resolves (scopes_of V) s z → Agree V W →
        DerivesAll by_names M V s ts e o n
    returned_all all_end r a = all_end
    returned_all (all_next x y h k) r a = all_next (returned x r a) (returned_all y r a) h k
    returned_all (all_stop x) r a = all_stop (returned x r a)

    returned_one : {V : NamedEnvironment} {W : ResolvedEnvironment} {s : NamedStrategy} {z : ResolvedStrategy}
        {ts : Trees} {e : Bindings} {o : Ending Trees} {n : ℕ} →
        DerivesOne by_coordinates M W z ts e o n → Resolves (scopes_of V) s z → Agree V W →
        DerivesOne by_names M V s ts e o n
    returned_one one_end r a = one_end
    returned_one (one_found x) r a = one_found (returned x r a)
    returned_one (one_stop x) r a = one_stop (returned x r a)
    returned_one (one_next x y h k) r a = one_next (returned x r a) (returned_one y r a) h k

    returned_some : {V : NamedEnvironment} {W : ResolvedEnvironment} {s : NamedStrategy} {z : ResolvedStrategy}
        {ts : Trees} {e : Bindings} {found : Bool} {o : Ending Trees} {n : ℕ} →
        DerivesSome by_coordinates M W z ts e found o n → Resolves (scopes_of V) s z → Agree V W →
        DerivesSome by_names M V s ts e found o n
    returned_some some_end r a = some_end
    returned_some some_none r a = some_none
    returned_some (some_found x y h k) r a = some_found (returned x r a) (returned_some y r a) h k
    returned_some (some_stays x y h k) r a = some_stays (returned x r a) (returned_some y r a) h k
    returned_some (some_stop x) r a = some_stop (returned x r a)

  -- the call of a program's main
  pub rewrites_to : {P : NamedDefinitions} {C : ResolvedDefinitions} {main : Name} {i : ℕ} {t : Tree} {o : Ending Tree}
      {n : ℕ} →
      ResolvesProgram P main C i → Rewrites M P main t o n → RewritesByCoordinates M C i t o n
  rewrites_to rs x = carried x (to_call rs.called to_no_strategies to_no_patterns)
      (agree_definitions rs.each agree_outermost)

  pub rewrites_from : {P : NamedDefinitions} {C : ResolvedDefinitions} {main : Name} {i : ℕ} {t : Tree}
      {o : Ending Tree} {n : ℕ} →
      ResolvesProgram P main C i → RewritesByCoordinates M C i t o n → Rewrites M P main t o n
  rewrites_from rs x = returned x (to_call rs.called to_no_strategies to_no_patterns)
      (agree_definitions rs.each agree_outermost)
