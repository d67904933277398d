-- What is known of a strategy within a budget, from what is known of its parts: one law for each way that a row can go.
use Rattle.std.proofs.Common.{◌≡◌, ℕ, ◌+◌, ◌<◌, Some, None, length, ◌++◌, refl, sym, ◌∙◌, arith}
use Rattle.std.specs.Prelude.{Bool, true, false, List}
use Rattle.term_model.specs.Term.{Tree, Trees, end, more}
use Rattle.core_lang.specs.Program.{Pattern, Patterns, Strategy, id, fail, seq, choice, match, build, scope, all, one, some, with_definitions, call, primitive, Strategies, Definitions}
use Rattle.core_lang.specs.Environment.{Environment, layer, definitions, Bindings, no_closures, closure, definition, Reading, closures_of, empty_places, filled_places}
use Rattle.core_lang.specs.Matching.{Matches}
use Rattle.core_lang.specs.Building.{instance, instances}
use Rattle.term_model.specs.Flat.{Meaning}
use Rattle.core_lang.specs.Ending.{Ending, ok, failed, oversize, keeping, built, rebuilt, arguments, answered, Stop, stop}
use Rattle.core_lang.specs.Derivation.{called, parts, Derives, by_id, by_fail, by_seq, by_seq_stop, by_choice_then, by_choice_else, by_choice_oversize, by_match, by_no_match, by_build, by_scope, by_all, by_one, by_some, by_definitions, by_call, by_call_stop, by_parameter, by_primitive, DerivesAll, all_end, all_next, all_stop, DerivesOne, one_end, one_found, one_stop, one_next, DerivesSome, some_end, some_none, some_found, some_stays, some_stop}
use Rattle.core_lang.specs.Settled.{Verdict, ends, spent, Settled, settled, unsettled, AllSettled, all_settled, all_unsettled, OneSettled, one_settled, one_unsettled, SomeSettled, some_settled, some_unsettled, verdict_in_front}
use Rattle.core_lang.proofs.Unique.{unique, moved, moved_all, moved_some, moved_call, moved_closure, no_stop}

-- the endings of one strategy are those of another one, changed, by one node more
module _ {X B : Type 0} {R : Reading X B} {M : Meaning} {V W : Environment X B} {r s : Strategy X B} {t : Tree}
    {e f : Bindings} (g : Ending Tree → Ending Tree)
    (make : (o : Ending Tree) (n : ℕ) → Derives R M W s t f o n → Derives R M V r t e (g o) (1 + n))
    (only : (o : Ending Tree) (n : ℕ) → Derives R M V r t e o n → (p : Ending Tree) × (i : ℕ) ×
    Derives R M W s t f p i × (n ≡ 1 + i)) where
  around_ends : {o : Ending Tree} {b c : ℕ} → Settled R M W s t f b (ends o) c →
      Settled R M V r t e (1 + b) (ends (g o)) c
  around_ends (settled {n = n} x h) = settled (make _ n x) (omega arith)

  around_spent : {b c d : ℕ} → Settled R M W s t f b spent c → Settled R M V r t e (1 + b) spent d
  around_spent (unsettled lacks) = unsettled (λ o n x.
      let part = only o n x in
      let less = lacks part.0 part.1 part.2 in
      let count = part.3 in
      omega arith)

module _ {X B : Type 0} {R : Reading X B} {M : Meaning} where
  -- a derivation has a node
  pub has_node : {V : Environment X B} {s : Strategy X B} {t : Tree} {e : Bindings} {o : Ending Tree} {n : ℕ} →
      Derives R M V s t e o n → 0 < n
  has_node by_id = omega arith
  has_node by_fail = omega arith
  has_node (by_seq x y h) = omega arith
  has_node (by_seq_stop x h) = omega arith
  has_node (by_choice_then x y h) = omega arith
  has_node (by_choice_else x y h) = omega arith
  has_node (by_choice_oversize x h) = omega arith
  has_node (by_match m) = omega arith
  has_node (by_no_match m) = omega arith
  has_node (by_build h) = omega arith
  has_node (by_scope x h k) = omega arith
  has_node (by_all x h k) = omega arith
  has_node (by_one x h k) = omega arith
  has_node (by_some x h k) = omega arith
  has_node (by_definitions x h) = omega arith
  has_node (by_call f us x h k) = omega arith
  has_node (by_call_stop f us) = omega arith
  has_node (by_parameter f x h) = omega arith
  has_node (by_primitive h) = omega arith

  -- what is settled is the ending, and what is left is the budget without its nodes
  pub settled_is : {V : Environment X B} {s : Strategy X B} {t : Tree} {e : Bindings} {o p : Ending Tree} {b c n : ℕ} →
      Settled R M V s t e b (ends o) c → Derives R M V s t e p n → (o ≡ p) × (b ≡ n + c)
  settled_is (settled x h) y = let q = unique x y in let same = q.nodes in (q.outcome, omega arith)

  pub spent_is : {V : Environment X B} {s : Strategy X B} {t : Tree} {e : Bindings} {o : Ending Tree} {b c n : ℕ} →
      Settled R M V s t e b spent c → Derives R M V s t e o n → b < n
  spent_is (unsettled lacks) y = lacks _ _ y

  pub spent_at_zero : (V : Environment X B) (s : Strategy X B) (t : Tree) (e : Bindings) (c : ℕ) →
      Settled R M V s t e 0 spent c
  spent_at_zero V s t e c = unsettled (λ o n d. has_node d)

  -- rows without parts
  pub id_settled : (V : Environment X B) (t : Tree) (e : Bindings) (b : ℕ) →
      Settled R M V id t e (1 + b) (ends (ok t e)) b
  id_settled V t e b = settled by_id (omega arith)

  pub fail_settled : (V : Environment X B) (t : Tree) (e : Bindings) (b : ℕ) →
      Settled R M V fail t e (1 + b) (ends failed) b
  fail_settled V t e b = settled by_fail (omega arith)

  pub match_settled : (V : Environment X B) (p : Pattern X) (t : Tree) (e f : Bindings) (b : ℕ) →
      Matches (R.place_of V) p e t f →
      Settled R M V (match p) t e (1 + b) (ends (ok t f)) b
  match_settled V p t e f b m = settled (by_match m) (omega arith)

  pub no_match_settled : (V : Environment X B) (p : Pattern X) (t : Tree) (e : Bindings) (b : ℕ) →
      ((f : Bindings) → Matches (R.place_of V) p e t f → ⊥) →
      Settled R M V (match p) t e (1 + b) (ends failed) b
  no_match_settled V p t e b m = settled (by_no_match m) (omega arith)

  pub build_settled : (V : Environment X B) (p : Pattern X) (t : Tree) (e : Bindings) (b : ℕ) →
      Settled R M V (build p) t e (1 + b) (ends (built (instance (R.place_of V) p e) e)) b
  build_settled V p t e b = settled (by_build refl) (omega arith)

  pub primitive_settled : (V : Environment X B) (g : List ℕ) (ps : Patterns X) (t : Tree) (e : Bindings) (b : ℕ) →
      Settled R M V (primitive g ps) t e (1 + b) (ends (answered (M g) (arguments (instances (R.place_of V) ps e) e))) b
  primitive_settled V g ps t e b = settled (by_primitive refl) (omega arith)

  -- s1; s2
  module _ {V : Environment X B} {r s : Strategy X B} {t : Tree} {e : Bindings} where
    seq_beyond : {u : Tree} {f : Bindings} {b d i : ℕ} {o : Ending Tree} {n : ℕ} →
        Derives R M V r t e (ok u f) i → b ≡ i + d → ((o : Ending Tree) (n : ℕ) → Derives R M V s u f o n → d < n) →
        Derives R M V (seq r s) t e o n → 1 + b < n
    seq_beyond x h lacks (by_seq x' y' k) =
        let q = unique x x' in
        let less = lacks _ _ (moved q.outcome y') in
        let same = q.nodes in
        omega arith
    seq_beyond x h lacks (by_seq_stop x' k) = absurd (no_stop (unique x x').outcome)

    -- the first is ok: all depends on the second
    pub seq_goes_on : {u : Tree} {f : Bindings} {b d c : ℕ} {q : Verdict Tree} →
        Settled R M V r t e b (ends (ok u f)) d → Settled R M V s u f d q c → Settled R M V (seq r s) t e (1 + b) q c
    seq_goes_on (settled x h) (settled y k) = settled (by_seq x y refl) (omega arith)
    seq_goes_on (settled x h) (unsettled lacks) = unsettled (λ o n d. seq_beyond x h lacks d)

    pub seq_stops : {q : Stop} {b c : ℕ} → Settled R M V r t e b (ends (stop q)) c →
        Settled R M V (seq r s) t e (1 + b) (ends (stop q)) c
    seq_stops (settled x h) = settled (by_seq_stop x refl) (omega arith)

    seq_over : {b : ℕ} {o : Ending Tree} {n : ℕ} → ((o : Ending Tree) (n : ℕ) → Derives R M V r t e o n → b < n) →
        Derives R M V (seq r s) t e o n → 1 + b < n
    seq_over lacks (by_seq x y k) = let less = lacks _ _ x in omega arith
    seq_over lacks (by_seq_stop x k) = let less = lacks _ _ x in omega arith

    pub seq_spent : {b c d : ℕ} → Settled R M V r t e b spent c → Settled R M V (seq r s) t e (1 + b) spent d
    seq_spent (unsettled lacks) = unsettled (λ o n d. seq_over lacks d)

  -- s1 < s2 + s3
  module _ {V : Environment X B} {r s p : Strategy X B} {t : Tree} {e : Bindings} where
    then_beyond : {u : Tree} {f : Bindings} {b d i : ℕ} {o : Ending Tree} {n : ℕ} →
        Derives R M V r t e (ok u f) i → b ≡ i + d → ((o : Ending Tree) (n : ℕ) → Derives R M V s u f o n → d < n) →
        Derives R M V (choice r s p) t e o n → 1 + b < n
    then_beyond x h lacks (by_choice_then x' y' k) =
        let q = unique x x' in
        let less = lacks _ _ (moved q.outcome y') in
        let same = q.nodes in
        omega arith
    then_beyond x h lacks (by_choice_else x' y' k) = let q = (unique x x').outcome in cc
    then_beyond x h lacks (by_choice_oversize x' k) = let q = (unique x x').outcome in cc

    pub choice_then : {u : Tree} {f : Bindings} {b d c : ℕ} {q : Verdict Tree} →
        Settled R M V r t e b (ends (ok u f)) d → Settled R M V s u f d q c →
        Settled R M V (choice r s p) t e (1 + b) q c
    choice_then (settled x h) (settled y k) = settled (by_choice_then x y refl) (omega arith)
    choice_then (settled x h) (unsettled lacks) = unsettled (λ o n d. then_beyond x h lacks d)

    else_beyond : {b d i : ℕ} {o : Ending Tree} {n : ℕ} →
        Derives R M V r t e failed i → b ≡ i + d → ((o : Ending Tree) (n : ℕ) → Derives R M V p t e o n → d < n) →
        Derives R M V (choice r s p) t e o n → 1 + b < n
    else_beyond x h lacks (by_choice_then x' y' k) = let q = (unique x x').outcome in cc
    else_beyond x h lacks (by_choice_else x' y' k) =
        let q = unique x x' in
        let less = lacks _ _ y' in
        let same = q.nodes in
        omega arith
    else_beyond x h lacks (by_choice_oversize x' k) = let q = (unique x x').outcome in cc

    pub choice_else : {b d c : ℕ} {q : Verdict Tree} →
        Settled R M V r t e b (ends failed) d → Settled R M V p t e d q c → Settled R M V (choice r s p) t e (1 + b) q c
    choice_else (settled x h) (settled y k) = settled (by_choice_else x y refl) (omega arith)
    choice_else (settled x h) (unsettled lacks) = unsettled (λ o n d. else_beyond x h lacks d)

    pub choice_oversize : {b c : ℕ} → Settled R M V r t e b (ends oversize) c →
        Settled R M V (choice r s p) t e (1 + b) (ends oversize) c
    choice_oversize (settled x h) = settled (by_choice_oversize x refl) (omega arith)

    choice_over : {b : ℕ} {o : Ending Tree} {n : ℕ} → ((o : Ending Tree) (n : ℕ) → Derives R M V r t e o n → b < n) →
        Derives R M V (choice r s p) t e o n → 1 + b < n
    choice_over lacks (by_choice_then x' y' k) = let less = lacks _ _ x' in omega arith
    choice_over lacks (by_choice_else x' y' k) = let less = lacks _ _ x' in omega arith
    choice_over lacks (by_choice_oversize x' k) = let less = lacks _ _ x' in omega arith

    pub choice_spent : {b c d : ℕ} → Settled R M V r t e b spent c → Settled R M V (choice r s p) t e (1 + b) spent d
    choice_spent (unsettled lacks) = unsettled (λ o n d. choice_over lacks d)

  -- a scope
  module _ {V : Environment X B} {xs : B} {s : Strategy X B} {t : Tree} {e : Bindings} where
    scope_only : (o : Ending Tree) (n : ℕ) → Derives R M V (scope xs s) t e o n →
        (p : Ending Tree) × (i : ℕ) ×
        Derives R M (layer (length e) R.none xs no_closures V) s t (e ++ empty_places (R.count xs)) p i ×
        (n ≡ 1 + i)
    scope_only o n (by_scope {o1 = p} {n1 = i} x h c) = (p, i, x, c)

    pub scope_ends : {o : Ending Tree} {b c : ℕ} →
        Settled R M (layer (length e) R.none xs no_closures V) s t (e ++ empty_places (R.count xs)) b (ends o) c →
        Settled R M V (scope xs s) t e (1 + b) (ends (keeping (length e) o)) c
    scope_ends h = around_ends (keeping (length e)) (λ o n x. by_scope x refl refl) scope_only h

    pub scope_spent : {b c d : ℕ} →
        Settled R M (layer (length e) R.none xs no_closures V) s t (e ++ empty_places (R.count xs)) b spent c →
        Settled R M V (scope xs s) t e (1 + b) spent d
    scope_spent h = around_spent (keeping (length e)) (λ o n x. by_scope x refl refl) scope_only h

  -- definitions
  module _ {V : Environment X B} {ds : Definitions X B} {s : Strategy X B} {t : Tree} {e : Bindings} where
    definitions_only : (o : Ending Tree) (n : ℕ) → Derives R M V (with_definitions ds s) t e o n →
        (p : Ending Tree) × (i : ℕ) × Derives R M (definitions ds V) s t e p i × (n ≡ 1 + i)
    definitions_only o n (by_definitions {n1 = i} x c) = (o, i, x, c)

    pub definitions_ends : {o : Ending Tree} {b c : ℕ} → Settled R M (definitions ds V) s t e b (ends o) c →
        Settled R M V (with_definitions ds s) t e (1 + b) (ends o) c
    definitions_ends h = around_ends (λ o. o) (λ o n x. by_definitions x refl) definitions_only h

    pub definitions_spent : {b c d : ℕ} → Settled R M (definitions ds V) s t e b spent c →
        Settled R M V (with_definitions ds s) t e (1 + b) spent d
    definitions_spent h = around_spent (λ o. o) (λ o n x. by_definitions x refl) definitions_only h

  -- a call
  module _ {V : Environment X B} {g : X} {ss : Strategies X B} {ps : Patterns X} {t : Tree} {e : Bindings} where
    -- of nothing: there is no derivation
    no_callee : (o : Ending Tree) (n : ℕ) → called R V g ss ps ≡ None → Derives R M V (call g ss ps) t e o n → ⊥
    no_callee o n is (by_call is' us x h c) = let k = sym is ∙ is' in cc
    no_callee o n is (by_call_stop is' us) = let k = sym is ∙ is' in cc
    no_callee o n is (by_parameter is' x c) = let k = sym is ∙ is' in cc

    pub call_of_nothing : (b c : ℕ) → called R V g ss ps ≡ None → Settled R M V (call g ss ps) t e b spent c
    call_of_nothing b c is = unsettled (λ o n d. absurd (no_callee o n is d))

    -- of a definition, an argument of which can't be built
    pub call_stops : {W : Environment X B} {fs xs : B} {s : Strategy X B} {q : Stop} (b : ℕ) →
        called R V g ss ps ≡ Some (definition fs xs s W) →
        arguments (instances (R.place_of V) ps e) e ≡ stop q →
        Settled R M V (call g ss ps) t e (1 + b) (ends (stop q)) b
    call_stops b is us = settled (by_call_stop is us) (omega arith)

  module _ {V W : Environment X B} {g : X} {ss : Strategies X B} {ps : Patterns X} {fs xs : B} {s : Strategy X B}
      {ts : Trees} {t : Tree} {e : Bindings}
      (is : called R V g ss ps ≡ Some (definition fs xs s W))
      (given : arguments (instances (R.place_of V) ps e) e ≡ ok ts e) where
    call_only : (o : Ending Tree) (n : ℕ) → Derives R M V (call g ss ps) t e o n →
        (p : Ending Tree) × (i : ℕ) ×
        Derives R M (layer (length e) fs xs (closures_of R V ss) W) s t (e ++ filled_places ts) p i × (n ≡ 1 + i)
    call_only o n (by_call {o1 = p} {n1 = i} is' given' x h c) =
        (p, i, moved_call V ss t e (sym is ∙ is') (sym given ∙ given') x, c)
    call_only o n (by_call_stop is' given') = absurd (no_stop (sym given ∙ given'))
    call_only o n (by_parameter is' x c) = let k = sym is ∙ is' in cc

    pub call_ends : {o : Ending Tree} {b c : ℕ} →
        Settled R M (layer (length e) fs xs (closures_of R V ss) W) s t (e ++ filled_places ts) b (ends o) c →
        Settled R M V (call g ss ps) t e (1 + b) (ends (keeping (length e) o)) c
    call_ends h = around_ends (keeping (length e)) (λ o n x. by_call is given x refl refl) call_only h

    pub call_spent : {b c d : ℕ} →
        Settled R M (layer (length e) fs xs (closures_of R V ss) W) s t (e ++ filled_places ts) b spent c →
        Settled R M V (call g ss ps) t e (1 + b) spent d
    call_spent h = around_spent (keeping (length e)) (λ o n x. by_call is given x refl refl) call_only h

  module _ {V W : Environment X B} {g : X} {ss : Strategies X B} {ps : Patterns X} {s : Strategy X B} {t : Tree}
      {e : Bindings}
      (is : called R V g ss ps ≡ Some (closure s W)) where
    parameter_only : (o : Ending Tree) (n : ℕ) → Derives R M V (call g ss ps) t e o n → (p : Ending Tree) × (i : ℕ) ×
        Derives R M W s t e p i × (n ≡ 1 + i)
    parameter_only o n (by_call is' given' x h c) = let k = sym is ∙ is' in cc
    parameter_only o n (by_call_stop is' given') = let k = sym is ∙ is' in cc
    parameter_only o n (by_parameter {n1 = i} is' x c) = (o, i, moved_closure t e (sym is ∙ is') x, c)

    pub parameter_ends : {o : Ending Tree} {b c : ℕ} → Settled R M W s t e b (ends o) c →
        Settled R M V (call g ss ps) t e (1 + b) (ends o) c
    parameter_ends h = around_ends (λ o. o) (λ o n x. by_parameter is x refl) parameter_only h

    pub parameter_spent : {b c d : ℕ} → Settled R M W s t e b spent c → Settled R M V (call g ss ps) t e (1 + b) spent d
    parameter_spent h = around_spent (λ o. o) (λ o n x. by_parameter is x refl) parameter_only h

  -- all parts in turn
  pub all_at_end : (V : Environment X B) (s : Strategy X B) (e : Bindings) (b : ℕ) →
      AllSettled R M V s end e b (ends (ok end e)) b
  all_at_end V s e b = all_settled all_end (omega arith)

  module _ {V : Environment X B} {s : Strategy X B} {t : Tree} {ts : Trees} {e : Bindings} where
    next_beyond : {u : Tree} {f : Bindings} {b d i : ℕ} {r : Ending Trees} {n : ℕ} →
        Derives R M V s t e (ok u f) i → b ≡ i + d →
        ((r : Ending Trees) (n : ℕ) → DerivesAll R M V s ts f r n → d < n) →
        DerivesAll R M V s (more t ts) e r n → b < n
    next_beyond x h lacks (all_next x' y' k m) =
        let q = unique x x' in
        let less = lacks _ _ (moved_all q.outcome y') in
        let same = q.nodes in
        omega arith
    next_beyond x h lacks (all_stop x') = absurd (no_stop (unique x x').outcome)

    -- the first is ok: all depends on the others
    pub all_goes_on : {u : Tree} {f : Bindings} {b d c : ℕ} {r : Verdict Trees} →
        Settled R M V s t e b (ends (ok u f)) d → AllSettled R M V s ts f d r c →
        AllSettled R M V s (more t ts) e b (verdict_in_front u r) c
    all_goes_on (settled x h) (all_settled y k) = all_settled (all_next x y refl refl) (omega arith)
    all_goes_on (settled x h) (all_unsettled lacks) = all_unsettled (λ r n d. next_beyond x h lacks d)

    pub all_stops : {q : Stop} {b c : ℕ} → Settled R M V s t e b (ends (stop q)) c →
        AllSettled R M V s (more t ts) e b (ends (stop q)) c
    all_stops (settled x h) = all_settled (all_stop x) h

    all_over : {b : ℕ} {r : Ending Trees} {n : ℕ} → ((o : Ending Tree) (n : ℕ) → Derives R M V s t e o n → b < n) →
        DerivesAll R M V s (more t ts) e r n → b < n
    all_over lacks (all_next x y k m) = let less = lacks _ _ x in omega arith
    all_over lacks (all_stop x) = lacks _ _ x

    pub all_spends : {b c d : ℕ} → Settled R M V s t e b spent c → AllSettled R M V s (more t ts) e b spent d
    all_spends (unsettled lacks) = all_unsettled (λ r n d. all_over lacks d)

  module _ {V : Environment X B} {s : Strategy X B} {t : Tree} {e : Bindings} where
    pub all_rebuilt : {r : Ending Trees} {b c : ℕ} → AllSettled R M V s (parts t) e b (ends r) c →
        Settled R M V (all s) t e (1 + b) (ends (rebuilt t r)) c
    all_rebuilt (all_settled x h) = settled (by_all x refl refl) (omega arith)

    all_only : {b : ℕ} {o : Ending Tree} {n : ℕ} →
        ((r : Ending Trees) (n : ℕ) → DerivesAll R M V s (parts t) e r n → b < n) → Derives R M V (all s) t e o n →
        1 + b < n
    all_only lacks (by_all x h k) = let less = lacks _ _ x in omega arith

    pub all_spent : {b c d : ℕ} → AllSettled R M V s (parts t) e b spent c → Settled R M V (all s) t e (1 + b) spent d
    all_spent (all_unsettled lacks) = unsettled (λ o n d. all_only lacks d)

  -- one part
  pub one_at_end : (V : Environment X B) (s : Strategy X B) (e : Bindings) (b : ℕ) →
      OneSettled R M V s end e b (ends failed) b
  one_at_end V s e b = one_settled one_end (omega arith)

  module _ {V : Environment X B} {s : Strategy X B} {t : Tree} {ts : Trees} {e : Bindings} where
    pub one_finds : {u : Tree} {f : Bindings} {b c : ℕ} → Settled R M V s t e b (ends (ok u f)) c →
        OneSettled R M V s (more t ts) e b (ends (ok (more u ts) f)) c
    one_finds (settled x h) = one_settled (one_found x) h

    pub one_stops : {b c : ℕ} → Settled R M V s t e b (ends oversize) c →
        OneSettled R M V s (more t ts) e b (ends oversize) c
    one_stops (settled x h) = one_settled (one_stop x) h

    other_beyond : {b d i : ℕ} {r : Ending Trees} {n : ℕ} →
        Derives R M V s t e failed i → b ≡ i + d → ((r : Ending Trees) (n : ℕ) → DerivesOne R M V s ts e r n → d < n) →
        DerivesOne R M V s (more t ts) e r n → b < n
    other_beyond x h lacks (one_found x') = let q = (unique x x').outcome in cc
    other_beyond x h lacks (one_stop x') = let q = (unique x x').outcome in cc
    other_beyond x h lacks (one_next x' y' k m) =
        let q = unique x x' in
        let less = lacks _ _ y' in
        let same = q.nodes in
        omega arith

    -- the first fails: all depends on the others
    pub one_goes_on : {b d c : ℕ} {r : Verdict Trees} →
        Settled R M V s t e b (ends failed) d → OneSettled R M V s ts e d r c →
        OneSettled R M V s (more t ts) e b (verdict_in_front t r) c
    one_goes_on (settled x h) (one_settled y k) = one_settled (one_next x y refl refl) (omega arith)
    one_goes_on (settled x h) (one_unsettled lacks) = one_unsettled (λ r n d. other_beyond x h lacks d)

    one_over : {b : ℕ} {r : Ending Trees} {n : ℕ} → ((o : Ending Tree) (n : ℕ) → Derives R M V s t e o n → b < n) →
        DerivesOne R M V s (more t ts) e r n → b < n
    one_over lacks (one_found x) = lacks _ _ x
    one_over lacks (one_stop x) = lacks _ _ x
    one_over lacks (one_next x y k m) = let less = lacks _ _ x in omega arith

    pub one_spends : {b c d : ℕ} → Settled R M V s t e b spent c → OneSettled R M V s (more t ts) e b spent d
    one_spends (unsettled lacks) = one_unsettled (λ r n d. one_over lacks d)

  module _ {V : Environment X B} {s : Strategy X B} {t : Tree} {e : Bindings} where
    pub one_rebuilt : {r : Ending Trees} {b c : ℕ} → OneSettled R M V s (parts t) e b (ends r) c →
        Settled R M V (one s) t e (1 + b) (ends (rebuilt t r)) c
    one_rebuilt (one_settled x h) = settled (by_one x refl refl) (omega arith)

    one_only : {b : ℕ} {o : Ending Tree} {n : ℕ} →
        ((r : Ending Trees) (n : ℕ) → DerivesOne R M V s (parts t) e r n → b < n) → Derives R M V (one s) t e o n →
        1 + b < n
    one_only lacks (by_one x h k) = let less = lacks _ _ x in omega arith

    pub one_spent : {b c d : ℕ} → OneSettled R M V s (parts t) e b spent c → Settled R M V (one s) t e (1 + b) spent d
    one_spent (one_unsettled lacks) = unsettled (λ o n d. one_only lacks d)

  -- some parts
  pub some_at_end : (V : Environment X B) (s : Strategy X B) (e : Bindings) (b : ℕ) →
      SomeSettled R M V s end e true b (ends (ok end e)) b
  some_at_end V s e b = some_settled some_end (omega arith)

  pub some_at_none : (V : Environment X B) (s : Strategy X B) (e : Bindings) (b : ℕ) →
      SomeSettled R M V s end e false b (ends failed) b
  some_at_none V s e b = some_settled some_none (omega arith)

  module _ {V : Environment X B} {s : Strategy X B} {t : Tree} {ts : Trees} {e : Bindings} {found : Bool} where
    found_beyond : {u : Tree} {f : Bindings} {b d i : ℕ} {r : Ending Trees} {n : ℕ} →
        Derives R M V s t e (ok u f) i → b ≡ i + d →
        ((r : Ending Trees) (n : ℕ) → DerivesSome R M V s ts f true r n → d < n) →
        DerivesSome R M V s (more t ts) e found r n → b < n
    found_beyond x h lacks (some_found x' y' k m) =
        let q = unique x x' in
        let less = lacks _ _ (moved_some q.outcome y') in
        let same = q.nodes in
        omega arith
    found_beyond x h lacks (some_stays x' y' k m) = let q = (unique x x').outcome in cc
    found_beyond x h lacks (some_stop x') = let q = (unique x x').outcome in cc

    pub some_goes_on : {u : Tree} {f : Bindings} {b d c : ℕ} {r : Verdict Trees} →
        Settled R M V s t e b (ends (ok u f)) d → SomeSettled R M V s ts f true d r c →
        SomeSettled R M V s (more t ts) e found b (verdict_in_front u r) c
    some_goes_on (settled x h) (some_settled y k) = some_settled (some_found x y refl refl) (omega arith)
    some_goes_on (settled x h) (some_unsettled lacks) = some_unsettled (λ r n d. found_beyond x h lacks d)

    stays_beyond : {b d i : ℕ} {r : Ending Trees} {n : ℕ} →
        Derives R M V s t e failed i → b ≡ i + d →
        ((r : Ending Trees) (n : ℕ) → DerivesSome R M V s ts e found r n → d < n) →
        DerivesSome R M V s (more t ts) e found r n → b < n
    stays_beyond x h lacks (some_found x' y' k m) = let q = (unique x x').outcome in cc
    stays_beyond x h lacks (some_stays x' y' k m) =
        let q = unique x x' in
        let less = lacks _ _ y' in
        let same = q.nodes in
        omega arith
    stays_beyond x h lacks (some_stop x') = let q = (unique x x').outcome in cc

    -- the first fails and stays
    pub some_leaves : {b d c : ℕ} {r : Verdict Trees} →
        Settled R M V s t e b (ends failed) d → SomeSettled R M V s ts e found d r c →
        SomeSettled R M V s (more t ts) e found b (verdict_in_front t r) c
    some_leaves (settled x h) (some_settled y k) = some_settled (some_stays x y refl refl) (omega arith)
    some_leaves (settled x h) (some_unsettled lacks) = some_unsettled (λ r n d. stays_beyond x h lacks d)

    pub some_stops : {b c : ℕ} → Settled R M V s t e b (ends oversize) c →
        SomeSettled R M V s (more t ts) e found b (ends oversize) c
    some_stops (settled x h) = some_settled (some_stop x) h

    some_over : {b : ℕ} {r : Ending Trees} {n : ℕ} → ((o : Ending Tree) (n : ℕ) → Derives R M V s t e o n → b < n) →
        DerivesSome R M V s (more t ts) e found r n → b < n
    some_over lacks (some_found x y k m) = let less = lacks _ _ x in omega arith
    some_over lacks (some_stays x y k m) = let less = lacks _ _ x in omega arith
    some_over lacks (some_stop x) = lacks _ _ x

    pub some_spends : {b c d : ℕ} → Settled R M V s t e b spent c → SomeSettled R M V s (more t ts) e found b spent d
    some_spends (unsettled lacks) = some_unsettled (λ r n d. some_over lacks d)

  module _ {V : Environment X B} {s : Strategy X B} {t : Tree} {e : Bindings} where
    pub some_rebuilt : {r : Ending Trees} {b c : ℕ} → SomeSettled R M V s (parts t) e false b (ends r) c →
        Settled R M V (some s) t e (1 + b) (ends (rebuilt t r)) c
    some_rebuilt (some_settled x h) = settled (by_some x refl refl) (omega arith)

    some_only : {b : ℕ} {o : Ending Tree} {n : ℕ} →
        ((r : Ending Trees) (n : ℕ) → DerivesSome R M V s (parts t) e false r n → b < n) →
        Derives R M V (some s) t e o n → 1 + b < n
    some_only lacks (by_some x h k) = let less = lacks _ _ x in omega arith

    pub some_spent : {b c d : ℕ} → SomeSettled R M V s (parts t) e false b spent c →
        Settled R M V (some s) t e (1 + b) spent d
    some_spent (some_unsettled lacks) = unsettled (λ o n d. some_only lacks d)
