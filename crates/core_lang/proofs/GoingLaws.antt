-- Every strategy goes some way within every budget, and as far as is settled.
use Rattle.std.proofs.Common.{◌≡◌, ℕ, zero, suc, ◌+◌, ◌≤◌, ◌⊎◌, inl, inr, Option, Some, None, length, ◌++◌, refl, arith, subst}
use Rattle.std.specs.Prelude.{Bool, true, false}
use Rattle.std.proofs.Math.Numerals.{one-add}
use Rattle.term_model.specs.Term.{Tree, Trees, end, more, all_fit}
use Rattle.core_lang.specs.Program.{Patterns, Strategy, id, fail, seq, choice, match, build, scope, all, one, some, with_definitions, call, primitive, Strategies, Definitions}
use Rattle.core_lang.specs.Environment.{Environment, layer, definitions, Bindings, no_closures, Callee, closure, definition, Reading, closures_of, empty_places, filled_places}
use Rattle.core_lang.specs.Building.{instances}
use Rattle.term_model.specs.Flat.{Meaning}
use Rattle.core_lang.specs.Ending.{Ending, ok, Stop, failure, excess, stop, keeping, rebuilt, if_fits, arguments}
use Rattle.core_lang.specs.Derivation.{called, parts}
use Rattle.core_lang.specs.Settled.{Verdict, ends, spent, Settled, settled, AllSettled, OneSettled, SomeSettled}
use Rattle.core_lang.proofs.TriedLaws.{match_decided}
use Rattle.core_lang.proofs.SettledLaws.{spent_at_zero, id_settled, fail_settled, match_settled, no_match_settled, build_settled, primitive_settled, seq_goes_on, seq_stops, seq_spent, choice_then, choice_else, choice_oversize, choice_spent, scope_ends, scope_spent, definitions_ends, definitions_spent, call_of_nothing, call_stops, call_ends, call_spent, parameter_ends, parameter_spent, all_at_end, all_goes_on, all_stops, all_spends, all_rebuilt, all_spent, one_at_end, one_finds, one_stops, one_goes_on, one_spends, one_rebuilt, one_spent, some_at_end, some_at_none, some_goes_on, some_leaves, some_stops, some_spends, some_rebuilt, some_spent}
use Rattle.core_lang.specs.Going.{IsEnd, IsHalt, row_ended, with_ending, Goes, go_spent, go_id, go_fail, go_seq, go_seq_end, go_then, go_else, go_choice_halt, go_match, go_no_match, go_build, go_scope, go_all, go_one, go_some, go_let, go_call, go_call_stop, go_parameter, go_nowhere, go_primitive, GoesAll, go_all_end, go_all_next, go_all_stop, GoesOne, go_one_end, go_one_found, go_one_halt, go_one_next, GoesSome, go_some_end, go_some_none, go_some_found, go_some_stays, go_some_halt}

-- what goes some way is settled
module _ {X B : Type 0} {R : Reading X B} {M : Meaning} where
  one_more : {V : Environment X B} {s : Strategy X B} {t : Tree} {e : Bindings} {b c : ℕ} {q : Verdict Tree} →
      Settled R M V s t e (1 + b) q c → Settled R M V s t e (suc b) q c
  one_more {V} {s} {t} {e} {b} {c} {q} h = subst (λ d. Settled R M V s t e d q c) (one-add b) h

  seq_end_settled : {V : Environment X B} {r s : Strategy X B} {t : Tree} {e : Bindings} (b : ℕ)
      {c : ℕ} (q : Verdict Tree) → Settled R M V r t e b q c → IsEnd q → Settled R M V (seq r s) t e (1 + b) q c
  seq_end_settled b (ends (ok u f)) x h = absurd (h)
  seq_end_settled b (ends (stop o)) x h = seq_stops x
  seq_end_settled b spent x h = seq_spent x

  choice_halt_settled : {V : Environment X B} {r s p : Strategy X B} {t : Tree} {e : Bindings} (b : ℕ)
      {c : ℕ} (q : Verdict Tree) → Settled R M V r t e b q c → IsHalt q → Settled R M V (choice r s p) t e (1 + b) q c
  choice_halt_settled b (ends (ok u f)) x h = absurd (h)
  choice_halt_settled b (ends (stop failure)) x h = absurd (h)
  choice_halt_settled b (ends (stop excess)) x h = choice_oversize x
  choice_halt_settled b spent x h = choice_spent x

  scope_settled : {V : Environment X B} {xs : B} {s : Strategy X B} {t : Tree} {e : Bindings} (b : ℕ)
      {c : ℕ} (q : Verdict Tree) →
      Settled R M (layer (length e) R.none xs no_closures V) s t (e ++ empty_places (R.count xs)) b q c →
      Settled R M V (scope xs s) t e (1 + b) (with_ending (keeping (length e)) q) c
  scope_settled b (ends o) x = scope_ends x
  scope_settled b spent x = scope_spent x

  let_settled : {V : Environment X B} {ds : Definitions X B} {s : Strategy X B} {t : Tree} {e : Bindings} (b : ℕ)
      {c : ℕ} (q : Verdict Tree) → Settled R M (definitions ds V) s t e b q c →
      Settled R M V (with_definitions ds s) t e (1 + b) q c
  let_settled b (ends o) x = definitions_ends x
  let_settled b spent x = definitions_spent x

  call_settled : {V W : Environment X B} {f : X} {ss : Strategies X B} {ps : Patterns X} {fs xs : B} {s : Strategy X B}
      {ts : Trees} {t : Tree} {e : Bindings} (b : ℕ) {c : ℕ} (q : Verdict Tree) →
      called R V f ss ps ≡ Some (definition fs xs s W) → arguments (instances (R.place_of V) ps e) e ≡ ok ts e →
      Settled R M (layer (length e) fs xs (closures_of R V ss) W) s t (e ++ filled_places ts) b q c →
      Settled R M V (call f ss ps) t e (1 + b) (with_ending (keeping (length e)) q) c
  call_settled b (ends o) is given x = call_ends is given x
  call_settled b spent is given x = call_spent is given x

  parameter_settled : {V W : Environment X B} {f : X} {ss : Strategies X B} {ps : Patterns X} {s : Strategy X B}
      {t : Tree} {e : Bindings} (b : ℕ) {c : ℕ} (q : Verdict Tree) →
      called R V f ss ps ≡ Some (closure s W) → Settled R M W s t e b q c → Settled R M V (call f ss ps) t e (1 + b) q c
  parameter_settled b (ends o) is x = parameter_ends is x
  parameter_settled b spent is x = parameter_spent is x

  all_settled_whole : {V : Environment X B} {s : Strategy X B} {t : Tree} {e : Bindings} (b : ℕ)
      {c : ℕ} (q : Verdict Trees) → AllSettled R M V s (parts t) e b q c →
      Settled R M V (all s) t e (1 + b) (with_ending (rebuilt t) q) c
  all_settled_whole b (ends o) x = all_rebuilt x
  all_settled_whole b spent x = all_spent x

  one_settled_whole : {V : Environment X B} {s : Strategy X B} {t : Tree} {e : Bindings} (b : ℕ)
      {c : ℕ} (q : Verdict Trees) → OneSettled R M V s (parts t) e b q c →
      Settled R M V (one s) t e (1 + b) (with_ending (rebuilt t) q) c
  one_settled_whole b (ends o) x = one_rebuilt x
  one_settled_whole b spent x = one_spent x

  some_settled_whole : {V : Environment X B} {s : Strategy X B} {t : Tree} {e : Bindings} (b : ℕ)
      {c : ℕ} (q : Verdict Trees) → SomeSettled R M V s (parts t) e false b q c →
      Settled R M V (some s) t e (1 + b) (with_ending (rebuilt t) q) c
  some_settled_whole b (ends o) x = some_rebuilt x
  some_settled_whole b spent x = some_spent x

  all_end_settled : {V : Environment X B} {s : Strategy X B} {t : Tree} {ts : Trees} {e : Bindings} {b c : ℕ}
      (q : Verdict Tree) → Settled R M V s t e b q c → IsEnd q → AllSettled R M V s (more t ts) e b (row_ended q) c
  all_end_settled (ends (ok u f)) x h = absurd (h)
  all_end_settled (ends (stop o)) x h = all_stops x
  all_end_settled spent x h = all_spends x

  one_halt_settled : {V : Environment X B} {s : Strategy X B} {t : Tree} {ts : Trees} {e : Bindings} {b c : ℕ}
      (q : Verdict Tree) → Settled R M V s t e b q c → IsHalt q → OneSettled R M V s (more t ts) e b (row_ended q) c
  one_halt_settled (ends (ok u f)) x h = absurd (h)
  one_halt_settled (ends (stop failure)) x h = absurd (h)
  one_halt_settled (ends (stop excess)) x h = one_stops x
  one_halt_settled spent x h = one_spends x

  some_halt_settled : {V : Environment X B} {s : Strategy X B} {t : Tree} {ts : Trees} {e : Bindings} {found : Bool}
      {b c : ℕ} (q : Verdict Tree) → Settled R M V s t e b q c → IsHalt q →
      SomeSettled R M V s (more t ts) e found b (row_ended q) c
  some_halt_settled (ends (ok u f)) x h = absurd (h)
  some_halt_settled (ends (stop failure)) x h = absurd (h)
  some_halt_settled (ends (stop excess)) x h = some_stops x
  some_halt_settled spent x h = some_spends x

  mutual
    pub settled_so : {V : Environment X B} {s : Strategy X B} {t : Tree} {e : Bindings} {b c : ℕ} {q : Verdict Tree} →
        Goes R M V s t e b q c → Settled R M V s t e b q c
    settled_so {V} {s} {t} {e} go_spent = spent_at_zero V s t e 0
    settled_so {V} {t = t} {e} (go_id {c = c}) = one_more (id_settled V t e c)
    settled_so {V} {t = t} {e} (go_fail {c = c}) = one_more (fail_settled V t e c)
    settled_so (go_seq x y) = one_more (seq_goes_on (settled_so x) (settled_so y))
    settled_so (go_seq_end {b = b} {q = q} x h) = one_more (seq_end_settled b q (settled_so x) h)
    settled_so (go_then x y) = one_more (choice_then (settled_so x) (settled_so y))
    settled_so (go_else x y) = one_more (choice_else (settled_so x) (settled_so y))
    settled_so (go_choice_halt {b = b} {q = q} x h) = one_more (choice_halt_settled b q (settled_so x) h)
    settled_so {V} {t = t} {e} (go_match {p = p} {e1 = f} {c = c} m) = one_more (match_settled V p t e f c m)
    settled_so {V} {t = t} {e} (go_no_match {p = p} {c = c} m) = one_more (no_match_settled V p t e c m)
    settled_so {V} {t = t} {e} (go_build {p = p} {c = c}) = one_more (build_settled V p t e c)
    settled_so (go_scope {b = b} {q = q} x) = one_more (scope_settled b q (settled_so x))
    settled_so (go_all {b = b} {q = q} x) = one_more (all_settled_whole b q (all_settled_so x))
    settled_so (go_one {b = b} {q = q} x) = one_more (one_settled_whole b q (one_settled_so x))
    settled_so (go_some {b = b} {q = q} x) = one_more (some_settled_whole b q (some_settled_so x))
    settled_so (go_let {b = b} {q = q} x) = one_more (let_settled b q (settled_so x))
    settled_so (go_call {b = b} {q = q} is given x) = one_more (call_settled b q is given (settled_so x))
    settled_so (go_call_stop {c = c} is given) = one_more (call_stops c is given)
    settled_so (go_parameter {b = b} {q = q} is x) = one_more (parameter_settled b q is (settled_so x))
    settled_so (go_nowhere {b = b} is) = call_of_nothing b 0 is
    settled_so {V} {t = t} {e} (go_primitive {f = f} {ps = ps} {c = c}) = one_more (primitive_settled V f ps t e c)

    all_settled_so : {V : Environment X B} {s : Strategy X B} {ts : Trees} {e : Bindings} {b c : ℕ}
        {q : Verdict Trees} → GoesAll R M V s ts e b q c → AllSettled R M V s ts e b q c
    all_settled_so {V} {s} {e = e} (go_all_end {c = c}) = all_at_end V s e c
    all_settled_so (go_all_next x y) = all_goes_on (settled_so x) (all_settled_so y)
    all_settled_so (go_all_stop {q = q} x h) = all_end_settled q (settled_so x) h

    one_settled_so : {V : Environment X B} {s : Strategy X B} {ts : Trees} {e : Bindings} {b c : ℕ}
        {q : Verdict Trees} → GoesOne R M V s ts e b q c → OneSettled R M V s ts e b q c
    one_settled_so {V} {s} {e = e} (go_one_end {c = c}) = one_at_end V s e c
    one_settled_so (go_one_found x) = one_finds (settled_so x)
    one_settled_so (go_one_halt {q = q} x h) = one_halt_settled q (settled_so x) h
    one_settled_so (go_one_next x y) = one_goes_on (settled_so x) (one_settled_so y)

    some_settled_so : {V : Environment X B} {s : Strategy X B} {ts : Trees} {e : Bindings} {found : Bool} {b c : ℕ}
        {q : Verdict Trees} → GoesSome R M V s ts e found b q c → SomeSettled R M V s ts e found b q c
    some_settled_so {V} {s} {e = e} (go_some_end {c = c}) = some_at_end V s e c
    some_settled_so {V} {s} {e = e} (go_some_none {c = c}) = some_at_none V s e c
    some_settled_so (go_some_found x y) = some_goes_on (settled_so x) (some_settled_so y)
    some_settled_so (go_some_stays x y) = some_leaves (settled_so x) (some_settled_so y)
    some_settled_so (go_some_halt {q = q} x h) = some_halt_settled q (settled_so x) h

-- every budget
pub record Going {X B : Type 0} (R : Reading X B) (M : Meaning) (V : Environment X B) (s : Strategy X B) (t : Tree)
    (e : Bindings) (b : ℕ) : Type 0 where
  pub how : Verdict Tree
  pub left : ℕ
  pub fact : Goes R M V s t e b how left

record GoingAll {X B : Type 0} (R : Reading X B) (M : Meaning) (V : Environment X B) (s : Strategy X B) (ts : Trees)
    (e : Bindings) (b : ℕ) : Type 0 where
  how : Verdict Trees
  left : ℕ
  fact : GoesAll R M V s ts e b how left

record GoingOne {X B : Type 0} (R : Reading X B) (M : Meaning) (V : Environment X B) (s : Strategy X B) (ts : Trees)
    (e : Bindings) (b : ℕ) : Type 0 where
  how : Verdict Trees
  left : ℕ
  fact : GoesOne R M V s ts e b how left

record GoingSome {X B : Type 0} (R : Reading X B) (M : Meaning) (V : Environment X B) (s : Strategy X B) (ts : Trees)
    (e : Bindings) (found : Bool) (b : ℕ) : Type 0 where
  how : Verdict Trees
  left : ℕ
  fact : GoesSome R M V s ts e found b how left

-- term arguments are built, or they stop the call
fit_cases : (b : Bool) (ts : Trees) (e : Bindings) →
    ((us : Trees) × (if_fits b ts e ≡ ok us e)) ⊎ ((q : Stop) × (if_fits b ts e ≡ stop q))
fit_cases true ts e = inl (ts, refl)
fit_cases false ts e = inr (excess, refl)

argument_cases : (vs : Option Trees) (e : Bindings) →
    ((us : Trees) × (arguments vs e ≡ ok us e)) ⊎ ((q : Stop) × (arguments vs e ≡ stop q))
argument_cases None e = inr (failure, refl)
argument_cases (Some ts) e = fit_cases (all_fit ts) ts e

module _ {X B : Type 0} {R : Reading X B} {M : Meaning} where
  it_goes : {V : Environment X B} {s : Strategy X B} {t : Tree} {e : Bindings} {b c : ℕ} {q : Verdict Tree} →
      Goes R M V s t e b q c → Going R M V s t e b
  it_goes {c = c} {q = q} h = record { how = q; left = c; fact = h }

  all_go : {V : Environment X B} {s : Strategy X B} {ts : Trees} {e : Bindings} {b c : ℕ} {q : Verdict Trees} →
      GoesAll R M V s ts e b q c → GoingAll R M V s ts e b
  all_go {c = c} {q = q} h = record { how = q; left = c; fact = h }

  one_goes : {V : Environment X B} {s : Strategy X B} {ts : Trees} {e : Bindings} {b c : ℕ} {q : Verdict Trees} →
      GoesOne R M V s ts e b q c → GoingOne R M V s ts e b
  one_goes {c = c} {q = q} h = record { how = q; left = c; fact = h }

  some_go : {V : Environment X B} {s : Strategy X B} {ts : Trees} {e : Bindings} {found : Bool} {b c : ℕ}
      {q : Verdict Trees} → GoesSome R M V s ts e found b q c → GoingSome R M V s ts e found b
  some_go {c = c} {q = q} h = record { how = q; left = c; fact = h }

  -- what an ending leaves is no more than the budget
  left_of : {V : Environment X B} {s : Strategy X B} {t : Tree} {e : Bindings} {b c : ℕ} {o : Ending Tree} →
      Settled R M V s t e b (ends o) c → c ≤ b
  left_of (settled x h) = omega arith

  less_left : {V : Environment X B} {s : Strategy X B} {t : Tree} {e : Bindings} {b c : ℕ} (o : Ending Tree) →
      Goes R M V s t e b (ends o) c → c ≤ b
  less_left o x = left_of (settled_so x)

  module _ (V : Environment X B) (s : Strategy X B) (b : ℕ) (each : (d : ℕ) → d ≤ b → (t : Tree) (e : Bindings) →
      Going R M V s t e d) where
    all_on : (t : Tree) (ts : Trees) (e : Bindings) (d : ℕ) → d ≤ b →
        ((f : Bindings) (c : ℕ) → c ≤ b → GoingAll R M V s ts f c) → (q : Verdict Tree) {c : ℕ} →
        Goes R M V s t e d q c → GoingAll R M V s (more t ts) e d
    all_on t ts e d l others (ends (ok u f)) {c} x = let h = less_left _ x in
        all_go (go_all_next x (others f c (omega arith)).fact)
    all_on t ts e d l others (ends (stop failure)) x = all_go (go_all_stop x tt)
    all_on t ts e d l others (ends (stop excess)) x = all_go (go_all_stop x tt)
    all_on t ts e d l others spent x = all_go (go_all_stop x tt)

    all_going : (ts : Trees) (e : Bindings) (d : ℕ) → d ≤ b → GoingAll R M V s ts e d
    all_going end e d l = all_go go_all_end
    all_going (more t ts) e d l = let first = each d l t e in
        all_on t ts e d l (λ f c k. all_going ts f c k) first.how first.fact

    one_on : (t : Tree) (ts : Trees) (e : Bindings) (d : ℕ) → d ≤ b → ((c : ℕ) → c ≤ b → GoingOne R M V s ts e c) →
        (q : Verdict Tree) {c : ℕ} → Goes R M V s t e d q c → GoingOne R M V s (more t ts) e d
    one_on t ts e d l others (ends (ok u f)) x = one_goes (go_one_found x)
    one_on t ts e d l others (ends (stop failure)) {c} x = let h = less_left _ x in
        one_goes (go_one_next x (others c (omega arith)).fact)
    one_on t ts e d l others (ends (stop excess)) x = one_goes (go_one_halt x tt)
    one_on t ts e d l others spent x = one_goes (go_one_halt x tt)

    one_going : (ts : Trees) (e : Bindings) (d : ℕ) → d ≤ b → GoingOne R M V s ts e d
    one_going end e d l = one_goes go_one_end
    one_going (more t ts) e d l = let first = each d l t e in
        one_on t ts e d l (λ c k. one_going ts e c k) first.how first.fact

    some_on : (t : Tree) (ts : Trees) (e : Bindings) (found : Bool) (d : ℕ) → d ≤ b →
        ((f : Bindings) (k : Bool) (c : ℕ) → c ≤ b → GoingSome R M V s ts f k c) → (q : Verdict Tree) {c : ℕ} →
        Goes R M V s t e d q c → GoingSome R M V s (more t ts) e found d
    some_on t ts e found d l others (ends (ok u f)) {c} x = let h = less_left _ x in
        some_go (go_some_found x (others f true c (omega arith)).fact)
    some_on t ts e found d l others (ends (stop failure)) {c} x = let h = less_left _ x in
        some_go (go_some_stays x (others e found c (omega arith)).fact)
    some_on t ts e found d l others (ends (stop excess)) x = some_go (go_some_halt x tt)
    some_on t ts e found d l others spent x = some_go (go_some_halt x tt)

    some_going : (ts : Trees) (e : Bindings) (found : Bool) (d : ℕ) → d ≤ b → GoingSome R M V s ts e found d
    some_going end e true d l = some_go go_some_end
    some_going end e false d l = some_go go_some_none
    some_going (more t ts) e found d l = let first = each d l t e in
        some_on t ts e found d l (λ f k c h. some_going ts f k c h) first.how first.fact

  -- one row, where all goes within a smaller budget
  module _ (b : ℕ) (below : (d : ℕ) → d ≤ b → (V : Environment X B) (s : Strategy X B) (t : Tree) (e : Bindings) →
      Going R M V s t e d) where
    seq_row : {V : Environment X B} {r s : Strategy X B} {t : Tree} {e : Bindings} (q : Verdict Tree) {c : ℕ} →
        Goes R M V r t e b q c → Going R M V (seq r s) t e (suc b)
    seq_row {V} {r} {s} (ends (ok u f)) {c} x = let h = less_left _ x in
        it_goes (go_seq x (below c (omega arith) V s u f).fact)
    seq_row (ends (stop failure)) x = it_goes (go_seq_end x tt)
    seq_row (ends (stop excess)) x = it_goes (go_seq_end x tt)
    seq_row spent x = it_goes (go_seq_end x tt)

    choice_row : {V : Environment X B} {r s p : Strategy X B} {t : Tree} {e : Bindings} (q : Verdict Tree) {c : ℕ} →
        Goes R M V r t e b q c → Going R M V (choice r s p) t e (suc b)
    choice_row {V} {r} {s} (ends (ok u f)) {c} x = let h = less_left _ x in
        it_goes (go_then x (below c (omega arith) V s u f).fact)
    choice_row {V} {r} {s} {p} {t} {e} (ends (stop failure)) {c} x = let h = less_left _ x in
        it_goes (go_else x (below c (omega arith) V p t e).fact)
    choice_row (ends (stop excess)) x = it_goes (go_choice_halt x tt)
    choice_row spent x = it_goes (go_choice_halt x tt)

    call_row : (V : Environment X B) (g : X) (ss : Strategies X B) (ps : Patterns X) (t : Tree) (e : Bindings)
        (v : Option (Callee X B)) → called R V g ss ps ≡ v → Going R M V (call g ss ps) t e (suc b)
    call_row V g ss ps t e None is = it_goes (go_nowhere is)
    call_row V g ss ps t e (Some (closure s W)) is = it_goes (go_parameter is (below b (omega arith) W s t e).fact)
    call_row V g ss ps t e (Some (definition fs xs s W)) is = elim (argument_cases (instances (R.place_of V) ps e) e) [
      | inl given ↦ it_goes (go_call is given.1
          (below b (omega arith) (layer (length e) fs xs (closures_of R V ss) W) s t (e ++ filled_places given.0)).fact)
      | inr stops ↦ it_goes (go_call_stop is stops.1)
    ]

    row : (V : Environment X B) (s : Strategy X B) (t : Tree) (e : Bindings) → Going R M V s t e (suc b)
    row V id t e = it_goes go_id
    row V fail t e = it_goes go_fail
    row V (seq r s) t e = let first = below b (omega arith) V r t e in seq_row first.how first.fact
    row V (choice r s p) t e = let first = below b (omega arith) V r t e in choice_row first.how first.fact
    row V (match p) t e = elim (match_decided (R.place_of V) p t e)
        [ inl m ↦ it_goes (go_match m.1) | inr m ↦ it_goes (go_no_match m) ]
    row V (build p) t e = it_goes go_build
    row V (scope xs s) t e = it_goes
        (go_scope (below b (omega arith) (layer (length e) R.none xs no_closures V) s t (e ++
        empty_places (R.count xs))).fact)
    row V (all s) t e = it_goes
        (go_all (all_going V s b (λ d l u f. below d l V s u f) (parts t) e b (omega arith)).fact)
    row V (one s) t e = it_goes
        (go_one (one_going V s b (λ d l u f. below d l V s u f) (parts t) e b (omega arith)).fact)
    row V (some s) t e = it_goes
        (go_some (some_going V s b (λ d l u f. below d l V s u f) (parts t) e false b (omega arith)).fact)
    row V (with_definitions ds s) t e = it_goes (go_let (below b (omega arith) (definitions ds V) s t e).fact)
    row V (call g ss ps) t e = call_row V g ss ps t e (called R V g ss ps) refl
    row V (primitive g ps) t e = it_goes go_primitive

  within : (m b : ℕ) → b ≤ m → (V : Environment X B) (s : Strategy X B) (t : Tree) (e : Bindings) → Going R M V s t e b
  within m zero l V s t e = it_goes go_spent
  within zero (suc b) l V s t e = absurd (omega arith)
  within (suc m) (suc b) l V s t e = row b (λ d k W r u f. within m d (omega arith) W r u f) V s t e

  -- every strategy goes some way within every budget
  pub goes : (b : ℕ) (V : Environment X B) (s : Strategy X B) (t : Tree) (e : Bindings) → Going R M V s t e b
  goes b V s t e = within b b (omega arith) V s t e

-- so every strategy is settled within every budget
pub record Settles {X B : Type 0} (R : Reading X B) (M : Meaning) (V : Environment X B) (s : Strategy X B) (t : Tree)
    (e : Bindings) (b : ℕ) : Type 0 where
  pub how : Verdict Tree
  pub left : ℕ
  pub fact : Settled R M V s t e b how left

pub settles : {X B : Type 0} {R : Reading X B} {M : Meaning} (b : ℕ) (V : Environment X B) (s : Strategy X B) (t : Tree)
    (e : Bindings) → Settles R M V s t e b
settles b V s t e = let going = goes b V s t e in
    record { how = going.how; left = going.left; fact = settled_so going.fact }
