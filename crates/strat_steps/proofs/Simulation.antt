-- Each range does as its strategy does: by one induction on the derivation with its budget.
use Rattle.std.proofs.Common.{ℕ, List, refl, arith}
use Rattle.std.specs.Prelude.{Bool}
use Rattle.term_model.specs.Term.{Tree, Trees}
use Rattle.term_model.specs.Flat.{Meaning}
use Rattle.core_lang.specs.Environment.{Bindings}
use Rattle.core_lang.specs.Tried.{tried}
use Rattle.core_lang.specs.Resolved.{ResolvedStrategy, ResolvedEnvironment, by_coordinates}
use Rattle.core_lang.specs.Settled.{Verdict}
use Rattle.strat_code.specs.Code.{Code}
use Rattle.strat_code.specs.Context.{Specialization}
use Rattle.core_lang.specs.Going.{Goes, go_spent, go_id, go_fail, go_seq, go_seq_end, go_then, go_else, go_choice_halt, go_match, go_no_match, go_build, go_scope, go_all, go_one, go_some, go_let, go_call, go_call_stop, go_parameter, go_nowhere, go_primitive, GoesAll, go_all_end, go_all_next, go_all_stop, GoesOne, go_one_end, go_one_found, go_one_halt, go_one_next, GoesSome, go_some_end, go_some_none, go_some_found, go_some_stays, go_some_halt}
use Rattle.strat_code.specs.Ranges.{Specializations}
use Rattle.strat_steps.proofs.Simulates.{Simulates, SimulatesChain, SimulatesBody}
use Rattle.strat_steps.proofs.PlainRows.{spent_row, id_row, fail_row, seq_row, seq_end_row, let_row, match_row, no_match_row, none_tried, build_row, primitive_row}
use Rattle.strat_steps.proofs.ChoiceRows.{choice_halt_row, else_row, then_row}
use Rattle.strat_steps.proofs.SelectRows.{select_then, select_else, select_halt, none_selected}
use Rattle.strat_steps.proofs.ScopeRows.{scope_row, none_inside, spent_inside, scope_inside}
use Rattle.strat_steps.proofs.CallRows.{call_row, call_stop_row, parameter_row, nowhere_row}
use Rattle.strat_steps.proofs.TraversalRows.{SimulatesAll, SimulatesOne, SimulatesSome, all_end_row, all_next_row, all_stop_row, all_row, one_end_row, one_found_row, one_halt_row, one_next_row, one_row, some_end_row, some_none_row, some_found_row, some_stays_row, some_halt_row, some_row}

module _ (code : Code) (I : List Specialization) (vs : Specializations code I I) (M : Meaning) where
  mutual
    -- each range goes as its strategy does
    pub simulates : {V : ResolvedEnvironment} {s : ResolvedStrategy} {t : Tree} {e : Bindings} {b c : ℕ}
        {q : Verdict Tree} → Goes by_coordinates M V s t e b q c → Simulates code I M V s t e b q c
    simulates {V} {s} {t} {e} go_spent = spent_row code I M V s t e
    simulates {V} {t = t} {e} (go_id {c = c}) = id_row code I M V t e c
    simulates {V} {t = t} {e} (go_fail {c = c}) = fail_row code I M V t e c
    simulates (go_seq {b = b} {d = d} x y) = seq_row code I M b d (simulates x) (simulates y)
    simulates (go_seq_end {b = b} x h) = seq_end_row code I M b (simulates x) h
    simulates (go_then {b = b} {d = d} x y) =
        then_row code I M b d (simulates x) y (simulates y) (select_then code I M b d x (simulates x) y)
    simulates (go_else {b = b} {d = d} x y) =
        else_row code I M b d (simulates x) (simulates y)
        (select_else code I M b d x (simulates x) y (simulates y) (simulates_chain y))
    simulates (go_choice_halt {b = b} x h) =
        choice_halt_row code I M b (simulates x) h (select_halt code I M b x (simulates x) h)
    simulates (go_match {c = c} m) = match_row code I M c m
    simulates {V} {t = t} {e} (go_no_match {p = p} {c = c} m) =
        no_match_row code I M c (none_tried code I M m (tried (by_coordinates.place_of V) p t e) refl)
    simulates (go_build {c = c}) = build_row code I M c
    simulates (go_scope {b = b} x) = scope_row code I M b (simulates x)
    simulates (go_all {b = b} {q = q} x) = all_row code I M b q (simulates_all x)
    simulates (go_one {b = b} {q = q} x) = one_row code I M b q (simulates_one x)
    simulates (go_some {b = b} {q = q} x) = some_row code I M b q (simulates_some x)
    simulates (go_let {b = b} x) = let_row code I M b (simulates x)
    simulates (go_call {b = b} callee given x) = call_row code I vs M b callee given (simulates x) (simulates_body x)
    simulates (go_call_stop {c = c} callee given) = call_stop_row code I vs M c callee given
    simulates (go_parameter {b = b} callee x) = parameter_row code I vs M b callee (simulates x)
    simulates (go_nowhere {b = b} callee) = nowhere_row code I vs M b callee
    simulates (go_primitive {c = c}) = primitive_row code I M c

    -- also a chain of alternatives
    simulates_chain : {V : ResolvedEnvironment} {s : ResolvedStrategy} {t : Tree} {e : Bindings} {b c : ℕ}
        {q : Verdict Tree} → Goes by_coordinates M V s t e b q c → SimulatesChain code I M V s t e b q c
    simulates_chain go_spent = λ w C cs last to p F T bar K l choices rep on_top low is. absurd (omega arith)
    simulates_chain (go_then {b = b} {d = d} x y) = select_then code I M b d x (simulates x) y
    simulates_chain (go_else {b = b} {d = d} x y) =
        select_else code I M b d x (simulates x) y (simulates y) (simulates_chain y)
    simulates_chain (go_choice_halt {b = b} x h) = select_halt code I M b x (simulates x) h
    simulates_chain {V} {s} {t} {e} {b} {c} {q} go_id = none_selected code I M V _ t e _ _ _ tt
    simulates_chain {V} {s} {t} {e} {b} {c} {q} go_fail = none_selected code I M V _ t e _ _ _ tt
    simulates_chain {V} {s} {t} {e} {b} {c} {q} (go_seq x y) = none_selected code I M V _ t e _ _ _ tt
    simulates_chain {V} {s} {t} {e} {b} {c} {q} (go_seq_end x h) = none_selected code I M V _ t e _ _ _ tt
    simulates_chain {V} {s} {t} {e} {b} {c} {q} (go_match m) = none_selected code I M V _ t e _ _ _ tt
    simulates_chain {V} {s} {t} {e} {b} {c} {q} (go_no_match m) = none_selected code I M V _ t e _ _ _ tt
    simulates_chain {V} {s} {t} {e} {b} {c} {q} go_build = none_selected code I M V _ t e _ _ _ tt
    simulates_chain {V} {s} {t} {e} {b} {c} {q} (go_scope x) = none_selected code I M V _ t e _ _ _ tt
    simulates_chain {V} {s} {t} {e} {b} {c} {q} (go_all x) = none_selected code I M V _ t e _ _ _ tt
    simulates_chain {V} {s} {t} {e} {b} {c} {q} (go_one x) = none_selected code I M V _ t e _ _ _ tt
    simulates_chain {V} {s} {t} {e} {b} {c} {q} (go_some x) = none_selected code I M V _ t e _ _ _ tt
    simulates_chain {V} {s} {t} {e} {b} {c} {q} (go_let x) = none_selected code I M V _ t e _ _ _ tt
    simulates_chain {V} {s} {t} {e} {b} {c} {q} (go_call callee given x) = none_selected code I M V _ t e _ _ _ tt
    simulates_chain {V} {s} {t} {e} {b} {c} {q} (go_call_stop callee given) = none_selected code I M V _ t e _ _ _ tt
    simulates_chain {V} {s} {t} {e} {b} {c} {q} (go_parameter callee x) = none_selected code I M V _ t e _ _ _ tt
    simulates_chain {V} {s} {t} {e} {b} {c} {q} (go_nowhere callee) = none_selected code I M V _ t e _ _ _ tt
    simulates_chain {V} {s} {t} {e} {b} {c} {q} go_primitive = none_selected code I M V _ t e _ _ _ tt

    -- also where the places of a scope are there
    simulates_body : {V : ResolvedEnvironment} {s : ResolvedStrategy} {t : Tree} {e : Bindings} {b c : ℕ}
        {q : Verdict Tree} → Goes by_coordinates M V s t e b q c → SimulatesBody code I M V s t e b q c
    simulates_body {V} {s} {t} {e} go_spent = spent_inside code I M V s t e
    simulates_body {V} {s} {t} {e} {b} {c} {q} go_id = none_inside code I M V _ t e _ _ _ tt
    simulates_body {V} {s} {t} {e} {b} {c} {q} go_fail = none_inside code I M V _ t e _ _ _ tt
    simulates_body {V} {s} {t} {e} {b} {c} {q} (go_seq x y) = none_inside code I M V _ t e _ _ _ tt
    simulates_body {V} {s} {t} {e} {b} {c} {q} (go_seq_end x h) = none_inside code I M V _ t e _ _ _ tt
    simulates_body {V} {s} {t} {e} {b} {c} {q} (go_then x y) = none_inside code I M V _ t e _ _ _ tt
    simulates_body {V} {s} {t} {e} {b} {c} {q} (go_else x y) = none_inside code I M V _ t e _ _ _ tt
    simulates_body {V} {s} {t} {e} {b} {c} {q} (go_choice_halt x h) = none_inside code I M V _ t e _ _ _ tt
    simulates_body {V} {s} {t} {e} {b} {c} {q} (go_match m) = none_inside code I M V _ t e _ _ _ tt
    simulates_body {V} {s} {t} {e} {b} {c} {q} (go_no_match m) = none_inside code I M V _ t e _ _ _ tt
    simulates_body {V} {s} {t} {e} {b} {c} {q} go_build = none_inside code I M V _ t e _ _ _ tt
    simulates_body {e = e} (go_scope {b = b} x) = scope_inside code I M e b (simulates x)
    simulates_body {V} {s} {t} {e} {b} {c} {q} (go_all x) = none_inside code I M V _ t e _ _ _ tt
    simulates_body {V} {s} {t} {e} {b} {c} {q} (go_one x) = none_inside code I M V _ t e _ _ _ tt
    simulates_body {V} {s} {t} {e} {b} {c} {q} (go_some x) = none_inside code I M V _ t e _ _ _ tt
    simulates_body {V} {s} {t} {e} {b} {c} {q} (go_let x) = none_inside code I M V _ t e _ _ _ tt
    simulates_body {V} {s} {t} {e} {b} {c} {q} (go_call callee given x) = none_inside code I M V _ t e _ _ _ tt
    simulates_body {V} {s} {t} {e} {b} {c} {q} (go_call_stop callee given) = none_inside code I M V _ t e _ _ _ tt
    simulates_body {V} {s} {t} {e} {b} {c} {q} (go_parameter callee x) = none_inside code I M V _ t e _ _ _ tt
    simulates_body {V} {s} {t} {e} {b} {c} {q} (go_nowhere callee) = none_inside code I M V _ t e _ _ _ tt
    simulates_body {V} {s} {t} {e} {b} {c} {q} go_primitive = none_inside code I M V _ t e _ _ _ tt

    simulates_all : {V : ResolvedEnvironment} {s : ResolvedStrategy} {ts : Trees} {e : Bindings} {b c : ℕ}
        {q : Verdict Trees} → GoesAll by_coordinates M V s ts e b q c → SimulatesAll code I M V s ts e b q c
    simulates_all (go_all_end {c = c}) = all_end_row code I M c
    simulates_all (go_all_next {b = b} {d = d} {q = q} x y) =
        all_next_row code I M b d q (simulates x) (simulates_all y)
    simulates_all (go_all_stop {b = b} x h) = all_stop_row code I M b (simulates x) h

    simulates_one : {V : ResolvedEnvironment} {s : ResolvedStrategy} {ts : Trees} {e : Bindings} {b c : ℕ}
        {q : Verdict Trees} → GoesOne by_coordinates M V s ts e b q c → SimulatesOne code I M V s ts e b q c
    simulates_one (go_one_end {c = c}) = one_end_row code I M c
    simulates_one (go_one_found {b = b} x) = one_found_row code I M b (simulates x)
    simulates_one (go_one_halt {b = b} x h) = one_halt_row code I M b (simulates x) h
    simulates_one (go_one_next {b = b} {d = d} {q = q} x y) =
        one_next_row code I M b d q (simulates x) (simulates_one y)

    simulates_some : {V : ResolvedEnvironment} {s : ResolvedStrategy} {ts : Trees} {e : Bindings} {found : Bool}
        {b c : ℕ} {q : Verdict Trees} → GoesSome by_coordinates M V s ts e found b q c →
        SimulatesSome code I M V s ts e found b q c
    simulates_some (go_some_end {c = c}) = some_end_row code I M c
    simulates_some (go_some_none {c = c}) = some_none_row code I M c
    simulates_some (go_some_found {b = b} {d = d} {q = q} x y) =
        some_found_row code I M b d q (simulates x) (simulates_some y)
    simulates_some (go_some_stays {b = b} {d = d} {q = q} x y) =
        some_stays_row code I M b d q (simulates x) (simulates_some y)
    simulates_some (go_some_halt {b = b} x h) = some_halt_row code I M b (simulates x) h
