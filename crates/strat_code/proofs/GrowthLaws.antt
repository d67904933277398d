-- More code at the end changes no range.
use Rattle.std.proofs.Common.{◌≡◌, ℕ, zero, suc, Some, List, [], ◌∷◌, ◌++◌}
use Rattle.std.specs.Prelude.{Option, slice_get}
use Rattle.core_lang.specs.Resolved.{ResolvedStrategy, ResolvedStrategies, ResolvedDefinitions}
use Rattle.strat_code.specs.Code.{Argument, Case, Entry, Instr, Code, At}
use Rattle.strat_code.specs.Context.{Context, Specialization}
use Rattle.strat_code.specs.Ranges.{Ranges, id_range, fail_range, seq_range, choice_range, else_range, select_range, match_range, build_range, scope_range, inner_range, all_range, one_range, some_range, let_range, let_jump_range, call_range, specialization_range, inline_range, open_range, argument_range, known_range, parameter_range, primitive_range, Bodies, no_bodies, more_bodies, roomy_bodies, Arguments, no_arguments, code_argument, known_argument, parameter_argument, Selects, select_last, select_more, Specializations, no_specializations, more_specializations, roomy_specializations}

pub got_in_front : {A : Type 0} (F G : List A) (p : ℕ) (f : A) → slice_get F p ≡ Some f → slice_get (F ++ G) p ≡ Some f
got_in_front [] G p f h = absurd (cc)
got_in_front (v ∷ F) G zero f h = h
got_in_front (v ∷ F) G (suc p) f h = got_in_front F G p f h

module _ (code more : Code) where
  pub at_grown : (i : ℕ) {v : Instr} → At code i v → At (code ++ more) i v
  at_grown i {v} h = got_in_front code more i v h

module _ (code more : Code) {I : List Specialization} where
  mutual
    pub ranges_grown : {w : Option ℕ} {C : Context} {i x j : ℕ} {s : ResolvedStrategy} → Ranges code I w C i x s j →
        Ranges (code ++ more) I w C i x s j
    ranges_grown (id_range a) = id_range (at_grown code more _ a)
    ranges_grown (fail_range a) = fail_range (at_grown code more _ a)
    ranges_grown (seq_range r q) = seq_range (ranges_grown r) (ranges_grown q)
    ranges_grown (choice_range a r b q c o) =
        choice_range (at_grown code more _ a) (ranges_grown r) (at_grown code more _ b) (ranges_grown q)
        (at_grown code more _ c) (ranges_grown o)
    ranges_grown (else_range a r b o) =
        else_range (at_grown code more _ a) (ranges_grown r) (at_grown code more _ b) (ranges_grown o)
    ranges_grown (select_range a cs) = select_range (at_grown code more _ a) (selects_grown cs)
    ranges_grown (match_range h a) = match_range h (at_grown code more _ a)
    ranges_grown (build_range h a) = build_range h (at_grown code more _ a)
    ranges_grown (scope_range a r b) = scope_range (at_grown code more _ a) (ranges_grown r) (at_grown code more _ b)
    ranges_grown (inner_range a r b) = inner_range (at_grown code more _ a) (ranges_grown r) (at_grown code more _ b)
    ranges_grown (all_range a r b) = all_range (at_grown code more _ a) (ranges_grown r) (at_grown code more _ b)
    ranges_grown (one_range a r b) = one_range (at_grown code more _ a) (ranges_grown r) (at_grown code more _ b)
    ranges_grown (some_range a r b) = some_range (at_grown code more _ a) (ranges_grown r) (at_grown code more _ b)
    ranges_grown (let_range bs r) = let_range (bodies_grown bs) (ranges_grown r)
    ranges_grown (let_jump_range bs r a) = let_jump_range (bodies_grown bs) (ranges_grown r) (at_grown code more _ a)
    ranges_grown (call_range is def has us ps a) =
        call_range is def has (arguments_grown us) ps (at_grown code more _ a)
    ranges_grown (specialization_range n is def has ks ps a) =
        specialization_range n is def has ks ps (at_grown code more _ a)
    ranges_grown (inline_range hides h is args r) = inline_range hides h is args (ranges_grown r)
    ranges_grown (open_range hides h is args r) = open_range hides h is args (ranges_grown r)
    ranges_grown (argument_range none h r) = argument_range none h (ranges_grown r)
    ranges_grown (known_range h r) = known_range h (ranges_grown r)
    ranges_grown (parameter_range h a) = parameter_range h (at_grown code more _ a)
    ranges_grown (primitive_range h a) = primitive_range h (at_grown code more _ a)

    pub bodies_grown : {C : Context} {ds : ResolvedDefinitions} {es : List Entry} → Bodies code I C ds es →
        Bodies (code ++ more) I C ds es
    bodies_grown no_bodies = no_bodies
    bodies_grown (more_bodies r a bs) = more_bodies (ranges_grown r) (at_grown code more _ a) (bodies_grown bs)
    bodies_grown (roomy_bodies r a bs) = roomy_bodies (ranges_grown r) (at_grown code more _ a) (bodies_grown bs)

    pub arguments_grown : {C : Context} {ss : ResolvedStrategies} {us : List Argument} → Arguments code I C ss us →
        Arguments (code ++ more) I C ss us
    arguments_grown no_arguments = no_arguments
    arguments_grown (code_argument h r a us) =
        code_argument h (ranges_grown r) (at_grown code more _ a) (arguments_grown us)
    arguments_grown (known_argument h r a us) =
        known_argument h (ranges_grown r) (at_grown code more _ a) (arguments_grown us)
    arguments_grown (parameter_argument h us) = parameter_argument h (arguments_grown us)

    selects_grown : {w : Option ℕ} {C : Context} {s : ResolvedStrategy} {cs : List Case} {last to : ℕ} →
        Selects code I w C s cs last to → Selects (code ++ more) I w C s cs last to
    selects_grown (select_last b cs r a o) = select_last b cs (ranges_grown r) (at_grown code more _ a) (ranges_grown o)
    selects_grown (select_more b cs r a o others) =
        select_more b cs (ranges_grown r) (at_grown code more _ a) (ranges_grown o) (selects_grown others)

  pub specializations_grown : {vs : List Specialization} → Specializations code I vs →
      Specializations (code ++ more) I vs
  specializations_grown no_specializations = no_specializations
  specializations_grown (more_specializations is r a vs) =
      more_specializations is (ranges_grown r) (at_grown code more _ a) (specializations_grown vs)
  specializations_grown (roomy_specializations is r a vs) =
      roomy_specializations is (ranges_grown r) (at_grown code more _ a) (specializations_grown vs)
