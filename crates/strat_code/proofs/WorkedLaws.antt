-- The worked code stands for its programs; that of the first is code of a core.
use Rattle.std.proofs.Common.{ℕ, suc, Some, inl, inr, List, [], ◌∷◌, refl, arith}
use Rattle.std.specs.Prelude.{Contains}
use Rattle.core_lang.specs.Program.{variable}
use Rattle.core_lang.specs.Primitives.{OccursInDefinitions}
use Rattle.core_lang.specs.Resolved.{here}
use Rattle.strat_code.specs.Code.{At, entry_at, extend, shrink, build_term}
use Rattle.strat_code.specs.Context.{Context, top, framed, defining, hides_top, hides_framed, hides_hidden, keeps_definitions}
use Rattle.strat_code.specs.Ranges.{Ranges, id_range, seq_range, else_range, select_range, match_range, build_range, inner_range, all_range, one_range, some_range, let_jump_range, call_range, specialization_range, inline_range, open_range, argument_range, known_range, parameter_range, Bodies, no_bodies, more_bodies, roomy_bodies, no_arguments, code_argument, parameter_argument, none_known, own_known, parameter_known, none_open, own_open, first_body, later_body, asks_match, asks_seq, asks_choice, asks_scope, asks_known, asks_inline, one_case, more_cases, select_last, no_specializations, more_specializations}
use Rattle.strat_code.specs.StandsFor.{StandsFor}
use Rattle.strat_code.specs.CodeOf.{IsCode}
use Rattle.strat_code.specs.Worked.{small_program, small_code, unwraps, match_in_rule, walking_program, walking_entries, walking_specializations, walking_code, merge_definitions, merging_program, merging_entries, merge_entries, merging_code}

pub small_stands : StandsFor small_code small_program 1
small_stands = record {
  entries = entry_at 6 1 ∷ entry_at 2 0 ∷ [];
  specializations = [];
  specialization_bodies = no_specializations;
  bodies = roomy_bodies (seq_range (match_range (omega arith, tt) refl)
      (seq_range (build_range (omega arith) refl) (parameter_range (omega arith) refl))) refl
      (more_bodies (call_range refl (refl, refl) refl (code_argument tt (id_range refl) refl no_arguments) tt refl)
      refl no_bodies);
  begins = call_range refl (refl, refl) refl no_arguments tt refl;
  ends = refl;
}

no_primitive : (f : List ℕ) (k : ℕ) → OccursInDefinitions f k small_program → ⊥
no_primitive f k (inl (inl h)) = absurd (h)
no_primitive f k (inl (inr (inl h))) = absurd (h)
no_primitive f k (inl (inr (inr h))) = absurd (h)
no_primitive f k (inr (inl (inl h))) = absurd (h)
no_primitive f k (inr (inl (inr h))) = absurd (h)
no_primitive f k (inr (inr h)) = absurd (h)

pub small_is_code : IsCode small_code []
small_is_code = record {
  program = small_program;
  main = 1;
  core = record {
    in_range = record {
      each = (
        ((omega arith, tt), (omega arith, ((omega arith, refl, refl), tt, tt))),
        (((refl, refl), (tt, tt), tt), tt),
      );
      main = (refl, refl);
    };
    occurring = λ f k. ((λ h. absurd (nothing_in h)), λ h. absurd (no_primitive f k h));
  };
  stands = small_stands;
  addresses = (
    (omega arith, omega arith, tt),
    (tt, ((omega arith, omega arith, (omega arith, tt)), (tt, (tt, (tt, (tt, (tt, (tt, (tt, tt))))))))),
  );
}
  where
    nothing_in : {f : List ℕ} {k : ℕ} → Contains {X = List ℕ × ℕ} [] (f, k) → ⊥
    nothing_in h = absurd (omega (arith, h.1))

-- a rule, from extend to shrink
rule_range : {C : Context} (f i : ℕ) → At walking_code i (extend 1 1) → At walking_code (suc i) (match_in_rule f) →
    At walking_code (suc (suc i)) (build_term 1 (variable (here 0))) →
    At walking_code (suc (suc (suc i))) (shrink 1) →
    Ranges walking_code walking_specializations (Some 0) C i 0 (unwraps f) (suc (suc (suc (suc i))))
rule_range f i a b c d = inner_range a (seq_range (match_range (omega arith, tt) b) (build_range (omega arith) c)) d

pub walking_stands : StandsFor walking_code walking_program 3
walking_stands = record {
  entries = walking_entries;
  specializations = walking_specializations;
  bodies = more_bodies (seq_range
      (all_range refl (call_range refl (refl, refl) refl (parameter_argument (omega arith) no_arguments) tt refl) refl)
      (parameter_range (omega arith) refl)) refl
      (more_bodies (select_range refl
      (select_last (asks_scope (asks_seq asks_match)) one_case (rule_range 70 27 refl refl refl refl)
      refl (rule_range 71 32 refl refl refl refl))) refl
      (more_bodies (else_range refl (parameter_range (omega arith) refl) refl (id_range refl)) refl
      (more_bodies (specialization_range 0 refl (refl, refl)
      refl (own_known tt (hides_framed (keeps_definitions hides_top)) none_known) tt refl) refl no_bodies)));
  specialization_bodies = more_specializations first_body
      (seq_range
      (all_range refl (specialization_range 0 refl (refl, refl) refl (parameter_known (refl, refl) none_known) tt refl)
      refl)
      (known_range (refl, refl)
      (inline_range (keeps_definitions hides_top) (refl, refl) (later_body (later_body first_body))
      (own_known tt (hides_hidden (keeps_definitions hides_top)) none_known)
      (select_range refl (select_last
      (asks_known (refl, refl) (asks_inline (keeps_definitions hides_top) (later_body first_body)
      none_known (asks_choice (asks_scope (asks_seq asks_match)) (asks_scope (asks_seq asks_match)))))
      (more_cases one_case)
      (known_range (refl, refl)
      (inline_range (keeps_definitions hides_top) (refl, refl) (later_body first_body) none_known
      (select_range refl (select_last (asks_scope (asks_seq asks_match)) one_case (rule_range 70 14 refl refl refl refl)
      refl (rule_range 71 19 refl refl refl refl)))))
      refl (id_range refl))))))
      refl no_specializations;
  begins = call_range refl (refl, refl) refl no_arguments tt refl;
  ends = refl;
}

-- the definition of the let: its call of try is open, and the argument looks at the place of x
merge_bodies : Bodies merging_code [] (defining merge_definitions merge_entries
    (framed 0 0 (defining merging_program merging_entries top))) merge_definitions merge_entries
merge_bodies = roomy_bodies (seq_range (match_range (omega arith, (tt, tt)) refl)
    (open_range (keeps_definitions hides_top) (refl, refl) first_body (own_open tt none_open)
    (else_range refl
    (argument_range refl (refl, refl)
    (seq_range (match_range (tt, (omega arith, tt)) refl) (build_range (omega arith) refl)))
    refl (id_range refl)))) refl no_bodies

pub merging_stands : StandsFor merging_code merging_program 1
merging_stands = record {
  entries = merging_entries;
  specializations = [];
  specialization_bodies = no_specializations;
  bodies = more_bodies (else_range refl (parameter_range (omega arith) refl) refl (id_range refl)) refl
      (more_bodies (let_jump_range merge_bodies
      (some_range refl
      (one_range refl (call_range refl (refl, refl) refl no_arguments tt refl) refl) refl) refl)
      refl no_bodies);
  begins = call_range refl (refl, refl) refl no_arguments tt refl;
  ends = refl;
}
