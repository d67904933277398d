-- Derivations of small programs.
use Rattle.std.proofs.Common.{◌≡◌, inl, inr, Some, None, [], ◌∷◌, refl, sym, ap, pos, arith, ◌<◌}
use Rattle.std.specs.Prelude.{false}
use Rattle.term_model.specs.declared.term.Head.TheVariants as heads
use Rattle.term_model.specs.Symbol.{Tuple}
use Rattle.term_model.specs.Term.{Tree, node, end, more, fits}
use Rattle.term_model.specs.Same.{same_head, same}
use Rattle.term_model.specs.Flat.{Meaning, number, term_of}
use Rattle.core_lang.specs.Ending.{ok, failed, oversize, built, if_fits, failure}
use Rattle.std.specs.Option.{option_map}
use Rattle.core_lang.specs.Derivation.{by_id, by_fail, by_seq, by_seq_stop, by_choice_else, by_match, by_no_match, by_build, by_scope, by_one, by_some, by_definitions, by_call, by_call_stop, by_parameter, by_primitive, by_choice_oversize, one_found, one_next, some_end, some_found, some_stays}
use Rattle.core_lang.specs.Named.{Rewrites}
use Rattle.core_lang.specs.Worked.{hands_on, congruence, takes_rest, puts_in_front, takes_same, pairs_with, lacks_argument, binds_outside, changes_one, adds, doubles, add, marked, passes_pair_resolved, main, term_on_one, term_on_two, one, two, five, seven, nine, F, G, Pair, Foo, takes_first, takes_inner, passes_pair, changes_ones, tries_and_builds}
use Rattle.core_lang.proofs.MatchSteps.{binds_nothing, binds_one, binds}
use Rattle.core_lang.proofs.MatchSteps as steps
use Rattle.core_lang.proofs.Transport.{rewrites_to}
use Rattle.core_lang.specs.Resolved.{RewritesByCoordinates}
use Rattle.core_lang.specs.InRange.{InRange}
use Rattle.core_lang.specs.Resolution.{ResolvesProgram, to_variable, to_integer, to_applied, to_no_patterns, to_more_patterns, to_id, to_seq, to_match, to_build, to_scope, to_call, to_no_strategies, to_more_strategies, to_no_definitions, to_more_definitions}

pub first : (M : Meaning) (t : Tree) → Rewrites M takes_first main (term_on_two Tuple seven t) (ok seven []) 5
first M t =
    by_call refl refl (by_scope
    (by_seq (by_match (binds_one _ _ [] [] seven _ (inl refl) (refl, ((0, refl, refl), (tt, refl))))) (by_build refl)
    refl)
    refl refl) refl refl

pub other_symbol : (M : Meaning) → Rewrites M takes_inner main (term_on_one G seven) failed 4
other_symbol M =
    by_call refl refl (by_scope
    (by_seq_stop (by_no_match (λ f m. let h = ap (λ k. same_head k (heads.App F)) m.conforms.0 in cc)) refl)
    refl refl) refl refl

-- what where(!5; ?x) does, and what the closure !Pair(<id>,x) does where it is called
pub closure : (M : Meaning) → Rewrites M passes_pair main (term_on_one F two) (ok (term_on_two Pair two five) []) 28
closure M =
    by_call refl refl (by_scope (by_seq
    (by_scope
    (by_seq (by_match (binds_one _ _ (None ∷ []) [] (term_on_one F two) _ refl (1, refl, refl)))
    (by_seq (by_seq (by_build refl)
    (by_match (binds_one _ _ [] (Some (term_on_one F two) ∷ []) five _ refl (0, refl, refl))) refl)
    (by_build refl) refl) refl) refl refl)
    (by_call refl refl (by_scope
    (by_seq (by_match (binds_one _ _ (Some five ∷ []) [] two _ (inl refl) (refl, ((1, refl, refl), refl))))
    (by_seq (by_build refl)
    (by_parameter refl (by_scope
    (by_seq (by_match (binds_one _ _ (Some five ∷ Some two ∷ []) (None ∷ []) two _ refl (2, refl, refl)))
    (by_seq (by_build refl) (by_seq by_id
    (by_seq (by_match (binds_one _ _ (Some five ∷ Some two ∷ Some two ∷ []) [] two _ refl (3, refl, refl)))
    (by_build refl) refl) refl) refl) refl)
    refl refl) refl) refl) refl) refl refl) refl refl) refl) refl refl) refl refl

pub some_parts : (M : Meaning) →
    Rewrites M changes_ones main
    (node (heads.App F) (more one (more two (more one end))) (more (node (heads.App G) end end) end))
    (ok (node (heads.App F) (more nine (more two (more nine end))) (more (node (heads.App G) end end) end)) []) 10
some_parts M =
    by_call refl refl (by_some
    (some_found (by_seq (by_match (binds_nothing _ _ _ _ refl)) (by_build refl) refl)
    (some_stays (by_seq_stop (by_no_match (λ f m. let h = ap (λ k. same_head k (heads.Int (pos 1))) m.conforms in cc))
    refl)
    (some_found (by_seq (by_match (binds_nothing _ _ _ _ refl)) (by_build refl) refl) some_end refl refl) refl refl)
    refl refl)
    refl refl) refl refl

pub undone : (M : Meaning) → Rewrites M tries_and_builds main (term_on_one Foo one) failed 13
undone M =
    by_call refl refl (by_scope (by_seq
    (by_call refl refl (by_choice_else
    (by_parameter refl (by_call refl refl
    (by_parameter refl (by_seq (by_match (binds_one _ _ [] [] one _ (inl refl) (refl, ((0, refl, refl), refl))))
    by_fail refl) refl) refl refl) refl)
    by_id refl) refl refl)
    (by_build refl) refl) refl refl) refl refl

-- a strategy parameter that is handed on is not called for itself
pub hands_on_ : (M : Meaning) (t : Tree) → Rewrites M hands_on main t (ok t []) 7
hands_on_ M t = by_call refl refl
    (by_call refl refl (by_call refl refl (by_choice_else (by_parameter refl by_fail refl) by_id refl) refl refl)
    refl refl) refl refl

pub congruence_ : (M : Meaning) →
    Rewrites M congruence main (node (heads.App F) (more one end) marked)
    (ok (node (heads.App F) (more nine end) marked) []) 11
congruence_ M =
    let t : Tree = node (heads.App F) (more one end) marked in
    by_call refl refl (by_scope
    (by_seq (by_match (binds _ _ _ (Some t ∷ Some one ∷ None ∷ [])
    _ (steps.adds (inl refl) (steps.adds (inr (inl refl)) (steps.keeps steps.no_more)))
    ((0, refl, refl), (refl, ((1, refl, refl), refl)))))
    (by_seq (by_build refl) (by_seq (by_build refl)
    (by_seq (by_match (binds _ _ _ (Some t ∷ Some one ∷ Some nine ∷ [])
    _ (steps.keeps (steps.keeps (steps.adds refl steps.no_more))) (2, refl, refl))) (by_build refl) refl) refl)
    refl) refl)
    refl refl) refl refl

pub rest : (M : Meaning) → Rewrites M takes_rest main (node heads.List (more one (more two (more nine end))) marked)
    (ok (node heads.List (more two (more nine end)) end) []) 5
rest M =
    by_call refl refl (by_scope
    (by_seq (by_match (binds _ _ _ (Some one ∷ Some (node heads.List (more two (more nine end)) end) ∷ [])
    _ (steps.adds (inl refl) (steps.adds (inr refl) steps.no_more)) (refl, ((0, refl, refl), (1, refl, refl)))))
    (by_build refl) refl)
    refl refl) refl refl

pub in_front : (M : Meaning) → Rewrites M puts_in_front main (node heads.List (more two end) marked)
    (ok (node heads.List (more one (more two end)) end) []) 5
in_front M =
    by_call refl refl (by_scope
    (by_seq (by_match (binds_one _ _ [] [] (node heads.List (more two end) marked) _ refl (0, refl, refl)))
    (by_build refl) refl) refl refl) refl refl

pub same_twice : (M : Meaning) → Rewrites M takes_same main (term_on_two Tuple one one) (ok one []) 5
same_twice M =
    by_call refl refl (by_scope
    (by_seq (by_match (binds_one _ _ [] [] one _ (inl refl) (refl, ((0, refl, refl), ((0, refl, refl), refl)))))
    (by_build refl) refl)
    refl refl) refl refl

pub not_same : (M : Meaning) → Rewrites M takes_same main (term_on_two Tuple one two) failed 4
not_same M =
    by_call refl refl (by_scope
    (by_seq_stop (by_no_match (λ f m.
    let a = m.conforms.1.0 in
    let b = m.conforms.1.1.0 in
    let i : a.0 ≡ b.0 = cc (a.1, b.1) in
    let h : one ≡ two = cc (a.2, b.2) in
    let k = ap (λ u. same u one) h in
    cc)) refl)
    refl refl) refl refl

pub argument : (M : Meaning) → Rewrites M pairs_with main one (ok (term_on_two Tuple one seven) []) 6
argument M =
    by_call refl refl (by_call refl refl (by_scope
    (by_seq (by_match (binds_one _ _ (Some seven ∷ []) [] one _ refl (1, refl, refl))) (by_build refl) refl)
    refl refl) refl refl) refl refl

pub no_argument : (M : Meaning) (t : Tree) → Rewrites M lacks_argument main t failed 3
no_argument M t = by_call refl refl (by_scope (by_call_stop {q = failure} refl refl) refl refl) refl refl

-- a definition inside a scope binds the scope's variable
pub bound_outside : (M : Meaning) → Rewrites M binds_outside main seven (ok seven []) 7
bound_outside M =
    by_call refl refl (by_scope (by_definitions (by_seq
    (by_call refl refl (by_match (binds_one _ _ [] [] seven _ refl (0, refl, refl))) refl refl) (by_build refl) refl)
    refl)
    refl refl) refl refl

pub one_part : (M : Meaning) →
    Rewrites M changes_one main (node (heads.App F) (more one (more two (more two end))) end)
    (ok (node (heads.App F) (more one (more five (more two end))) end) []) 7
one_part M =
    by_call refl refl (by_one
    (one_next (by_seq_stop (by_no_match (λ f m. let h = ap (λ k. same_head k (heads.Int (pos 2))) m.conforms in cc))
    refl)
    (one_found (by_seq (by_match (binds_nothing _ _ _ _ refl)) (by_build refl) refl)) refl refl)
    refl refl) refl refl

pub primitive_ : (M : Meaning) (t : Tree) → M add (number (pos 3) ∷ number (pos 4) ∷ []) ≡ Some (number (pos 7)) →
    Rewrites M adds main t (ok seven []) 2
primitive_ M t h = by_call refl refl (by_primitive (sym (ap (λ v. built (option_map term_of v) []) h))) refl refl

pub too_large : (M : Meaning) (t : Tree) → fits (term_on_two Tuple t t) ≡ false → Rewrites M doubles main t oversize 6
too_large M t h =
    by_call refl refl (by_scope (by_seq (by_match (binds_one _ _ [] [] t _ refl (0, refl, refl)))
    (by_choice_oversize (by_build (sym (ap (λ b. if_fits b (term_on_two Tuple t t) (Some t ∷ [])) h))) refl) refl)
    refl refl) refl refl

pub resolves_pair : ResolvesProgram passes_pair main passes_pair_resolved 1
resolves_pair = record {
  called = refl;
  each =
      to_more_definitions refl refl
      (to_scope refl (to_seq (to_match (to_applied (to_more_patterns (to_variable refl) to_no_patterns)))
      (to_seq (to_build (to_variable refl)) (to_call refl to_no_strategies to_no_patterns))))
      (to_more_definitions refl refl
      (to_scope refl (to_seq
      (to_scope refl (to_seq (to_match (to_variable refl))
      (to_seq (to_seq (to_build to_integer) (to_match (to_variable refl))) (to_build (to_variable refl)))))
      (to_call refl (to_more_strategies
      (to_scope refl (to_seq (to_match (to_variable refl))
      (to_seq (to_build (to_variable refl)) (to_seq to_id (to_seq (to_match (to_variable refl))
      (to_build (to_applied (to_more_patterns (to_variable refl)
      (to_more_patterns (to_variable refl) to_no_patterns)))))))))
      to_no_strategies) to_no_patterns)))
      to_no_definitions);
}

pub closure_resolved : (M : Meaning) →
    RewritesByCoordinates M passes_pair_resolved 1 (term_on_one F two) (ok (term_on_two Pair two five) []) 28
closure_resolved M = rewrites_to resolves_pair (closure M)

pub pair_in_range : InRange passes_pair_resolved 1
pair_in_range =
    let a : 0 < 1 = omega arith in
    let b : 0 < 2 = omega arith in
    let c : 1 < 2 = omega arith in
    record {
      each = (
        ((a, tt), (a, ((a, refl, refl), tt, tt))),
        (((a, ((tt, a), a)), ((refl, refl), ((b, (b, (tt, (c, (c, (a, tt)))))), tt), tt)), tt),
      );
      main = (refl, refl);
    }
