-- Ranges that neither put on a record nor change frames: id, fail, sequences, let, match, build, primitives.
use Rattle.std.proofs.Common.{◌≡◌, ℕ, suc, ◌+◌, ◌*◌, Option, Some, None, List, sym, arith, subst}
use Rattle.std.specs.Prelude.{Option, Some, None, Bool, true, false}
use Rattle.term_model.specs.Term.{Tree, Trees, all_fit}
use Rattle.term_model.specs.Flat.{Meaning, FlatValue, all_flat, term_of}
use Rattle.std.specs.Option.{option_map, option_and_then}
use Rattle.core_lang.specs.declared.coordinate.Coordinate.{Coordinate}
use Rattle.core_lang.specs.Program.{Pattern, Patterns, id, fail, seq, match, build, with_definitions, primitive}
use Rattle.core_lang.specs.Environment.{definitions, Bindings}
use Rattle.core_lang.specs.Matching.{Matches}
use Rattle.core_lang.specs.Building.{instance, instances}
use Rattle.core_lang.specs.Tried.{tried}
use Rattle.core_lang.specs.Ending.{ok, failure, stop, if_fits, built, arguments, answered}
use Rattle.core_lang.specs.Resolved.{ResolvedStrategy, ResolvedDefinitions, ResolvedEnvironment, by_coordinates}
use Rattle.core_lang.specs.Settled.{Verdict, ends, spent}
use Rattle.core_lang.proofs.TriedLaws.{matches_tried, tried_matches}
use Rattle.strat_code.specs.Code.{Code}
use Rattle.strat_code.specs.Context.{Specialization, defining, layers_of, by_frames}
use Rattle.strat_code.specs.Ranges.{id_range, fail_range, seq_range, match_range, build_range, let_range, let_jump_range, primitive_range}
use Rattle.strat_steps.specs.State.{Frame, Record, running, place_at}
use Rattle.strat_steps.specs.Binding.{Attempt}
use Rattle.strat_steps.specs.Step.{goes_on, matched, no_step}
use Rattle.core_lang.specs.Going.{IsEnd}
use Rattle.strat_steps.proofs.TrailLaws.{take_whole}
use Rattle.strat_steps.proofs.BindingLaws.{Agrees, agrees_on, agrees_not, attempts, same_instance, same_instances}
use Rattle.strat_steps.proofs.Representation.{of_definitions, same_place}
use Rattle.strat_code.proofs.FirstLaws.{StandsFirst, stands_first, first_of_range}
use Rattle.strat_steps.proofs.Landing.{Lands, lands_ok, lands_failed, lands_spent, paid_step, spent_step, wider, step_on, end_lands}
use Rattle.strat_steps.proofs.Simulates.{on_top_same, Leaves, built_leaves, Simulates, here_lands, fails_here, through, jumped, goes_on_lands}

module _ (code : Code) (I : List Specialization) (M : Meaning) where
  -- the budget is spent at once
  pub spent_row : (V : ResolvedEnvironment) (s : ResolvedStrategy) (t : Tree) (e : Bindings) →
      Simulates code I M V s t e 0 spent 0
  spent_row V s t e w C i x to p F T bar K l r rep on_top low is = at_once (first_of_range r)
    where
      at_once : StandsFirst code i x → Lands code M to p e F T bar K (running i p t e F T bar K l) (3 * 0) spent 0
      at_once (stands_first v at h) = lands_spent (spent_step at (omega arith)) (omega arith)

  pub id_row : (V : ResolvedEnvironment) (t : Tree) (e : Bindings) (c : ℕ) →
      Simulates code I M V id t e (suc c) (ends (ok t e)) c
  id_row V t e c w C i x to p F T bar K l (id_range at) rep on_top low is =
      wider (3 * suc c) (omega arith) (step_on (paid_step c at (omega arith)) (here_lands (suc i) p t e F T bar K c))

  pub fail_row : (V : ResolvedEnvironment) (t : Tree) (e : Bindings) (c : ℕ) →
      Simulates code I M V fail t e (suc c) (ends (stop failure)) c
  fail_row V t e c w C i x to p F T bar K l (fail_range at) rep on_top low is =
      wider (3 * suc c) (omega arith) (step_on (paid_step c at (omega arith)) (fails_here (suc i) p e F T bar K c))

  pub seq_row : {V : ResolvedEnvironment} {s1 s2 : ResolvedStrategy} {t u : Tree} {e f : Bindings} {c : ℕ}
      {q : Verdict Tree} (b d : ℕ) →
      Simulates code I M V s1 t e b (ends (ok u f)) d → Simulates code I M V s2 u f d q c →
      Simulates code I M V (seq s1 s2) t e (suc b) q c
  seq_row {e = e} {f} b d g1 g2 w C i x to p F T bar K l (seq_range {j = j} r1 r2) rep on_top low is =
      wider (3 * suc b) (omega arith)
      (through 0 (g1 w C i (suc x) j p F T bar K l r1 rep on_top low (omega arith))
      (λ U same. g2 w C j 0 to p F U bar K d r2 rep (on_top_same e f same on_top) (omega arith) (omega arith))
      (omega arith))

  pub seq_end_row : {V : ResolvedEnvironment} {s1 s2 : ResolvedStrategy} {t : Tree} {e : Bindings} {c : ℕ}
      {q : Verdict Tree} (b : ℕ) →
      Simulates code I M V s1 t e b q c → IsEnd q → Simulates code I M V (seq s1 s2) t e (suc b) q c
  seq_end_row b g1 h w C i x to p F T bar K l (seq_range {j = j} r1 r2) rep on_top low is =
      wider (3 * suc b) (omega arith) (end_lands h (g1 w C i (suc x) j p F T bar K l r1 rep on_top low (omega arith)))

  pub let_row : {V : ResolvedEnvironment} {ds : ResolvedDefinitions} {s : ResolvedStrategy} {t : Tree} {e : Bindings}
      {c : ℕ} {q : Verdict Tree} (b : ℕ) →
      Simulates code I M (definitions ds V) s t e b q c → Simulates code I M V (with_definitions ds s) t e (suc b) q c
  let_row b g w C i x to p F T bar K l (let_range {ds = ds} {es = es} bs r) rep on_top low is =
      wider (3 * suc b) (omega arith)
      (g w (defining ds es C) i (suc x) to p F T bar K l r (of_definitions bs rep) on_top low (omega arith))
  let_row b g w C i x to p F T bar K l (let_jump_range {j = j} {ds = ds} {es = es} bs r at) rep on_top low is =
      wider (3 * suc b) (omega arith)
      (jumped (g w (defining ds es C) i (suc x) j p F T bar K l r (of_definitions bs rep) on_top low (omega arith))
      at)

  -- a match
  pub matched_lands : (i p : ℕ)
      {e f : Bindings} {F : List Frame} {T : List ℕ} {bar : ℕ} {K : List Record} {t : Tree} (c : ℕ)
      {o : Option Bindings} {a : Attempt} → Agrees bar e T o a → o ≡ Some f →
      Lands code M i p e F T bar K (matched F T bar K c i p t a) (1 + 3 * c) (ends (ok t f)) c
  matched_lands i p {e} {f} {F} {T} {bar} {K} {t} c (agrees_on {f = g} {U = U} new is back same) h =
      let q : g ≡ f = cc in
      subst (λ f. Lands code M i p e F T bar K (running i p t g F U bar K c) (1 + 3 * c) (ends (ok t f)) c)
      q (lands_ok new no_step is back same (omega arith))
  matched_lands i p c (agrees_not new is back same) h = absurd (cc)

  pub unmatched_lands : (i p : ℕ) (t : Tree)
      {e : Bindings} {F : List Frame} {T : List ℕ} {bar : ℕ} {K : List Record} (c : ℕ)
      {o : Option Bindings} {a : Attempt} → Agrees bar e T o a → o ≡ None →
      Lands code M i p e F T bar K (matched F T bar K c i p t a) (1 + 3 * c) (ends (stop failure)) c
  unmatched_lands i p t c (agrees_on new is back same) h = absurd (cc)
  unmatched_lands i p t {F = F} c (agrees_not new is back same) h =
      lands_failed new no_step is back (take_whole F) (omega arith)

  pub match_row : {V : ResolvedEnvironment} {q : Pattern Coordinate} {t : Tree} {e f : Bindings} (c : ℕ) →
      Matches (by_coordinates.place_of V) q e t f → Simulates code I M V (match q) t e (suc c) (ends (ok t f)) c
  match_row {V} {q} {t} {e} c m w C i x to p F T bar K l (match_range h at) rep on_top low is =
      wider (3 * suc c) (omega arith) (step_on (paid_step c at (omega arith))
      (matched_lands (suc i) p c
      (attempts (layers_of C) (by_frames C) (by_coordinates.place_of V) (place_at F p) (same_place rep)
      bar q t e T h) (matches_tried (by_coordinates.place_of V) m)))

  pub no_match_row : {V : ResolvedEnvironment} {q : Pattern Coordinate} {t : Tree} {e : Bindings} (c : ℕ) →
      tried (by_coordinates.place_of V) q t e ≡ None →
      Simulates code I M V (match q) t e (suc c) (ends (stop failure)) c
  no_match_row {V} {q} {t} {e} c m w C i x to p F T bar K l (match_range h at) rep on_top low is =
      wider (3 * suc c) (omega arith) (step_on (paid_step c at (omega arith))
      (unmatched_lands (suc i) p t c
      (attempts (layers_of C) (by_frames C) (by_coordinates.place_of V) (place_at F p) (same_place rep)
      bar q t e T h) m))

  pub none_tried : {V : ResolvedEnvironment} {q : Pattern Coordinate} {t : Tree} {e : Bindings} →
      ((f : Bindings) → Matches (by_coordinates.place_of V) q e t f → ⊥) → (o : Option Bindings) →
      tried (by_coordinates.place_of V) q t e ≡ o →
      tried (by_coordinates.place_of V) q t e ≡ None
  none_tried {V} lacks None h = h
  none_tried {V} lacks (Some f) h = absurd (lacks f (tried_matches (by_coordinates.place_of V) h))

  pub build_row : {V : ResolvedEnvironment} {q : Pattern Coordinate} {t : Tree} {e : Bindings} (c : ℕ) →
      Simulates code I M V (build q) t e (suc c) (ends (built (instance (by_coordinates.place_of V) q e) e)) c
  build_row {V} {q} {t} {e} c w C i x to p F T bar K l (build_range h at) rep on_top low is =
      wider (3 * suc c) (omega arith) (step_on (paid_step c at (omega arith))
      (subst (λ v. Lands code M (suc i) p e F T bar K (goes_on F T bar K c (suc i) p e (built v e)) (1 + 3 * c)
      (ends (built (instance (by_coordinates.place_of V) q e) e)) c)
      (sym (same_instance (layers_of C) (by_frames C) (by_coordinates.place_of V) (place_at F p) (same_place rep)
      q e h))
      (goes_on_lands (suc i) p e F T bar K c (built (instance (by_coordinates.place_of V) q e) e)
      (built_leaves (instance (by_coordinates.place_of V) q e) e))))

  pub answer_leaves : (answer : List FlatValue → Option FlatValue) (v : Bool) (us : Trees) (e : Bindings) →
      Leaves e (answered answer (if_fits v us e))
  answer_leaves answer true us e = built_leaves (option_map term_of (option_and_then answer (all_flat us))) e
  answer_leaves answer false us e = tt

  pub answered_leaves : (answer : List FlatValue → Option FlatValue) (v : Option Trees) (e : Bindings) →
      Leaves e (answered answer (arguments v e))
  answered_leaves answer None e = tt
  answered_leaves answer (Some us) e = answer_leaves answer (all_fit us) us e

  pub primitive_row : {V : ResolvedEnvironment} {f : List ℕ} {ps : Patterns Coordinate} {t : Tree} {e : Bindings}
      (c : ℕ) →
      Simulates code I M V (primitive f ps) t e (suc c)
      (ends (answered (M f) (arguments (instances (by_coordinates.place_of V) ps e) e))) c
  primitive_row {V} {f} {ps} {t} {e} c w C i x to p F T bar K l (primitive_range h at) rep on_top low is =
      wider (3 * suc c) (omega arith) (step_on (paid_step c at (omega arith))
      (subst (λ v. Lands code M (suc i) p e F T bar K (goes_on F T bar K c (suc i) p e (answered (M f) (arguments v e)))
      (1 + 3 * c) (ends (answered (M f) (arguments (instances (by_coordinates.place_of V) ps e) e))) c)
      (sym (same_instances (layers_of C) (by_frames C) (by_coordinates.place_of V) (place_at F p) (same_place rep)
      ps e h))
      (goes_on_lands (suc i) p e F T bar K c (answered (M f) (arguments (instances (by_coordinates.place_of V) ps e) e))
      (answered_leaves (M f) (instances (by_coordinates.place_of V) ps e) e))))
