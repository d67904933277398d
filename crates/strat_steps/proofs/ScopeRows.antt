-- Ranges of scopes, with a frame and without.
use Rattle.std.proofs.Common.{◌≡◌, ℕ, suc, ◌+◌, ◌*◌, ◌-◌, ◌≤◌, List, [], ◌∷◌, length, take, ◌++◌, refl, sym, ◌∙◌, ap, arith, subst, length-append}
use Rattle.std.specs.Prelude.{Some}
use Rattle.std.proofs.Math.Seq.{take-append_seam}
use Rattle.term_model.specs.Term.{Tree}
use Rattle.term_model.specs.Flat.{Meaning}
use Rattle.core_lang.specs.Program.{id, fail, seq, choice, match, build, scope, all, one, some, with_definitions, call, primitive}
use Rattle.core_lang.specs.Environment.{layer, Bindings, no_closures, empty_places}
use Rattle.core_lang.specs.Ending.{keeping}
use Rattle.core_lang.specs.Resolved.{ResolvedStrategy, ResolvedEnvironment}
use Rattle.core_lang.specs.Settled.{Verdict, spent}
use Rattle.strat_code.specs.Code.{leave, shrink, Code, At}
use Rattle.strat_code.specs.Context.{Specialization, framed, within}
use Rattle.strat_code.specs.Ranges.{Ranges, scope_range, inner_range}
use Rattle.strat_steps.specs.State.{Frame, frame, Record, stuck, State, running, ended}
use Rattle.strat_steps.specs.Step.{cut_to, left}
use Rattle.core_lang.specs.Going.{with_ending}
use Rattle.strat_steps.proofs.TrailLaws.{if_more, restores_grown, restores_taken}
use Rattle.strat_steps.proofs.Representation.{of_frame, of_within, no_closed, got_last, represents_grown}
use Rattle.strat_code.proofs.FirstLaws.{StandsFirst, stands_first, first_of_range}
use Rattle.strat_steps.proofs.Landing.{Lands, lands_ok, lands_failed, lands_oversize, lands_spent, steps_then, paid_step, spent_step, wider, step_on}
use Rattle.strat_steps.proofs.Simulates.{shorter, less_frames, more_places, Last, on_top_at, Simulates, SimulatesBody, same_state, ends_at}

module _ (code : Code) (I : List Specialization) (M : Meaning) where
  pub scope_ends : (k : ℕ) {j p : ℕ} {e : Bindings} {F : List Frame} {T : List ℕ} {bar : ℕ} {K : List Record}
      {start : State} {r c : ℕ} {q : Verdict Tree} → bar ≤ length e → At code j leave →
      Lands code M j (length F) (e ++ empty_places k) (F ++ frame (length e) p [] ∷ []) T bar K start r q c →
      Lands code M (suc j) p e F T bar K start (1 + r) (with_ending (keeping (length e)) q) c
  scope_ends k {j = j} {p = p} {e = e} {F = F} {bar = bar} {K =
      K} low at (lands_ok {c = c} {u = u} {f = f} {U = U} new x is back same bound) =
      lands_ok new (steps_then (steps_then x (paid_step c at (omega arith)))
      (same_state (ap (λ v. left (F ++ frame (length e) p [] ∷ []) U bar K c (suc j) (length F) u f v)
      (got_last F (frame (length e) p [])) ∙
      if_more (ended stuck c)
      (running (suc j) p u (take (length e) f) (take (length F) (F ++ frame (length e) p [] ∷ [])) U bar K c)
      (length e) bar low ∙
      ap (λ G. running (suc j) p u (take (length e) f) G U bar K c)
      (take-append_seam F (frame (length e) p [] ∷ []))))) is
      (restores_taken bar (length e) e f new low (restores_grown bar e (empty_places k) f new low back))
      (shorter e (empty_places k) f same) (omega arith)
  scope_ends k {p = p} {e = e} {F = F} {bar = bar} low at (lands_failed {f = f} {G = G} new x is back same bound) =
      lands_failed new x is (restores_grown bar e (empty_places k) f new low back)
      (less_frames F (frame (length e) p [] ∷ []) G same) (omega arith)
  scope_ends k low at (lands_oversize x bound) = lands_oversize x (omega arith)
  scope_ends k low at (lands_spent x bound) = lands_spent x (omega arith)

  -- the end of a scope in the same frame
  pub inner_ends : (k : ℕ) {j p : ℕ} {e : Bindings} {F : List Frame} {T : List ℕ} {bar : ℕ} {K : List Record}
      {start : State} {r c : ℕ} {q : Verdict Tree} → bar ≤ length e → At code j (shrink k) →
      Lands code M j p (e ++ empty_places k) F T bar K start r q c →
      Lands code M (suc j) p e F T bar K start (1 + r) (with_ending (keeping (length e)) q) c
  inner_ends k {j = j} {p = p} {e = e} {F = F} {bar = bar} {K =
      K} low at (lands_ok {c = c} {u = u} {f = f} {U = U} new x is back same bound) =
      lands_ok new (steps_then (steps_then x (paid_step c at (omega arith)))
      (same_state (ap (λ i. cut_to i bar c (running (suc j) p u (take i f) F U bar K c)) (let h = more_places e k in
      let d : length f - k ≡ length e = omega arith in d)
      ∙ if_more (ended stuck c) (running (suc j) p u (take (length e) f) F U bar K c) (length e) bar low))) is
      (restores_taken bar (length e) e f new low (restores_grown bar e (empty_places k) f new low back))
      (shorter e (empty_places k) f same) (omega arith)
  inner_ends k {e = e} {bar = bar} low at (lands_failed {f = f} new x is back same bound) =
      lands_failed new x is (restores_grown bar e (empty_places k) f new low back) same (omega arith)
  inner_ends k low at (lands_oversize x bound) = lands_oversize x (omega arith)
  inner_ends k low at (lands_spent x bound) = lands_spent x (omega arith)

  pub scope_row : {V : ResolvedEnvironment} {n : ℕ} {s : ResolvedStrategy} {t : Tree} {e : Bindings} {c : ℕ}
      {q : Verdict Tree} (b : ℕ) →
      Simulates code I M (layer (length e) 0 n no_closures V) s t (e ++ empty_places n) b q c →
      Simulates code I M V (scope n s) t e (suc b) (with_ending (keeping (length e)) q) c
  scope_row {n = n} {t = t} {e = e} b g w C i x to p F T bar K l (scope_range {j = j} at r at1) rep on_top low is =
      wider (3 * suc b) (omega arith) (step_on (paid_step b at (omega arith))
      (scope_ends n low at1 (g (Some n) (framed 0 n C) (suc i) 0 j (length F) (F ++ frame (length e) p [] ∷ [])
      T bar K b r
      (of_frame (got_last F (frame (length e) p [])) (omega arith)
      no_closed (represents_grown (frame (length e) p [] ∷ []) rep))
      (on_top_at (ends_at (got_last F (frame (length e) p [])) (more_places e n))) (let k =
      length-append e (empty_places n) in omega arith) (omega arith))))
  scope_row {V} {n = n} {s = s} {t = t} {e =
      e} {c} {q} b g w C i x to p F T bar K l (inner_range {n = first} {j = j} at r at1) rep on_top low is =
      wider (3 * suc b) (omega arith) (step_on (paid_step b at (omega arith)) (inside (on_top first refl)))
    where
      inside : Last F p first (length e) →
          Lands code M (suc j) p e F T bar K (running (suc i) p t (e ++ empty_places n) F T bar K b) (1 + 3 * b)
          (with_ending (keeping (length e)) q) c
      inside (ends_at got begins) =
          inner_ends n low at1 (g (Some (first + n)) (within n first C) (suc i)
          0 j p F T bar K b r (of_within got begins rep)
          (on_top_at (ends_at got (let k = more_places e n in omega arith))) (let k = more_places e n in
          omega arith) (omega arith))

  -- a strategy that is no scope
  abbrev pub IsNoScope : ResolvedStrategy → Type 0
  IsNoScope (scope n s) = ⊥
  IsNoScope id = Unit {0}
  IsNoScope fail = Unit {0}
  IsNoScope (seq s1 s2) = Unit {0}
  IsNoScope (choice s1 s2 s3) = Unit {0}
  IsNoScope (match p) = Unit {0}
  IsNoScope (build p) = Unit {0}
  IsNoScope (all s) = Unit {0}
  IsNoScope (one s) = Unit {0}
  IsNoScope (some s) = Unit {0}
  IsNoScope (with_definitions ds s) = Unit {0}
  IsNoScope (call y ss ps) = Unit {0}
  IsNoScope (primitive f ps) = Unit {0}

  pub none_inside : (V : ResolvedEnvironment) (s : ResolvedStrategy) (t : Tree) (e : Bindings) (b : ℕ)
      (q : Verdict Tree) (c : ℕ) → IsNoScope s → SimulatesBody code I M V s t e b q c
  none_inside V s t e b q c h C n i x to p F T bar K l offset r is range rep lasts low cost =
      absurd (subst IsNoScope is h)

  pub spent_inside : (V : ResolvedEnvironment) (s : ResolvedStrategy) (t : Tree) (e : Bindings) →
      SimulatesBody code I M V s t e 0 spent 0
  spent_inside V s t e C n i x to p F T bar K l offset r is range rep lasts low cost =
      (spent, refl, at_once (first_of_range range))
    where
      at_once : StandsFirst code i (suc x) →
          Lands code M to p (e ++ empty_places n) F T bar K (running i p t (e ++ empty_places n) F T bar K l) (3 * 0)
          spent 0
      at_once (stands_first v at h) = lands_spent (spent_step at (omega arith)) (omega arith)

  abbrev pub places_of : ResolvedStrategy → ℕ
  places_of id = 0
  places_of fail = 0
  places_of (seq s1 s2) = 0
  places_of (choice s1 s2 s3) = 0
  places_of (match p) = 0
  places_of (build p) = 0
  places_of (scope n s) = n
  places_of (all s) = 0
  places_of (one s) = 0
  places_of (some s) = 0
  places_of (with_definitions ds s) = 0
  places_of (call y ss ps) = 0
  places_of (primitive f ps) = 0

  abbrev pub inner_of : ResolvedStrategy → ResolvedStrategy
  inner_of id = id
  inner_of fail = id
  inner_of (seq s1 s2) = id
  inner_of (choice s1 s2 s3) = id
  inner_of (match p) = id
  inner_of (build p) = id
  inner_of (scope n s) = s
  inner_of (all s) = id
  inner_of (one s) = id
  inner_of (some s) = id
  inner_of (with_definitions ds s) = id
  inner_of (call y ss ps) = id
  inner_of (primitive f ps) = id

  pub scope_inside : {V : ResolvedEnvironment} {n : ℕ} {s : ResolvedStrategy} {t : Tree} (e : Bindings)
      {c : ℕ} {q : Verdict Tree} (b : ℕ) →
      Simulates code I M (layer (length e) 0 n no_closures V) s t (e ++ empty_places n) b q c →
      SimulatesBody code I M V (scope n s) t e (suc b) (with_ending (keeping (length e)) q) c
  scope_inside {V} {n} {s} {t} e {c} {q} b g C k i x to p F T bar K l offset r is range rep
      (ends_at {base} {up} {cs} got begins) low cost =
      let same_n : k ≡ n = sym (ap places_of is) in
      let same_s : r ≡ s = sym (ap inner_of is) in
      subst (λ m. (o : Verdict Tree) × (with_ending (keeping (length e)) q ≡ with_ending (keeping (length e)) o) ×
      Lands code M to p (e ++ empty_places m) F T bar K (running i p t (e ++ empty_places m) F T bar K l)
      (3 * suc b) o c) (sym same_n) (
        q,
        refl,
        wider (3 * suc b) (omega arith) (g (Some (offset + n)) (within n offset C) i (suc x) to p F T bar K l
            (subst (λ m. Ranges code I (Some (offset + m)) (within m offset C) i (suc x) s to)
            same_n (subst (λ z. Ranges code I (Some (offset + k)) (within k offset C) i (suc x) z to) same_s range))
            (of_within got begins rep) (on_top_at (ends_at got (let m = more_places e n in omega arith))) (let m =
            more_places e n in omega arith) (omega arith)),
      )
