-- Ranges of calls.
use Rattle.std.proofs.Common.{◌≡◌, ℕ, suc, ◌+◌, ◌*◌, ◌≤◌, Option, Some, None, List, [], ◌∷◌, length, take, ◌++◌, refl, sym, ◌∙◌, ap, arith, subst, length-append}
use Rattle.std.specs.Prelude.{Option, Some, None, Bool, true, false}
use Rattle.std.proofs.Math.Seq.{take-append_seam}
use Rattle.term_model.specs.Term.{Tree, Trees, end, more, all_fit}
use Rattle.term_model.specs.Flat.{Meaning}
use Rattle.core_lang.specs.declared.coordinate.Coordinate.{Coordinate}
use Rattle.core_lang.specs.Program.{Patterns, no_patterns, more_patterns, call, strategies_count, patterns_count}
use Rattle.core_lang.specs.Environment.{layer, Bindings, closure, definition, closures_of, empty_places, filled_places}
use Rattle.core_lang.specs.Building.{with_front, instance, instances}
use Rattle.core_lang.specs.Ending.{ok, Stop, failure, excess, stop, keeping, if_fits, arguments}
use Rattle.core_lang.specs.Resolved.{ResolvedStrategy, ResolvedStrategies, ResolvedEnvironment, ResolvedClosures, ResolvedCallee, layers_up, by_coordinates}
use Rattle.core_lang.specs.Derivation.{called}
use Rattle.core_lang.specs.Settled.{Verdict, ends, spent}
use Rattle.strat_code.specs.Code.{Argument, end_definition, end_argument, Code, At}
use Rattle.strat_code.specs.Context.{Specialization, specialization_at, Context, framed, known, defining, layers_of, outer, frames_in, by_frames}
use Rattle.strat_code.specs.Ranges.{Specializations, Ranges, call_range, specialization_range, inline_range, open_range, argument_range, known_range, parameter_range}
use Rattle.strat_steps.specs.State.{Frame, frame, Record, call_record, stuck, State, running, failing, ended, frames_up, place_at, closure_in, closed}
use Rattle.strat_steps.specs.Step.{called_with, in_closure, returned, no_step}
use Rattle.core_lang.specs.Going.{with_ending}
use Rattle.strat_steps.proofs.TrailLaws.{if_more, take_less, take_whole, restores_grown, restores_taken}
use Rattle.strat_steps.proofs.BindingLaws.{same_instances}
use Rattle.strat_steps.proofs.Representation.{Represents, of_frame, of_known, fitting, ParameterIs, parameter_is, BodyIs, body_of, same_body_of, of_hidden, of_open, OpenIs, open_is, same_parameter, same_parameter_open, specialization_of, same_specialization_of, arguments_known, open_arguments, got_last, represents_grown, closed_grown, outwards, same_place, ClosureIs, closure_is, ClosureFound, closure_found, same_closure, DefinitionIs, definition_is, definition_begins, same_definition, arguments_closed, arguments_count}
use Rattle.strat_steps.proofs.Landing.{append_assoc, Lands, lands_ok, lands_failed, lands_oversize, lands_spent, steps_then, one_step, paid_step, wider, step_on}
use Rattle.strat_steps.proofs.Simulates.{shorter, less_frames, append_none, OnTop, on_top_at, never_on_top, Simulates, SimulatesBody, fails_here, same_state, ends_at}

module _ (code : Code) (I : List Specialization) (vs : Specializations code I I) (M : Meaning) where
  -- the end of a call
  pub call_ends : {a j p : ℕ} (up : ℕ) (cl : List (ℕ × ℕ)) (e g : Bindings)
      {F : List Frame} {T : List ℕ} {bar : ℕ} {K : List Record} {start : State} {r c : ℕ} {q : Verdict Tree} →
      bar ≤ length e → At code j end_definition →
      Lands code M j (length F) (e ++ g) (F ++ frame (length e) up cl ∷ []) T bar (call_record a p ∷ K) start r q c →
      Lands code M a p e F T bar K start (1 + r) (with_ending (keeping (length e)) q) c
  call_ends {a} {j} {p} up cl e g {F = F} {bar = bar} {K =
      K} low at (lands_ok {c = c} {u = u} {f = f} {U = U} new x is back same bound) =
      lands_ok new (steps_then (steps_then x (paid_step c at (omega arith)))
      (same_state (ap (λ v. returned (length F) u f (F ++ frame (length e) up cl ∷ []) U bar (call_record a p ∷ K) c v)
      (got_last F (frame (length e) up cl))
      ∙ if_more (ended stuck c)
      (running a p u (take (length e) f) (take (length F) (F ++ frame (length e) up cl ∷ [])) U bar K c) (length e)
      bar low
      ∙ ap (λ G. running a p u (take (length e) f) G U bar K c) (take-append_seam F (frame (length e) up cl ∷ []))))) is
      (restores_taken bar (length e) e f new low (restores_grown bar e g f new low back)) (shorter e g f same)
      (omega arith)
  call_ends {a} {j} {p} up cl e g {F = F} {bar = bar} {K =
      K} low at (lands_failed {c = c} {f = f} {G = G} {U = U} new x is back same bound) =
      lands_failed new (steps_then x
      (one_step (failing f G U bar (call_record a p ∷ K) c) (failing f G U bar K c) tt refl))
      is (restores_grown bar e g f new low back) (less_frames F (frame (length e) up cl ∷ []) G same) (omega arith)
  call_ends up cl e g low at (lands_oversize x bound) = lands_oversize x (omega arith)
  call_ends up cl e g low at (lands_spent x bound) = lands_spent x (omega arith)

  -- the end of a closure
  pub argument_ends : {a j p h : ℕ} {e : Bindings} {F : List Frame} {T : List ℕ} {bar : ℕ} {K : List Record}
      {start : State} {r c : ℕ} {q : Verdict Tree} → At code j end_argument →
      Lands code M j h e F T bar (call_record a p ∷ K) start r q c → Lands code M a p e F T bar K start (1 + r) q c
  argument_ends at (lands_ok {c = c} new x is back same bound) =
      lands_ok new (steps_then x (paid_step c at (omega arith))) is back same (omega arith)
  argument_ends {a} {j} {p} {bar = bar} {K =
      K} at (lands_failed {c = c} {f = f} {G = G} {U = U} new x is back same bound) =
      lands_failed new (steps_then x
      (one_step (failing f G U bar (call_record a p ∷ K) c) (failing f G U bar K c) tt refl))
      is back same (omega arith)
  argument_ends at (lands_oversize x bound) = lands_oversize x (omega arith)
  argument_ends at (lands_spent x bound) = lands_spent x (omega arith)

  -- how many places the arguments of a call take
  pub front_count : (v : Option Tree) (w : Option Trees) (ts : Trees) → with_front v w ≡ Some ts → (us : Trees) ×
      (w ≡ Some us) × (length (filled_places ts) ≡ suc (length (filled_places us)))
  front_count None w ts h = absurd (cc)
  front_count (Some u) None ts h = absurd (cc)
  front_count (Some u) (Some us) ts h = let q : more u us ≡ ts = cc in
      (us, refl, ap (λ z. length (filled_places z)) (sym q))

  pub filled_count : (place : Coordinate → Option ℕ) (ps : Patterns Coordinate) (e : Bindings) (ts : Trees) →
      instances place ps e ≡ Some ts → length (filled_places ts) ≡ patterns_count ps
  filled_count place no_patterns e ts h = let q : end ≡ ts = cc in ap (λ z. length (filled_places z)) (sym q)
  filled_count place (more_patterns p ps) e ts h =
      let a = front_count (instance place p e) (instances place ps e) ts h in
      let k = filled_count place ps e a.0 a.1 in
      let m = a.2 in
      omega arith

  pub fit_given : (v : Bool) (us ts : Trees) (e : Bindings) → if_fits v us e ≡ ok ts e → us ≡ ts
  fit_given true us ts e h = cc
  fit_given false us ts e h = absurd (cc)

  pub given_are : (v : Option Trees) (ts : Trees) (e : Bindings) → arguments v e ≡ ok ts e → v ≡ Some ts
  given_are None ts e h = absurd (cc)
  given_are (Some us) ts e h = ap Some (fit_given (all_fit us) us ts e h)

  pub keeping_twice : (i k : ℕ) (q : Verdict Tree) → i ≤ k →
      with_ending (keeping i) (with_ending (keeping k) q) ≡ with_ending (keeping i) q
  keeping_twice i k (ends (ok u f)) h = ap (λ g. ends (ok u g)) (take_less i k f h)
  keeping_twice i k (ends (stop failure)) h = refl
  keeping_twice i k (ends (stop excess)) h = refl
  keeping_twice i k spent h = refl

  -- what is called is a closure, or a definition, and not nothing
  pub found : {F : List Frame} {c : ℕ × ℕ} {s : ResolvedStrategy} {W : ResolvedEnvironment} →
      ClosureFound code I F c (Some (closure s W)) → ClosureIs code I F s W c
  found (closure_found x) = x

  pub no_definition : {F : List Frame} {c : ℕ ×
      ℕ} {v : Option ResolvedCallee} {m k : ℕ} {s : ResolvedStrategy} {W : ResolvedEnvironment} →
      ClosureFound code I F c v → v ≡ Some (definition m k s W) → ⊥
  no_definition (closure_found x) h = cc

  pub no_closure : {B : ℕ → ℕ →
      Context} {V W : ResolvedEnvironment} {entry room n o : ℕ} {v : Option ResolvedCallee} {s : ResolvedStrategy} →
      DefinitionIs code I B V entry room n o v → v ≡ Some (closure s W) → ⊥
  no_closure (definition_is z r at h i) k = cc
  no_closure (definition_begins r at h i) k = cc

  pub closure_exists : {F : List Frame} {c : ℕ × ℕ} {v : Option ResolvedCallee} → ClosureFound code I F c v → v ≡ None →
      ⊥
  closure_exists (closure_found x) h = cc

  pub definition_exists : {B : ℕ → ℕ →
      Context} {V : ResolvedEnvironment} {entry room n o : ℕ} {v : Option ResolvedCallee} →
      DefinitionIs code I B V entry room n o v → v ≡ None → ⊥
  definition_exists (definition_is z r at h i) k = cc
  definition_exists (definition_begins r at h i) k = cc

  pub counted : {B : ℕ → ℕ → Context} {V W : ResolvedEnvironment} {entry room n o m k : ℕ} {s : ResolvedStrategy} →
      DefinitionIs code I B V entry room n o (Some (definition m k s W)) → m ≡ n
  counted (definition_is z r at h i) = h
  counted (definition_begins r at h i) = h

  -- a known strategy parameter is a closure, and not a definition and not nothing
  pub no_definition_known : {D : Context} {z : ResolvedStrategy} {v : Option ResolvedCallee} {m k : ℕ}
      {s : ResolvedStrategy} {W : ResolvedEnvironment} → ParameterIs code I z D v → v ≡ Some (definition m k s W) → ⊥
  no_definition_known (parameter_is x) h = cc

  pub known_exists : {D : Context} {z : ResolvedStrategy} {v : Option ResolvedCallee} → ParameterIs code I z D v →
      v ≡ None → ⊥
  known_exists (parameter_is x) h = cc

  pub no_definition_open : {D : Context} {F : List Frame} {p : ℕ} {z : ResolvedStrategy} {v : Option ResolvedCallee}
      {m k : ℕ} {s : ResolvedStrategy} {W : ResolvedEnvironment} → OpenIs code I F p z D v →
      v ≡ Some (definition m k s W) → ⊥
  no_definition_open (open_is x) h = cc

  pub open_exists : {D : Context} {F : List Frame} {p : ℕ} {z : ResolvedStrategy} {v : Option ResolvedCallee} →
      OpenIs code I F p z D v → v ≡ None → ⊥
  open_exists (open_is x) h = cc

  pub no_closure_body : {D : Context} {z : ResolvedStrategy} {v : Option ResolvedCallee} {s : ResolvedStrategy}
      {W : ResolvedEnvironment} → BodyIs code I D z v → v ≡ Some (closure s W) → ⊥
  no_closure_body (body_of x) h = cc

  pub body_exists : {D : Context} {z : ResolvedStrategy} {v : Option ResolvedCallee} → BodyIs code I D z v → v ≡ None →
      ⊥
  body_exists (body_of x) h = cc

  -- the body of a definition, with its places and records there
  pub body_lands : {B : ℕ → ℕ →
      Context} {U W : ResolvedEnvironment} {entry room n k m o : ℕ} {s : ResolvedStrategy} {cs : ResolvedClosures}
      {p a : ℕ} (up : ℕ) (cl : List (ℕ × ℕ)) (ts : Trees)
      {t : Tree} {e : Bindings} {F : List Frame} {T : List ℕ} {bar : ℕ} {K : List Record} {c : ℕ} {q : Verdict Tree}
      (b : ℕ) →
      DefinitionIs code I B U entry room n k (Some (definition m o s W)) → length (filled_places ts) ≡ k →
      Represents code I (F ++ frame (length e) up cl ∷ []) (B m o) (layer (length e) m o cs U) (length F) →
      bar ≤ length e →
      Simulates code I M (layer (length e) m o cs W) s t (e ++ filled_places ts) b q c →
      SimulatesBody code I M (layer (length e) m o cs W) s t (e ++ filled_places ts) b q c →
      Lands code M a p e F T bar K
      (running entry (length F) t (e ++ (filled_places ts ++ empty_places room)) (F ++ frame (length e) up cl ∷ [])
      T bar (call_record a p ∷ K) b) (1 + 3 * b) (with_ending (keeping (length e)) q) c
  body_lands {B} {entry = entry} {p =
      p} {a} up cl ts {t} {e} {F} {T} {bar} {K} {c} {q} b
      (definition_is {m = m} {k = o} {j = j} {s = s} none r at many terms) taken rep low g h =
      let added = frame (length e) up cl ∷ [] in
      let long = length-append e (filled_places ts) in
      subst (λ z. Lands code M a p e F T bar K
      (running entry (length F) t (e ++ (filled_places ts ++ empty_places z)) (F ++ added)
      T bar (call_record a p ∷ K) b) (1 + 3 * b) (with_ending (keeping (length e)) q) c) (sym none)
      (subst (λ z. Lands code M a p e F T bar K
      (running entry (length F) t (e ++ z) (F ++ added) T bar (call_record a p ∷ K) b) (1 + 3 * b)
      (with_ending (keeping (length e)) q) c) (sym (append_none (filled_places ts)))
      (call_ends up cl e (filled_places ts)
      low at (g (Some o) (B m o) entry 0 j (length F) (F ++ added) T bar (call_record a p ∷ K) b r
      rep (on_top_at (ends_at (got_last F (frame (length e) up cl)) (omega arith))) (omega arith) (omega arith))))
  body_lands {B} {entry = entry} {room} {p =
      p} {a} up cl ts {t} {e} {F} {T} {bar} {K} {c} {q} b
      (definition_begins {m = m} {k = o} {j = j} {s = s} r at many terms) taken rep low g h =
      let added = frame (length e) up cl ∷ [] in
      let long = length-append e (filled_places ts) in
      let x = h (B m o) room entry 0 j (length F) (F ++ added) T bar (call_record a p ∷ K) b o s refl r
      rep (ends_at (got_last F (frame (length e) up cl)) (omega arith)) (omega arith) (omega arith) in
      subst (λ z. Lands code M a p e F T bar K
      (running entry (length F) t (e ++ (filled_places ts ++ empty_places room)) (F ++ added)
      T bar (call_record a p ∷ K) b) (1 + 3 * b) z c)
      (sym (keeping_twice (length e) (length (e ++ filled_places ts)) x.0 (omega arith)) ∙
      ap (with_ending (keeping (length e))) (sym x.1))
      (call_ends up cl e (filled_places ts ++ empty_places room) low at
      (subst (λ z. Lands code M j (length F) z (F ++ added) T bar (call_record a p ∷ K)
      (running entry (length F) t z (F ++ added) T bar (call_record a p ∷ K) b) (3 * b) x.0 c)
      (sym (append_assoc e (filled_places ts) (empty_places room))) x.2))

  -- a body in place
  pub kept_lands : {to p : ℕ} {e : Bindings} {F : List Frame} {T : List ℕ} {bar : ℕ} {K : List Record} {start : State}
      {r c : ℕ} {q : Verdict Tree} →
      Lands code M to p e F T bar K start r q c →
      Lands code M to p e F T bar K start r (with_ending (keeping (length e)) q) c
  kept_lands {to} {p} {e} {F} {T} {bar} {K} {start} {r} (lands_ok {c = c} {u = u} {f = f} new x is back same bound) =
      subst (λ g. Lands code M to p e F T bar K start r (ends (ok u g)) c)
      (sym (ap (λ n. take n f) (sym same) ∙ take_whole f)) (lands_ok new x is back same bound)
  kept_lands (lands_failed new x is back same bound) = lands_failed new x is back same bound
  kept_lands (lands_oversize x bound) = lands_oversize x bound
  kept_lands (lands_spent x bound) = lands_spent x bound

  -- B is the context of the body
  pub inline_lands : {W : ResolvedEnvironment} {D B : Context} {z s : ResolvedStrategy} {m n : ℕ}
      {cs : ResolvedClosures} (ts : Trees) {t : Tree} (e : Bindings) {c : ℕ} {q : Verdict Tree} (b : ℕ)
      {w : Option ℕ} {i x j p : ℕ} {F : List Frame} {T : List ℕ} {bar : ℕ} {K : List Record} {l : ℕ} →
      BodyIs code I D z (Some (definition m n s W)) →
      ((k : ℕ) → Represents code I F D W p → Represents code I F B (layer (length e) k 0 cs W) p) →
      Ranges code I w B i (suc x) z j → end ≡ ts →
      Simulates code I M (layer (length e) m n cs W) s t (e ++ filled_places ts) b q c →
      OnTop w F p (length e) → bar ≤ length e → l ≡ x + suc b →
      Lands code M j p e F T bar K (running i p t e F T bar K l) (3 * suc b) (with_ending (keeping (length e)) q) c
  inline_lands {W} {B = B} {s = s} {cs =
      cs} ts {t} e {c} {q} b {w} {i} {x} {j} {p} {F} {T} {bar} {K} {l} (body_of {m = m} fit)
      layered r none g on_top low cost =
      let here = subst (λ f. Simulates code I M (layer (length e) m 0 cs W) s t f b q c) (append_none e)
      (subst (λ us. Simulates code I M (layer (length e) m 0 cs W) s t (e ++ filled_places us) b q c) (sym none)
      g) in
      wider (3 * suc b) (omega arith)
      (kept_lands (here w B i (suc x) j p F T bar K l r (layered m (fitting p fit)) on_top low (omega arith)))

  pub call_row : {V W : ResolvedEnvironment} {y : Coordinate} {ss : ResolvedStrategies} {ps : Patterns Coordinate}
      {m n : ℕ} {s : ResolvedStrategy} {ts : Trees} {t : Tree} {e : Bindings} {c : ℕ} {q : Verdict Tree} (b : ℕ) →
      called by_coordinates V y ss ps ≡ Some (definition m n s W) →
      arguments (instances (by_coordinates.place_of V) ps e) e ≡ ok ts e →
      Simulates code I M (layer (length e) m n (closures_of by_coordinates V ss) W) s t (e ++ filled_places ts) b q c →
      SimulatesBody code I M (layer (length e) m n (closures_of by_coordinates V ss) W) s t (e ++ filled_places ts)
      b q c →
      Simulates code I M V (call y ss ps) t e (suc b) (with_ending (keeping (length e)) q) c
  call_row {V} {W} {y} {ss} {ps} {m} {n} {s} {ts} {t} {e} {c} {q} b callee given g h w C i x to p F T bar K l
      (call_range {D = D} {entry = entry} {room = room} {us = us} is def has args pr at) rep on_top low cost =
      let count = arguments_count F p args in
      let body = subst (λ v. DefinitionIs code I (λ m k. framed m k (outer C y.layers_up)) (layers_up V y.layers_up)
      entry room (strategies_count ss) (patterns_count ps) v)
      callee (same_definition rep y is entry room def has) in
      let many = counted body in
      let added = frame (length e) (frames_up F p (frames_in C y.layers_up)) (closed F p us) ∷ [] in
      wider (3 * suc b) (omega arith) (step_on (steps_then (paid_step b at (omega arith))
      (same_state (ap (λ v. called_with F T bar K b to p t e (frames_in C y.layers_up) entry room us (arguments v e))
      (same_instances (layers_of C) (by_frames C) (by_coordinates.place_of V) (place_at F p) (same_place rep)
      ps e pr)
      ∙ ap (called_with F T bar K b to p t e (frames_in C y.layers_up) entry room us) given)))
      (body_lands (frames_up F p (frames_in C y.layers_up)) (closed F p us)
      ts b body (filled_count (by_coordinates.place_of V)
      ps e ts (given_are (instances (by_coordinates.place_of V) ps e) ts e given))
      (of_frame (got_last F (frame (length e) (frames_up F p (frames_in C y.layers_up)) (closed F p us))) (omega arith)
      (closed_grown added (arguments_closed rep args)) (represents_grown added (outwards rep y.layers_up)))
      low g h))
  call_row {V} {W} {y} {ss} {ps} {m} {n} {s} {ts} {t} {e} {c} {q} b callee given g h w C i x to p F T bar K l
      (specialization_range {D = D} {entry = entry} {room = room} {ds = ds} {es = es} {ks = ks} j is def has args pr at)
      rep on_top low cost =
      let body = subst (λ v. DefinitionIs code I (λ m k. known k ks (defining ds es D)) (layers_up V y.layers_up)
      entry room (strategies_count ss) (patterns_count ps) v) callee
      (same_specialization_of rep y is entry room def
      (specialization_of vs j (specialization_at (defining ds es D) y.slot ks entry room) has)) in
      let added = frame (length e) (frames_up F p (frames_in C y.layers_up)) [] ∷ [] in
      wider (3 * suc b) (omega arith) (step_on (steps_then (paid_step b at (omega arith))
      (same_state (ap (λ v. called_with F T bar K b to p t e (frames_in C y.layers_up) entry room [] (arguments v e))
      (same_instances (layers_of C) (by_frames C) (by_coordinates.place_of V) (place_at F p) (same_place rep)
      ps e pr)
      ∙ ap (called_with F T bar K b to p t e (frames_in C y.layers_up) entry room []) given)))
      (body_lands (frames_up F p (frames_in C y.layers_up))
      [] ts b body (filled_count (by_coordinates.place_of V)
      ps e ts (given_are (instances (by_coordinates.place_of V) ps e) ts e given))
      (of_known (got_last F (frame (length e) (frames_up F p (frames_in C y.layers_up)) [])) (arguments_known rep args)
      (subst (λ E. Represents code I (F ++ added) E (layers_up V y.layers_up) (frames_up F p (frames_in C y.layers_up)))
      is (represents_grown added (outwards rep y.layers_up)))) low g h))
  call_row {V} {W} {y} {ss} {ps} {m} {n} {s} {ts} {t} {e} {c} {q} b callee given g h w C i x to p F T bar K l
      (inline_range {D = D} {s = z} {ds = ds} {es = es} hides def is args r) rep on_top low cost =
      inline_lands ts e b (subst (λ v. BodyIs code I (defining ds es D) z v) callee (same_body_of rep y hides is))
      (λ k inner. of_hidden (arguments_known rep args) inner) r
      (no_terms (given_are (instances (by_coordinates.place_of V) no_patterns e) ts e given)) g on_top low cost
    where
      no_terms : Some end ≡ Some ts → end ≡ ts
      no_terms h = cc
  call_row {V} {W} {y} {ss} {ps} {m} {n} {s} {ts} {t} {e} {c} {q} b callee given g h w C i x to p F T bar K l
      (open_range {D = D} {s = z} {ds = ds} {es = es} hides def is args r) rep on_top low cost =
      inline_lands ts e b (subst (λ v. BodyIs code I (defining ds es D) z v) callee (same_body_of rep y hides is))
      (λ k inner. of_open (open_arguments rep args) inner) r
      (no_terms (given_are (instances (by_coordinates.place_of V) no_patterns e) ts e given)) g on_top low cost
    where
      no_terms : Some end ≡ Some ts → end ≡ ts
      no_terms h = cc
  call_row {y = y} b callee given g h w C i x to p F T bar K l (argument_range {D = D} {s = z} none k r)
      rep on_top low cost = absurd (no_definition_open (same_parameter_open rep y z D none k) callee)
  call_row {y = y} b callee given g h w C i x to p F T bar K l (known_range {D = D} {s = z} k r) rep on_top low cost =
      absurd (no_definition_known (same_parameter rep y z D k) callee)
  call_row {y = y} b callee given g h w C i x to p F T bar K l (parameter_range k at) rep on_top low cost =
      absurd (no_definition (same_closure rep y k) callee)

  pub stop_lands : (a room i p : ℕ) (t : Tree) (e : Bindings) (h : ℕ) (us : List Argument) (F : List Frame) (T : List ℕ)
      (bar : ℕ) (K : List Record) (c : ℕ) (o : Stop) →
      Lands code M i p e F T bar K (called_with F T bar K c i p t e h a room us (stop o)) (1 + 3 * c) (ends (stop o)) c
  stop_lands a room i p t e h us F T bar K c failure = fails_here i p e F T bar K c
  stop_lands a room i p t e h us F T bar K c excess = lands_oversize no_step (omega arith)

  pub call_stop_row : {V W : ResolvedEnvironment} {y : Coordinate} {ss : ResolvedStrategies} {ps : Patterns Coordinate}
      {m n : ℕ} {s : ResolvedStrategy} {t : Tree} {e : Bindings} {o : Stop} (c : ℕ) →
      called by_coordinates V y ss ps ≡ Some (definition m n s W) →
      arguments (instances (by_coordinates.place_of V) ps e) e ≡ stop o →
      Simulates code I M V (call y ss ps) t e (suc c) (ends (stop o)) c
  call_stop_row {V} {y = y} {ps = ps} {t = t} {e = e} {o =
      o} c callee given w C i x to p F T bar K l
      (call_range {entry = entry} {room = room} {us = us} is def has args pr at) rep on_top low cost =
      wider (3 * suc c) (omega arith) (step_on (steps_then (paid_step c at (omega arith))
      (same_state (ap (λ v. called_with F T bar K c to p t e (frames_in C y.layers_up) entry room us (arguments v e))
      (same_instances (layers_of C) (by_frames C) (by_coordinates.place_of V) (place_at F p) (same_place rep)
      ps e pr)
      ∙ ap (called_with F T bar K c to p t e (frames_in C y.layers_up) entry room us) given)))
      (stop_lands entry room to p t e (frames_in C y.layers_up) us F T bar K c o))
  call_stop_row {V} {y = y} {ps = ps} {t = t} {e = e} {o =
      o} c callee given w C i x to p F T bar K l
      (specialization_range {entry = entry} {room = room} j is def has args pr at) rep on_top low cost =
      wider (3 * suc c) (omega arith) (step_on (steps_then (paid_step c at (omega arith))
      (same_state (ap (λ v. called_with F T bar K c to p t e (frames_in C y.layers_up) entry room [] (arguments v e))
      (same_instances (layers_of C) (by_frames C) (by_coordinates.place_of V) (place_at F p) (same_place rep)
      ps e pr)
      ∙ ap (called_with F T bar K c to p t e (frames_in C y.layers_up) entry room []) given)))
      (stop_lands entry room to p t e (frames_in C y.layers_up) [] F T bar K c o))
  call_stop_row c callee given w C i x to p F T bar K l (inline_range hides def is args r) rep on_top low cost =
      absurd (cc)
  call_stop_row c callee given w C i x to p F T bar K l (open_range hides def is args r) rep on_top low cost =
      absurd (cc)
  call_stop_row {y = y} c callee given w C i x to p F T bar K l (argument_range {D = D} {s = z} none k r)
      rep on_top low cost = absurd (no_definition_open (same_parameter_open rep y z D none k) callee)
  call_stop_row {y = y} c callee given w C i x to p F T bar K l (known_range {D = D} {s = z} k r) rep on_top low cost =
      absurd (no_definition_known (same_parameter rep y z D k) callee)
  call_stop_row {y = y} c callee given w C i x to p F T bar K l (parameter_range h at) rep on_top low cost =
      absurd (no_definition (same_closure rep y h) callee)

  -- the strategy that a known parameter is, in its environment
  pub known_lands : {W : ResolvedEnvironment} {D : Context} {z s : ResolvedStrategy} {t : Tree} {e : Bindings} {c : ℕ}
      {q : Verdict Tree} (b : ℕ)
      {w : Option ℕ} {i x j p : ℕ} {F : List Frame} {T : List ℕ} {bar : ℕ} {K : List Record} {l : ℕ} →
      ParameterIs code I z D (Some (closure s W)) → Ranges code I w D i (suc x) z j → Simulates code I M W s t e b q c →
      OnTop w F p (length e) → bar ≤ length e → l ≡ x + suc b →
      Lands code M j p e F T bar K (running i p t e F T bar K l) (3 * suc b) q c
  known_lands {D = D} b {w} {i} {x} {j} {p} {F} {T} {bar} {K} {l} (parameter_is fit) r g on_top low cost =
      wider (3 * suc b) (omega arith) (g w D i (suc x) j p F T bar K l r (fitting p fit) on_top low (omega arith))

  -- the strategy that a known parameter is, in the frame that it may look at
  pub argument_lands : {W : ResolvedEnvironment} {D : Context} {z s : ResolvedStrategy} {t : Tree} {e : Bindings}
      {c : ℕ} {q : Verdict Tree} (b : ℕ)
      {w : Option ℕ} {i x j p : ℕ} {F : List Frame} {T : List ℕ} {bar : ℕ} {K : List Record} {l : ℕ} →
      OpenIs code I F p z D (Some (closure s W)) → Ranges code I w D i (suc x) z j → Simulates code I M W s t e b q c →
      OnTop w F p (length e) → bar ≤ length e → l ≡ x + suc b →
      Lands code M j p e F T bar K (running i p t e F T bar K l) (3 * suc b) q c
  argument_lands {D = D} b {w} {i} {x} {j} {p} {F} {T} {bar} {K} {l} (open_is inside) r g on_top low cost =
      wider (3 * suc b) (omega arith) (g w D i (suc x) j p F T bar K l r inside on_top low (omega arith))

  pub parameter_row : {V W : ResolvedEnvironment} {y : Coordinate} {ss : ResolvedStrategies} {ps : Patterns Coordinate}
      {s : ResolvedStrategy} {t : Tree} {e : Bindings} {c : ℕ} {q : Verdict Tree} (b : ℕ) →
      called by_coordinates V y ss ps ≡ Some (closure s W) → Simulates code I M W s t e b q c →
      Simulates code I M V (call y ss ps) t e (suc b) q c
  parameter_row {V} {W} {y} {s = s} {t = t} {e = e} {c = c} {q =
      q} b callee g w C i x to p F T bar K l (parameter_range h at) rep on_top low cost =
      wider (3 * suc b) (omega arith)
      (step_on (paid_step b at (omega arith))
      (in_it (found (subst (λ v. ClosureFound code I F (closure_in F p (by_frames C y)) v)
      callee (same_closure rep y h)))))
    where
      in_it : ClosureIs code I F s W (closure_in F p (by_frames C y)) →
          Lands code M (suc i) p e F T bar K (in_closure F T bar K b (suc i) p t e (closure_in F p (by_frames C y)))
          (1 + 3 * b) q c
      in_it (closure_is {C = D} {j = j} r at1 inside) =
          argument_ends at1 (g None D (closure_in F p (by_frames C y)).0 0 j (closure_in F p (by_frames C y)).1 F T bar
          (call_record (suc i) p ∷ K) b r inside never_on_top low (omega arith))
  parameter_row {V} {W} {y} {s =
      s} b callee g w C i x to p F T bar K l (known_range {D = D} {s = z} k r) rep on_top low cost =
      known_lands b (subst (λ v. ParameterIs code I z D v) callee (same_parameter rep y z D k)) r g on_top low cost
  parameter_row {y = y} {ps = ps} b callee g w C i x to p F T bar K l
      (call_range {entry = entry} {room = room} is def has args pr at) rep on_top low cost =
      absurd (no_closure (same_definition rep y is entry room def has) callee)
  parameter_row {y = y} b callee g w C i x to p F T bar K l (inline_range {D = D} {s = z} hides def is args r)
      rep on_top low cost = absurd (no_closure_body (same_body_of rep y hides is) callee)
  parameter_row {y = y} b callee g w C i x to p F T bar K l (open_range {D = D} {s = z} hides def is args r)
      rep on_top low cost = absurd (no_closure_body (same_body_of rep y hides is) callee)
  parameter_row {V} {W} {y} {s =
      s} b callee g w C i x to p F T bar K l (argument_range {D = D} {s = z} none k r) rep on_top low cost =
      argument_lands b (subst (λ v. OpenIs code I F p z D v) callee (same_parameter_open rep y z D none k))
      r g on_top low cost
  parameter_row {y = y} {ps = ps} b callee g w C i x to p F T bar K l
      (specialization_range {D = D} {entry = entry} {room = room} {ds = ds} {es = es} {ks = ks} j is def has args pr at)
      rep on_top low cost =
      absurd (no_closure (same_specialization_of rep y is entry room def
      (specialization_of vs j (specialization_at (defining ds es D) y.slot ks entry room) has)) callee)

  pub nowhere_row : {V : ResolvedEnvironment} {y : Coordinate} {ss : ResolvedStrategies} {ps : Patterns Coordinate}
      {t : Tree} {e : Bindings} (b : ℕ) → called by_coordinates V y ss ps ≡ None →
      Simulates code I M V (call y ss ps) t e b spent 0
  nowhere_row {y = y} {ps = ps} b callee w C i x to p F T bar K l
      (call_range {entry = entry} {room = room} is def has args pr at) rep on_top low cost =
      absurd (definition_exists (same_definition rep y is entry room def has) callee)
  nowhere_row {y = y} {ps = ps} b callee w C i x to p F T bar K l
      (specialization_range {D = D} {entry = entry} {room = room} {ds = ds} {es = es} {ks = ks} j is def has args pr at)
      rep on_top low cost =
      absurd (definition_exists
      (same_specialization_of rep y is entry room def
      (specialization_of vs j (specialization_at (defining ds es D) y.slot ks entry room) has)) callee)
  nowhere_row {y = y} b callee w C i x to p F T bar K l (inline_range hides def is args r) rep on_top low cost =
      absurd (body_exists (same_body_of rep y hides is) callee)
  nowhere_row {y = y} b callee w C i x to p F T bar K l (open_range hides def is args r) rep on_top low cost =
      absurd (body_exists (same_body_of rep y hides is) callee)
  nowhere_row {y = y} b callee w C i x to p F T bar K l (argument_range {D = D} {s = z} none k r) rep on_top low cost =
      absurd (open_exists (same_parameter_open rep y z D none k) callee)
  nowhere_row {y = y} b callee w C i x to p F T bar K l (known_range {D = D} {s = z} k r) rep on_top low cost =
      absurd (known_exists (same_parameter rep y z D k) callee)
  nowhere_row {y = y} b callee w C i x to p F T bar K l (parameter_range h at) rep on_top low cost =
      absurd (closure_exists (same_closure rep y h) callee)
