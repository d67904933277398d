-- Ranges of all, one and some.
use Rattle.std.proofs.Common.{◌≡◌, ℕ, suc, ◌+◌, ◌*◌, ◌-◌, ◌≤◌, Some, List, [], ◌∷◌, length, ◌++◌, refl, ◌∙◌, ap, arith, subst}
use Rattle.std.specs.Prelude.{Option, Some, Bool, true, false}
use Rattle.term_model.specs.Term.{Tree, Trees, end, more}
use Rattle.term_model.specs.Flat.{Meaning}
use Rattle.core_lang.specs.Program.{all, one, some}
use Rattle.core_lang.specs.Environment.{Bindings}
use Rattle.core_lang.specs.Ending.{Ending, ok, failure, excess, stop, with_parts, rebuilt}
use Rattle.core_lang.specs.Resolved.{ResolvedStrategy, ResolvedEnvironment}
use Rattle.core_lang.specs.Derivation.{parts}
use Rattle.core_lang.specs.Settled.{Verdict, ends, spent, verdict_in_front}
use Rattle.strat_code.specs.Code.{part_done, Code, At}
use Rattle.strat_code.specs.Context.{Specialization, Context}
use Rattle.strat_code.specs.Ranges.{Ranges, all_range, one_range, some_range}
use Rattle.strat_steps.specs.State.{Frame, saved, Record, all_record, one_record, some_record, State, running, failing}
use Rattle.strat_steps.specs.Binding.{trimmed}
use Rattle.strat_steps.specs.Step.{in_order, on_all, on_one, on_some, on_some_unchanged}
use Rattle.core_lang.specs.Going.{IsEnd, IsHalt, row_ended, with_ending}
use Rattle.strat_steps.proofs.TrailLaws.{trimmed_new, restores_lower, restores_trimmed}
use Rattle.strat_steps.proofs.Representation.{Represents}
use Rattle.strat_steps.proofs.Landing.{Lands, lands_ok, lands_failed, lands_oversize, lands_spent, steps_then, one_step, paid_step, wider, onward, step_on}
use Rattle.strat_steps.proofs.Simulates.{restored, OnTop, on_top_same, Leaves, built_leaves, Simulates, fails_here, goes_on_lands}

module _ (code : Code) (I : List Specialization) (M : Meaning) where
  -- parts that are done, in front of an ending over parts
  abbrev pub onto : Trees → Ending Trees → Ending Trees
  onto done (ok us f) = ok (in_order done us) f
  onto done (stop q) = stop q

  abbrev pub whole : Tree → Trees → Verdict Trees → Verdict Tree
  whole t done q = with_ending (λ r. rebuilt t (onto done r)) q

  pub whole_next : (t : Tree) (done : Trees) (u : Tree) (q : Verdict Trees) →
      whole t (more u done) q ≡ whole t done (verdict_in_front u q)
  whole_next t done u (ends (ok us f)) = refl
  whole_next t done u (ends (stop failure)) = refl
  whole_next t done u (ends (stop excess)) = refl
  whole_next t done u spent = refl

  pub whole_first : (t : Tree) (q : Verdict Trees) → whole t end q ≡ with_ending (rebuilt t) q
  whole_first t (ends (ok us f)) = refl
  whole_first t (ends (stop failure)) = refl
  whole_first t (ends (stop excess)) = refl
  whole_first t spent = refl

  pub rebuilt_leaves : (t : Tree) (us : Trees) (e : Bindings) → Leaves e (rebuilt t (ok us e))
  rebuilt_leaves t us e = built_leaves (Some (with_parts t us)) e

  -- the code for each part, and its end
  pub record Body (C : Context) (V : ResolvedEnvironment) (s : ResolvedStrategy) (body after p : ℕ) (F : List Frame)
      (n : ℕ) : Type 0 where
    when : Option ℕ
    exit : ℕ
    range : Ranges code I when C body 0 s exit
    at : At code exit part_done
    ends : after ≡ suc exit
    represents : Represents code I F C V p
    on_top : OnTop when F p n

  pub same_body : {C : Context} {V : ResolvedEnvironment} {s : ResolvedStrategy} {body after p : ℕ} {F : List Frame}
      (e f : Bindings) → length f ≡ length e → Body C V s body after p F (length e) →
      Body C V s body after p F (length f)
  same_body {C} e f h loop = record {
    when = loop.when;
    exit = loop.exit;
    range = loop.range;
    at = loop.at;
    ends =
        loop.ends;
    represents = loop.represents;
    on_top = on_top_same e f h loop.on_top;
  }

  abbrev pub SimulatesAll : ResolvedEnvironment → ResolvedStrategy → Trees → Bindings → ℕ → Verdict Trees → ℕ → Type 0
  SimulatesAll V s ts e b q c =
      (C : Context) (body after p : ℕ) (F : List Frame) (T : List ℕ) (bar : ℕ) (K : List Record) (t : Tree)
      (done : Trees) → Body C V s body after p F (length e) → bar ≤ length e →
      Lands code M after p e F T bar K (on_all F T bar K b body after p t e done ts) (1 + 3 * b) (whole t done q) c

  abbrev pub SimulatesOne : ResolvedEnvironment → ResolvedStrategy → Trees → Bindings → ℕ → Verdict Trees → ℕ → Type 0
  SimulatesOne V s ts e b q c =
      (C : Context) (body after p : ℕ) (F : List Frame) (T : List ℕ) (bar : ℕ) (K : List Record) (t : Tree)
      (done : Trees) → Body C V s body after p F (length e) → bar ≤ length e →
      Lands code M after p e F T bar K (on_one F T bar K b body after p t e done ts) (1 + 3 * b) (whole t done q) c

  -- the last part may fail, and then the whole is made in a further step
  abbrev pub some_room : Trees → ℕ
  some_room end = 1
  some_room (more v ts) = 2

  pub some_room_most : (ts : Trees) → some_room ts ≤ 2
  some_room_most end = omega arith
  some_room_most (more v ts) = omega arith

  abbrev pub SimulatesSome : ResolvedEnvironment → ResolvedStrategy → Trees → Bindings → Bool → ℕ → Verdict Trees → ℕ →
      Type 0
  SimulatesSome V s ts e found b q c =
      (C : Context) (body after p : ℕ) (F : List Frame) (T : List ℕ) (bar : ℕ) (K : List Record) (t : Tree)
      (done : Trees) → Body C V s body after p F (length e) → bar ≤ length e →
      Lands code M after p e F T bar K (on_some F T bar K b body after p t e found done ts) (some_room ts + 3 * b)
      (whole t done q) c

  -- all(s): a part is done
  pub all_part : {j body after p : ℕ} {e f : Bindings} {F : List Frame} {T : List ℕ} {bar : ℕ} {K : List Record}
      {start : State} {t u : Tree} {done ts : Trees} {d c r r2 : ℕ} {q : Verdict Tree} →
      Lands code M j p e F T bar (all_record body after t done ts ∷ K) start r (ends (ok u f)) d → At code j part_done →
      ((U : List ℕ) → length f ≡ length e →
      Lands code M after p f F U bar K (on_all F U bar K d body after p t f (more u done) ts) r2 q c) →
      r2 ≤ 1 + 3 * d → Lands code M after p e F T bar K start (1 + r) q c
  all_part {d = d} {r = r} (lands_ok {U = U} new x is back same bound) at others room =
      wider (1 + r) (omega arith)
      (onward new (steps_then x (paid_step d at (omega arith))) is back same (others U same))

  pub all_stops : {j body after p : ℕ} {e : Bindings} {F : List Frame} {T : List ℕ} {bar : ℕ} {K : List Record}
      {start : State} {t : Tree} {done ts : Trees} {c r : ℕ} {q : Verdict Tree} → IsEnd q →
      Lands code M j p e F T bar (all_record body after t done ts ∷ K) start r q c →
      Lands code M after p e F T bar K start (1 + r) (whole t done (row_ended q)) c
  all_stops h (lands_ok new x is back same bound) = absurd (h)
  all_stops {body = body} {after} {bar = bar} {K = K} {t =
      t} {done} {ts} h (lands_failed {c = c} {f = f} {G = G} {U = U} new x is back same bound) =
      lands_failed new (steps_then x
      (one_step (failing f G U bar (all_record body after t done ts ∷ K) c) (failing f G U bar K c) tt refl))
      is back same (omega arith)
  all_stops h (lands_oversize x bound) = lands_oversize x (omega arith)
  all_stops h (lands_spent x bound) = lands_spent x (omega arith)

  pub all_end_row : {V : ResolvedEnvironment} {s : ResolvedStrategy} {e : Bindings} (b : ℕ) →
      SimulatesAll V s end e b (ends (ok end e)) b
  all_end_row {e = e} b C body after p F T bar K t done loop low =
      goes_on_lands after p e F T bar K b (rebuilt t (ok (in_order done end) e))
      (rebuilt_leaves t (in_order done end) e)

  pub all_next_row : {V : ResolvedEnvironment} {s : ResolvedStrategy} {v u : Tree} {ts : Trees} {e f : Bindings} {c : ℕ}
      (b d : ℕ) (q : Verdict Trees) → Simulates code I M V s v e b (ends (ok u f)) d → SimulatesAll V s ts f d q c →
      SimulatesAll V s (more v ts) e b (verdict_in_front u q) c
  all_next_row {v = v} {u} {ts} {e} {f} {c} b d q g1 g2 C body after p F T bar K t done loop low =
      subst (λ w. Lands code M after p e F T bar K (running body p v e F T bar (all_record body after t done ts ∷ K) b)
      (1 + 3 * b) w c) (whole_next t done u q)
      (all_part (g1 loop.when C body 0 loop.exit p F T bar (all_record body after t done ts ∷ K)
      b loop.range loop.represents loop.on_top low (omega arith)) loop.at
      (λ U same. g2 C body after p F U bar K t (more u done) (same_body e f same loop) (omega arith)) (omega arith))

  pub all_stop_row : {V : ResolvedEnvironment} {s : ResolvedStrategy} {v : Tree} {ts : Trees} {e : Bindings} {c : ℕ}
      {q : Verdict Tree} (b : ℕ) → Simulates code I M V s v e b q c → IsEnd q →
      SimulatesAll V s (more v ts) e b (row_ended q) c
  all_stop_row {ts = ts} b g h C body after p F T bar K t done loop low =
      all_stops h (g loop.when C body 0 loop.exit p F T bar (all_record body after t done ts ∷ K)
      b loop.range loop.represents loop.on_top low (omega arith))

  pub all_row : {V : ResolvedEnvironment} {s : ResolvedStrategy} {t : Tree} {e : Bindings} {c : ℕ} (b : ℕ)
      (q : Verdict Trees) → SimulatesAll V s (parts t) e b q c →
      Simulates code I M V (all s) t e (suc b) (with_ending (rebuilt t) q) c
  all_row {V} {s} {t} {e} {c} b q g w C i x to p F T bar K l (all_range {j = j} at r at1) rep on_top low is =
      subst (λ w. Lands code M (suc j) p e F T bar K (running i p t e F T bar K l) (3 * suc b) w c) (whole_first t q)
      (wider (3 * suc b) (omega arith)
      (step_on (paid_step b at (omega arith))
      (g C (suc i) (suc j) p F T bar K t end
      (record { when = w; exit = j; range = r; at = at1; ends = refl; represents = rep; on_top = on_top }) low)))

  -- one(s)
  pub one_part : {j body after p : ℕ} {e f : Bindings} {F : List Frame} {T : List ℕ} {bar : ℕ} {K : List Record}
      {start : State} {t v u : Tree} {done ts : Trees} {c r : ℕ} → bar ≤ length e →
      Lands code M j p e F T (length e) (one_record body after t done v ts (saved p (length F) (length T) bar) ∷ K)
      start r (ends (ok u f)) c → At code j part_done →
      Lands code M after p e F T bar K start (1 + r) (ends (rebuilt t (ok (in_order done (more u ts)) f))) c
  one_part {after = after} {p} {e} {f} {F} {T} {bar} {K} {t = t} {u =
      u} {done} {ts} {c} {r} low (lands_ok {U = U} new x is back same bound) at =
      let less = trimmed_new Tree bar new T in
      wider (1 + r) (omega arith)
      (onward less.kept (steps_then x (paid_step c at (omega arith))) (ap (trimmed (length T) bar) is ∙ less.are)
      (restores_trimmed bar e f new T (trimmed (length T) bar (new ++ T))
      less (restores_lower bar (length e) e f new low back)) same
      (goes_on_lands after p f F (trimmed (length T) bar U) bar K c (rebuilt t (ok (in_order done (more u ts)) f))
      (rebuilt_leaves t (in_order done (more u ts)) f)))

  pub one_fails : {j body after p : ℕ} {e : Bindings} {F : List Frame} {T : List ℕ} {bar : ℕ} {K : List Record}
      {start : State} {t v : Tree} {done ts : Trees} {d c r r2 : ℕ} {q : Verdict Tree} →
      Lands code M j p e F T (length e) (one_record body after t done v ts (saved p (length F) (length T) bar) ∷ K)
      start r (ends (stop failure)) d →
      Lands code M after p e F T bar K (on_one F T bar K d body after p t e (more v done) ts) r2 q c → r2 ≤ 1 + 3 * d →
      Lands code M after p e F T bar K start (1 + r) q c
  one_fails {body = body} {after} {p} {e} {F} {T} {bar} {K} {t = t} {v} {done} {ts} {d} {r =
      r} (lands_failed {f = f} {G = G} {U = U} new x is back same bound) other room =
      wider (1 + r) (omega arith)
      (onward [] (steps_then x
      (one_step (failing f G U (length e)
      (one_record body after t done v ts (saved p (length F) (length T) bar) ∷ K) d)
      (on_one F T bar K d body after p t e (more v done) ts)
      tt (restored (λ g H A. on_one H A bar K d body after p t g (more v done) ts) e f F G T U new is back same)))
      refl refl refl other)

  pub part_halts : {j after p : ℕ} {e : Bindings} {F : List Frame} {T : List ℕ} {b bar : ℕ} {K K' : List Record}
      {start : State} (t : Tree) (done : Trees) {c r : ℕ} {q : Verdict Tree} → IsHalt q →
      Lands code M j p e F T b K' start r q c →
      Lands code M after p e F T bar K start (1 + r) (whole t done (row_ended q)) c
  part_halts t done h (lands_ok new x is back same bound) = absurd (h)
  part_halts t done h (lands_failed new x is back same bound) = absurd (h)
  part_halts t done h (lands_oversize x bound) = lands_oversize x (omega arith)
  part_halts t done h (lands_spent x bound) = lands_spent x (omega arith)

  pub one_end_row : {V : ResolvedEnvironment} {s : ResolvedStrategy} {e : Bindings} (b : ℕ) →
      SimulatesOne V s end e b (ends (stop failure)) b
  one_end_row {e = e} b C body after p F T bar K t done loop low = fails_here after p e F T bar K b

  pub one_found_row : {V : ResolvedEnvironment} {s : ResolvedStrategy} {v u : Tree} {ts : Trees} {e f : Bindings}
      {c : ℕ} (b : ℕ) → Simulates code I M V s v e b (ends (ok u f)) c →
      SimulatesOne V s (more v ts) e b (ends (ok (more u ts) f)) c
  one_found_row {v = v} {ts = ts} {e} b g C body after p F T bar K t done loop low =
      one_part low (g loop.when C body 0 loop.exit p F T (length e)
      (one_record body after t done v ts (saved p (length F) (length T) bar) ∷ K)
      b loop.range loop.represents loop.on_top (omega arith) (omega arith)) loop.at

  pub one_halt_row : {V : ResolvedEnvironment} {s : ResolvedStrategy} {v : Tree} {ts : Trees} {e : Bindings} {c : ℕ}
      {q : Verdict Tree} (b : ℕ) → Simulates code I M V s v e b q c → IsHalt q →
      SimulatesOne V s (more v ts) e b (row_ended q) c
  one_halt_row {v = v} {ts = ts} {e} b g h C body after p F T bar K t done loop low =
      part_halts t done h (g loop.when C body 0 loop.exit p F T (length e)
      (one_record body after t done v ts (saved p (length F) (length T) bar) ∷ K)
      b loop.range loop.represents loop.on_top (omega arith) (omega arith))

  pub one_next_row : {V : ResolvedEnvironment} {s : ResolvedStrategy} {v : Tree} {ts : Trees} {e : Bindings} {c : ℕ}
      (b d : ℕ) (q : Verdict Trees) → Simulates code I M V s v e b (ends (stop failure)) d →
      SimulatesOne V s ts e d q c →
      SimulatesOne V s (more v ts) e b (verdict_in_front v q) c
  one_next_row {v = v} {ts} {e} {c} b d q g1 g2 C body after p F T bar K t done loop low =
      subst (λ w. Lands code M after p e F T bar K
      (running body p v e F T (length e) (one_record body after t done v ts (saved p (length F) (length T) bar) ∷ K)
      b) (1 + 3 * b) w c) (whole_next t done v q)
      (one_fails (g1 loop.when C body 0 loop.exit p F T (length e)
      (one_record body after t done v ts (saved p (length F) (length T) bar) ∷ K)
      b loop.range loop.represents loop.on_top (omega arith) (omega arith))
      (g2 C body after p F T bar K t (more v done) loop low) (omega arith))

  pub one_row : {V : ResolvedEnvironment} {s : ResolvedStrategy} {t : Tree} {e : Bindings} {c : ℕ} (b : ℕ)
      (q : Verdict Trees) → SimulatesOne V s (parts t) e b q c →
      Simulates code I M V (one s) t e (suc b) (with_ending (rebuilt t) q) c
  one_row {V} {s} {t} {e} {c} b q g w C i x to p F T bar K l (one_range {j = j} at r at1) rep on_top low is =
      subst (λ w. Lands code M (suc j) p e F T bar K (running i p t e F T bar K l) (3 * suc b) w c) (whole_first t q)
      (wider (3 * suc b) (omega arith)
      (step_on (paid_step b at (omega arith))
      (g C (suc i) (suc j) p F T bar K t end
      (record { when = w; exit = j; range = r; at = at1; ends = refl; represents = rep; on_top = on_top }) low)))

  -- some(s)
  pub some_part : {j body after p : ℕ} {e f : Bindings} {F : List Frame} {T : List ℕ} {bar : ℕ} {K : List Record}
      {start : State} {t v u : Tree} {done ts : Trees} {found : Bool} {d c r r2 : ℕ} {q : Verdict Tree} →
      bar ≤ length e →
      Lands code M j p e F T (length e)
      (some_record body after t done v ts found (saved p (length F) (length T) bar) ∷ K) start r (ends (ok u f)) d →
      At code j part_done →
      ((U : List ℕ) → length f ≡ length e →
      Lands code M after p f F U bar K (on_some F U bar K d body after p t f true (more u done) ts) r2 q c) →
      r2 ≤ 2 + 3 * d → Lands code M after p e F T bar K start (2 + r) q c
  some_part {e = e} {f} {T = T} {bar} {d = d} {r = r} low (lands_ok {U = U} new x is back same bound) at others room =
      let less = trimmed_new Tree bar new T in
      wider (2 + r) (omega arith)
      (onward less.kept (steps_then x (paid_step d at (omega arith))) (ap (trimmed (length T) bar) is ∙ less.are)
      (restores_trimmed bar e f new T (trimmed (length T) bar (new ++ T))
      less (restores_lower bar (length e) e f new low back)) same (others (trimmed (length T) bar U) same))

  pub some_fails : {j body after p : ℕ} {e : Bindings} {F : List Frame} {T : List ℕ} {bar : ℕ} {K : List Record}
      {start : State} {t v : Tree} {done ts : Trees} {found : Bool} {d c r r2 : ℕ} {q : Verdict Tree} →
      Lands code M j p e F T (length e)
      (some_record body after t done v ts found (saved p (length F) (length T) bar) ∷ K)
      start r (ends (stop failure)) d →
      Lands code M after p e F T bar K (on_some_unchanged F T bar K d body after p t e found done v ts) r2 q c →
      r2 ≤ 2 + 3 * d → Lands code M after p e F T bar K start (2 + r) q c
  some_fails {body = body} {after} {p} {e} {F} {T} {bar} {K} {t = t} {v} {done} {ts} {found} {d} {r =
      r} (lands_failed {f = f} {G = G} {U = U} new x is back same bound) other room =
      wider (2 + r) (omega arith)
      (onward [] (steps_then x
      (one_step (failing f G U (length e)
      (some_record body after t done v ts found (saved p (length F) (length T) bar) ∷ K) d)
      (on_some_unchanged F T bar K d body after p t e found done v ts)
      tt (restored (λ g H A. on_some_unchanged H A bar K d body after p t g found done v ts)
      e f F G T U new is back same))) refl refl refl other)

  -- with the part unchanged; where it is the last, the whole is made in a further step
  pub some_unchanged : {exit after p : ℕ} {e : Bindings} {F : List Frame} {T : List ℕ} {bar : ℕ} {K : List Record}
      {c : ℕ} {q : Verdict Tree} (body : ℕ) (t : Tree) (done : Trees) (v : Tree) (ts : Trees) (found : Bool) (d : ℕ) →
      At code exit part_done → after ≡ suc exit →
      Lands code M after p e F T bar K (on_some F T bar K d body after p t e found (more v done) ts)
      (some_room ts + 3 * d) q c →
      Lands code M after p e F T bar K (on_some_unchanged F T bar K d body after p t e found done v ts) (2 + 3 * d) q c
  some_unchanged {exit} {after} body t done v end true d at is x =
      let place : exit ≡ after - 1 = omega arith in
      wider (2 + 3 * d) (omega arith)
      (step_on (paid_step d (subst (λ i. At code i part_done) place at) (omega arith)) x)
  some_unchanged body t done v end false d at is x = wider (2 + 3 * d) (omega arith) x
  some_unchanged body t done v (more w ws) found d at is x = x

  pub some_end_row : {V : ResolvedEnvironment} {s : ResolvedStrategy} {e : Bindings} (b : ℕ) →
      SimulatesSome V s end e true b (ends (ok end e)) b
  some_end_row {e = e} b C body after p F T bar K t done loop low =
      goes_on_lands after p e F T bar K b (rebuilt t (ok (in_order done end) e))
      (rebuilt_leaves t (in_order done end) e)

  pub some_none_row : {V : ResolvedEnvironment} {s : ResolvedStrategy} {e : Bindings} (b : ℕ) →
      SimulatesSome V s end e false b (ends (stop failure)) b
  some_none_row {e = e} b C body after p F T bar K t done loop low = fails_here after p e F T bar K b

  pub some_found_row : {V : ResolvedEnvironment} {s : ResolvedStrategy} {v u : Tree} {ts : Trees} {e f : Bindings}
      {found : Bool} {c : ℕ} (b d : ℕ) (q : Verdict Trees) → Simulates code I M V s v e b (ends (ok u f)) d →
      SimulatesSome V s ts f true d q c →
      SimulatesSome V s (more v ts) e found b (verdict_in_front u q) c
  some_found_row {v = v} {u} {ts} {e} {f} {found} {c} b d q g1 g2 C body after p F T bar K t done loop low =
      let most = some_room_most ts in
      subst (λ w. Lands code M after p e F T bar K
      (running body p v e F T (length e)
      (some_record body after t done v ts found (saved p (length F) (length T) bar) ∷ K) b) (2 + 3 * b) w c)
      (whole_next t done u q)
      (some_part low (g1 loop.when C body 0 loop.exit p F T (length e)
      (some_record body after t done v ts found (saved p (length F) (length T) bar) ∷ K)
      b loop.range loop.represents loop.on_top (omega arith) (omega arith)) loop.at
      (λ U same. g2 C body after p F U bar K t (more u done) (same_body e f same loop) (omega arith)) (omega arith))

  pub some_stays_row : {V : ResolvedEnvironment} {s : ResolvedStrategy} {v : Tree} {ts : Trees} {e : Bindings}
      {found : Bool} {c : ℕ} (b d : ℕ) (q : Verdict Trees) → Simulates code I M V s v e b (ends (stop failure)) d →
      SimulatesSome V s ts e found d q c →
      SimulatesSome V s (more v ts) e found b (verdict_in_front v q) c
  some_stays_row {v = v} {ts} {e} {found} {c} b d q g1 g2 C body after p F T bar K t done loop low =
      subst (λ w. Lands code M after p e F T bar K
      (running body p v e F T (length e)
      (some_record body after t done v ts found (saved p (length F) (length T) bar) ∷ K) b) (2 + 3 * b) w c)
      (whole_next t done v q)
      (some_fails (g1 loop.when C body 0 loop.exit p F T (length e)
      (some_record body after t done v ts found (saved p (length F) (length T) bar) ∷ K)
      b loop.range loop.represents loop.on_top (omega arith) (omega arith))
      (some_unchanged body t done v ts found d loop.at loop.ends (g2 C body after p F T bar K t (more v done) loop low))
      (omega arith))

  pub some_halt_row : {V : ResolvedEnvironment} {s : ResolvedStrategy} {v : Tree} {ts : Trees} {e : Bindings}
      {found : Bool} {c : ℕ} {q : Verdict Tree} (b : ℕ) → Simulates code I M V s v e b q c → IsHalt q →
      SimulatesSome V s (more v ts) e found b (row_ended q) c
  some_halt_row {v = v} {ts = ts} {e} {found} b g h C body after p F T bar K t done loop low =
      wider (2 + 3 * b) (omega arith)
      (part_halts t done h (g loop.when C body 0 loop.exit p F T (length e)
      (some_record body after t done v ts found (saved p (length F) (length T) bar) ∷ K)
      b loop.range loop.represents loop.on_top (omega arith) (omega arith)))

  pub some_row : {V : ResolvedEnvironment} {s : ResolvedStrategy} {t : Tree} {e : Bindings} {c : ℕ} (b : ℕ)
      (q : Verdict Trees) → SimulatesSome V s (parts t) e false b q c →
      Simulates code I M V (some s) t e (suc b) (with_ending (rebuilt t) q) c
  some_row {V} {s} {t} {e} {c} b q g w C i x to p F T bar K l (some_range {j = j} at r at1) rep on_top low is =
      let most = some_room_most (parts t) in
      subst (λ w. Lands code M (suc j) p e F T bar K (running i p t e F T bar K l) (3 * suc b) w c) (whole_first t q)
      (wider (3 * suc b) (omega arith)
      (step_on (paid_step b at (omega arith))
      (g C (suc i) (suc j) p F T bar K t end
      (record { when = w; exit = j; range = r; at = at1; ends = refl; represents = rep; on_top = on_top }) low)))
