-- Chains of alternatives of which the first that has the root is tried.
use Rattle.std.proofs.Common.{◌≡◌, ℕ, zero, suc, ◌+◌, ◌*◌, ◌-◌, ◌<◌, ◌⊎◌, inl, inr, List, ◌∷◌, length, refl, sym, ◌∙◌, ap, arith, subst}
use Rattle.std.specs.Prelude.{Option, Bool, true, false, nat_lt, if◌then◌else◌}
use Rattle.term_model.specs.Term.{Tree}
use Rattle.term_model.specs.Flat.{Meaning}
use Rattle.core_lang.specs.Program.{id, fail, seq, choice, match, build, scope, all, one, some, with_definitions, call, primitive}
use Rattle.core_lang.specs.Environment.{Bindings}
use Rattle.core_lang.specs.Ending.{ok, failure, stop}
use Rattle.core_lang.specs.Resolved.{ResolvedStrategy, ResolvedEnvironment, by_coordinates}
use Rattle.core_lang.specs.Settled.{Verdict, ends, spent, Settled, settled, unsettled}
use Rattle.core_lang.proofs.SettledLaws.{has_node}
use Rattle.core_lang.proofs.GoingLaws.{settled_so}
use Rattle.strat_code.specs.Code.{Case, case, Code}
use Rattle.core_lang.specs.Roots.{Root}
use Rattle.strat_code.specs.Context.{Specialization, Context}
use Rattle.strat_code.specs.Ranges.{Cases, one_case, more_cases, Selects, select_last, select_more}
use Rattle.strat_steps.specs.State.{Frame, saved, Record, choice_record, run_spent, State, running, ended}
use Rattle.strat_steps.specs.Step.{selected, no_step}
use Rattle.core_lang.specs.Going.{IsHalt, Goes}
use Rattle.core_lang.specs.Roots.{has_root}
use Rattle.core_lang.proofs.RootLaws.{FailsBy}
use Rattle.strat_steps.proofs.TrailLaws.{if_less, if_more}
use Rattle.strat_steps.proofs.Landing.{Lands, lands_spent, wider, halt_lands}
use Rattle.strat_steps.proofs.Simulates.{Simulates, SimulatesChain}
use Rattle.strat_steps.proofs.AskLaws.{Lacks, fails_by_roots}
use Rattle.strat_steps.proofs.ChoiceRows.{otherwise_lands, id_chosen}

pub not_ok : {n b : ℕ} {u : Tree} {f : Bindings} (c : ℕ) → FailsBy n b (ends (ok u f)) c → ⊥
not_ok c (inl h) = let k = h.0 in cc
not_ok c (inr h) = let k = h.0 in cc

module _ (code : Code) (I : List Specialization) (M : Meaning) where
  -- whether the first alternative can have the root
  pub roots : (r : Root) (t : Tree) → (has_root r t ≡ true) ⊎ (has_root r t ≡ false)
  roots r t = by_value (has_root r t) refl
    where
      by_value : (v : Bool) → has_root r t ≡ v → (has_root r t ≡ true) ⊎ (has_root r t ≡ false)
      by_value true h = inl h
      by_value false h = inr h

  -- it is tried
  pub taken : (r : Root) (t : Tree) → has_root r t ≡ true →
      (n body other last p : ℕ) (cs : List Case) (e : Bindings) (F : List Frame) (T : List ℕ) (bar : ℕ)
      (K : List Record) (l : ℕ) →
      selected (case r n body other ∷ cs) last p t e F T bar K l ≡
      running body p t e F T (length e) (choice_record other t (saved p (length F) (length T) bar) ∷ K) l
  taken r t h n body other last p cs e F T bar K l =
      ap (λ v. if v then running body p t e F T (length e)
      (choice_record other t (saved p (length F) (length T) bar) ∷ K) l
      else (if nat_lt l n then ended run_spent l else selected cs last p t e F T bar K (l - n))) h

  -- it is passed by
  pub passed : (r : Root) (t : Tree) → has_root r t ≡ false →
      (n body other last p : ℕ) (cs : List Case) (e : Bindings) (F : List Frame) (T : List ℕ) (bar : ℕ)
      (K : List Record) (l rest : ℕ) → l ≡ n + rest →
      selected (case r n body other ∷ cs) last p t e F T bar K l ≡ selected cs last p t e F T bar K rest
  passed r t h n body other last p cs e F T bar K l rest is =
      ap (λ v. if v then running body p t e F T (length e)
      (choice_record other t (saved p (length F) (length T) bar) ∷ K) l
      else (if nat_lt l n then ended run_spent l else selected cs last p t e F T bar K (l - n))) h
      ∙ if_more (ended run_spent l) (selected cs last p t e F T bar K (l - n)) l n (omega arith) ∙
      ap (selected cs last p t e F T bar K) (let d : l - n ≡ rest = omega arith in d)

  -- or the budget is spent
  pub passed_spent : (r : Root) (t : Tree) → has_root r t ≡ false →
      (n body other last p : ℕ) (cs : List Case) (e : Bindings) (F : List Frame) (T : List ℕ) (bar : ℕ)
      (K : List Record) (l : ℕ) → l < n →
      selected (case r n body other ∷ cs) last p t e F T bar K l ≡ ended run_spent l
  passed_spent r t h n body other last p cs e F T bar K l is =
      ap (λ v. if v then running body p t e F T (length e)
      (choice_record other t (saved p (length F) (length T) bar) ∷ K) l
      else (if nat_lt l n then ended run_spent l else selected cs last p t e F T bar K (l - n))) h
      ∙ if_less (ended run_spent l) (selected cs last p t e F T bar K (l - n)) l n is

  -- an alternative is tried where the term has one of its roots; else it is passed by, or the budget is spent
  pub ways : {n body other : ℕ} {others cs : List Case} {rs : List Root} → Cases n body other others rs cs →
      (last p : ℕ) (t : Tree) (e : Bindings) (F : List Frame) (T : List ℕ) (bar : ℕ) (K : List Record) (l : ℕ) →
      (selected cs last p t e F T bar K l ≡
      running body p t e F T (length e) (choice_record other t (saved p (length F) (length T) bar) ∷ K) l)
      ⊎ (Lacks rs t × ((rest : ℕ) → l ≡ n + rest →
      selected cs last p t e F T bar K l ≡ selected others last p t e F T bar K rest) ×
      (l < n → selected cs last p t e F T bar K l ≡ ended run_spent l))
  ways {n} {body} {other} {others} (one_case {r = r}) last p t e F T bar K l = elim (roots r t) [
    | inl h ↦ inl (taken r t h n body other last p others e F T bar K l)
    | inr h ↦ inr (
      (h, tt),
      (λ rest is. passed r t h n body other last p others e F T bar K l rest is),
      λ less. passed_spent r t h n body other last p others e F T bar K l less,
    )
  ]
  ways {n} {body} {other} (more_cases {r = r} {cs = cs} so) last p t e F T bar K l = elim (roots r t) [
    | inl h ↦ inl (taken r t h 0 body other last p cs e F T bar K l)
    | inr h ↦ let on = passed r t h 0 body other last p cs e F T bar K l l (omega arith) in
        elim (ways so last p t e F T bar K l) [
          | inl k ↦ inl (on ∙ k)
          | inr k ↦ inr ((h, k.0), (λ rest is. on ∙ k.1 rest is), λ less. on ∙ k.2 less)
        ]
  ]

  pub from_state : {to p : ℕ} {e : Bindings} {F : List Frame} {T : List ℕ} {bar : ℕ} {K : List Record} {m m1 : State}
      {room c : ℕ} {q : Verdict Tree} → m ≡ m1 → Lands code M to p e F T bar K m1 room q c →
      Lands code M to p e F T bar K m room q c
  from_state {to} {p} {e} {F} {T} {bar} {K} {room = room} {c} {q} h x =
      subst (λ m. Lands code M to p e F T bar K m room q c) (sym h) x

  pub spent_lands : (to p : ℕ) (e : Bindings) (F : List Frame) (T : List ℕ) (bar : ℕ) (K : List Record) (l room c : ℕ) →
      Lands code M to p e F T bar K (ended run_spent l) room spent c
  spent_lands to p e F T bar K l room c = lands_spent no_step (omega arith)

  -- a budget of nothing
  pub spent_of_none : {V : ResolvedEnvironment} {s : ResolvedStrategy} {t : Tree} {e : Bindings} {b c : ℕ}
      {q : Verdict Tree} → Goes by_coordinates M V s t e b q c → b ≡ 0 → q ≡ spent
  spent_of_none x is = known (settled_so x) is
    where
      known : {V : ResolvedEnvironment} {s : ResolvedStrategy} {t : Tree} {e : Bindings} {b c : ℕ} {q : Verdict Tree} →
          Settled by_coordinates M V s t e b q c → b ≡ 0 → q ≡ spent
      known (settled x h) is = let k = has_node x in absurd (omega arith)
      known (unsettled lacks) is = refl

  pub select_then : {V : ResolvedEnvironment} {s1 s2 s3 : ResolvedStrategy} {t u : Tree} {e f : Bindings} {c : ℕ}
      {q : Verdict Tree} (b d : ℕ) →
      Goes by_coordinates M V s1 t e b (ends (ok u f)) d → Simulates code I M V s1 t e b (ends (ok u f)) d →
      Goes by_coordinates M V s2 u f d q c → SimulatesChain code I M V (choice s1 s2 s3) t e (suc b) q c
  select_then {t = t} {e = e} b d x g1 y w C cs last to p F T bar K l
      (select_last {body = body} {j = j} asks so r1 at1 r3) rep on_top low is = elim (ways so last p t e F T bar K l) [
        | inl h ↦ from_state h
            (wider (3 * l) (omega arith)
            (id_chosen (g1 w C body 0 j p F T (length e) (choice_record last t (saved p (length F) (length T) bar) ∷ K)
            l r1 rep on_top (omega arith) (omega arith)) at1 low y))
        | inr h ↦ absurd (not_ok d (fails_by_roots code I M asks rep h.0 x))
      ]
  select_then {t = t} {e = e} b d x g1 y w C cs last to p F T bar K l
      (select_more {body = body} {otherwise = other} {j = j} asks so r1 at1 r3 others) rep on_top low is =
      elim (ways so last p t e F T bar K l) [
        | inl h ↦ from_state h
            (wider (3 * l) (omega arith)
            (id_chosen (g1 w C body 0 j p F T (length e) (choice_record other t (saved p (length F) (length T) bar) ∷ K)
            l r1 rep on_top (omega arith) (omega arith)) at1 low y))
        | inr h ↦ absurd (not_ok d (fails_by_roots code I M asks rep h.0 x))
      ]

  -- a failure by the root pays for n nodes
  pub pays : {n b : ℕ} (c : ℕ) → FailsBy n b (ends (stop failure)) c → b ≡ n + c
  pays c (inl h) = h.1
  pays c (inr h) = absurd (let k = h.0 in cc)

  pub select_else : {V : ResolvedEnvironment} {s1 s2 s3 : ResolvedStrategy} {t : Tree} {e : Bindings} {c : ℕ}
      {q : Verdict Tree} (b d : ℕ) →
      Goes by_coordinates M V s1 t e b (ends (stop failure)) d → Simulates code I M V s1 t e b (ends (stop failure)) d →
      Goes by_coordinates M V s3 t e d q c → Simulates code I M V s3 t e d q c →
      SimulatesChain code I M V s3 t e d q c →
      SimulatesChain code I M V (choice s1 s2 s3) t e (suc b) q c
  select_else {t = t} {e = e} b d x g1 y g3 gs w C cs last to p F T bar K l
      (select_last {body = body} {j = j} asks so r1 at1 r3) rep on_top low is = elim (ways so last p t e F T bar K l) [
        | inl h ↦ from_state h
            (wider (3 * l) (omega arith)
            (otherwise_lands 0 (g1 w C body 0 j p F T (length e)
            (choice_record last t (saved p (length F) (length T) bar) ∷ K) l r1 rep on_top (omega arith) (omega arith))
            (g3 w C last 0 to p F T bar K d r3 rep on_top low (omega arith)) (omega arith)))
        | inr h ↦ let k = pays d (fails_by_roots code I M asks rep h.0 x) in from_state (h.1 d (omega arith))
            (wider (3 * l) (omega arith) (g3 w C last 0 to p F T bar K d r3 rep on_top low (omega arith)))
      ]
  select_else {V} {s3 = s3} {t = t} {e =
      e} {c} {q} b d x g1 y g3 gs w C cs last to p F T bar K l
      (select_more {body = body} {otherwise = other} {j = j} {n = n} {others = others} asks so r1 at1 r3 rest_so)
      rep on_top low is = elim (ways so last p t e F T bar K l) [
        | inl h ↦ from_state h
            (wider (3 * l) (omega arith)
            (otherwise_lands 0 (g1 w C body 0 j p F T (length e)
            (choice_record other t (saved p (length F) (length T) bar) ∷ K) l r1 rep on_top (omega arith) (omega arith))
            (g3 w C other 0 to p F T bar K d r3 rep on_top low (omega arith)) (omega arith)))
        | inr h ↦ let k = pays d (fails_by_roots code I M asks rep h.0 x) in pass h.1 h.2 d y gs (omega arith)
      ]
    where
      pass : ((rest : ℕ) → l ≡ suc n + rest →
          selected cs last p t e F T bar K l ≡ selected others last p t e F T bar K rest) →
          (l < suc n → selected cs last p t e F T bar K l ≡ ended run_spent l) →
          (d : ℕ) → Goes by_coordinates M V s3 t e d q c → SimulatesChain code I M V s3 t e d q c → l ≡ n + d →
          Lands code M to p e F T bar K (selected cs last p t e F T bar K l) (3 * l) q c
      pass on less zero y gs k =
          subst (λ v. Lands code M to p e F T bar K (selected cs last p t e F T bar K l) (3 * l) v c)
          (sym (spent_of_none y refl))
          (from_state (less (omega arith)) (spent_lands to p e F T bar K l (3 * l) c))
      pass on less (suc d) y gs k = from_state (on d (omega arith))
          (wider (3 * l) (omega arith) (gs w C others last to p F T bar K d rest_so rep on_top low refl))

  -- a failure that doesn't fail is spent
  pub halts : {n b : ℕ} (c : ℕ) {q : Verdict Tree} → FailsBy n b q c → IsHalt q → (q ≡ spent) × (b < n)
  halts c {q = q} (inl h) k = absurd (subst IsHalt h.0 k)
  halts c (inr h) k = h

  pub select_halt : {V : ResolvedEnvironment} {s1 s2 s3 : ResolvedStrategy} {t : Tree} {e : Bindings} {c : ℕ}
      {q : Verdict Tree} (b : ℕ) →
      Goes by_coordinates M V s1 t e b q c → Simulates code I M V s1 t e b q c → IsHalt q →
      SimulatesChain code I M V (choice s1 s2 s3) t e (suc b) q c
  select_halt {t = t} {e = e} {c} {q} b x g1 h w C cs last to p F T bar K l
      (select_last {body = body} {j = j} asks so r1 at1 r3) rep on_top low is = elim (ways so last p t e F T bar K l) [
        | inl h1 ↦ from_state h1
            (wider (3 * l) (omega arith)
            (halt_lands h (g1 w C body 0 j p F T (length e)
            (choice_record last t (saved p (length F) (length T) bar) ∷ K) l r1 rep on_top (omega arith)
            (omega arith))))
        | inr h1 ↦ let k = halts c (fails_by_roots code I M asks rep h1.0 x) h in let less = k.1 in
            subst (λ v. Lands code M to p e F T bar K (selected cs last p t e F T bar K l) (3 * l) v c) (sym k.0)
            (from_state (h1.2 (omega arith)) (spent_lands to p e F T bar K l (3 * l) c))
      ]
  select_halt {t = t} {e = e} {c} {q} b x g1 h w C cs last to p F T bar K l
      (select_more {body = body} {otherwise = other} {j = j} asks so r1 at1 r3 others) rep on_top low is =
      elim (ways so last p t e F T bar K l) [
        | inl h1 ↦ from_state h1
            (wider (3 * l) (omega arith)
            (halt_lands h (g1 w C body 0 j p F T (length e)
            (choice_record other t (saved p (length F) (length T) bar) ∷ K) l r1 rep on_top (omega arith)
            (omega arith))))
        | inr h1 ↦ let k = halts c (fails_by_roots code I M asks rep h1.0 x) h in let less = k.1 in
            subst (λ v. Lands code M to p e F T bar K (selected cs last p t e F T bar K l) (3 * l) v c) (sym k.0)
            (from_state (h1.2 (omega arith)) (spent_lands to p e F T bar K l (3 * l) c))
      ]

  abbrev pub IsNoChoice : ResolvedStrategy → Type 0
  IsNoChoice (choice s1 s2 s3) = ⊥
  IsNoChoice id = Unit {0}
  IsNoChoice fail = Unit {0}
  IsNoChoice (seq s1 s2) = Unit {0}
  IsNoChoice (scope n s) = Unit {0}
  IsNoChoice (match p) = Unit {0}
  IsNoChoice (build p) = Unit {0}
  IsNoChoice (all s) = Unit {0}
  IsNoChoice (one s) = Unit {0}
  IsNoChoice (some s) = Unit {0}
  IsNoChoice (with_definitions ds s) = Unit {0}
  IsNoChoice (call y ss ps) = Unit {0}
  IsNoChoice (primitive f ps) = Unit {0}

  pub no_chain : {w : Option ℕ} {C : Context} {s : ResolvedStrategy} {cs : List Case} {last to : ℕ} →
      Selects code I w C s cs last to → IsNoChoice s → ⊥
  no_chain (select_last f so r at r3) h = h
  no_chain (select_more f so r at r3 others) h = h

  pub none_selected : (V : ResolvedEnvironment) (s : ResolvedStrategy) (t : Tree) (e : Bindings) (b : ℕ)
      (q : Verdict Tree) (c : ℕ) → IsNoChoice s → SimulatesChain code I M V s t e b q c
  none_selected V s t e b q c h w C cs last to p F T bar K l choices rep on_top low is = absurd (no_chain choices h)
