-- The laws of what is settled within a budget, as the evaluator needs them: one node of the budget is taken.
use Rattle.std.proofs.Common.{Bool, true, false, Option, Some, None, length, take, ◌++◌, Result, Ok, Err, IfOk, ◌≡◌, ℕ, ◌+◌, ◌-◌, List, [], ◌∷◌, map, refl, sym, ap, arith, subst}
use Rattle.std.specs.List.{IsFirstAndRest}
use Rattle.std.specs.Prelude.{if◌then◌else◌}
use Rattle.std.specs.Option.{option_map}
use Rattle.term_model.specs.declared.made.Made.TheVariants as made
use Rattle.term_model.specs.Flat.{Meaning}
use Rattle.term_model.specs.Term.{Tree, fits, made_of}
use Rattle.core_lang.specs.declared.coordinate.Coordinate.{Coordinate}
use Rattle.core_lang.specs.declared.program.CoreStrategy.{CoreStrategy}
use Rattle.core_lang.specs.declared.program.CoreArm.{CoreArm}
use Rattle.core_lang.specs.declared.run.Outcome.{Outcome}
use Rattle.core_lang.specs.declared.run.Outcome.TheVariants.{Rewritten, Failed, Oversize, Spent}
use Rattle.core_lang.specs.Ending.{ok, failed, built, if_fits, arguments, answered}
use Rattle.core_lang.specs.Environment.{Environment, layer, no_closures, Bindings, empty_places}
use Rattle.core_lang.specs.Building.{instance, instances}
use Rattle.core_lang.specs.Program.{Pattern, Patterns, Strategy, primitive, id, fail, seq, choice, match, build, scope}
use Rattle.core_lang.specs.Resolved.{by_coordinates}
use Rattle.core_lang.specs.Settled.{Verdict, ends, spent}
use Rattle.core_lang.specs.Tried.{tried}
use Rattle.core_lang.specs.Views.{strategy_of, chain, arm_of, first_of}
use Rattle.core_lang.proofs.SettledLaws.{spent_at_zero, id_settled, fail_settled, match_settled, no_match_settled, build_settled, primitive_settled, seq_goes_on, seq_stops, seq_spent, choice_then, choice_else, choice_oversize, choice_spent, scope_ends, scope_spent}
use Rattle.core_lang.proofs.TriedLaws.{tried_matches, tried_none}
use Rattle.core_eval.specs.Evaluates.{Evaluates, verdict_of, made_ending}
use Rattle.core_eval.specs.Matching.{Found}

-- the outcome is no term
abbrev pub IsNoTerm : Outcome Tree → Type 0
IsNoTerm (Rewritten t) = ⊥
IsNoTerm Failed = Unit {0}
IsNoTerm Oversize = Unit {0}
IsNoTerm Spent = Unit {0}

pub no_term : (r : Outcome Tree) → ((t : Tree) → r ≡ Rewritten t → ⊥) → IsNoTerm r
no_term (Rewritten t) h = h t refl
no_term Failed h = tt
no_term Oversize h = tt
no_term Spent h = tt

-- the same facts of things that are equal
pub moved_to : {M : Meaning} {V W : Environment Coordinate ℕ} {s s' : Strategy Coordinate ℕ} {t : Tree}
    {e e' : Bindings} {b : ℕ} {v : Verdict Tree} {c : ℕ} →
    W ≡ V → s' ≡ s → e' ≡ e → Evaluates M W s' t e' b v c → Evaluates M V s t e b v c
moved_to {M} {V} {W} {s} {s'} {t} {e} {e'} {b} {v} {c} hv hs he x =
    subst (λ z. Evaluates M z s t e b v c)
    hv (subst (λ z. Evaluates M W z t e b v c) hs (subst (λ z. Evaluates M W s' t z b v c) he x))

module _ {M : Meaning} {V : Environment Coordinate ℕ} {t : Tree} {e : Bindings} {b : ℕ} where
  -- a node is taken of a budget that is not zero
  pub taken : {s s' : Strategy Coordinate ℕ} {v : Verdict Tree} {c : ℕ} → s ≡ s' → (b ≡ 0 → ⊥) →
      Evaluates M V s' t e (1 + (b - 1)) v c → Evaluates M V s t e b v c
  taken {s} {s'} {v} {c} h some_left x =
      let same : 1 + (b - 1) ≡ b = omega arith in
      subst (λ z. Evaluates M V z t e b v c) (sym h) (subst (λ m. Evaluates M V s' t e m v c) same x)

  pub at_zero : (s : Strategy Coordinate ℕ) → b ≡ 0 → Evaluates M V s t e b spent b
  at_zero s h = subst (λ m. Evaluates M V s t e m spent b) (sym h)
      (record { settled = spent_at_zero V s t e b; left = omega arith })

  pub at_id : {s : Strategy Coordinate ℕ} → s ≡ id → (b ≡ 0 → ⊥) → Evaluates M V s t e b (ends (ok t e)) (b - 1)
  at_id h some_left = taken h some_left (record { settled = id_settled V t e (b - 1); left = omega arith })

  pub at_fail : {s : Strategy Coordinate ℕ} → s ≡ fail → (b ≡ 0 → ⊥) → Evaluates M V s t e b (ends failed) (b - 1)
  at_fail h some_left = taken h some_left (record { settled = fail_settled V t e (b - 1); left = omega arith })

  -- a match, whose node is paid
  pub match_done : {p : Pattern Coordinate} {f : Bindings} → tried (by_coordinates.place_of V) p t e ≡ Some f →
      Evaluates M V (match p) t e (1 + b) (ends (ok t f)) b
  match_done {p = p} {f = f} is =
      record { settled = match_settled V p t e f b (tried_matches (by_coordinates.place_of V) is); left = omega arith }

  pub no_match_done : {p : Pattern Coordinate} → tried (by_coordinates.place_of V) p t e ≡ None →
      Evaluates M V (match p) t e (1 + b) (ends failed) b
  no_match_done {p = p} is = record {
    settled = no_match_settled V p t e b (tried_none (by_coordinates.place_of V) is);
    left = omega arith;
  }

  pub at_build : {s : Strategy Coordinate ℕ} {p : Pattern Coordinate} {v : Verdict Tree} → s ≡ build p → (b ≡ 0 → ⊥) →
      v ≡ ends (built (instance (by_coordinates.place_of V) p e) e) → Evaluates M V s t e b v (b - 1)
  at_build {s} {p} h some_left is =
      subst (λ z. Evaluates M V s t e b z (b - 1)) (sym is)
      (taken h some_left (record { settled = build_settled V p t e (b - 1); left = omega arith }))

  pub at_primitive : {s : Strategy Coordinate ℕ} {f : List ℕ} {ps : Patterns Coordinate} {v : Verdict Tree} →
      s ≡ primitive f ps → (b ≡ 0 → ⊥) →
      v ≡ ends (answered (M f) (arguments (instances (by_coordinates.place_of V) ps e) e)) →
      Evaluates M V s t e b v (b - 1)
  at_primitive {s} {f} {ps} h some_left is =
      subst (λ z. Evaluates M V s t e b z (b - 1)) (sym is)
      (taken h some_left (record { settled = primitive_settled V f ps t e (b - 1); left = omega arith }))

  -- a sequence, whose node is taken
  pub sequence_goes_on : {r s : Strategy Coordinate ℕ} {u : Tree} {f : Bindings} {d c : ℕ} {v : Verdict Tree} →
      Evaluates M V r t e b (ends (ok u f)) d → Evaluates M V s u f d v c → Evaluates M V (seq r s) t e (1 + b) v c
  sequence_goes_on x y = record { settled = seq_goes_on x.settled y.settled; left = omega arith }

  pub sequence_stops : {r s : Strategy Coordinate ℕ} (f : Bindings) {c : ℕ} (o : Outcome Tree) → IsNoTerm o →
      Evaluates M V r t e b (verdict_of o f) c → Evaluates M V (seq r s) t e (1 + b) (verdict_of o f) c
  sequence_stops f (Rewritten u) n x = absurd n
  sequence_stops f Failed n x = record { settled = seq_stops x.settled; left = omega arith }
  sequence_stops f Oversize n x = record { settled = seq_stops x.settled; left = omega arith }
  sequence_stops f Spent n x = record { settled = seq_spent x.settled; left = omega arith }

  -- a choice, whose node is taken
  pub choice_goes_on : {r s q : Strategy Coordinate ℕ} {u : Tree} {f : Bindings} {d c : ℕ} {v : Verdict Tree} →
      Evaluates M V r t e b (ends (ok u f)) d → Evaluates M V s u f d v c → Evaluates M V (choice r s q) t e (1 + b) v c
  choice_goes_on x y = record { settled = choice_then x.settled y.settled; left = omega arith }

  pub choice_tries_other : {r s q : Strategy Coordinate ℕ} {d c : ℕ} {v : Verdict Tree} →
      Evaluates M V r t e b (ends failed) d → Evaluates M V q t e d v c → Evaluates M V (choice r s q) t e (1 + b) v c
  choice_tries_other x y = record { settled = choice_else x.settled y.settled; left = omega arith }

  pub choice_stops : {r s q : Strategy Coordinate ℕ} (f : Bindings) {c : ℕ} (o : Outcome Tree) → IsNoTerm o →
      (o ≡ Failed → ⊥) → Evaluates M V r t e b (verdict_of o f) c →
      Evaluates M V (choice r s q) t e (1 + b) (verdict_of o f) c
  choice_stops f (Rewritten u) n h x = absurd n
  choice_stops f Failed n h x = absurd (h refl)
  choice_stops f Oversize n h x = record { settled = choice_oversize x.settled; left = omega arith }
  choice_stops f Spent n h x = record { settled = choice_spent x.settled; left = omega arith }

  -- a scope, whose node is taken
  pub scope_done : {k : ℕ} {s : Strategy Coordinate ℕ} (f : Bindings) {c : ℕ} (o : Outcome Tree) →
      Evaluates M (layer (length e) 0 k no_closures V) s t (e ++ empty_places k) b (verdict_of o f) c →
      Evaluates M V (scope k s) t e (1 + b) (verdict_of o (take (length e) f)) c
  scope_done f (Rewritten u) x = record { settled = scope_ends x.settled; left = omega arith }
  scope_done f Failed x = record { settled = scope_ends x.settled; left = omega arith }
  scope_done f Oversize x = record { settled = scope_ends x.settled; left = omega arith }
  scope_done f Spent x = record { settled = scope_spent x.settled; left = omega arith }

-- how a build ends
pub made_built : (o : Option Tree) (e : Bindings) → made_ending (option_map made_of o) e ≡ built o e
made_built None e = refl
made_built (Some t) e = by_test (fits t)
  where
    by_test : (b : Bool) → made_ending (Some (if b then made.Fits t else made.Oversize)) e ≡ if_fits b t e
    by_test true = refl
    by_test false = refl

-- a verdict on a term that the outcome has
pub rewritten_to : {M : Meaning} {V : Environment Coordinate ℕ} {s : Strategy Coordinate ℕ} {t : Tree} {e : Bindings}
    {b : ℕ} {o : Outcome Tree} {u : Tree} (f : Bindings) {c : ℕ} →
    o ≡ Rewritten u → Evaluates M V s t e b (verdict_of o f) c → Evaluates M V s t e b (ends (ok u f)) c
rewritten_to {M} {V} {s} {t} {e} {b} f {c} is x = subst (λ z. Evaluates M V s t e b (verdict_of z f) c) is x

pub failed_to : {M : Meaning} {V : Environment Coordinate ℕ} {s : Strategy Coordinate ℕ} {t : Tree} {e : Bindings}
    {b : ℕ} {o : Outcome Tree} (f : Bindings) {c : ℕ} →
    o ≡ Failed → Evaluates M V s t e b (verdict_of o f) c → Evaluates M V s t e b (ends failed) c
failed_to {M} {V} {s} {t} {e} {b} f {c} is x = subst (λ z. Evaluates M V s t e b (verdict_of z f) c) is x

-- following a call
pub on_ok : {A E : Type 0} (res : Result A E) {P Q : A → Type 0} → ((r : A) → P r → Q r) → IfOk res P → IfOk res Q
on_ok (Ok r) f h = f r h
on_ok (Err x) f h = tt

-- the next of a chain, and of the arms
pub chain_next : (s : Strategy Coordinate ℕ) (xs rest : List CoreStrategy) (x : CoreStrategy) →
    IsFirstAndRest xs x rest →
    chain s (map strategy_of xs) ≡ seq s (chain (strategy_of x) (map strategy_of rest))
chain_next s xs rest x h = ap (λ ys. chain s (map strategy_of ys)) h.0

pub chain_ends : (s : Strategy Coordinate ℕ) (xs : List CoreStrategy) → length xs ≡ 0 → chain s (map strategy_of xs) ≡ s
chain_ends s [] h = refl
chain_ends s (x ∷ xs) h = absurd (omega arith)

pub arms_next : (xs rest : List CoreArm) (x : CoreArm) (q : Strategy Coordinate ℕ) → IsFirstAndRest xs x rest →
    first_of (map arm_of xs) q ≡ first_of (arm_of x ∷ map arm_of rest) q
arms_next xs rest x q h = ap (λ ys. first_of (map arm_of ys) q) h.0

pub no_arms : (xs : List CoreArm) (q : Strategy Coordinate ℕ) → length xs ≡ 0 → first_of (map arm_of xs) q ≡ q
no_arms [] q h = refl
no_arms (x ∷ xs) q h = absurd (omega arith)

pub found_true : (o : Option Bindings) (test_is : Bool) (f : Bindings) → Found o test_is f → test_is ≡ true → o ≡ Some f
found_true o true f h is = h
found_true o false f h is = absurd (cc)

pub found_false : (o : Option Bindings) (test_is : Bool) (f : Bindings) → Found o test_is f → test_is ≡ false → o ≡ None
found_false o true f h is = absurd (cc)
found_false o false f h is = h
