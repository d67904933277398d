-- The headline does not rest on this file.
-- Derivations as far as a budget goes: the budget is threaded through the nodes, and where it is spent nothing more is
-- derived. There is one row for each way in which a row of the derivation rules can go.
use Rattle.std.specs.Prelude.{◌≡◌, ℕ, suc, Bool, true, false, Some, None, List, length, ◌++◌}
use Rattle.term_model.specs.Term.{Tree, Trees, end, more}
use Rattle.term_model.specs.Flat.{Meaning}
use Rattle.core_lang.specs.Program.{Pattern, Patterns, Strategy, id, fail, seq, choice, match, build, scope, all, one, some, with_definitions, call, primitive, Strategies, Definitions}
use Rattle.core_lang.specs.Environment.{Environment, layer, definitions, Bindings, no_closures, closure, definition, Reading, closures_of, empty_places, filled_places}
use Rattle.core_lang.specs.Matching.{Matches}
use Rattle.core_lang.specs.Building.{instance, instances}
use Rattle.core_lang.specs.Ending.{Ending, ok, Stop, failure, excess, stop, failed, keeping, built, rebuilt, arguments, answered}
use Rattle.core_lang.specs.Derivation.{parts, called}
use Rattle.core_lang.specs.Settled.{Verdict, ends, spent, verdict_in_front}

-- a stop, or no budget: nothing further is derived
abbrev pub IsEnd : {A : Type 0} → Verdict A → Type 0
IsEnd (ends (ok v e)) = ⊥
IsEnd (ends (stop q)) = Unit {0}
IsEnd spent = Unit {0}

-- a stop that no choice catches, or no budget
abbrev pub IsHalt : {A : Type 0} → Verdict A → Type 0
IsHalt (ends (ok v e)) = ⊥
IsHalt (ends (stop failure)) = ⊥
IsHalt (ends (stop excess)) = Unit {0}
IsHalt spent = Unit {0}

-- of a term in a row: the row ends as it does
abbrev pub row_ended : Verdict Tree → Verdict Trees
row_ended (ends (ok t e)) = ends (ok (more t end) e)
row_ended (ends (stop q)) = ends (stop q)
row_ended spent = spent

-- an ending is changed, no budget stays
abbrev pub with_ending : {A B : Type 0} → (Ending A → Ending B) → Verdict A → Verdict B
with_ending g (ends o) = ends (g o)
with_ending g spent = spent

mutual
  -- from the budget b, the strategy ends so and leaves c, or the budget is spent
  pub data Goes {X B : Type 0} (R : Reading X B) (M : Meaning) : Environment X B → Strategy X B → Tree → Bindings → ℕ →
      Verdict Tree → ℕ → Type 0 where
    go_spent : {V : Environment X B} {s : Strategy X B} {t : Tree} {e : Bindings} → Goes R M V s t e 0 spent 0
    go_id : {V : Environment X B} {t : Tree} {e : Bindings} {c : ℕ} → Goes R M V id t e (suc c) (ends (ok t e)) c
    go_fail : {V : Environment X B} {t : Tree} {e : Bindings} {c : ℕ} → Goes R M V fail t e (suc c) (ends failed) c
    go_seq : {V : Environment X B} {s1 s2 : Strategy X B} {t t1 : Tree} {e e1 : Bindings} {b d c : ℕ}
        {q : Verdict Tree} →
        Goes R M V s1 t e b (ends (ok t1 e1)) d → Goes R M V s2 t1 e1 d q c → Goes R M V (seq s1 s2) t e (suc b) q c
    go_seq_end : {V : Environment X B} {s1 s2 : Strategy X B} {t : Tree} {e : Bindings} {b c : ℕ} {q : Verdict Tree} →
        Goes R M V s1 t e b q c → IsEnd q → Goes R M V (seq s1 s2) t e (suc b) q c
    go_then : {V : Environment X B} {s1 s2 s3 : Strategy X B} {t t1 : Tree} {e e1 : Bindings} {b d c : ℕ}
        {q : Verdict Tree} →
        Goes R M V s1 t e b (ends (ok t1 e1)) d → Goes R M V s2 t1 e1 d q c →
        Goes R M V (choice s1 s2 s3) t e (suc b) q c
    go_else : {V : Environment X B} {s1 s2 s3 : Strategy X B} {t : Tree} {e : Bindings} {b d c : ℕ} {q : Verdict Tree} →
        Goes R M V s1 t e b (ends failed) d → Goes R M V s3 t e d q c → Goes R M V (choice s1 s2 s3) t e (suc b) q c
    go_choice_halt : {V : Environment X B} {s1 s2 s3 : Strategy X B} {t : Tree} {e : Bindings} {b c : ℕ}
        {q : Verdict Tree} →
        Goes R M V s1 t e b q c → IsHalt q → Goes R M V (choice s1 s2 s3) t e (suc b) q c
    go_match : {V : Environment X B} {p : Pattern X} {t : Tree} {e e1 : Bindings} {c : ℕ} →
        Matches (R.place_of V) p e t e1 → Goes R M V (match p) t e (suc c) (ends (ok t e1)) c
    go_no_match : {V : Environment X B} {p : Pattern X} {t : Tree} {e : Bindings} {c : ℕ} →
        ((e1 : Bindings) → Matches (R.place_of V) p e t e1 → ⊥) → Goes R M V (match p) t e (suc c) (ends failed) c
    go_build : {V : Environment X B} {p : Pattern X} {t : Tree} {e : Bindings} {c : ℕ} →
        Goes R M V (build p) t e (suc c) (ends (built (instance (R.place_of V) p e) e)) c
    go_scope : {V : Environment X B} {xs : B} {s : Strategy X B} {t : Tree} {e : Bindings} {b c : ℕ}
        {q : Verdict Tree} →
        Goes R M (layer (length e) R.none xs no_closures V) s t (e ++ empty_places (R.count xs)) b q c →
        Goes R M V (scope xs s) t e (suc b) (with_ending (keeping (length e)) q) c
    go_all : {V : Environment X B} {s : Strategy X B} {t : Tree} {e : Bindings} {b c : ℕ} {q : Verdict Trees} →
        GoesAll R M V s (parts t) e b q c → Goes R M V (all s) t e (suc b) (with_ending (rebuilt t) q) c
    go_one : {V : Environment X B} {s : Strategy X B} {t : Tree} {e : Bindings} {b c : ℕ} {q : Verdict Trees} →
        GoesOne R M V s (parts t) e b q c → Goes R M V (one s) t e (suc b) (with_ending (rebuilt t) q) c
    go_some : {V : Environment X B} {s : Strategy X B} {t : Tree} {e : Bindings} {b c : ℕ} {q : Verdict Trees} →
        GoesSome R M V s (parts t) e false b q c → Goes R M V (some s) t e (suc b) (with_ending (rebuilt t) q) c
    go_let : {V : Environment X B} {ds : Definitions X B} {s : Strategy X B} {t : Tree} {e : Bindings} {b c : ℕ}
        {q : Verdict Tree} →
        Goes R M (definitions ds V) s t e b q c → Goes R M V (with_definitions ds s) t e (suc b) q c
    go_call : {V W : Environment X B} {f : X} {ss : Strategies X B} {ps : Patterns X} {fs xs : B} {s : Strategy X B}
        {ts : Trees} {t : Tree} {e : Bindings} {b c : ℕ} {q : Verdict Tree} →
        called R V f ss ps ≡ Some (definition fs xs s W) → arguments (instances (R.place_of V) ps e) e ≡ ok ts e →
        Goes R M (layer (length e) fs xs (closures_of R V ss) W) s t (e ++ filled_places ts) b q c →
        Goes R M V (call f ss ps) t e (suc b) (with_ending (keeping (length e)) q) c
    go_call_stop : {V W : Environment X B} {f : X} {ss : Strategies X B} {ps : Patterns X} {fs xs : B}
        {s : Strategy X B} {t : Tree} {e : Bindings} {o : Stop} {c : ℕ} →
        called R V f ss ps ≡ Some (definition fs xs s W) → arguments (instances (R.place_of V) ps e) e ≡ stop o →
        Goes R M V (call f ss ps) t e (suc c) (ends (stop o)) c
    go_parameter : {V W : Environment X B} {f : X} {ss : Strategies X B} {ps : Patterns X} {s : Strategy X B} {t : Tree}
        {e : Bindings} {b c : ℕ} {q : Verdict Tree} →
        called R V f ss ps ≡ Some (closure s W) → Goes R M W s t e b q c → Goes R M V (call f ss ps) t e (suc b) q c
    -- a call of nothing has no derivation
    go_nowhere : {V : Environment X B} {f : X} {ss : Strategies X B} {ps : Patterns X} {t : Tree} {e : Bindings}
        {b : ℕ} →
        called R V f ss ps ≡ None → Goes R M V (call f ss ps) t e b spent 0
    go_primitive : {V : Environment X B} {f : List ℕ} {ps : Patterns X} {t : Tree} {e : Bindings} {c : ℕ} →
        Goes R M V (primitive f ps) t e (suc c) (ends (answered (M f) (arguments (instances (R.place_of V) ps e) e))) c

  pub data GoesAll {X B : Type 0} (R : Reading X B) (M : Meaning) : Environment X B → Strategy X B → Trees → Bindings →
      ℕ → Verdict Trees → ℕ → Type 0 where
    go_all_end : {V : Environment X B} {s : Strategy X B} {e : Bindings} {c : ℕ} →
        GoesAll R M V s end e c (ends (ok end e)) c
    go_all_next : {V : Environment X B} {s : Strategy X B} {t t1 : Tree} {ts : Trees} {e e1 : Bindings} {b d c : ℕ}
        {q : Verdict Trees} →
        Goes R M V s t e b (ends (ok t1 e1)) d → GoesAll R M V s ts e1 d q c →
        GoesAll R M V s (more t ts) e b (verdict_in_front t1 q) c
    go_all_stop : {V : Environment X B} {s : Strategy X B} {t : Tree} {ts : Trees} {e : Bindings} {b c : ℕ}
        {q : Verdict Tree} →
        Goes R M V s t e b q c → IsEnd q → GoesAll R M V s (more t ts) e b (row_ended q) c

  pub data GoesOne {X B : Type 0} (R : Reading X B) (M : Meaning) : Environment X B → Strategy X B → Trees → Bindings →
      ℕ → Verdict Trees → ℕ → Type 0 where
    go_one_end : {V : Environment X B} {s : Strategy X B} {e : Bindings} {c : ℕ} →
        GoesOne R M V s end e c (ends failed) c
    go_one_found : {V : Environment X B} {s : Strategy X B} {t t1 : Tree} {ts : Trees} {e e1 : Bindings} {b c : ℕ} →
        Goes R M V s t e b (ends (ok t1 e1)) c → GoesOne R M V s (more t ts) e b (ends (ok (more t1 ts) e1)) c
    go_one_halt : {V : Environment X B} {s : Strategy X B} {t : Tree} {ts : Trees} {e : Bindings} {b c : ℕ}
        {q : Verdict Tree} →
        Goes R M V s t e b q c → IsHalt q → GoesOne R M V s (more t ts) e b (row_ended q) c
    go_one_next : {V : Environment X B} {s : Strategy X B} {t : Tree} {ts : Trees} {e : Bindings} {b d c : ℕ}
        {q : Verdict Trees} →
        Goes R M V s t e b (ends failed) d → GoesOne R M V s ts e d q c →
        GoesOne R M V s (more t ts) e b (verdict_in_front t q) c

  pub data GoesSome {X B : Type 0} (R : Reading X B) (M : Meaning) : Environment X B → Strategy X B → Trees → Bindings →
      Bool → ℕ → Verdict Trees → ℕ → Type 0 where
    go_some_end : {V : Environment X B} {s : Strategy X B} {e : Bindings} {c : ℕ} →
        GoesSome R M V s end e true c (ends (ok end e)) c
    go_some_none : {V : Environment X B} {s : Strategy X B} {e : Bindings} {c : ℕ} →
        GoesSome R M V s end e false c (ends failed) c
    go_some_found : {V : Environment X B} {s : Strategy X B} {t t1 : Tree} {ts : Trees} {e e1 : Bindings} {found : Bool}
        {b d c : ℕ} {q : Verdict Trees} →
        Goes R M V s t e b (ends (ok t1 e1)) d → GoesSome R M V s ts e1 true d q c →
        GoesSome R M V s (more t ts) e found b (verdict_in_front t1 q) c
    go_some_stays : {V : Environment X B} {s : Strategy X B} {t : Tree} {ts : Trees} {e : Bindings} {found : Bool}
        {b d c : ℕ} {q : Verdict Trees} →
        Goes R M V s t e b (ends failed) d → GoesSome R M V s ts e found d q c →
        GoesSome R M V s (more t ts) e found b (verdict_in_front t q) c
    go_some_halt : {V : Environment X B} {s : Strategy X B} {t : Tree} {ts : Trees} {e : Bindings} {found : Bool}
        {b c : ℕ} {q : Verdict Tree} →
        Goes R M V s t e b q c → IsHalt q → GoesSome R M V s (more t ts) e found b (row_ended q) c
