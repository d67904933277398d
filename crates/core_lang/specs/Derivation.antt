-- The derivation rules, row by row. Each constructor of Derives is one node of a derivation; those over several parts
-- add none. The last number counts the nodes, the node itself included.
use Rattle.std.specs.Prelude.{◌≡◌, ℕ, ◌+◌, Bool, true, false, Option, Some, List, length, ◌++◌}
use Rattle.term_model.specs.Term.{Tree, node, Trees, end, more}
use Rattle.term_model.specs.Flat.{Meaning}
use Rattle.core_lang.specs.Program.{Pattern, Patterns, Strategy, id, fail, seq, choice, match, build, scope, all, one, some, with_definitions, call, primitive, Strategies, Definitions, strategies_count, patterns_count}
use Rattle.core_lang.specs.Environment.{Environment, layer, definitions, Bindings, no_closures, Callee, closure, definition, Reading, closures_of, empty_places, filled_places}
use Rattle.core_lang.specs.Matching.{Matches}
use Rattle.core_lang.specs.Building.{instance, instances}
use Rattle.core_lang.specs.Ending.{Ending, ok, failed, oversize, keeping, in_front, built, rebuilt, arguments, answered, Stop, stop}

-- the parts of a term
abbrev pub parts : Tree → Trees
parts (node h ts annos) = ts

-- what the call of f with these arguments is of
abbrev pub called : {X B : Type 0} → Reading X B → Environment X B → X → Strategies X B → Patterns X →
    Option (Callee X B)
called R V f ss ps = R.callee_of V f (strategies_count ss) (patterns_count ps)

mutual
  -- with identifiers looked up by R and the primitives' meaning M: in the environment V, the strategy s on the term t
  -- with the bindings e ends so, by a derivation of n nodes
  pub data Derives {X B : Type 0} (R : Reading X B) (M : Meaning) : Environment X B → Strategy X B → Tree → Bindings →
      Ending Tree → ℕ → Type 0 where
    -- id: the term and the bindings stay
    by_id : {V : Environment X B} {t : Tree} {e : Bindings} → Derives R M V id t e (ok t e) 1
    -- fail: it fails
    by_fail : {V : Environment X B} {t : Tree} {e : Bindings} → Derives R M V fail t e failed 1
    -- s1; s2: where s1 is ok, s2 has its term and bindings
    by_seq : {V : Environment X B} {s1 s2 : Strategy X B} {t t1 : Tree} {e e1 : Bindings} {o : Ending Tree}
        {n1 n2 n : ℕ} →
        Derives R M V s1 t e (ok t1 e1) n1 → Derives R M V s2 t1 e1 o n2 → n ≡ 1 + n1 + n2 →
        Derives R M V (seq s1 s2) t e o n
    -- s1; s2: a stop of s1 is one of the sequence
    by_seq_stop : {V : Environment X B} {s1 s2 : Strategy X B} {t : Tree} {e : Bindings} {q : Stop} {n1 n : ℕ} →
        Derives R M V s1 t e (stop q) n1 → n ≡ 1 + n1 → Derives R M V (seq s1 s2) t e (stop q) n
    -- s1 < s2 + s3: where s1 is ok, s2 has its term and bindings, and a failure there is not caught
    by_choice_then : {V : Environment X B} {s1 s2 s3 : Strategy X B} {t t1 : Tree} {e e1 : Bindings} {o : Ending Tree}
        {n1 n2 n : ℕ} →
        Derives R M V s1 t e (ok t1 e1) n1 → Derives R M V s2 t1 e1 o n2 → n ≡ 1 + n1 + n2 →
        Derives R M V (choice s1 s2 s3) t e o n
    -- s1 < s2 + s3: where s1 fails, s3 has the old term and bindings
    by_choice_else : {V : Environment X B} {s1 s2 s3 : Strategy X B} {t : Tree} {e : Bindings} {o : Ending Tree}
        {n1 n2 n : ℕ} →
        Derives R M V s1 t e failed n1 → Derives R M V s3 t e o n2 → n ≡ 1 + n1 + n2 →
        Derives R M V (choice s1 s2 s3) t e o n
    -- s1 < s2 + s3: oversize is not caught
    by_choice_oversize : {V : Environment X B} {s1 s2 s3 : Strategy X B} {t : Tree} {e : Bindings} {n1 n : ℕ} →
        Derives R M V s1 t e oversize n1 → n ≡ 1 + n1 → Derives R M V (choice s1 s2 s3) t e oversize n
    -- ?p: the term stays, and the bindings are those under which the pattern matches it
    by_match : {V : Environment X B} {p : Pattern X} {t : Tree} {e e1 : Bindings} →
        Matches (R.place_of V) p e t e1 → Derives R M V (match p) t e (ok t e1) 1
    -- ?p: it fails where the pattern matches under no bindings
    by_no_match : {V : Environment X B} {p : Pattern X} {t : Tree} {e : Bindings} →
        ((e1 : Bindings) → Matches (R.place_of V) p e t e1 → ⊥) → Derives R M V (match p) t e failed 1
    -- !p: the instance of the pattern; failed where there is none, oversize where it doesn't fit
    by_build : {V : Environment X B} {p : Pattern X} {t : Tree} {e : Bindings} {o : Ending Tree} →
        o ≡ built (instance (R.place_of V) p e) e → Derives R M V (build p) t e o 1
    -- {xs: s}: s with a new layer, each of xs at a new place with nothing; afterwards these places are dropped
    by_scope : {V : Environment X B} {xs : B} {s : Strategy X B} {t : Tree} {e : Bindings} {o o1 : Ending Tree}
        {n1 n : ℕ} →
        Derives R M (layer (length e) R.none xs no_closures V) s t (e ++ empty_places (R.count xs)) o1 n1 →
        o ≡ keeping (length e) o1 → n ≡ 1 + n1 → Derives R M V (scope xs s) t e o n
    -- all(s): s on each part; then the term over what they became, oversize where it doesn't fit
    by_all : {V : Environment X B} {s : Strategy X B} {t : Tree} {e : Bindings} {r : Ending Trees} {o : Ending Tree}
        {n1 n : ℕ} →
        DerivesAll R M V s (parts t) e r n1 → o ≡ rebuilt t r → n ≡ 1 + n1 → Derives R M V (all s) t e o n
    -- one(s): s on the parts until one doesn't fail; then the term over them and what that one became
    by_one : {V : Environment X B} {s : Strategy X B} {t : Tree} {e : Bindings} {r : Ending Trees} {o : Ending Tree}
        {n1 n : ℕ} →
        DerivesOne R M V s (parts t) e r n1 → o ≡ rebuilt t r → n ≡ 1 + n1 → Derives R M V (one s) t e o n
    -- some(s): s on each part, those that fail stay; then the term over them, failed where each failed
    by_some : {V : Environment X B} {s : Strategy X B} {t : Tree} {e : Bindings} {r : Ending Trees} {o : Ending Tree}
        {n1 n : ℕ} →
        DerivesSome R M V s (parts t) e false r n1 → o ≡ rebuilt t r → n ≡ 1 + n1 → Derives R M V (some s) t e o n
    -- let ds in s end: s with a new layer of the definitions
    by_definitions : {V : Environment X B} {ds : Definitions X B} {s : Strategy X B} {t : Tree} {e : Bindings}
        {o : Ending Tree} {n1 n : ℕ} →
        Derives R M (definitions ds V) s t e o n1 → n ≡ 1 + n1 → Derives R M V (with_definitions ds s) t e o n
    -- a call of a definition: its body s, in the environment W from its own layer on with a new layer of its
    -- parameters: fs for the closures of the strategy arguments, xs at new places with the term arguments; afterwards
    -- these are dropped
    by_call : {V W : Environment X B} {f : X} {ss : Strategies X B} {ps : Patterns X} {fs xs : B} {s : Strategy X B}
        {ts : Trees} {t : Tree} {e : Bindings} {o o1 : Ending Tree} {n1 n : ℕ} →
        called R V f ss ps ≡ Some (definition fs xs s W) → arguments (instances (R.place_of V) ps e) e ≡ ok ts e →
        Derives R M (layer (length e) fs xs (closures_of R V ss) W) s t (e ++ filled_places ts) o1 n1 →
        o ≡ keeping (length e) o1 → n ≡ 1 + n1 → Derives R M V (call f ss ps) t e o n
    -- a call of a definition: failed where a term argument has no instance, else oversize where one doesn't fit
    by_call_stop : {V W : Environment X B} {f : X} {ss : Strategies X B} {ps : Patterns X} {fs xs : B}
        {s : Strategy X B} {t : Tree} {e : Bindings} {q : Stop} →
        called R V f ss ps ≡ Some (definition fs xs s W) → arguments (instances (R.place_of V) ps e) e ≡ stop q →
        Derives R M V (call f ss ps) t e (stop q) 1
    -- a call of a strategy parameter: its closure's strategy s, in its closure's environment W
    by_parameter : {V W : Environment X B} {f : X} {ss : Strategies X B} {ps : Patterns X} {s : Strategy X B} {t : Tree}
        {e : Bindings} {o : Ending Tree} {n1 n : ℕ} →
        called R V f ss ps ≡ Some (closure s W) → Derives R M W s t e o n1 → n ≡ 1 + n1 →
        Derives R M V (call f ss ps) t e o n
    -- prim(f, ps): the answer to the arguments, which are built as those of a call
    by_primitive : {V : Environment X B} {f : List ℕ} {ps : Patterns X} {t : Tree} {e : Bindings} {o : Ending Tree} →
        o ≡ answered (M f) (arguments (instances (R.place_of V) ps e) e) → Derives R M V (primitive f ps) t e o 1

  -- s on each part from left to right, the bindings passed on; the first that fails or is oversize ends it
  pub data DerivesAll {X B : Type 0} (R : Reading X B) (M : Meaning) : Environment X B → Strategy X B → Trees →
      Bindings → Ending Trees → ℕ → Type 0 where
    all_end : {V : Environment X B} {s : Strategy X B} {e : Bindings} → DerivesAll R M V s end e (ok end e) 0
    all_next : {V : Environment X B} {s : Strategy X B} {t t1 : Tree} {ts : Trees} {e e1 : Bindings}
        {r r1 : Ending Trees} {n1 n2 n : ℕ} →
        Derives R M V s t e (ok t1 e1) n1 → DerivesAll R M V s ts e1 r1 n2 → r ≡ in_front t1 r1 → n ≡ n1 + n2 →
        DerivesAll R M V s (more t ts) e r n
    all_stop : {V : Environment X B} {s : Strategy X B} {t : Tree} {ts : Trees} {e : Bindings} {q : Stop} {n : ℕ} →
        Derives R M V s t e (stop q) n → DerivesAll R M V s (more t ts) e (stop q) n

  -- s on the parts from left to right, each with the bindings e, until one doesn't fail; failed where each fails
  pub data DerivesOne {X B : Type 0} (R : Reading X B) (M : Meaning) : Environment X B → Strategy X B → Trees →
      Bindings → Ending Trees → ℕ → Type 0 where
    one_end : {V : Environment X B} {s : Strategy X B} {e : Bindings} → DerivesOne R M V s end e failed 0
    one_found : {V : Environment X B} {s : Strategy X B} {t t1 : Tree} {ts : Trees} {e e1 : Bindings} {n : ℕ} →
        Derives R M V s t e (ok t1 e1) n → DerivesOne R M V s (more t ts) e (ok (more t1 ts) e1) n
    one_stop : {V : Environment X B} {s : Strategy X B} {t : Tree} {ts : Trees} {e : Bindings} {n : ℕ} →
        Derives R M V s t e oversize n → DerivesOne R M V s (more t ts) e oversize n
    one_next : {V : Environment X B} {s : Strategy X B} {t : Tree} {ts : Trees} {e : Bindings} {r r1 : Ending Trees}
        {n1 n2 n : ℕ} →
        Derives R M V s t e failed n1 → DerivesOne R M V s ts e r1 n2 → r ≡ in_front t r1 → n ≡ n1 + n2 →
        DerivesOne R M V s (more t ts) e r n

  -- s on each part from left to right, the bindings passed on; one that fails stays, with the bindings before it; the
  -- first that is oversize ends it. The test says whether a part before these was ok: failed where none is
  pub data DerivesSome {X B : Type 0} (R : Reading X B) (M : Meaning) : Environment X B → Strategy X B → Trees →
      Bindings → Bool → Ending Trees → ℕ → Type 0 where
    some_end : {V : Environment X B} {s : Strategy X B} {e : Bindings} → DerivesSome R M V s end e true (ok end e) 0
    some_none : {V : Environment X B} {s : Strategy X B} {e : Bindings} → DerivesSome R M V s end e false failed 0
    some_found : {V : Environment X B} {s : Strategy X B} {t t1 : Tree} {ts : Trees} {e e1 : Bindings} {found : Bool}
        {r r1 : Ending Trees} {n1 n2 n : ℕ} →
        Derives R M V s t e (ok t1 e1) n1 → DerivesSome R M V s ts e1 true r1 n2 → r ≡ in_front t1 r1 → n ≡ n1 + n2 →
        DerivesSome R M V s (more t ts) e found r n
    some_stays : {V : Environment X B} {s : Strategy X B} {t : Tree} {ts : Trees} {e : Bindings} {found : Bool}
        {r r1 : Ending Trees} {n1 n2 n : ℕ} →
        Derives R M V s t e failed n1 → DerivesSome R M V s ts e found r1 n2 → r ≡ in_front t r1 → n ≡ n1 + n2 →
        DerivesSome R M V s (more t ts) e found r n
    some_stop : {V : Environment X B} {s : Strategy X B} {t : Tree} {ts : Trees} {e : Bindings} {found : Bool} {n : ℕ} →
        Derives R M V s t e oversize n → DerivesSome R M V s (more t ts) e found oversize n
