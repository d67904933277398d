-- The headline does not rest on this file.
-- What it is for a range of instructions to stand for a strategy: one row for each form of code that a strategy can
-- have.
use Rattle.std.specs.Prelude.{◌≡◌, ℕ, zero, suc, ◌+◌, Option, Some, None, List, [], ◌∷◌, ◌++◌, slice_get}
use Rattle.core_lang.specs.declared.coordinate.Coordinate.{Coordinate}
use Rattle.core_lang.specs.Program.{Pattern, Patterns, id, fail, seq, choice, match, build, scope, all, one, some, with_definitions, call, primitive, no_strategies, more_strategies, no_patterns, no_definitions, more_definitions, strategies_count, patterns_count}
use Rattle.core_lang.specs.Resolved.{ResolvedStrategy, ResolvedStrategies, ResolvedDefinitions}
use Rattle.core_lang.specs.InRange.{PatternInRange, PatternsInRange, IsDefinition}
use Rattle.core_lang.specs.Roots.{Root, root_of}
use Rattle.strat_code.specs.Code.{Argument, code_at, parameter_at, Entry, entry_at, Case, case, all_parts, one_part, some_parts, count, give_up, match_term, build_term, enter, leave, extend, shrink, try, commit, select, jump, traverse, part_done, call_definition, call_closure, end_definition, end_argument, apply_primitive, Code, At}
use Rattle.strat_code.specs.Context.{Context, framed, within, defining, known, hidden, open_call, Knowns, no_knowns, more_knowns, Specialization, specialization_at, Hides, KnowsParameter, KnowsOpen, layers_of, outer, frames_in, by_frames, HasParameter, HasOwnCode}
use Rattle.strat_code.specs.Renamed.{renamed, all_renamed}

-- The strategy arguments of a call are known: each is a strategy that looks at no frame, or a strategy parameter that
-- is known.
pub data AreKnown : Context → ResolvedStrategies → Knowns → Type 0 where
  none_known : {C : Context} → AreKnown C no_strategies no_knowns
  own_known : {C D : Context} {s : ResolvedStrategy} {ss : ResolvedStrategies} {ks : Knowns} →
      HasOwnCode C s → Hides C D → AreKnown C ss ks → AreKnown C (more_strategies s ss) (more_knowns s D ks)
  parameter_known : {C D : Context} {y : Coordinate} {s : ResolvedStrategy} {vs ss : ResolvedStrategies}
      {ps : Patterns Coordinate} {ks : Knowns} →
      KnowsParameter (outer C y.layers_up) y.slot s D → AreKnown C ss ks →
      AreKnown C (more_strategies (call y vs ps) ss) (more_knowns s D ks)

-- The strategy arguments of an open call are known, where they may look at the innermost frame: each is any strategy
-- with code of its own, or a strategy parameter that is known
pub data AreKnownOpen : Context → ResolvedStrategies → Knowns → Type 0 where
  none_open : {C : Context} → AreKnownOpen C no_strategies no_knowns
  own_open : {C : Context} {s : ResolvedStrategy} {ss : ResolvedStrategies} {ks : Knowns} →
      HasOwnCode C s → AreKnownOpen C ss ks → AreKnownOpen C (more_strategies s ss) (more_knowns s C ks)
  parameter_open : {C D : Context} {y : Coordinate} {s : ResolvedStrategy} {vs ss : ResolvedStrategies}
      {ps : Patterns Coordinate} {ks : Knowns} →
      KnowsParameter (outer C y.layers_up) y.slot s D → AreKnownOpen C ss ks →
      AreKnownOpen C (more_strategies (call y vs ps) ss) (more_knowns s D ks)

-- the definition at a position has these numbers of parameters and this body
pub data IsBody : ResolvedDefinitions → ℕ → (strategies terms : ℕ) → ResolvedStrategy → Type 0 where
  first_body : {y : Coordinate} {m k : ℕ} {s : ResolvedStrategy} {ds : ResolvedDefinitions} →
      IsBody (more_definitions y m k s ds) zero m k s
  later_body : {y : Coordinate} {i m1 k1 m k : ℕ} {s1 s : ResolvedStrategy} {ds : ResolvedDefinitions} →
      IsBody ds i m k s → IsBody (more_definitions y m1 k1 s1 ds) (suc i) m k s

-- Where a term has none of these roots, the strategy fails with this number of nodes: each root is that of a match with
-- which it or one of its alternatives begins, in sequences, scopes, lets, calls of strategy parameters that are known,
-- and calls of definitions that no frame is around
pub data AsksFor : Context → ResolvedStrategy → List Root → (nodes : ℕ) → Type 0 where
  asks_fail : {C : Context} → AsksFor C fail [] 1
  asks_match : {C : Context} {p : Pattern Coordinate} → AsksFor C (match p) (root_of p ∷ []) 1
  asks_seq : {C : Context} {s1 s2 : ResolvedStrategy} {rs : List Root} {n : ℕ} → AsksFor C s1 rs n →
      AsksFor C (seq s1 s2) rs (suc n)
  asks_choice : {C : Context} {s1 s2 s3 : ResolvedStrategy} {rs qs : List Root} {n k : ℕ} → AsksFor C s1 rs n →
      AsksFor C s3 qs k → AsksFor C (choice s1 s2 s3) (rs ++ qs) (suc (n + k))
  asks_scope : {C : Context} {k : ℕ} {s : ResolvedStrategy} {rs : List Root} {n : ℕ} →
      AsksFor (hidden no_knowns C) s rs n → AsksFor C (scope k s) rs (suc n)
  asks_let : {C : Context} {ds : ResolvedDefinitions} {s : ResolvedStrategy} {rs : List Root} {n : ℕ} →
      AsksFor (hidden no_knowns C) s rs n → AsksFor C (with_definitions ds s) rs (suc n)
  asks_known : {C D : Context} {y : Coordinate} {s : ResolvedStrategy} {ss : ResolvedStrategies}
      {ps : Patterns Coordinate} {rs : List Root} {n : ℕ} →
      KnowsParameter (outer C y.layers_up) y.slot s D → AsksFor D s rs n → AsksFor C (call y ss ps) rs (suc n)
  asks_inline : {C D : Context} {y : Coordinate} {m : ℕ} {s : ResolvedStrategy} {ss : ResolvedStrategies}
      {ds : ResolvedDefinitions} {es : List Entry} {ks : Knowns} {rs : List Root} {n : ℕ} →
      Hides (outer C y.layers_up) (defining ds es D) → IsBody ds y.slot m 0 s → AreKnown C ss ks →
      AsksFor (hidden ks (defining ds es D)) s rs n → AsksFor C (call y ss no_patterns) rs (suc n)

-- cases with these roots for one alternative, in front of further ones; the last of them has the nodes
pub data Cases (nodes body otherwise : ℕ) (others : List Case) : List Root → List Case → Type 0 where
  one_case : {r : Root} → Cases nodes body otherwise others (r ∷ []) (case r nodes body otherwise ∷ others)
  more_cases : {r : Root} {rs : List Root} {cs : List Case} → Cases nodes body otherwise others rs cs →
      Cases nodes body otherwise others (r ∷ rs) (case r 0 body otherwise ∷ cs)

mutual
  -- In this context the instructions from the address i up to the address j stand for the strategy. The first of them
  -- is charged x further nodes, those of the strategies around this one that begin with it. Where the places of the
  -- innermost frame are the last ones that there are, so that the frame can be given more, w says how many these are.
  pub data Ranges (code : Code) (I : List Specialization) : Option ℕ → Context → ℕ → ℕ → ResolvedStrategy → ℕ →
      Type 0 where
    -- id, fail: one instruction
    id_range : {w : Option ℕ} {C : Context} {i x : ℕ} → At code i (count (suc x)) → Ranges code I w C i x id (suc i)
    fail_range : {w : Option ℕ} {C : Context} {i x : ℕ} → At code i (give_up (suc x)) →
        Ranges code I w C i x fail (suc i)
    -- s1; s2: the two ranges, one after the other. The node of the sequence is charged to the first instruction of s1
    seq_range : {w : Option ℕ} {C : Context} {i x j k : ℕ} {s1 s2 : ResolvedStrategy} →
        Ranges code I w C i (suc x) s1 j → Ranges code I w C j 0 s2 k → Ranges code I w C i x (seq s1 s2) k
    -- s1 < s2 + s3: try, s1, commit, s2, jump past s3, s3. A failure of s1 goes on at s3
    choice_range : {w : Option ℕ} {C : Context} {i x j k to : ℕ} {s1 s2 s3 : ResolvedStrategy} →
        At code i (try (suc x) (suc k)) → Ranges code I w C (suc i) 0 s1 j →
        At code j (commit 0 (suc j)) → Ranges code I w C (suc j) 0 s2 k → At code k (jump to) →
        Ranges code I w C (suc k) 0 s3 to → Ranges code I w C i x (choice s1 s2 s3) to
    -- s1 < id + s3: try, s1, commit past s3, s3. The node of id is charged to commit
    else_range : {w : Option ℕ} {C : Context} {i x j to : ℕ} {s1 s3 : ResolvedStrategy} →
        At code i (try (suc x) (suc j)) → Ranges code I w C (suc i) 0 s1 j → At code j (commit 1 to) →
        Ranges code I w C (suc j) 0 s3 to → Ranges code I w C i x (choice s1 id s3) to
    -- a chain of alternatives, each of which asks for roots: the first that asks for the term's root is tried
    select_range : {w : Option ℕ} {C : Context} {i x last to : ℕ} {cs : List Case} {s1 s3 : ResolvedStrategy} →
        At code i (select (suc x) cs last) → Selects code I w C (choice s1 id s3) cs last to →
        Ranges code I w C i x (choice s1 id s3) to
    -- ?p and !p: one instruction, with the pattern by frames
    match_range : {w : Option ℕ} {C : Context} {i x : ℕ} {p : Pattern Coordinate} →
        PatternInRange (layers_of C) p → At code i (match_term (suc x) (renamed (by_frames C) p)) →
        Ranges code I w C i x (match p) (suc i)
    build_range : {w : Option ℕ} {C : Context} {i x : ℕ} {p : Pattern Coordinate} →
        PatternInRange (layers_of C) p → At code i (build_term (suc x) (renamed (by_frames C) p)) →
        Ranges code I w C i x (build p) (suc i)
    -- {xs: s} with a frame: enter, s, leave
    scope_range : {w : Option ℕ} {C : Context} {i x j k : ℕ} {s : ResolvedStrategy} →
        At code i (enter (suc x) k) → Ranges code I (Some k) (framed 0 k C) (suc i) 0 s j → At code j leave →
        Ranges code I w C i x (scope k s) (suc j)
    -- {xs: s} in the innermost frame, where that can be given more places: extend, s, shrink
    inner_range : {C : Context} {n i x j k : ℕ} {s : ResolvedStrategy} →
        At code i (extend (suc x) k) → Ranges code I (Some (n + k)) (within k n C) (suc i) 0 s j →
        At code j (shrink k) → Ranges code I (Some n) C i x (scope k s) (suc j)
    -- all(s), one(s), some(s): traverse, s, part_done
    all_range : {w : Option ℕ} {C : Context} {i x j : ℕ} {s : ResolvedStrategy} →
        At code i (traverse (suc x) all_parts (suc j)) → Ranges code I w C (suc i) 0 s j → At code j part_done →
        Ranges code I w C i x (all s) (suc j)
    one_range : {w : Option ℕ} {C : Context} {i x j : ℕ} {s : ResolvedStrategy} →
        At code i (traverse (suc x) one_part (suc j)) → Ranges code I w C (suc i) 0 s j → At code j part_done →
        Ranges code I w C i x (one s) (suc j)
    some_range : {w : Option ℕ} {C : Context} {i x j : ℕ} {s : ResolvedStrategy} →
        At code i (traverse (suc x) some_parts (suc j)) → Ranges code I w C (suc i) 0 s j → At code j part_done →
        Ranges code I w C i x (some s) (suc j)
    -- let ds in s end: the range of s, whose first instruction is charged the node. The definitions' code stands
    -- elsewhere
    let_range : {w : Option ℕ} {C : Context} {i x j : ℕ} {ds : ResolvedDefinitions} {es : List Entry}
        {s : ResolvedStrategy} →
        Bodies code I (defining ds es C) ds es → Ranges code I w (defining ds es C) i (suc x) s j →
        Ranges code I w C i x (with_definitions ds s) j
    -- let ds in s end: s, a jump past the definitions' code
    let_jump_range : {w : Option ℕ} {C : Context} {i x j to : ℕ} {ds : ResolvedDefinitions} {es : List Entry}
        {s : ResolvedStrategy} →
        Bodies code I (defining ds es C) ds es → Ranges code I w (defining ds es C) i (suc x) s j →
        At code j (jump to) → Ranges code I w C i x (with_definitions ds s) to
    -- a call of a definition: one instruction, with the entry of the definition and one argument for each strategy. It
    -- goes on at any address, since the code of the arguments stands after it
    call_range : {w : Option ℕ} {C D : Context} {i x entry room to : ℕ} {y : Coordinate} {ss : ResolvedStrategies}
        {ps : Patterns Coordinate} {ds : ResolvedDefinitions} {es : List Entry} {us : List Argument} →
        outer C y.layers_up ≡ defining ds es D → IsDefinition ds y.slot (strategies_count ss) (patterns_count ps) →
        slice_get es y.slot ≡ Some (entry_at entry room) → Arguments code I C ss us → PatternsInRange (layers_of C) ps →
        At code i (call_definition (suc x) (frames_in C y.layers_up) entry room to us (all_renamed (by_frames C) ps)) →
        Ranges code I w C i x (call y ss ps) to
    -- a call of a definition with arguments that are known: one instruction, with the entry of the specialization and
    -- no arguments
    specialization_range : {w : Option ℕ} {C D : Context} {i x entry room to : ℕ} {y : Coordinate}
        {ss : ResolvedStrategies} {ps : Patterns Coordinate} {ds : ResolvedDefinitions} {es : List Entry} {ks : Knowns}
        (n : ℕ) →
        outer C y.layers_up ≡ defining ds es D → IsDefinition ds y.slot (strategies_count ss) (patterns_count ps) →
        slice_get I n ≡ Some (specialization_at (defining ds es D) y.slot ks entry room) → AreKnown C ss ks →
        PatternsInRange (layers_of C) ps →
        At code i (call_definition (suc x) (frames_in C y.layers_up) entry room to [] (all_renamed (by_frames C) ps)) →
        Ranges code I w C i x (call y ss ps) to
    -- a call of a definition in place, with arguments that are known and without term arguments: the range of its body,
    -- whose first instruction is charged the node
    inline_range : {w : Option ℕ} {C D : Context} {i x m j : ℕ} {y : Coordinate} {s : ResolvedStrategy}
        {ss : ResolvedStrategies} {ds : ResolvedDefinitions} {es : List Entry} {ks : Knowns} →
        Hides (outer C y.layers_up) (defining ds es D) → IsDefinition ds y.slot (strategies_count ss) 0 →
        IsBody ds y.slot m 0 s → AreKnown C ss ks →
        Ranges code I w (hidden ks (defining ds es D)) i (suc x) s j → Ranges code I w C i x (call y ss no_patterns) j
    -- a call of a strategy parameter that is known: the range of the strategy that it is, whose first instruction is
    -- charged the node
    known_range : {w : Option ℕ} {C D : Context} {i x j : ℕ} {y : Coordinate} {s : ResolvedStrategy}
        {ss : ResolvedStrategies} {ps : Patterns Coordinate} →
        KnowsParameter (outer C y.layers_up) y.slot s D → Ranges code I w D i (suc x) s j →
        Ranges code I w C i x (call y ss ps) j
    -- an open call: the body of the definition in place, with arguments that may look at the innermost frame
    open_range : {w : Option ℕ} {C D : Context} {i x m j : ℕ} {y : Coordinate} {s : ResolvedStrategy}
        {ss : ResolvedStrategies} {ds : ResolvedDefinitions} {es : List Entry} {ks : Knowns} →
        Hides (outer C y.layers_up) (defining ds es D) → IsDefinition ds y.slot (strategies_count ss) 0 →
        IsBody ds y.slot m 0 s → AreKnownOpen C ss ks →
        Ranges code I w (open_call ks (defining ds es D)) i (suc x) s j →
        Ranges code I w C i x (call y ss no_patterns) j
    -- a call of such an argument, where no frame has been entered since
    argument_range : {w : Option ℕ} {C D : Context} {i x j : ℕ} {y : Coordinate} {s : ResolvedStrategy}
        {ss : ResolvedStrategies} {ps : Patterns Coordinate} →
        frames_in C y.layers_up ≡ 0 → KnowsOpen (outer C y.layers_up) y.slot s D → Ranges code I w D i (suc x) s j →
        Ranges code I w C i x (call y ss ps) j
    -- a call of a strategy parameter: one instruction
    parameter_range : {w : Option ℕ} {C : Context} {i x : ℕ} {y : Coordinate} {ss : ResolvedStrategies}
        {ps : Patterns Coordinate} →
        HasParameter (outer C y.layers_up) y.slot → At code i (call_closure (suc x) (by_frames C y)) →
        Ranges code I w C i x (call y ss ps) (suc i)
    -- prim(f, ps): one instruction
    primitive_range : {w : Option ℕ} {C : Context} {i x : ℕ} {f : List ℕ} {ps : Patterns Coordinate} →
        PatternsInRange (layers_of C) ps → At code i (apply_primitive (suc x) f (all_renamed (by_frames C) ps)) →
        Ranges code I w C i x (primitive f ps) (suc i)

  -- Each definition has an entry: from its address on a range for its body, and then the end of a definition.
  pub data Bodies (code : Code) (I : List Specialization) : Context → ResolvedDefinitions → List Entry → Type 0 where
    no_bodies : {C : Context} → Bodies code I C no_definitions []
    more_bodies : {C : Context} {y : Coordinate} {m k entry j : ℕ} {s : ResolvedStrategy} {ds : ResolvedDefinitions}
        {es : List Entry} →
        Ranges code I (Some k) (framed m k C) entry 0 s j → At code j end_definition → Bodies code I C ds es →
        Bodies code I C (more_definitions y m k s ds) (entry_at entry 0 ∷ es)
    -- a body that is a scope: the call's frame has room for the scope's places, and the scope's node is charged to the
    -- first instruction of what is inside
    roomy_bodies : {C : Context} {y : Coordinate} {m k n entry j : ℕ} {s : ResolvedStrategy} {ds : ResolvedDefinitions}
        {es : List Entry} →
        Ranges code I (Some (k + n)) (within n k (framed m k C)) entry 1 s j → At code j end_definition →
        Bodies code I C ds es → Bodies code I C (more_definitions y m k (scope n s) ds) (entry_at entry n ∷ es)

  -- Each strategy argument has code of its own, from an address on with the end of an argument, or is a strategy
  -- parameter.
  pub data Arguments (code : Code) (I : List Specialization) : Context → ResolvedStrategies → List Argument →
      Type 0 where
    no_arguments : {C : Context} → Arguments code I C no_strategies []
    code_argument : {C : Context} {entry j : ℕ} {s : ResolvedStrategy} {ss : ResolvedStrategies} {us : List Argument} →
        HasOwnCode C s → Ranges code I None C entry 0 s j → At code j end_argument → Arguments code I C ss us →
        Arguments code I C (more_strategies s ss) (code_at entry ∷ us)
    -- a strategy parameter that is known has code of its own, too
    known_argument : {C D : Context} {entry j : ℕ} {y : Coordinate} {s : ResolvedStrategy} {vs ss : ResolvedStrategies}
        {ps : Patterns Coordinate} {us : List Argument} →
        KnowsParameter (outer C y.layers_up) y.slot s D → Ranges code I None D entry 0 s j → At code j end_argument →
        Arguments code I C ss us → Arguments code I C (more_strategies (call y vs ps) ss) (code_at entry ∷ us)
    parameter_argument : {C : Context} {y : Coordinate} {vs ss : ResolvedStrategies} {ps : Patterns Coordinate}
        {us : List Argument} →
        HasParameter (outer C y.layers_up) y.slot → Arguments code I C ss us →
        Arguments code I C (more_strategies (call y vs ps) ss) (parameter_at (by_frames C y) ∷ us)

  -- The cases of a chain s1 <+ (s2 <+ .. sn): for each alternative but the last, one for each root that it asks for.
  -- They have the range of the alternative and a range for the rest of the chain, where a failure goes on; the nodes
  -- are those of the alternative where a term has another root and, but for the last one, that of the next choice
  pub data Selects (code : Code) (I : List Specialization) : Option ℕ → Context → ResolvedStrategy → List Case → ℕ → ℕ →
      Type 0 where
    select_last : {w : Option ℕ} {C : Context} {body j last to n : ℕ} {rs : List Root} {cs : List Case}
        {s1 s3 : ResolvedStrategy} →
        AsksFor C s1 rs n → Cases n body last [] rs cs → Ranges code I w C body 0 s1 j → At code j (commit 1 to) →
        Ranges code I w C last 0 s3 to →
        Selects code I w C (choice s1 id s3) cs last to
    select_more : {w : Option ℕ} {C : Context} {body otherwise j last to n : ℕ} {rs : List Root} {cs others : List Case}
        {s1 s3 : ResolvedStrategy} →
        AsksFor C s1 rs n → Cases (suc n) body otherwise others rs cs → Ranges code I w C body 0 s1 j →
        At code j (commit 1 to) → Ranges code I w C otherwise 0 s3 to →
        Selects code I w C s3 others last to → Selects code I w C (choice s1 id s3) cs last to

-- Each specialization has, from its address on, a range for the definition's body, and then the end of a definition. As
-- with Bodies, the frame of a body that is a scope has room for its places.
pub data Specializations (code : Code) (I : List Specialization) : List Specialization → Type 0 where
  no_specializations : Specializations code I []
  more_specializations : {C : Context} {ds : ResolvedDefinitions} {es : List Entry} {ks : Knowns} {slot m k entry j : ℕ}
      {s : ResolvedStrategy} {vs : List Specialization} →
      IsBody ds slot m k s → Ranges code I (Some k) (known k ks (defining ds es C)) entry 0 s j →
      At code j end_definition → Specializations code I vs →
      Specializations code I (specialization_at (defining ds es C) slot ks entry 0 ∷ vs)
  roomy_specializations : {C : Context} {ds : ResolvedDefinitions} {es : List Entry} {ks : Knowns}
      {slot m k n entry j : ℕ} {s : ResolvedStrategy} {vs : List Specialization} →
      IsBody ds slot m k (scope n s) →
      Ranges code I (Some (k + n)) (within n k (known k ks (defining ds es C))) entry 1 s j →
      At code j end_definition → Specializations code I vs →
      Specializations code I (specialization_at (defining ds es C) slot ks entry n ∷ vs)
