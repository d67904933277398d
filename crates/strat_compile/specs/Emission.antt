-- The headline does not rest on this file.
-- What is emitted for a strategy: one row for each form of code.
use Rattle.std.specs.Prelude.{◌≡◌, ◌<◌, ◌+◌, ℕ, suc, Option, Some, None, List, [], ◌∷◌, length}
use Rattle.core_lang.specs.declared.coordinate.Coordinate.{Coordinate}
use Rattle.core_lang.specs.Program.{Pattern, Patterns, id, fail, seq, choice, match, build, scope, all, one, some, with_definitions, call, primitive, no_strategies, more_strategies, no_patterns, no_definitions, more_definitions}
use Rattle.core_lang.specs.Resolved.{ResolvedStrategy, ResolvedStrategies, ResolvedDefinitions, here}
use Rattle.core_lang.specs.Roots.{Root, Begins}
use Rattle.core_lang.specs.Views.{Arm, chain, first_of}
use Rattle.strat_code.specs.Code.{Argument, code_at, parameter_at, entry_at, Traversal, all_parts, one_part, some_parts, count, give_up, match_term, build_term, enter, leave, extend, shrink, try, commit, jump, traverse, part_done, call_definition, call_closure, end_definition, end_argument, apply_primitive, finish}
use Rattle.strat_code.specs.Context.{Context, outer, frames_in, by_frames, HasDefinitions, HasOwnCode}
use Rattle.strat_code.specs.Ranges.{IsBody, AsksFor}
use Rattle.strat_code.specs.Renamed.{renamed, all_renamed}
use Rattle.strat_compile.specs.Chains.{Body, selects_onto}
use Rattle.strat_compile.specs.Layers.{entry_in, entries_of}
use Rattle.strat_compile.specs.Sites.{Site, outermost, in_frame, in_places, in_definitions, in_specialization, in_call, in_open_call, KnownArguments, AreGiven, AreGivenOpen, IsGiven, IsGivenOpen, IsSpecialization, IsUnknown, context, outside_of, room_for}
use Rattle.strat_compile.specs.Output.{Emitted, nothing, place, onto, with_labels, starting, count_of}

-- the strategy is no scope
abbrev pub IsNoScope : ResolvedStrategy → Type 0
IsNoScope id = Unit {0}
IsNoScope fail = Unit {0}
IsNoScope (seq s1 s2) = Unit {0}
IsNoScope (choice s1 s2 s3) = Unit {0}
IsNoScope (match p) = Unit {0}
IsNoScope (build p) = Unit {0}
IsNoScope (scope k s) = ⊥
IsNoScope (all s) = Unit {0}
IsNoScope (one s) = Unit {0}
IsNoScope (some s) = Unit {0}
IsNoScope (with_definitions ds s) = Unit {0}
IsNoScope (call y ss ps) = Unit {0}
IsNoScope (primitive f ps) = Unit {0}

mutual
  -- With the code for the strategy in front of the code o, the code is the last argument. The test, the context and the
  -- further nodes x of the first instruction are those of Ranges. What stands last in the code is emitted first
  pub data Emits : Option ℕ → Site → (x : ℕ) → ResolvedStrategy → Emitted → Emitted → Type 0 where
    emits_id : {w : Option ℕ} {S : Site} {x : ℕ} {o : Emitted} → Emits w S x id o (onto (count (suc x)) o)
    emits_fail : {w : Option ℕ} {S : Site} {x : ℕ} {o : Emitted} → Emits w S x fail o (onto (give_up (suc x)) o)
    emits_seq : {w : Option ℕ} {S : Site} {x : ℕ} {s1 s2 : ResolvedStrategy} {o o1 o2 : Emitted} →
        Emits w S 0 s2 o o1 → Emits w S (suc x) s1 o1 o2 → Emits w S x (seq s1 s2) o o2
    emits_choice : {w : Option ℕ} {S : Site} {x : ℕ} {s1 s2 s3 : ResolvedStrategy} {o o1 o2 : Emitted} →
        Emits w S 0 s3 o o1 → EmitsArm w S x s1 s2 (place o) o1 o2 → Emits w S x (choice s1 s2 s3) o o2
    -- alternatives with selects in front of their code
    emits_select : {w : Option ℕ} {S : Site} {x last : ℕ} {b : Body} {bs : List Body} {s : ResolvedStrategy}
        {o o1 : Emitted} →
        EmitsChain w S s (b ∷ bs) last o o1 → Emits w S x s o (selects_onto (suc x) (b ∷ bs) (place o1) last o1)
    emits_match : {w : Option ℕ} {S : Site} {x : ℕ} {p : Pattern Coordinate} {o : Emitted} →
        Emits w S x (match p) o (onto (match_term (suc x) (renamed (by_frames (context S)) p)) o)
    emits_build : {w : Option ℕ} {S : Site} {x : ℕ} {p : Pattern Coordinate} {o : Emitted} →
        Emits w S x (build p) o (onto (build_term (suc x) (renamed (by_frames (context S)) p)) o)
    emits_scope : {w : Option ℕ} {S : Site} {x k : ℕ} {s : ResolvedStrategy} {o o1 : Emitted} →
        Emits (Some k) (in_frame 0 k S) 0 s (onto leave o) o1 → Emits w S x (scope k s) o (onto (enter (suc x) k) o1)
    emits_inner : {S : Site} {x k n : ℕ} {s : ResolvedStrategy} {o o1 : Emitted} →
        Emits (Some (n + k)) (in_places k n S) 0 s (onto (shrink k) o) o1 →
        Emits (Some n) S x (scope k s) o (onto (extend (suc x) k) o1)
    emits_all : {w : Option ℕ} {S : Site} {x : ℕ} {s : ResolvedStrategy} {o o1 : Emitted} →
        Emits w S 0 s (onto part_done o) o1 → Emits w S x (all s) o (onto (traverse (suc x) all_parts (place o)) o1)
    emits_one : {w : Option ℕ} {S : Site} {x : ℕ} {s : ResolvedStrategy} {o o1 : Emitted} →
        Emits w S 0 s (onto part_done o) o1 → Emits w S x (one s) o (onto (traverse (suc x) one_part (place o)) o1)
    emits_some : {w : Option ℕ} {S : Site} {x : ℕ} {s : ResolvedStrategy} {o o1 : Emitted} →
        Emits w S 0 s (onto part_done o) o1 → Emits w S x (some s) o (onto (traverse (suc x) some_parts (place o)) o1)
    -- the bodies of the definitions stand after the strategy and a jump past them
    emits_let : {w : Option ℕ} {S : Site} {x : ℕ} {ds : ResolvedDefinitions} {s : ResolvedStrategy}
        {o o1 o2 : Emitted} →
        EmitsDefinitions (in_definitions ds (length o.starts) S) (length o.starts) ds (place o) o o1 →
        Emits w (in_definitions ds (length o.starts) S) (suc x) s o1 o2 → Emits w S x (with_definitions ds s) o o2
    emits_call : {w : Option ℕ} {S : Site} {x : ℕ} {y : Coordinate} {ss : ResolvedStrategies} {ps : Patterns Coordinate}
        {o o1 : Emitted} →
        EmitsCall S x y ss ps o o1 → Emits w S x (call y ss ps) o o1
    -- a call in place of a definition of the program: its body, whose first instruction is charged the node
    emits_inline : {w : Option ℕ} {S : Site} {x m label : ℕ} {y : Coordinate} {s : ResolvedStrategy}
        {ss : ResolvedStrategies} {ds : ResolvedDefinitions} {ks : KnownArguments} {o o1 : Emitted} →
        outer (context S) y.layers_up ≡ context (in_definitions ds label outermost) → IsBody ds y.slot m 0 s →
        AreGiven S ss ks →
        Emits w (in_call ks (in_definitions ds label outermost)) (suc x) s o o1 →
        Emits w S x (call y ss no_patterns) o o1
    -- a call of a strategy parameter that is known: what it is, whose first instruction is charged the node
    emits_known : {w : Option ℕ} {S T : Site} {x : ℕ} {y : Coordinate} {s : ResolvedStrategy} {ss : ResolvedStrategies}
        {ps : Patterns Coordinate} {o o1 : Emitted} →
        IsGiven (outside_of S y.layers_up) y.slot s T → Emits w T (suc x) s o o1 → Emits w S x (call y ss ps) o o1
    -- a call in place whose arguments may look at the innermost frame
    emits_open : {w : Option ℕ} {S : Site} {x m label : ℕ} {y : Coordinate} {s : ResolvedStrategy}
        {ss : ResolvedStrategies} {ds : ResolvedDefinitions} {ks : KnownArguments} {o o1 : Emitted} →
        outer (context S) y.layers_up ≡ context (in_definitions ds label outermost) → IsBody ds y.slot m 0 s →
        AreGivenOpen S ss ks →
        Emits w (in_open_call ks (in_definitions ds label outermost)) (suc x) s o o1 →
        Emits w S x (call y ss no_patterns) o o1
    -- a call of such an argument, where no frame has been entered since
    emits_argument : {w : Option ℕ} {S T : Site} {x : ℕ} {y : Coordinate} {s : ResolvedStrategy}
        {ss : ResolvedStrategies} {ps : Patterns Coordinate} {o o1 : Emitted} →
        frames_in (context S) y.layers_up ≡ 0 → IsGivenOpen (outside_of S y.layers_up) y.slot s T →
        Emits w T (suc x) s o o1 → Emits w S x (call y ss ps) o o1
    -- a call of a specialization, which has a new label, in front of its body
    emits_specialization : {w : Option ℕ} {S : Site} {x m k label : ℕ} {y : Coordinate} {s : ResolvedStrategy}
        {ss : ResolvedStrategies} {ps : Patterns Coordinate} {ds : ResolvedDefinitions} {ks : KnownArguments}
        {o o1 : Emitted} →
        outer (context S) y.layers_up ≡ context (in_definitions ds label outermost) → IsBody ds y.slot m k s →
        AreGiven S ss ks →
        EmitsBody (in_specialization y.slot (length o.starts) (room_for s) k ks (in_definitions ds label outermost))
        k s (with_labels 1 o) o1 →
        Emits w S x (call y ss ps) o
        (onto (call_definition (suc x) (frames_in (context S) y.layers_up) (length o.starts) (room_for s) (place o)
        [] (all_renamed (by_frames (context S)) ps)) (starting (length o.starts) o1))
    -- a call of a specialization that the code is in
    emits_same : {w : Option ℕ} {S : Site} {x own room : ℕ} {y : Coordinate} {ss : ResolvedStrategies}
        {ps : Patterns Coordinate} {ds : ResolvedDefinitions} {ks : KnownArguments} {o : Emitted} (n label : ℕ) →
        outer (context S) y.layers_up ≡ context (in_definitions ds label outermost) → AreGiven S ss ks →
        IsSpecialization (outside_of S n) y.slot own room ks (in_definitions ds label outermost) →
        Emits w S x (call y ss ps)
        o (onto (call_definition (suc x) (frames_in (context S) y.layers_up) own room (place o)
        [] (all_renamed (by_frames (context S)) ps)) o)
    emits_parameter : {w : Option ℕ} {S : Site} {x : ℕ} {y : Coordinate} {ss : ResolvedStrategies}
        {ps : Patterns Coordinate} {o : Emitted} →
        IsUnknown (outer (context S) y.layers_up) y.slot →
        Emits w S x (call y ss ps) o (onto (call_closure (suc x) (by_frames (context S) y)) o)
    emits_primitive : {w : Option ℕ} {S : Site} {x : ℕ} {f : List ℕ} {ps : Patterns Coordinate} {o : Emitted} →
        Emits w S x (primitive f ps) o (onto (apply_primitive (suc x) f (all_renamed (by_frames (context S)) ps)) o)

  -- a call of a definition with arguments
  pub data EmitsCall : Site → (x : ℕ) → Coordinate → ResolvedStrategies → Patterns Coordinate → Emitted → Emitted →
      Type 0 where
    calls : {S : Site} {x label room : ℕ} {y : Coordinate} {ss : ResolvedStrategies} {ps : Patterns Coordinate}
        {us : List Argument} {o o1 : Emitted} →
        HasDefinitions (outer (context S) y.layers_up) →
        entry_in (entries_of (outer (context S) y.layers_up)) y.slot ≡ entry_at label room →
        EmitsArguments S ss o o1 us →
        EmitsCall S x y ss ps o
        (onto (call_definition (suc x) (frames_in (context S) y.layers_up) label room (place o)
        us (all_renamed (by_frames (context S)) ps)) o1)

  -- The code of a strategy that begins with these alternatives, but for the selects in front of it: each of them asks
  -- for a root at least, and has an instruction after it that takes the choice record off; and at the place `last`
  -- stands what is done when none is left
  pub data EmitsChain : Option ℕ → Site → ResolvedStrategy → List Body → (last : ℕ) → Emitted → Emitted → Type 0 where
    chain_end : {w : Option ℕ} {S : Site} {s : ResolvedStrategy} {o o1 : Emitted} → Emits w S 0 s o o1 →
        EmitsChain w S s [] (place o1) o o1
    chain_more : {w : Option ℕ} {S : Site} {n last : ℕ} {rs : List Root} {bs : List Body} {s1 s : ResolvedStrategy}
        {o o1 o2 : Emitted} →
        AsksFor (context S) s1 rs n → 0 < length rs → EmitsChain w S s bs last o o1 →
        Emits w S 0 s1 (onto (commit 1 (place o)) o1) o2 →
        EmitsChain w S (choice s1 id s) (record { roots = rs; nodes = n; start = place o2 } ∷ bs) last o o2

  -- a guard and what follows it, in front of what is done where the guard fails; then the code goes on at the place
  -- `to`
  pub data EmitsArm : Option ℕ → Site → (x : ℕ) → ResolvedStrategy → ResolvedStrategy → (to : ℕ) → Emitted → Emitted →
      Type 0 where
    emits_arm : {w : Option ℕ} {S : Site} {x to : ℕ} {s1 s2 : ResolvedStrategy} {o o1 o2 : Emitted} →
        EmitsThen w S s2 to o o1 → Emits w S 0 s1 o1 o2 → EmitsArm w S x s1 s2 to o (onto (try (suc x) (place o)) o2)

  -- what follows a guard, with the instruction in front that takes the choice record off
  pub data EmitsThen : Option ℕ → Site → ResolvedStrategy → (to : ℕ) → Emitted → Emitted → Type 0 where
    then_id : {w : Option ℕ} {S : Site} {to : ℕ} {o : Emitted} → EmitsThen w S id to o (onto (commit 1 to) o)
    then_code : {w : Option ℕ} {S : Site} {to : ℕ} {s : ResolvedStrategy} {o o1 : Emitted} →
        Emits w S 0 s (onto (jump to) o) o1 → EmitsThen w S s to o (onto (commit 0 (place o1)) o1)

  -- the bodies of definitions, with new labels from this one on, and a jump past them in front
  pub data EmitsDefinitions : Site → (first_label : ℕ) → ResolvedDefinitions → (to : ℕ) → Emitted → Emitted →
      Type 0 where
    emits_definitions : {S : Site} {label to : ℕ} {ds : ResolvedDefinitions} {o o1 : Emitted} →
        EmitsBodies S label ds (with_labels (count_of ds) o) o1 → EmitsDefinitions S label ds to o (onto (jump to) o1)

  -- the bodies of definitions, the first of which has this label
  pub data EmitsBodies : Site → (label : ℕ) → ResolvedDefinitions → Emitted → Emitted → Type 0 where
    emits_no_bodies : {S : Site} {label : ℕ} {o : Emitted} → EmitsBodies S label no_definitions o o
    emits_more_bodies : {S : Site} {label m k : ℕ} {y : Coordinate} {s : ResolvedStrategy} {ds : ResolvedDefinitions}
        {o o1 o2 : Emitted} →
        EmitsBody (in_frame m k S) k s o o1 → EmitsBodies S (suc label) ds (starting label o1) o2 →
        EmitsBodies S label (more_definitions y m k s ds) o o2

  -- The body of a definition in the frame of a call with k term parameters. That of a scope has its places in this
  -- frame
  pub data EmitsBody : Site → (k : ℕ) → ResolvedStrategy → Emitted → Emitted → Type 0 where
    emits_body : {S : Site} {k : ℕ} {s : ResolvedStrategy} {o o1 : Emitted} →
        IsNoScope s → Emits (Some k) S 0 s (onto end_definition o) o1 → EmitsBody S k s o o1
    emits_scope_body : {S : Site} {k n : ℕ} {s : ResolvedStrategy} {o o1 : Emitted} →
        Emits (Some (k + n)) (in_places n k S) 1 s (onto end_definition o) o1 → EmitsBody S k (scope n s) o o1

  -- the code of strategy arguments, and the arguments
  pub data EmitsArguments : Site → ResolvedStrategies → Emitted → Emitted → List Argument → Type 0 where
    emits_no_arguments : {S : Site} {o : Emitted} → EmitsArguments S no_strategies o o []
    emits_code_argument : {S : Site} {s : ResolvedStrategy} {ss : ResolvedStrategies} {us : List Argument}
        {o o1 o2 : Emitted} →
        HasOwnCode (context S) s → Emits None S 0 s (onto end_argument o) o1 → EmitsArguments S ss o1 o2 us →
        EmitsArguments S (more_strategies s ss) o o2 (code_at (place o1) ∷ us)
    emits_parameter_argument : {S : Site} {y : Coordinate} {vs ss : ResolvedStrategies} {ps : Patterns Coordinate}
        {us : List Argument} {o o1 : Emitted} →
        IsUnknown (outer (context S) y.layers_up) y.slot → EmitsArguments S ss o o1 us →
        EmitsArguments S (more_strategies (call y vs ps) ss) o o1 (parameter_at (by_frames (context S) y) ∷ us)
    -- a strategy parameter that is known has code of its own
    emits_known_argument : {S T : Site} {y : Coordinate} {s : ResolvedStrategy} {vs ss : ResolvedStrategies}
        {ps : Patterns Coordinate} {us : List Argument} {o o1 o2 : Emitted} →
        IsGiven (outside_of S y.layers_up) y.slot s T → Emits None T 0 s (onto end_argument o) o1 →
        EmitsArguments S ss o1 o2 us →
        EmitsArguments S (more_strategies (call y vs ps) ss) o o2 (code_at (place o1) ∷ us)

-- the rest of a chain, and the further nodes of what stands in front of it: that of the sequence, where there is a rest
pub data EmitsRest (w : Option ℕ) (S : Site) : ℕ → List ResolvedStrategy → Emitted → Emitted → Type 0 where
  no_rest : {o : Emitted} → EmitsRest w S 0 [] o o
  some_rest : {s : ResolvedStrategy} {ss : List ResolvedStrategy} {o o1 : Emitted} → Emits w S 0 (chain s ss) o o1 →
      EmitsRest w S 1 (s ∷ ss) o o1

-- with selects in front, or where there is no alternative, the code of whatever chain has become that of its strategy
pub record Closes (bs : List Body) (last : ℕ) (o1 o2 : Emitted) : Type 0 where
  pub close : (w : Option ℕ) (S : Site) (s : ResolvedStrategy) (o : Emitted) → EmitsChain w S s bs last o o1 →
      Emits w S 0 s o o2

-- the strategy begins with no match
pub record BeginsNot (s : ResolvedStrategy) : Type 0 where
  pub never : (r : Root) (n : ℕ) → Begins s r n → ⊥

-- an alternative that joins a chain: nothing follows its guard, which asks for these roots, one at least
pub record Joins (C : Context) (arm : Arm) (rs : List Root) (nodes : ℕ) : Type 0 where
  pub then : arm.then ≡ id
  pub asks : AsksFor C arm.guard rs nodes
  pub some : 0 < length rs

-- an arm, in front of whatever chain there is: the chain with the arm among its alternatives, or another with the arm
-- as its end
pub record PutsArm (w : Option ℕ) (S : Site) (arm : Arm) (to : ℕ) (bs : List Body) (last : ℕ) (o1 : Emitted)
    (bs1 : List Body) (last1 : ℕ) (o2 : Emitted) : Type 0 where
  pub put : (s : ResolvedStrategy) (o : Emitted) → to ≡ place o → EmitsChain w S s bs last o o1 →
      EmitsChain w S (choice arm.guard arm.then s) bs1 last1 o o2

-- arms, in front of whatever chain there is
pub record PutsArms (w : Option ℕ) (S : Site) (arms : List Arm) (to : ℕ) (bs : List Body) (last : ℕ) (o1 : Emitted)
    (bs1 : List Body) (last1 : ℕ) (o2 : Emitted) : Type 0 where
  pub put : (s : ResolvedStrategy) (o : Emitted) → to ≡ place o → EmitsChain w S s bs last o o1 →
      EmitsChain w S (first_of arms s) bs1 last1 o o2

-- an arm that joins whatever chain there is, as this alternative
pub record PutsJoined (w : Option ℕ) (S : Site) (arm : Arm) (rs : List Root) (nodes to : ℕ) (bs : List Body) (last : ℕ)
    (o1 : Emitted) (bs1 : List Body) (last1 : ℕ) (o2 : Emitted) : Type 0 where
  pub bodies : bs1 ≡ record { roots = rs; nodes = nodes; start = place o2 } ∷ bs
  pub puts : PutsArm w S arm to bs last o1 bs1 last1 o2

-- a first arm, in front of whatever chain there is
pub record PutsFirst (w : Option ℕ) (S : Site) (x : ℕ) (arm : Arm) (to : ℕ) (bs : List Body) (last : ℕ)
    (o1 o2 : Emitted) : Type 0 where
  pub put : (s : ResolvedStrategy) (o : Emitted) → to ≡ place o → EmitsChain w S s bs last o o1 →
      Emits w S x (choice arm.guard arm.then s) o o2

-- the argument and its code, in front of whatever further arguments have
abbrev pub PutsArgument : Site → ResolvedStrategy → Emitted → Emitted → Argument → Type 0
PutsArgument S s o o1 u = (ss : ResolvedStrategies) (us : List Argument) (o2 : Emitted) → EmitsArguments S ss o1 o2 us →
    EmitsArguments S (more_strategies s ss) o o2 (u ∷ us)

-- a traversal of each kind
abbrev pub traversed : Traversal → ResolvedStrategy → ResolvedStrategy
traversed all_parts s = all s
traversed one_part s = one s
traversed some_parts s = some s

-- what is emitted for a program whose main is the ith definition: the call of main, the end of the run, the bodies
pub record EmitsProgram (P : ResolvedDefinitions) (i : ℕ) (o : Emitted) : Type 0 where
  pub bodies_only : Emitted
  pub bodies : EmitsBodies (in_definitions P 0 outermost) 0 P (with_labels (count_of P) nothing) bodies_only
  pub begins : EmitsCall (in_definitions P 0 outermost) 0 (here i) no_strategies no_patterns (onto finish bodies_only) o
