-- The headline does not rest on this file.
-- The context of a range of instructions: which layers have frames, and where their places and definitions are.
use Rattle.std.specs.Prelude.{◌≡◌, ℕ, zero, suc, ◌+◌, ◌<◌, List}
use Rattle.core_lang.specs.declared.coordinate.Coordinate.{Coordinate}
use Rattle.core_lang.specs.Program.{id, fail, seq, choice, match, build, scope, all, one, some, with_definitions, call, primitive}
use Rattle.core_lang.specs.Resolved.{ResolvedStrategy, ResolvedDefinitions}
use Rattle.core_lang.specs.InRange.{Layers, no_layers, layer_of, layer_of_definitions}
use Rattle.strat_code.specs.Code.{Entry}

mutual
  -- the layers that a strategy stands in, innermost first, as far as they are known when code is made
  pub data Context : Type 0 where
    top : Context
    -- of a definition, or of a scope that has a frame: its places are those of the frame
    framed : (parameters variables : ℕ) → Context → Context
    -- of a scope without a frame: its places are in the innermost frame, from an offset on
    within : (variables offset : ℕ) → Context → Context
    -- of definitions, each with the entry of its code; this layer has no frame
    defining : ResolvedDefinitions → (entries : List Entry) → Context → Context
    -- of a definition whose strategy parameters are known: its places are those of the frame, which keeps no closures
    known : (variables : ℕ) → Knowns → Context → Context
    -- of any of these, where the code looks at no place and at no closure of it, but at strategy parameters that are
    -- known alone; this layer has no frame
    hidden : Knowns → Context → Context
    -- of an open call, which is made in place: its strategy parameters are known, and may look at the frame that is the
    -- innermost one there; this layer has no frame
    open_call : Knowns → Context → Context

  -- strategies that are known when code is made, each in its context
  pub data Knowns : Type 0 where
    no_knowns : Knowns
    more_knowns : ResolvedStrategy → Context → Knowns → Knowns

-- A specialization of a definition, which stands at a position in the definitions of a context: its code, for these
-- strategies as parameters, has an entry
pub data Specialization : Type 0 where
  specialization_at : Context → (slot : ℕ) → Knowns → (entry room : ℕ) → Specialization

abbrev pub layers_of : Context → Layers
layers_of top = no_layers
layers_of (framed m k C) = layer_of m k (layers_of C)
layers_of (within k i C) = layer_of 0 k (layers_of C)
layers_of (defining ds es C) = layer_of_definitions ds (layers_of C)
layers_of (known k ks C) = layer_of 0 k (layers_of C)
layers_of (hidden ks C) = layer_of 0 0 (layers_of C)
layers_of (open_call ks C) = layer_of 0 0 (layers_of C)

-- the context without its innermost n layers
abbrev pub outer : Context → ℕ → Context
outer C zero = C
outer top (suc i) = top
outer (framed m k C) (suc i) = outer C i
outer (within n k C) (suc i) = outer C i
outer (defining ds es C) (suc i) = outer C i
outer (known k ks C) (suc i) = outer C i
outer (hidden ks C) (suc i) = outer C i
outer (open_call ks C) (suc i) = outer C i

-- how many of the innermost n layers have frames
abbrev pub frames_in : Context → ℕ → ℕ
frames_in C zero = 0
frames_in top (suc i) = 0
frames_in (framed m k C) (suc i) = suc (frames_in C i)
frames_in (within n k C) (suc i) = frames_in C i
frames_in (defining ds es C) (suc i) = frames_in C i
frames_in (known k ks C) (suc i) = suc (frames_in C i)
frames_in (hidden ks C) (suc i) = frames_in C i
frames_in (open_call ks C) (suc i) = frames_in C i

-- the position of a variable of the innermost layer in its frame
abbrev pub slot_in : Context → ℕ → ℕ
slot_in top i = i
slot_in (framed m k C) i = i
slot_in (within k offset C) i = offset + i
slot_in (defining ds es C) i = i
slot_in (known k ks C) i = i
slot_in (hidden ks C) i = i
slot_in (open_call ks C) i = i

-- the coordinate by frames: how many frames up the variable or the closure is, and its position in that frame
abbrev pub by_frames : Context → Coordinate → Coordinate
by_frames C y = record { layers_up = frames_in C y.layers_up; slot = slot_in (outer C y.layers_up) y.slot }

-- the innermost layer has a strategy parameter at this position
abbrev pub HasParameter : Context → ℕ → Type 0
HasParameter top i = ⊥
HasParameter (framed m k C) i = i < m
HasParameter (within k j C) i = ⊥
HasParameter (defining ds es C) i = ⊥
HasParameter (known k ks C) i = ⊥
HasParameter (hidden ks C) i = ⊥
HasParameter (open_call ks C) i = ⊥

-- the strategy at a position is known, with its context
abbrev pub IsKnown : Knowns → ℕ → ResolvedStrategy → Context → Type 0
IsKnown no_knowns i s D = ⊥
IsKnown (more_knowns other E ks) zero s D = (other ≡ s) × (E ≡ D)
IsKnown (more_knowns other E ks) (suc i) s D = IsKnown ks i s D

-- the strategy parameter at a position of the innermost layer is known
abbrev pub KnowsParameter : Context → ℕ → ResolvedStrategy → Context → Type 0
KnowsParameter top i s D = ⊥
KnowsParameter (framed m k C) i s D = ⊥
KnowsParameter (within k j C) i s D = ⊥
KnowsParameter (defining ds es C) i s D = ⊥
KnowsParameter (known k ks C) i s D = IsKnown ks i s D
KnowsParameter (hidden ks C) i s D = IsKnown ks i s D
KnowsParameter (open_call ks C) i s D = ⊥

-- the same in an open call, where it may look at the frame that is the innermost one there
abbrev pub KnowsOpen : Context → ℕ → ResolvedStrategy → Context → Type 0
KnowsOpen top i s D = ⊥
KnowsOpen (framed m k C) i s D = ⊥
KnowsOpen (within k j C) i s D = ⊥
KnowsOpen (defining ds es C) i s D = ⊥
KnowsOpen (known k ks C) i s D = ⊥
KnowsOpen (hidden ks C) i s D = ⊥
KnowsOpen (open_call ks C) i s D = IsKnown ks i s D

-- The second context is the first one without frames. Definitions stay where no frame is around them, known parameters
-- where they are wanted
pub data Hides : Context → Context → Type 0 where
  hides_top : Hides top top
  hides_framed : {m k : ℕ} {C D : Context} → Hides C D → Hides (framed m k C) (hidden no_knowns D)
  hides_within : {k offset : ℕ} {C D : Context} → Hides C D → Hides (within k offset C) (hidden no_knowns D)
  hides_definitions : {ds : ResolvedDefinitions} {es : List Entry} {C D : Context} → Hides C D →
      Hides (defining ds es C) (hidden no_knowns D)
  keeps_definitions : {ds : ResolvedDefinitions} {es : List Entry} {C : Context} → Hides C C →
      Hides (defining ds es C) (defining ds es C)
  hides_known : {k : ℕ} {ks : Knowns} {C D : Context} → Hides C D → Hides (known k ks C) (hidden no_knowns D)
  keeps_known : {k : ℕ} {ks : Knowns} {C D : Context} → Hides C D → Hides (known k ks C) (hidden ks D)
  hides_open : {ks : Knowns} {C D : Context} → Hides C D → Hides (open_call ks C) (hidden no_knowns D)
  hides_hidden : {ks : Knowns} {C D : Context} → Hides C D → Hides (hidden ks C) (hidden no_knowns D)
  keeps_hidden : {ks : Knowns} {C D : Context} → Hides C D → Hides (hidden ks C) (hidden ks D)

-- the innermost layer has definitions
abbrev pub HasDefinitions : Context → Type 0
HasDefinitions top = ⊥
HasDefinitions (framed m k C) = ⊥
HasDefinitions (within k j C) = ⊥
HasDefinitions (defining ds es C) = Unit {0}
HasDefinitions (known k ks C) = ⊥
HasDefinitions (hidden ks C) = ⊥
HasDefinitions (open_call ks C) = ⊥

-- the argument is no call of a strategy parameter, so it has code of its own
abbrev pub HasOwnCode : Context → ResolvedStrategy → Type 0
HasOwnCode C id = Unit {0}
HasOwnCode C fail = Unit {0}
HasOwnCode C (seq s1 s2) = Unit {0}
HasOwnCode C (choice s1 s2 s3) = Unit {0}
HasOwnCode C (match p) = Unit {0}
HasOwnCode C (build p) = Unit {0}
HasOwnCode C (scope k s) = Unit {0}
HasOwnCode C (all s) = Unit {0}
HasOwnCode C (one s) = Unit {0}
HasOwnCode C (some s) = Unit {0}
HasOwnCode C (with_definitions ds s) = Unit {0}
HasOwnCode C (call y ss ps) = HasDefinitions (outer C y.layers_up)
HasOwnCode C (primitive f ps) = Unit {0}
