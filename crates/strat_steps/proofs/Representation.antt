-- How frames represent an environment.
use Rattle.std.proofs.Common.{◌≡◌, ℕ, zero, suc, ◌+◌, ◌≤◌, ◌<◌, Option, Some, None, List, [], ◌∷◌, length, ◌++◌, refl, sym, ◌∙◌, ap, arith, subst}
use Rattle.std.specs.Prelude.{slice_get}
use Rattle.core_lang.specs.declared.coordinate.Coordinate.{Coordinate}
use Rattle.core_lang.specs.Program.{id, fail, seq, choice, match, build, scope, all, one, some, with_definitions, call, primitive, no_definitions, more_definitions, strategies_count}
use Rattle.core_lang.specs.Environment.{outermost, layer, definitions, no_closures, more_closures, closure, definition, closure_at, definition_at, handed_on, with_closure, closures_of}
use Rattle.core_lang.specs.Resolved.{ResolvedStrategy, ResolvedStrategies, ResolvedDefinitions, ResolvedEnvironment, ResolvedClosures, ResolvedCallee, layers_up, place_in, callee_in, by_coordinates}
use Rattle.core_lang.specs.InRange.{outside, IsVariable, IsDefinition, VariableInRange}
use Rattle.strat_code.specs.Code.{Argument, Entry, entry_at, end_definition, end_argument, Code, At}
use Rattle.strat_code.specs.Context.{Context, top, framed, within, defining, known, hidden, open_call, Knowns, no_knowns, more_knowns, Specialization, specialization_at, IsKnown, KnowsParameter, KnowsOpen, Hides, hides_top, hides_framed, hides_within, hides_definitions, keeps_definitions, hides_known, keeps_known, hides_open, hides_hidden, keeps_hidden, layers_of, outer, frames_in, slot_in, by_frames, HasParameter, HasDefinitions, HasOwnCode}
use Rattle.strat_code.proofs.GrowthLaws.{got_in_front}
use Rattle.strat_code.specs.Ranges.{Ranges, Bodies, no_bodies, more_bodies, roomy_bodies, Arguments, no_arguments, code_argument, known_argument, parameter_argument, AreKnown, none_known, own_known, parameter_known, AreKnownOpen, none_open, own_open, parameter_open, IsBody, first_body, later_body, Specializations, no_specializations, more_specializations, roomy_specializations}
use Rattle.strat_steps.specs.State.{Frame, frame, around, frames_up, place_of_frame, place_at, closure_or, closure_of_frame, closure_in, closed}
use Rattle.strat_steps.proofs.TrailLaws.{if_less}

mutual
  -- the environment is one of a context without frames
  pub data Fits (code : Code) (I : List Specialization) : Context → ResolvedEnvironment → Type 0 where
    fits_top : Fits code I top outermost
    fits_definitions : {C : Context} {V : ResolvedEnvironment} {ds : ResolvedDefinitions} {es : List Entry} →
        Bodies code I (defining ds es C) ds es → Fits code I C V → Fits code I (defining ds es C) (definitions ds V)
    fits_hidden : {C : Context} {V : ResolvedEnvironment} {base m k : ℕ} {ks : Knowns} {cs : ResolvedClosures} →
        AllKnown code I ks cs → Fits code I C V → Fits code I (hidden ks C) (layer base m k cs V)
    fits_no_definitions : {C : Context} {V : ResolvedEnvironment} {ds : ResolvedDefinitions} → Fits code I C V → Fits code I (hidden no_knowns C) (definitions ds V)

  -- the first closures are those that are known
  pub data AllKnown (code : Code) (I : List Specialization) : Knowns → ResolvedClosures → Type 0 where
    nothing_known : {cs : ResolvedClosures} → AllKnown code I no_knowns cs
    more_known : {D : Context} {W : ResolvedEnvironment} {s : ResolvedStrategy} {ks : Knowns} {cs : ResolvedClosures} →
        Fits code I D W → AllKnown code I ks cs → AllKnown code I (more_knowns s D ks) (more_closures s W cs)

mutual
  -- the frame p and those around it represent the environment, in the context
  pub data Represents (code : Code) (I : List Specialization) (F : List Frame) : Context → ResolvedEnvironment → ℕ → Type 0 where
    of_top : {p : ℕ} → Represents code I F top outermost p
    of_definitions : {C : Context} {V : ResolvedEnvironment} {p : ℕ} {ds : ResolvedDefinitions} {es : List Entry} →
        Bodies code I (defining ds es C) ds es → Represents code I F C V p → Represents code I F (defining ds es C) (definitions ds V) p
    of_frame : {C : Context} {V : ResolvedEnvironment} {p base up m k : ℕ} {cs : ResolvedClosures} {l : List (ℕ × ℕ)} →
        slice_get F p ≡ Some (frame base up l) → m ≤ length l → Closed code I F cs l → Represents code I F C V up →
        Represents code I F (framed m k C) (layer base m k cs V) p
    of_within : {C : Context} {V : ResolvedEnvironment} {p base first up k offset : ℕ} {l : List (ℕ × ℕ)} →
        slice_get F p ≡ Some (frame first up l) → base ≡ first + offset → Represents code I F C V p →
        Represents code I F (within k offset C) (layer base 0 k no_closures V) p
    of_known : {C : Context} {V : ResolvedEnvironment} {p base up m k : ℕ} {ks : Knowns} {cs : ResolvedClosures} {l : List (ℕ × ℕ)} →
        slice_get F p ≡ Some (frame base up l) → AllKnown code I ks cs → Represents code I F C V up →
        Represents code I F (known k ks C) (layer base m k cs V) p
    of_hidden : {C : Context} {V : ResolvedEnvironment} {p base m k : ℕ} {ks : Knowns} {cs : ResolvedClosures} →
        AllKnown code I ks cs → Represents code I F C V p → Represents code I F (hidden ks C) (layer base m k cs V) p
    of_no_definitions : {C : Context} {V : ResolvedEnvironment} {p : ℕ} {ds : ResolvedDefinitions} → Represents code I F C V p → Represents code I F (hidden no_knowns C) (definitions ds V) p
    of_open : {C : Context} {V : ResolvedEnvironment} {p base m k : ℕ} {ks : Knowns} {cs : ResolvedClosures} →
        AllOpen code I F p ks cs → Represents code I F C V p → Represents code I F (open_call ks C) (layer base m k cs V) p

  -- the first closures are those that are known, each in an environment that the frame p and those around it represent
  pub data AllOpen (code : Code) (I : List Specialization) (F : List Frame) : ℕ → Knowns → ResolvedClosures → Type 0 where
    nothing_open : {p : ℕ} {cs : ResolvedClosures} → AllOpen code I F p no_knowns cs
    more_open : {p : ℕ} {D : Context} {W : ResolvedEnvironment} {s : ResolvedStrategy} {ks : Knowns} {cs : ResolvedClosures} →
        Represents code I F D W p → AllOpen code I F p ks cs → AllOpen code I F p (more_knowns s D ks) (more_closures s W cs)

  -- each closure has a range with its end, and a frame that represents its environment
  pub data Closed (code : Code) (I : List Specialization) (F : List Frame) : ResolvedClosures → List (ℕ × ℕ) → Type 0 where
    no_closed : Closed code I F no_closures []
    more_closed : {C : Context} {W : ResolvedEnvironment} {s : ResolvedStrategy} {cs : ResolvedClosures} {l : List (ℕ × ℕ)} {entry p j : ℕ} →
        Ranges code I None C entry 0 s j → At code j end_argument → Represents code I F C W p → Closed code I F cs l → Closed code I F (more_closures s W cs) ((entry, p) ∷ l)

-- where no frame is looked at, each frame will do
pub fitting : {code : Code} {I : List Specialization} {F : List Frame} {C : Context} {V : ResolvedEnvironment} (p : ℕ) → Fits code I C V → Represents code I F C V p
fitting p fits_top = of_top
fitting p (fits_definitions bs h) = of_definitions bs (fitting p h)
fitting p (fits_hidden ks h) = of_hidden ks (fitting p h)
fitting p (fits_no_definitions h) = of_no_definitions (fitting p h)

-- frames are not looked at
pub hiding : {code : Code} {I : List Specialization} {F : List Frame} {C D : Context} {V : ResolvedEnvironment} {p : ℕ} → Hides C D → Represents code I F C V p → Fits code I D V
hiding hides_top of_top = fits_top
hiding (hides_framed h) (of_frame is enough cs r) = fits_hidden nothing_known (hiding h r)
hiding (hides_within h) (of_within is first r) = fits_hidden nothing_known (hiding h r)
hiding (hides_definitions h) (of_definitions bs r) = fits_no_definitions (hiding h r)
hiding (keeps_definitions h) (of_definitions bs r) = fits_definitions bs (hiding h r)
hiding (hides_known h) (of_known is ks r) = fits_hidden nothing_known (hiding h r)
hiding (keeps_known h) (of_known is ks r) = fits_hidden ks (hiding h r)
hiding (hides_open h) (of_open ks r) = fits_hidden nothing_known (hiding h r)
hiding (hides_hidden h) (of_hidden ks r) = fits_hidden nothing_known (hiding h r)
hiding (hides_hidden h) (of_no_definitions r) = fits_no_definitions (hiding h r)
hiding (keeps_hidden h) (of_hidden ks r) = fits_hidden ks (hiding h r)
hiding (keeps_hidden h) (of_no_definitions r) = fits_no_definitions (hiding h r)

pub got_last : {A : Type 0} (F : List A) (f : A) → slice_get (F ++ f ∷ []) (length F) ≡ Some f
got_last [] f = refl
got_last (v ∷ F) f = got_last F f

mutual
  -- further frames change nothing
  pub represents_grown : {code : Code} {I : List Specialization} {F : List Frame} (G : List Frame) {C : Context} {V : ResolvedEnvironment} {p : ℕ} → Represents code I F C V p → Represents code I (F ++ G) C V p
  represents_grown G of_top = of_top
  represents_grown G (of_definitions bs r) = of_definitions bs (represents_grown G r)
  represents_grown {F = F} G (of_within is first r) = of_within (got_in_front F G _ _ is) first (represents_grown G r)
  represents_grown {F = F} G (of_known is ks r) = of_known (got_in_front F G _ _ is) ks (represents_grown G r)
  represents_grown G (of_hidden ks r) = of_hidden ks (represents_grown G r)
  represents_grown G (of_no_definitions r) = of_no_definitions (represents_grown G r)
  represents_grown G (of_open ks r) = of_open (open_grown G ks) (represents_grown G r)
  represents_grown {F = F} G (of_frame is enough cs r) = of_frame (got_in_front F G _ _ is) enough (closed_grown G cs) (represents_grown G r)

  open_grown : {code : Code} {I : List Specialization} {F : List Frame} (G : List Frame) {p : ℕ} {ks : Knowns} {cs : ResolvedClosures} → AllOpen code I F p ks cs → AllOpen code I (F ++ G) p ks cs
  open_grown G nothing_open = nothing_open
  open_grown G (more_open r others) = more_open (represents_grown G r) (open_grown G others)

  pub closed_grown : {code : Code} {I : List Specialization} {F : List Frame} (G : List Frame) {cs : ResolvedClosures} {l : List (ℕ × ℕ)} → Closed code I F cs l → Closed code I (F ++ G) cs l
  closed_grown G no_closed = no_closed
  closed_grown G (more_closed s h r cs) = more_closed s h (represents_grown G r) (closed_grown G cs)

-- n layers up
pub outwards : {code : Code} {I : List Specialization} {F : List Frame} {C : Context} {V : ResolvedEnvironment} {p : ℕ} → Represents code I F C V p → (n : ℕ) →
    Represents code I F (outer C n) (layers_up V n) (frames_up F p (frames_in C n))
outwards r zero = r
outwards of_top (suc n) = of_top
outwards (of_definitions bs r) (suc n) = outwards r n
outwards (of_within is first r) (suc n) = outwards r n
outwards (of_hidden ks r) (suc n) = outwards r n
outwards (of_no_definitions r) (suc n) = outwards r n
outwards (of_open ks r) (suc n) = outwards r n
outwards {code} {I} {F} (of_frame {C = C} {V = V} {p = p} is enough cs r) (suc n) =
    subst (λ v. Represents code I F (outer C n) (layers_up V n) (frames_up F (around v p) (frames_in C n))) (sym is) (outwards r n)
outwards {code} {I} {F} (of_known {C = C} {V = V} {p = p} is ks r) (suc n) =
    subst (λ v. Represents code I F (outer C n) (layers_up V n) (frames_up F (around v p) (frames_in C n))) (sym is) (outwards r n)

layers_outer : (C : Context) (n : ℕ) → outside (layers_of C) n ≡ layers_of (outer C n)
layers_outer C zero = refl
layers_outer top (suc n) = refl
layers_outer (framed m k C) (suc n) = layers_outer C n
layers_outer (within k i C) (suc n) = layers_outer C n
layers_outer (defining ds es C) (suc n) = layers_outer C n
layers_outer (known k ks C) (suc n) = layers_outer C n
layers_outer (hidden ks C) (suc n) = layers_outer C n
layers_outer (open_call ks C) (suc n) = layers_outer C n

place_here : {code : Code} {I : List Specialization} {F : List Frame} {C : Context} {V : ResolvedEnvironment} {p : ℕ} → Represents code I F C V p → (i : ℕ) → IsVariable (layers_of C) i → place_of_frame (slice_get F p) (slot_in C i) ≡ place_in V i
place_here of_top i h = absurd (h)
place_here (of_definitions bs r) i h = absurd (h)
place_here (of_within {base = base} {first = first} {k = k} {offset = offset} is begins r) i h =
    ap (λ v. place_of_frame v (offset + i)) is ∙ ap Some (let q : first + (offset + i) ≡ base + i = omega arith in q) ∙ sym (if_less (Some (base + i)) None i k h)
place_here (of_frame {base = base} {k = k} is enough cs r) i h = ap (λ v. place_of_frame v i) is ∙ sym (if_less (Some (base + i)) None i k h)
place_here (of_known {base = base} {k = k} is ks r) i h = ap (λ v. place_of_frame v i) is ∙ sym (if_less (Some (base + i)) None i k h)
place_here (of_hidden ks r) i h = absurd (omega arith)
place_here (of_no_definitions r) i h = absurd (omega arith)
place_here (of_open ks r) i h = absurd (omega arith)

-- variables have the same places
pub same_place : {code : Code} {I : List Specialization} {F : List Frame} {C : Context} {V : ResolvedEnvironment} {p : ℕ} → Represents code I F C V p → (y : Coordinate) → VariableInRange (layers_of C) y →
    place_at F p (by_frames C y) ≡ by_coordinates.place_of V y
same_place {C = C} r y h = place_here (outwards r y.layers_up) y.slot (subst (λ L. IsVariable L y.slot) (layers_outer C y.layers_up) h)

-- what a closure is
pub data ClosureIs (code : Code) (I : List Specialization) (F : List Frame) (s : ResolvedStrategy) (W : ResolvedEnvironment) (c : ℕ × ℕ) : Type 0 where
  closure_is : {C : Context} {j : ℕ} → Ranges code I None C c.0 0 s j → At code j end_argument → Represents code I F C W c.1 → ClosureIs code I F s W c

-- a closure is found on both sides
pub data ClosureFound (code : Code) (I : List Specialization) (F : List Frame) (c : ℕ × ℕ) : Option ResolvedCallee → Type 0 where
  closure_found : {s : ResolvedStrategy} {W : ResolvedEnvironment} → ClosureIs code I F s W c → ClosureFound code I F c (Some (closure s W))

closure_of : {code : Code} {I : List Specialization} {F : List Frame} {cs : ResolvedClosures} {l : List (ℕ × ℕ)} → Closed code I F cs l → (i : ℕ) → i < length l → ClosureFound code I F (closure_or (slice_get l i)) (closure_at cs i)
closure_of no_closed i h = absurd (omega arith)
closure_of (more_closed s j r cs) zero h = closure_found (closure_is s j r)
closure_of (more_closed s j r cs) (suc i) h = closure_of cs i (omega arith)

closure_here : {code : Code} {I : List Specialization} {F : List Frame} {C : Context} {V : ResolvedEnvironment} {p : ℕ} → Represents code I F C V p → (i : ℕ) → HasParameter C i → ClosureFound code I F (closure_of_frame (slice_get F p) (slot_in C i)) (callee_in V i)
closure_here of_top i h = absurd (h)
closure_here (of_definitions bs r) i h = absurd (h)
closure_here (of_within is first r) i h = absurd (h)
closure_here {code} {I} {F} (of_frame {cs = cs} {l = l} is enough closures r) i h =
    subst (λ v. ClosureFound code I F (closure_of_frame v i) (closure_at cs i)) (sym is) (closure_of closures i (omega arith))
closure_here (of_known is ks r) i h = absurd (h)
closure_here (of_hidden ks r) i h = absurd (h)
closure_here (of_no_definitions r) i h = absurd (h)
closure_here (of_open ks r) i h = absurd (h)

-- what is known of a strategy parameter
pub data ParameterIs (code : Code) (I : List Specialization) (s : ResolvedStrategy) (D : Context) : Option ResolvedCallee → Type 0 where
  parameter_is : {W : ResolvedEnvironment} → Fits code I D W → ParameterIs code I s D (Some (closure s W))

same_known : {code : Code} {I : List Specialization} {s other : ResolvedStrategy} {D E : Context} {v : Option ResolvedCallee} → other ≡ s → E ≡ D → ParameterIs code I other E v → ParameterIs code I s D v
same_known {code} {I} {s} {other} {D} {E} {v} is at h = subst (λ z. ParameterIs code I z D v) is (subst (λ B. ParameterIs code I other B v) at h)

known_in : {code : Code} {I : List Specialization} {ks : Knowns} {cs : ResolvedClosures} → AllKnown code I ks cs → (i : ℕ) (s : ResolvedStrategy) (D : Context) → IsKnown ks i s D → ParameterIs code I s D (closure_at cs i)
known_in nothing_known i s D h = absurd (h)
known_in (more_known x others) zero s D h = same_known h.0 h.1 (parameter_is x)
known_in (more_known x others) (suc i) s D h = known_in others i s D h

known_here : {code : Code} {I : List Specialization} {F : List Frame} {C : Context} {V : ResolvedEnvironment} {p : ℕ} → Represents code I F C V p → (i : ℕ) (s : ResolvedStrategy) (D : Context) → KnowsParameter C i s D →
    ParameterIs code I s D (callee_in V i)
known_here of_top i s D h = absurd (h)
known_here (of_definitions bs r) i s D h = absurd (h)
known_here (of_within is first r) i s D h = absurd (h)
known_here (of_frame is enough cs r) i s D h = absurd (h)
known_here (of_known is ks r) i s D h = known_in ks i s D h
known_here (of_hidden ks r) i s D h = known_in ks i s D h
known_here (of_no_definitions r) i s D h = absurd (h)
known_here (of_open ks r) i s D h = absurd (h)

-- known strategy parameters are these strategies
pub same_parameter : {code : Code} {I : List Specialization} {F : List Frame} {C : Context} {V : ResolvedEnvironment} {p : ℕ} → Represents code I F C V p → (y : Coordinate) (s : ResolvedStrategy) (D : Context) →
    KnowsParameter (outer C y.layers_up) y.slot s D → ParameterIs code I s D (callee_in (layers_up V y.layers_up) y.slot)
same_parameter r y s D h = known_here (outwards r y.layers_up) y.slot s D h

-- strategy parameters are the same closures
pub same_closure : {code : Code} {I : List Specialization} {F : List Frame} {C : Context} {V : ResolvedEnvironment} {p : ℕ} → Represents code I F C V p → (y : Coordinate) → HasParameter (outer C y.layers_up) y.slot →
    ClosureFound code I F (closure_in F p (by_frames C y)) (callee_in (layers_up V y.layers_up) y.slot)
same_closure r y h = closure_here (outwards r y.layers_up) y.slot h

-- what is known of a strategy parameter that may look at the frame p
pub data OpenIs (code : Code) (I : List Specialization) (F : List Frame) (p : ℕ) (s : ResolvedStrategy) (D : Context) : Option ResolvedCallee → Type 0 where
  open_is : {W : ResolvedEnvironment} → Represents code I F D W p → OpenIs code I F p s D (Some (closure s W))

same_open : {code : Code} {I : List Specialization} {F : List Frame} {p : ℕ} {s other : ResolvedStrategy} {D E : Context} {v : Option ResolvedCallee} → other ≡ s → E ≡ D → OpenIs code I F p other E v → OpenIs code I F p s D v
same_open {code} {I} {F} {p} {s} {other} {D} {E} {v} is at h = subst (λ z. OpenIs code I F p z D v) is (subst (λ B. OpenIs code I F p other B v) at h)

open_in : {code : Code} {I : List Specialization} {F : List Frame} {p : ℕ} {ks : Knowns} {cs : ResolvedClosures} → AllOpen code I F p ks cs → (i : ℕ) (s : ResolvedStrategy) (D : Context) → IsKnown ks i s D →
    OpenIs code I F p s D (closure_at cs i)
open_in nothing_open i s D h = absurd (h)
open_in (more_open x others) zero s D h = same_open h.0 h.1 (open_is x)
open_in (more_open x others) (suc i) s D h = open_in others i s D h

open_here : {code : Code} {I : List Specialization} {F : List Frame} {C : Context} {V : ResolvedEnvironment} {p : ℕ} → Represents code I F C V p → (i : ℕ) (s : ResolvedStrategy) (D : Context) → KnowsOpen C i s D →
    OpenIs code I F p s D (callee_in V i)
open_here of_top i s D h = absurd (h)
open_here (of_definitions bs r) i s D h = absurd (h)
open_here (of_within is first r) i s D h = absurd (h)
open_here (of_frame is enough cs r) i s D h = absurd (h)
open_here (of_known is ks r) i s D h = absurd (h)
open_here (of_hidden ks r) i s D h = absurd (h)
open_here (of_no_definitions r) i s D h = absurd (h)
open_here (of_open ks r) i s D h = open_in ks i s D h

-- known strategy parameters that may look at the innermost frame are these strategies, where no frame has been entered since
pub same_parameter_open : {code : Code} {I : List Specialization} {F : List Frame} {C : Context} {V : ResolvedEnvironment} {p : ℕ} → Represents code I F C V p → (y : Coordinate) (s : ResolvedStrategy) (D : Context) →
    frames_in C y.layers_up ≡ 0 → KnowsOpen (outer C y.layers_up) y.slot s D → OpenIs code I F p s D (callee_in (layers_up V y.layers_up) y.slot)
same_parameter_open {code} {I} {F} {V = V} {p = p} r y s D none h =
    subst (λ n. OpenIs code I F (frames_up F p n) s D (callee_in (layers_up V y.layers_up) y.slot)) none (open_here (outwards r y.layers_up) y.slot s D h)

-- what a definition is, where B is the context of its body for its numbers of parameters
pub data DefinitionIs (code : Code) (I : List Specialization) (B : ℕ → ℕ → Context) (V : ResolvedEnvironment) (entry room n o : ℕ) : Option ResolvedCallee → Type 0 where
  definition_is : {m k j : ℕ} {s : ResolvedStrategy} → room ≡ 0 → Ranges code I (Some k) (B m k) entry 0 s j → At code j end_definition → m ≡ n → k ≡ o → DefinitionIs code I B V entry room n o (Some (definition m k s V))
  definition_begins : {m k j : ℕ} {s : ResolvedStrategy} → Ranges code I (Some (k + room)) (within room k (B m k)) entry 1 s j → At code j end_definition → m ≡ n → k ≡ o →
      DefinitionIs code I B V entry room n o (Some (definition m k (scope room s) V))

abbrev address_of : Entry → ℕ
address_of (entry_at a k) = a

abbrev room_of : Entry → ℕ
room_of (entry_at a k) = k

entry_cons : (x y : Entry) (xs : List Entry) → slice_get (x ∷ xs) 0 ≡ Some y → x ≡ y
entry_cons x y xs h = cc

-- from the first entry of a list
by_entry : {code : Code} {I : List Specialization} {B : ℕ → ℕ → Context} {V : ResolvedEnvironment} {n o : ℕ} {v : Option ResolvedCallee} (a k entry room : ℕ) → entry_at a k ≡ entry_at entry room → DefinitionIs code I B V a k n o v → DefinitionIs code I B V entry room n o v
by_entry {code} {I} {B} {V} {n} {o} {v} a k entry room is d =
    let first : a ≡ entry = ap address_of is in
    let second : k ≡ room = ap room_of is in
    subst (λ i. DefinitionIs code I B V i room n o v) first (subst (λ i. DefinitionIs code I B V a i n o v) second d)

body_at : {code : Code} {I : List Specialization} {C : Context} {ds : ResolvedDefinitions} {es : List Entry} {V : ResolvedEnvironment} {n o : ℕ} → Bodies code I C ds es → (i entry room : ℕ) → IsDefinition ds i n o → slice_get es i ≡ Some (entry_at entry room) →
    DefinitionIs code I (λ m k. framed m k C) V entry room n o (definition_at ds V i)
body_at no_bodies i entry room h k = absurd (h)
body_at (more_bodies {entry = a} {es = es} r j bs) zero entry room h is = by_entry a 0 entry room (entry_cons (entry_at a 0) (entry_at entry room) es is) (definition_is refl r j (sym h.0) (sym h.1))
body_at (more_bodies r j bs) (suc i) entry room h is = body_at bs i entry room h is
body_at (roomy_bodies {n = n} {entry = a} {es = es} r j bs) zero entry room h is = by_entry a n entry room (entry_cons (entry_at a n) (entry_at entry room) es is) (definition_begins r j (sym h.0) (sym h.1))
body_at (roomy_bodies r j bs) (suc i) entry room h is = body_at bs i entry room h is

abbrev definitions_in : Context → ResolvedDefinitions
definitions_in top = no_definitions
definitions_in (framed m k C) = no_definitions
definitions_in (within k i C) = no_definitions
definitions_in (defining ds es C) = ds
definitions_in (known k ks C) = no_definitions
definitions_in (hidden ks C) = no_definitions
definitions_in (open_call ks C) = no_definitions

abbrev entries_in : Context → List Entry
entries_in top = []
entries_in (framed m k C) = []
entries_in (within k i C) = []
entries_in (defining ds es C) = es
entries_in (known k ks C) = []
entries_in (hidden ks C) = []
entries_in (open_call ks C) = []

definition_here : {code : Code} {I : List Specialization} {F : List Frame} {C D : Context} {ds : ResolvedDefinitions} {es : List Entry} {V : ResolvedEnvironment} {p n o : ℕ} → Represents code I F C V p → C ≡ defining ds es D →
    (i entry room : ℕ) → IsDefinition ds i n o → slice_get es i ≡ Some (entry_at entry room) → DefinitionIs code I (λ m k. framed m k C) V entry room n o (callee_in V i)
definition_here of_top is i entry room h k = absurd (cc)
definition_here {n = n} {o = o} (of_definitions bs r) is i entry room h k =
    body_at bs i entry room (subst (λ d. IsDefinition d i n o) (sym (ap definitions_in is)) h) (ap (λ C. slice_get (entries_in C) i) is ∙ k)
definition_here (of_frame is' enough cs r) is i entry room h k = absurd (cc)
definition_here (of_within is' first r) is i entry room h k = absurd (cc)
definition_here (of_known is' ks r) is i entry room h k = absurd (cc)
definition_here (of_hidden ks r) is i entry room h k = absurd (cc)
definition_here (of_no_definitions r) is i entry room h k = absurd (cc)
definition_here (of_open ks r) is i entry room h k = absurd (cc)

-- a definition has its code, in the same environment
pub same_definition : {code : Code} {I : List Specialization} {F : List Frame} {C D : Context} {ds : ResolvedDefinitions} {es : List Entry} {V : ResolvedEnvironment} {p n o : ℕ} → Represents code I F C V p → (y : Coordinate) →
    outer C y.layers_up ≡ defining ds es D → (entry room : ℕ) → IsDefinition ds y.slot n o → slice_get es y.slot ≡ Some (entry_at entry room) →
    DefinitionIs code I (λ m k. framed m k (outer C y.layers_up)) (layers_up V y.layers_up) entry room n o (callee_in (layers_up V y.layers_up) y.slot)
same_definition r y is entry room h k = definition_here (outwards r y.layers_up) is y.slot entry room h k

-- what a specialization is
pub data SpecializationIs (code : Code) (I : List Specialization) (C : Context) (slot : ℕ) (ks : Knowns) (entry room : ℕ) : Type 0 where
  specialization_is : {m k j : ℕ} {s : ResolvedStrategy} → room ≡ 0 → IsBody (definitions_in C) slot m k s → Ranges code I (Some k) (known k ks C) entry 0 s j → At code j end_definition → SpecializationIs code I C slot ks entry room
  specialization_begins : {m k j : ℕ} {s : ResolvedStrategy} → IsBody (definitions_in C) slot m k (scope room s) → Ranges code I (Some (k + room)) (within room k (known k ks C)) entry 1 s j → At code j end_definition →
      SpecializationIs code I C slot ks entry room

abbrev SpecializationStands : Code → List Specialization → Specialization → Type 0
SpecializationStands code I (specialization_at C slot ks entry room) = SpecializationIs code I C slot ks entry room

specialization_cons : (x y : Specialization) (xs : List Specialization) → slice_get (x ∷ xs) 0 ≡ Some y → x ≡ y
specialization_cons x y xs h = cc

pub specialization_of : {code : Code} {I vs : List Specialization} → Specializations code I vs → (i : ℕ) (v : Specialization) → slice_get vs i ≡ Some v → SpecializationStands code I v
specialization_of no_specializations i v h = absurd (cc)
specialization_of {code} {I} (more_specializations {C = C} {ds = ds} {es = es} {ks = ks} {slot = slot} {entry = entry} {vs = vs} is r at others) zero v h =
    subst (SpecializationStands code I) (specialization_cons (specialization_at (defining ds es C) slot ks entry 0) v vs h) (specialization_is refl is r at)
specialization_of (more_specializations is r at others) (suc i) v h = specialization_of others i v h
specialization_of {code} {I} (roomy_specializations {C = C} {ds = ds} {es = es} {ks = ks} {slot = slot} {n = n} {entry = entry} {vs = vs} is r at others) zero v h =
    subst (SpecializationStands code I) (specialization_cons (specialization_at (defining ds es C) slot ks entry n) v vs h) (specialization_begins is r at)
specialization_of (roomy_specializations is r at others) (suc i) v h = specialization_of others i v h

body_is : {ds : ResolvedDefinitions} {i m k : ℕ} {s : ResolvedStrategy} (V : ResolvedEnvironment) → IsBody ds i m k s → definition_at ds V i ≡ Some (definition m k s V)
body_is V first_body = refl
body_is V (later_body h) = body_is V h

body_counts : {ds : ResolvedDefinitions} {i m k n o : ℕ} {s : ResolvedStrategy} → IsBody ds i m k s → IsDefinition ds i n o → (m ≡ n) × (k ≡ o)
body_counts first_body h = (sym h.0, sym h.1)
body_counts (later_body x) h = body_counts x h

specialization_body : {code : Code} {I : List Specialization} {D : Context} {ds : ResolvedDefinitions} {es : List Entry} {V : ResolvedEnvironment} {ks : Knowns} {i entry room n o : ℕ} → SpecializationIs code I (defining ds es D) i ks entry room → IsDefinition ds i n o →
    DefinitionIs code I (λ m k. known k ks (defining ds es D)) V entry room n o (definition_at ds V i)
specialization_body {code} {I} {D = D} {ds = ds} {es = es} {V = V} {ks = ks} {i} {entry} {room} {n} {o} (specialization_is {m = m} {k = k} {s = s} none is r at) h =
    let c = body_counts is h in
    subst (λ v. DefinitionIs code I (λ m k. known k ks (defining ds es D)) V entry room n o v) (sym (body_is V is)) (definition_is none r at c.0 c.1)
specialization_body {code} {I} {D = D} {ds = ds} {es = es} {V = V} {ks = ks} {i} {entry} {room} {n} {o} (specialization_begins {m = m} {k = k} {s = s} is r at) h =
    let c = body_counts is h in
    subst (λ v. DefinitionIs code I (λ m k. known k ks (defining ds es D)) V entry room n o v) (sym (body_is V is)) (definition_begins r at c.0 c.1)

definitions_here : {code : Code} {I : List Specialization} {F : List Frame} {C D : Context} {ds : ResolvedDefinitions} {es : List Entry} {V : ResolvedEnvironment} {p : ℕ} → Represents code I F C V p → C ≡ defining ds es D → (i : ℕ) →
    callee_in V i ≡ definition_at ds V i
definitions_here of_top is i = absurd (cc)
definitions_here (of_definitions {V = V} {ds = others} bs r) is i = ap (λ ds. definition_at ds (definitions others V) i) (ap definitions_in is)
definitions_here (of_frame is' enough cs r) is i = absurd (cc)
definitions_here (of_within is' first r) is i = absurd (cc)
definitions_here (of_known is' ks r) is i = absurd (cc)
definitions_here (of_hidden ks r) is i = absurd (cc)
definitions_here (of_no_definitions r) is i = absurd (cc)
definitions_here (of_open ks r) is i = absurd (cc)

-- a specialization has its code, in the same environment
pub same_specialization_of : {code : Code} {I : List Specialization} {F : List Frame} {C D : Context} {ds : ResolvedDefinitions} {es : List Entry} {V : ResolvedEnvironment} {ks : Knowns} {p n o : ℕ} → Represents code I F C V p → (y : Coordinate) →
    outer C y.layers_up ≡ defining ds es D → (entry room : ℕ) → IsDefinition ds y.slot n o → SpecializationIs code I (defining ds es D) y.slot ks entry room →
    DefinitionIs code I (λ m k. known k ks (defining ds es D)) (layers_up V y.layers_up) entry room n o (callee_in (layers_up V y.layers_up) y.slot)
same_specialization_of {code} {I} {D = D} {ds = ds} {es = es} {V = V} {ks = ks} {n = n} {o = o} r y is entry room h x =
    subst (λ v. DefinitionIs code I (λ m k. known k ks (defining ds es D)) (layers_up V y.layers_up) entry room n o v) (sym (definitions_here (outwards r y.layers_up) is y.slot)) (specialization_body x h)

-- a definition whose body is known
pub data BodyIs (code : Code) (I : List Specialization) (D : Context) (s : ResolvedStrategy) : Option ResolvedCallee → Type 0 where
  body_of : {m : ℕ} {W : ResolvedEnvironment} → Fits code I D W → BodyIs code I D s (Some (definition m 0 s W))

body_in : {code : Code} {I : List Specialization} {D : Context} {ds : ResolvedDefinitions} {es : List Entry} {U : ResolvedEnvironment} {i m : ℕ} {s : ResolvedStrategy} → Fits code I (defining ds es D) U → IsBody ds i m 0 s →
    BodyIs code I (defining ds es D) s (callee_in U i)
body_in {code} {I} {D} {ds} {es} {s = s} (fits_definitions {V = V} bs h) is =
    subst (λ v. BodyIs code I (defining ds es D) s v) (sym (body_is (definitions ds V) is)) (body_of (fits_definitions bs h))

-- a definition that no frame is around has this body
pub same_body_of : {code : Code} {I : List Specialization} {F : List Frame} {C D : Context} {ds : ResolvedDefinitions} {es : List Entry} {V : ResolvedEnvironment} {p m : ℕ} {s : ResolvedStrategy} → Represents code I F C V p → (y : Coordinate) →
    Hides (outer C y.layers_up) (defining ds es D) → IsBody ds y.slot m 0 s → BodyIs code I (defining ds es D) s (callee_in (layers_up V y.layers_up) y.slot)
same_body_of r y hides is = body_in (hiding hides (outwards r y.layers_up)) is

-- closures of arguments
not_handed : (ds : ResolvedDefinitions) (W : ResolvedEnvironment) (i : ℕ) (s : ResolvedStrategy) (V : ResolvedEnvironment) (cs : ResolvedClosures) → handed_on by_coordinates (definition_at ds W i) s V cs ≡ more_closures s V cs
not_handed no_definitions W i s V cs = refl
not_handed (more_definitions y m k b ds) W zero s V cs = refl
not_handed (more_definitions y m k b ds) W (suc i) s V cs = not_handed ds W i s V cs

definitions_not_handed : {code : Code} {I : List Specialization} {F : List Frame} {C : Context} {W : ResolvedEnvironment} {p : ℕ} → Represents code I F C W p → HasDefinitions C → (i : ℕ) (s : ResolvedStrategy) (V : ResolvedEnvironment) (cs : ResolvedClosures) →
    handed_on by_coordinates (callee_in W i) s V cs ≡ more_closures s V cs
definitions_not_handed of_top h i s V cs = absurd (h)
definitions_not_handed (of_definitions {V = W} {ds = ds} bs r) h i s V cs = not_handed ds (definitions ds W) i s V cs
definitions_not_handed (of_within is first r) h i s V cs = absurd (h)
definitions_not_handed (of_frame is enough l r) h i s V cs = absurd (h)
definitions_not_handed (of_known is ks r) h i s V cs = absurd (h)
definitions_not_handed (of_hidden ks r) h i s V cs = absurd (h)
definitions_not_handed (of_no_definitions r) h i s V cs = absurd (h)
definitions_not_handed (of_open ks r) h i s V cs = absurd (h)

own_closure : {code : Code} {I : List Specialization} {F : List Frame} {C : Context} {V : ResolvedEnvironment} {p : ℕ} → Represents code I F C V p → (s : ResolvedStrategy) → HasOwnCode C s → (cs : ResolvedClosures) → with_closure by_coordinates V s cs ≡ more_closures s V cs
own_closure r id h cs = refl
own_closure r fail h cs = refl
own_closure r (seq s1 s2) h cs = refl
own_closure r (choice s1 s2 s3) h cs = refl
own_closure r (match p) h cs = refl
own_closure r (build p) h cs = refl
own_closure r (scope k s) h cs = refl
own_closure r (all s) h cs = refl
own_closure r (one s) h cs = refl
own_closure r (some s) h cs = refl
own_closure r (with_definitions ds s) h cs = refl
own_closure {V = V} r (call y ss ps) h cs = definitions_not_handed (outwards r y.layers_up) h y.slot (call y ss ps) V cs
own_closure r (primitive f ps) h cs = refl

parameter_closed : {code : Code} {I : List Specialization} {F : List Frame} {cs : ResolvedClosures} {l : List (ℕ × ℕ)} {c : ℕ × ℕ} {v : Option ResolvedCallee} → ClosureFound code I F c v → (argument : ResolvedStrategy) (V : ResolvedEnvironment) → Closed code I F cs l →
    Closed code I F (handed_on by_coordinates v argument V cs) (c ∷ l)
parameter_closed (closure_found (closure_is s j r)) argument V cs = more_closed s j r cs

parameter_all_known : {code : Code} {I : List Specialization} {ks : Knowns} {cs : ResolvedClosures} {s : ResolvedStrategy} {D : Context} {v : Option ResolvedCallee} → ParameterIs code I s D v → (argument : ResolvedStrategy) (V : ResolvedEnvironment) →
    AllKnown code I ks cs → AllKnown code I (more_knowns s D ks) (handed_on by_coordinates v argument V cs)
parameter_all_known (parameter_is x) argument V others = more_known x others

known_closed : {code : Code} {I : List Specialization} {F : List Frame} {cs : ResolvedClosures} {l : List (ℕ × ℕ)} {D : Context} {s : ResolvedStrategy} {entry j p : ℕ} {v : Option ResolvedCallee} → ParameterIs code I s D v →
    Ranges code I None D entry 0 s j → At code j end_argument → (argument : ResolvedStrategy) (V : ResolvedEnvironment) → Closed code I F cs l → Closed code I F (handed_on by_coordinates v argument V cs) ((entry, p) ∷ l)
known_closed {p = p} (parameter_is fit) r at argument V cs = more_closed r at (fitting p fit) cs

pub arguments_closed : {code : Code} {I : List Specialization} {F : List Frame} {C : Context} {V : ResolvedEnvironment} {p : ℕ} → Represents code I F C V p → {ss : ResolvedStrategies} {us : List Argument} → Arguments code I C ss us →
    Closed code I F (closures_of by_coordinates V ss) (closed F p us)
arguments_closed r no_arguments = no_closed
arguments_closed {code} {I} {F} {V = V} {p = p} r (code_argument {entry = entry} {s = s} {ss = ss} {us = us} h s' j args) =
    subst (λ cs. Closed code I F cs ((entry, p) ∷ closed F p us)) (sym (own_closure r s h (closures_of by_coordinates V ss))) (more_closed s' j r (arguments_closed r args))
arguments_closed {V = V} r (known_argument {D = D} {y = y} {s = s} {vs = vs} {ps = ps} h s' j args) = known_closed (same_parameter r y s D h) s' j (call y vs ps) V (arguments_closed r args)
arguments_closed {V = V} r (parameter_argument {y = y} {vs = vs} {ps = ps} h args) = parameter_closed (same_closure r y h) (call y vs ps) V (arguments_closed r args)

pub arguments_count : {code : Code} {I : List Specialization} (F : List Frame) (p : ℕ) {C : Context} {ss : ResolvedStrategies} {us : List Argument} → Arguments code I C ss us → length (closed F p us) ≡ strategies_count ss
arguments_count F p no_arguments = refl
arguments_count F p (code_argument h s j args) = let k = arguments_count F p args in omega arith
arguments_count F p (known_argument h s j args) = let k = arguments_count F p args in omega arith
arguments_count F p (parameter_argument h args) = let k = arguments_count F p args in omega arith

pub arguments_known : {code : Code} {I : List Specialization} {F : List Frame} {C : Context} {V : ResolvedEnvironment} {p : ℕ} → Represents code I F C V p → {ss : ResolvedStrategies} {ks : Knowns} → AreKnown C ss ks →
    AllKnown code I ks (closures_of by_coordinates V ss)
arguments_known r none_known = nothing_known
arguments_known {code} {I} {V = V} r (own_known {D = D} {s = s} {ss = ss} {ks = ks} h hides args) =
    subst (λ cs. AllKnown code I (more_knowns s D ks) cs) (sym (own_closure r s h (closures_of by_coordinates V ss))) (more_known (hiding hides r) (arguments_known r args))
arguments_known {V = V} r (parameter_known {D = D} {y = y} {s = s} {vs = vs} {ps = ps} h args) = parameter_all_known (same_parameter r y s D h) (call y vs ps) V (arguments_known r args)

parameter_all_open : {code : Code} {I : List Specialization} {F : List Frame} {p : ℕ} {ks : Knowns} {cs : ResolvedClosures} {s : ResolvedStrategy} {D : Context} {v : Option ResolvedCallee} → OpenIs code I F p s D v →
    (argument : ResolvedStrategy) (V : ResolvedEnvironment) → AllOpen code I F p ks cs → AllOpen code I F p (more_knowns s D ks) (handed_on by_coordinates v argument V cs)
parameter_all_open (open_is x) argument V others = more_open x others

-- what looks at no frame is known in each frame
fits_open : {code : Code} {I : List Specialization} {F : List Frame} (p : ℕ) {s : ResolvedStrategy} {D : Context} {v : Option ResolvedCallee} → ParameterIs code I s D v → OpenIs code I F p s D v
fits_open p (parameter_is fit) = open_is (fitting p fit)

-- the arguments of a call in place are these strategies, each in its context, in the frame p
pub open_arguments : {code : Code} {I : List Specialization} {F : List Frame} {C : Context} {V : ResolvedEnvironment} {p : ℕ} → Represents code I F C V p → {ss : ResolvedStrategies} {ks : Knowns} → AreKnownOpen C ss ks →
    AllOpen code I F p ks (closures_of by_coordinates V ss)
open_arguments r none_open = nothing_open
open_arguments {code} {I} {F} {C = C} {V = V} {p = p} r (own_open {s = s} {ss = ss} {ks = ks} h args) =
    subst (λ cs. AllOpen code I F p (more_knowns s C ks) cs) (sym (own_closure r s h (closures_of by_coordinates V ss))) (more_open r (open_arguments r args))
open_arguments {V = V} {p = p} r (parameter_open {D = D} {y = y} {s = s} {vs = vs} {ps = ps} h args) = parameter_all_open (fits_open p (same_parameter r y s D h)) (call y vs ps) V (open_arguments r args)
