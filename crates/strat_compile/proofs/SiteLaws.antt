-- Contexts without their frames, and what sites say of their contexts.
use Rattle.std.proofs.Common.{◌≡◌, ℕ, zero, suc, refl, ap, sym, ◌∙◌, subst}
use Rattle.core_lang.specs.Program.{more_strategies}
use Rattle.core_lang.specs.Resolved.{ResolvedStrategy, ResolvedStrategies}
use Rattle.strat_code.specs.Context.{Context, top, framed, within, defining, known, hidden, open_call, no_knowns, more_knowns, IsKnown, KnowsParameter, KnowsOpen, Hides, hides_top, hides_framed, hides_within, hides_definitions, keeps_definitions, keeps_known, keeps_hidden, hides_open, outer, frames_in, slot_in}
use Rattle.strat_code.specs.Ranges.{AreKnown, none_known, own_known, parameter_known, AreKnownOpen, none_open, own_open, parameter_open}
use Rattle.strat_compile.specs.Sites.{Site, outermost, in_frame, in_places, in_definitions, in_specialization, in_call, in_open_call, without_frames, KnownArguments, no_known, more_known, context, knowns, unframed, outside_of, stripped, IsArgument, IsGiven, IsGivenOpen, AreGiven, AreGivenAt, none_given, own_given, parameter_given, AreGivenOpen}

-- definitions in a context, as a strategy sees them that looks at no frame
unframed_definitions : (P : Context → Type 0) (C : Context) (ds : _) (es : _) → (C ≡ top → P (defining ds es top)) →
    P (hidden no_knowns (unframed C)) → P (unframed (defining ds es C))
unframed_definitions P top ds es program other = program refl
unframed_definitions P (framed m k C) ds es program other = other
unframed_definitions P (within k offset C) ds es program other = other
unframed_definitions P (defining ds1 es1 C) ds es program other = other
unframed_definitions P (known k ks C) ds es program other = other
unframed_definitions P (hidden ks C) ds es program other = other
unframed_definitions P (open_call ks C) ds es program other = other

pub unframed_twice : (C : Context) → unframed (unframed C) ≡ unframed C
unframed_twice top = refl
unframed_twice (framed m k C) = ap (λ D. hidden no_knowns D) (unframed_twice C)
unframed_twice (within k offset C) = ap (λ D. hidden no_knowns D) (unframed_twice C)
unframed_twice (defining ds es C) =
    unframed_definitions (λ D. unframed D ≡ D) C ds es (λ is. refl) (ap (λ D. hidden no_knowns D) (unframed_twice C))
unframed_twice (known k ks C) = ap (λ D. hidden ks D) (unframed_twice C)
unframed_twice (hidden ks C) = ap (λ D. hidden ks D) (unframed_twice C)
unframed_twice (open_call ks C) = ap (λ D. hidden no_knowns D) (unframed_twice C)

outer_top : (n : ℕ) → outer top n ≡ top
outer_top zero = refl
outer_top (suc n) = refl

pub outer_unframed : (C : Context) (n : ℕ) → outer (unframed C) n ≡ unframed (outer C n)
outer_unframed C zero = refl
outer_unframed top (suc n) = refl
outer_unframed (framed m k C) (suc n) = outer_unframed C n
outer_unframed (within k offset C) (suc n) = outer_unframed C n
outer_unframed (defining ds es C) (suc n) =
    unframed_definitions (λ D. outer D (suc n) ≡ unframed (outer C n)) C ds es (λ is. outer_top n ∙
    sym (ap unframed (ap (λ D. outer D n) is ∙ outer_top n))) (outer_unframed C n)
outer_unframed (known k ks C) (suc n) = outer_unframed C n
outer_unframed (hidden ks C) (suc n) = outer_unframed C n
outer_unframed (open_call ks C) (suc n) = outer_unframed C n

frames_top : (n : ℕ) → frames_in top n ≡ 0
frames_top zero = refl
frames_top (suc n) = refl

pub frames_unframed : (C : Context) (n : ℕ) → frames_in (unframed C) n ≡ 0
frames_unframed C zero = refl
frames_unframed top (suc n) = refl
frames_unframed (framed m k C) (suc n) = frames_unframed C n
frames_unframed (within k offset C) (suc n) = frames_unframed C n
frames_unframed (defining ds es C) (suc n) =
    unframed_definitions (λ D. frames_in D (suc n) ≡ 0) C ds es (λ is. frames_top n) (frames_unframed C n)
frames_unframed (known k ks C) (suc n) = frames_unframed C n
frames_unframed (hidden ks C) (suc n) = frames_unframed C n
frames_unframed (open_call ks C) (suc n) = frames_unframed C n

pub slot_unframed : (C : Context) (i : ℕ) → slot_in (unframed C) i ≡ i
slot_unframed top i = refl
slot_unframed (framed m k C) i = refl
slot_unframed (within k offset C) i = refl
slot_unframed (defining ds es C) i = unframed_definitions (λ D. slot_in D i ≡ i) C ds es (λ is. refl) refl
slot_unframed (known k ks C) i = refl
slot_unframed (hidden ks C) i = refl
slot_unframed (open_call ks C) i = refl

pub hides_unframed : (C : Context) → Hides C (unframed C)
hides_unframed top = hides_top
hides_unframed (framed m k C) = hides_framed (hides_unframed C)
hides_unframed (within k offset C) = hides_within (hides_unframed C)
hides_unframed (defining ds es C) =
    unframed_definitions (λ D. Hides (defining ds es C) D) C ds es
    (λ is. subst (λ E. Hides (defining ds es E) (defining ds es top)) (sym is) (keeps_definitions hides_top))
    (hides_definitions (hides_unframed C))
hides_unframed (known k ks C) = keeps_known (hides_unframed C)
hides_unframed (hidden ks C) = keeps_hidden (hides_unframed C)
hides_unframed (open_call ks C) = hides_open (hides_unframed C)

pub context_outside : (S : Site) (n : ℕ) → context (outside_of S n) ≡ outer (context S) n
context_outside outermost n = sym (outer_top n)
context_outside (in_frame m k S) zero = refl
context_outside (in_frame m k S) (suc n) = context_outside S n
context_outside (in_places k offset S) zero = refl
context_outside (in_places k offset S) (suc n) = context_outside S n
context_outside (in_definitions ds label S) zero = refl
context_outside (in_definitions ds label S) (suc n) = context_outside S n
context_outside (in_specialization slot label room k ks S) zero = refl
context_outside (in_specialization slot label room k ks S) (suc n) = context_outside S n
context_outside (in_call ks S) zero = refl
context_outside (in_call ks S) (suc n) = context_outside S n
context_outside (in_open_call ks S) zero = refl
context_outside (in_open_call ks S) (suc n) = context_outside S n
context_outside (without_frames S) n = ap unframed (context_outside S n) ∙ sym (outer_unframed (context S) n)

-- what is known at a site is known in its context
argument_known : (ks : KnownArguments) (i : ℕ) (s : ResolvedStrategy) (T : Site) → IsArgument ks i s T →
    IsKnown (knowns ks) i s (context T)
argument_known no_known i s T h = h
argument_known (more_known other R ks) zero s T h = (h.0, ap context h.1)
argument_known (more_known other R ks) (suc i) s T h = argument_known ks i s T h

knows_unframed : (C : Context) (i : ℕ) (s : ResolvedStrategy) (D : Context) → KnowsParameter C i s D →
    KnowsParameter (unframed C) i s D
knows_unframed top i s D h = h
knows_unframed (framed m k C) i s D h = elim h [ ]
knows_unframed (within k offset C) i s D h = elim h [ ]
knows_unframed (defining ds es C) i s D h = elim h [ ]
knows_unframed (known k ks C) i s D h = h
knows_unframed (hidden ks C) i s D h = h
knows_unframed (open_call ks C) i s D h = elim h [ ]

pub given_knows : (S : Site) (i : ℕ) (s : ResolvedStrategy) (T : Site) → IsGiven S i s T →
    KnowsParameter (context S) i s (context T)
given_knows outermost i s T h = elim h [ ]
given_knows (in_frame m k S) i s T h = elim h [ ]
given_knows (in_places k offset S) i s T h = elim h [ ]
given_knows (in_definitions ds label S) i s T h = elim h [ ]
given_knows (in_specialization slot label room k ks S) i s T h = argument_known ks i s T h
given_knows (in_call ks S) i s T h = argument_known ks i s T h
given_knows (in_open_call ks S) i s T h = elim h [ ]
given_knows (without_frames S) i s T h = knows_unframed (context S) i s (context T) (given_knows S i s T h)

pub given_outside : (S : Site) (n i : ℕ) (s : ResolvedStrategy) (T : Site) → IsGiven (outside_of S n) i s T →
    KnowsParameter (outer (context S) n) i s (context T)
given_outside S n i s T h = subst (λ C. KnowsParameter C i s (context T)) (context_outside S n)
    (given_knows (outside_of S n) i s T h)

given_open_knows : (S : Site) (i : ℕ) (s : ResolvedStrategy) (T : Site) → IsGivenOpen S i s T →
    KnowsOpen (context S) i s (context T)
given_open_knows outermost i s T h = elim h [ ]
given_open_knows (in_frame m k S) i s T h = elim h [ ]
given_open_knows (in_places k offset S) i s T h = elim h [ ]
given_open_knows (in_definitions ds label S) i s T h = elim h [ ]
given_open_knows (in_specialization slot label room k ks S) i s T h = elim h [ ]
given_open_knows (in_call ks S) i s T h = elim h [ ]
given_open_knows (in_open_call ks S) i s T h = argument_known ks i s T h
given_open_knows (without_frames S) i s T h = elim h [ ]

pub given_open_outside : (S : Site) (n i : ℕ) (s : ResolvedStrategy) (T : Site) → IsGivenOpen (outside_of S n) i s T →
    KnowsOpen (outer (context S) n) i s (context T)
given_open_outside S n i s T h =
    subst (λ C. KnowsOpen C i s (context T)) (context_outside S n) (given_open_knows (outside_of S n) i s T h)

pub given_stripped : (S : Site) (i : ℕ) (s : ResolvedStrategy) (T : Site) → IsGiven (stripped S) i s T → IsGiven S i s T
given_stripped outermost i s T h = h
given_stripped (in_frame m k S) i s T h = h
given_stripped (in_places k offset S) i s T h = h
given_stripped (in_definitions ds label S) i s T h = h
given_stripped (in_specialization slot label room k ks S) i s T h = h
given_stripped (in_call ks S) i s T h = h
given_stripped (in_open_call ks S) i s T h = h
given_stripped (without_frames S) i s T h = given_stripped S i s T h

-- arguments that are given are known
known_without_frames : {S T : Site} {ss : ResolvedStrategies} {ks : KnownArguments} → Hides (context S) (context T) →
    AreGivenAt S T ss ks → AreKnown (context S) ss (knowns ks)
known_without_frames hides none_given = none_known
known_without_frames hides (own_given own range rest) = own_known own hides (known_without_frames hides rest)
known_without_frames {S} hides (parameter_given {R = R} {y = y} {s = s} h rest) =
    parameter_known (given_outside S y.layers_up y.slot s R h) (known_without_frames hides rest)

pub are_known : {S : Site} {ss : ResolvedStrategies} {ks : KnownArguments} → AreGiven S ss ks →
    AreKnown (context S) ss (knowns ks)
are_known {S} given = known_without_frames (hides_unframed (context S)) given

known_inside : {S T : Site} {ss : ResolvedStrategies} {ks : KnownArguments} → T ≡ S → AreGivenAt S T ss ks →
    AreKnownOpen (context S) ss (knowns ks)
known_inside is none_given = none_open
known_inside {S} {T} is (own_given {s = s} {ss = ss} {ks = ks} own range rest) =
    subst (λ U. AreKnownOpen (context S) (more_strategies s ss) (more_knowns s (context U) (knowns ks))) (sym is)
    (own_open own (known_inside is rest))
known_inside {S} is (parameter_given {R = R} {y = y} {s = s} h rest) =
    parameter_open (given_outside S y.layers_up y.slot s R h) (known_inside is rest)

pub are_known_open : {S : Site} {ss : ResolvedStrategies} {ks : KnownArguments} → AreGivenOpen S ss ks →
    AreKnownOpen (context S) ss (knowns ks)
are_known_open given = known_inside refl given
