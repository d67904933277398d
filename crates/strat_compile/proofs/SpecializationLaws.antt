-- The specializations that are made where code is emitted, and the table that has them.
use Rattle.std.proofs.Common.{◌≡◌, ◌+◌, ◌++◌, ℕ, zero, suc, Option, Some, List, [], ◌∷◌, map, length, refl, ap, sym, ◌∙◌, subst}
use Rattle.std.specs.Prelude.{slice_get}
use Rattle.std.proofs.lemmas.List.{append_assoc, map-append}
use Rattle.core_lang.specs.declared.coordinate.Coordinate.{Coordinate}
use Rattle.core_lang.specs.Program.{Patterns, scope, more_definitions}
use Rattle.core_lang.specs.Resolved.{ResolvedStrategy, ResolvedStrategies, ResolvedDefinitions}
use Rattle.strat_code.specs.Code.{Argument, Entry, entry_at, Code, At, end_definition}
use Rattle.strat_code.specs.Context.{Context, framed, within, defining, known, Knowns, Specialization, specialization_at}
use Rattle.strat_code.specs.Ranges.{IsBody, Ranges, Bodies, more_bodies, roomy_bodies, Specializations, no_specializations, more_specializations, roomy_specializations}
use Rattle.strat_compile.specs.Emission.{Emits, emits_id, emits_fail, emits_seq, emits_choice, emits_select, emits_match, emits_build, emits_scope, emits_inner, emits_all, emits_one, emits_some, emits_let, emits_call, emits_inline, emits_known, emits_open, emits_argument, emits_specialization, emits_same, emits_parameter, emits_primitive, EmitsCall, calls, EmitsChain, chain_end, chain_more, EmitsArm, emits_arm, EmitsThen, then_id, then_code, EmitsDefinitions, emits_definitions, EmitsBodies, emits_no_bodies, emits_more_bodies, EmitsBody, emits_body, emits_scope_body, EmitsArguments, emits_no_arguments, emits_code_argument, emits_parameter_argument, emits_known_argument}
use Rattle.strat_compile.specs.Chains.{Body}
use Rattle.strat_compile.specs.Output.{Emitted}
use Rattle.strat_compile.specs.Sites.{Site, outermost, in_frame, in_places, in_definitions, in_specialization, in_call, in_open_call, without_frames, KnownArguments, no_known, more_known, IsArgument, IsGiven, IsGivenOpen, IsSpecialization, AreGivenAt, none_given, own_given, parameter_given, context, knowns, outside_of, room_for}
use Rattle.strat_compile.proofs.PlacedLaws.{placed_specialization}

-- the specializations that are made, with labels in place of addresses
abbrev mutual
  pub made : {w : Option ℕ} {S : Site} {x : ℕ} {s : ResolvedStrategy} {o o1 : Emitted} → Emits w S x s o o1 →
      List Specialization
  made emits_id = []
  made emits_fail = []
  made (emits_seq a b) = made a ++ made b
  made (emits_choice a b) = made a ++ made_arm b
  made (emits_select a) = made_chain a
  made emits_match = []
  made emits_build = []
  made (emits_scope a) = made a
  made (emits_inner a) = made a
  made (emits_all a) = made a
  made (emits_one a) = made a
  made (emits_some a) = made a
  made (emits_let a b) = made_definitions a ++ made b
  made (emits_call a) = made_call a
  made (emits_inline at body given a) = made a
  made (emits_known given a) = made a
  made (emits_open at body given a) = made a
  made (emits_argument none given a) = made a
  made (emits_specialization {label = label} {y = y} {s = s} {ds = ds} {ks = ks} {o = o} at body given a) =
      specialization_at (context (in_definitions ds label outermost)) y.slot (knowns ks) (length o.starts)
      (room_for s) ∷ made_body a
  made (emits_same n label at given is) = []
  made (emits_parameter none) = []
  made emits_primitive = []

  pub made_call : {S : Site} {x : ℕ} {y : Coordinate} {ss : ResolvedStrategies} {ps : Patterns Coordinate}
      {o o1 : Emitted} → EmitsCall S x y ss ps o o1 → List Specialization
  made_call (calls has entry a) = made_arguments a

  pub made_chain : {w : Option ℕ} {S : Site} {last : ℕ} {bs : List Body} {s : ResolvedStrategy} {o o1 : Emitted} →
      EmitsChain w S s bs last o o1 → List Specialization
  made_chain (chain_end a) = made a
  made_chain (chain_more asks rooted a b) = made_chain a ++ made b

  pub made_arm : {w : Option ℕ} {S : Site} {x to : ℕ} {s1 s2 : ResolvedStrategy} {o o1 : Emitted} →
      EmitsArm w S x s1 s2 to o o1 → List Specialization
  made_arm (emits_arm a b) = made_then a ++ made b

  pub made_then : {w : Option ℕ} {S : Site} {to : ℕ} {s : ResolvedStrategy} {o o1 : Emitted} → EmitsThen w S s to o o1 →
      List Specialization
  made_then then_id = []
  made_then (then_code a) = made a

  pub made_definitions : {S : Site} {label to : ℕ} {ds : ResolvedDefinitions} {o o1 : Emitted} →
      EmitsDefinitions S label ds to o o1 → List Specialization
  made_definitions (emits_definitions a) = made_bodies a

  pub made_bodies : {S : Site} {label : ℕ} {ds : ResolvedDefinitions} {o o1 : Emitted} → EmitsBodies S label ds o o1 →
      List Specialization
  made_bodies emits_no_bodies = []
  made_bodies (emits_more_bodies a b) = made_body a ++ made_bodies b

  pub made_body : {S : Site} {k : ℕ} {s : ResolvedStrategy} {o o1 : Emitted} → EmitsBody S k s o o1 →
      List Specialization
  made_body (emits_body none a) = made a
  made_body (emits_scope_body a) = made a

  pub made_arguments : {S : Site} {ss : ResolvedStrategies} {us : List Argument} {o o1 : Emitted} →
      EmitsArguments S ss o o1 us → List Specialization
  made_arguments emits_no_arguments = []
  made_arguments (emits_code_argument own a b) = made a ++ made_arguments b
  made_arguments (emits_parameter_argument none b) = made_arguments b
  made_arguments (emits_known_argument given a b) = made a ++ made_arguments b

-- code of n instructions in which labels start at these places, and the table of its specializations
module _ (n : ℕ) (A : List ℕ) (I : List Specialization) where
  -- the specialization is in the table, with its address
  abbrev pub IsIn : Specialization → Type 0
  IsIn z = (i : ℕ) × (slice_get I i ≡ Some (placed_specialization n A z))

  abbrev pub AllIn : List Specialization → Type 0
  AllIn [] = Unit {0}
  AllIn (z ∷ zs) = IsIn z × AllIn zs

  pub all_first : (xs ys : List Specialization) → AllIn (xs ++ ys) → AllIn xs
  all_first [] ys h = tt
  all_first (x ∷ xs) ys h = (h.0, all_first xs ys h.1)

  pub all_second : (xs ys : List Specialization) → AllIn (xs ++ ys) → AllIn ys
  all_second [] ys h = h
  all_second (x ∷ xs) ys h = all_second xs ys h.1

  -- the specializations that a strategy stands in are in the table
  abbrev mutual
    pub Registered : Site → Type 0
    Registered outermost = Unit {0}
    Registered (in_frame m k S) = Registered S
    Registered (in_places k offset S) = Registered S
    Registered (in_definitions ds label S) = Registered S
    Registered (in_specialization slot label room k ks S) =
        IsIn (specialization_at (context S) slot (knowns ks) label room) × AllRegistered ks × Registered S
    Registered (in_call ks S) = AllRegistered ks × Registered S
    Registered (in_open_call ks S) = AllRegistered ks × Registered S
    Registered (without_frames S) = Registered S

    pub AllRegistered : KnownArguments → Type 0
    AllRegistered no_known = Unit {0}
    AllRegistered (more_known s S ks) = Registered S × AllRegistered ks

  pub registered_outside : (S : Site) (i : ℕ) → Registered S → Registered (outside_of S i)
  registered_outside outermost i h = h
  registered_outside (in_frame m k S) zero h = h
  registered_outside (in_frame m k S) (suc i) h = registered_outside S i h
  registered_outside (in_places k offset S) zero h = h
  registered_outside (in_places k offset S) (suc i) h = registered_outside S i h
  registered_outside (in_definitions ds label S) zero h = h
  registered_outside (in_definitions ds label S) (suc i) h = registered_outside S i h
  registered_outside (in_specialization slot label room k ks S) zero h = h
  registered_outside (in_specialization slot label room k ks S) (suc i) h = registered_outside S i h.2
  registered_outside (in_call ks S) zero h = h
  registered_outside (in_call ks S) (suc i) h = registered_outside S i h.1
  registered_outside (in_open_call ks S) zero h = h
  registered_outside (in_open_call ks S) (suc i) h = registered_outside S i h.1
  registered_outside (without_frames S) i h = registered_outside S i h

  registered_argument : (ks : KnownArguments) (i : ℕ) (s : ResolvedStrategy) (T : Site) → IsArgument ks i s T →
      AllRegistered ks → Registered T
  registered_argument no_known i s T is h = elim is [ ]
  registered_argument (more_known other R ks) zero s T is h = subst Registered is.1 h.0
  registered_argument (more_known other R ks) (suc i) s T is h = registered_argument ks i s T is h.1

  registered_here : (S : Site) (i : ℕ) (s : ResolvedStrategy) (T : Site) → IsGiven S i s T → Registered S → Registered T
  registered_here outermost i s T is h = elim is [ ]
  registered_here (in_frame m k S) i s T is h = elim is [ ]
  registered_here (in_places k offset S) i s T is h = elim is [ ]
  registered_here (in_definitions ds label S) i s T is h = elim is [ ]
  registered_here (in_specialization slot label room k ks S) i s T is h = registered_argument ks i s T is h.1
  registered_here (in_call ks S) i s T is h = registered_argument ks i s T is h.0
  registered_here (in_open_call ks S) i s T is h = elim is [ ]
  registered_here (without_frames S) i s T is h = registered_here S i s T is h

  pub registered_given : (S : Site) (h i : ℕ) (s : ResolvedStrategy) (T : Site) → IsGiven (outside_of S h) i s T →
      Registered S → Registered T
  registered_given S h i s T is all = registered_here (outside_of S h) i s T is (registered_outside S h all)

  registered_open : (S : Site) (i : ℕ) (s : ResolvedStrategy) (T : Site) → IsGivenOpen S i s T → Registered S →
      Registered T
  registered_open outermost i s T is h = elim is [ ]
  registered_open (in_frame m k S) i s T is h = elim is [ ]
  registered_open (in_places k offset S) i s T is h = elim is [ ]
  registered_open (in_definitions ds label S) i s T is h = elim is [ ]
  registered_open (in_specialization slot label room k ks S) i s T is h = elim is [ ]
  registered_open (in_call ks S) i s T is h = elim is [ ]
  registered_open (in_open_call ks S) i s T is h = registered_argument ks i s T is h.0
  registered_open (without_frames S) i s T is h = elim is [ ]

  pub registered_given_open : (S : Site) (h i : ℕ) (s : ResolvedStrategy) (T : Site) →
      IsGivenOpen (outside_of S h) i s T → Registered S → Registered T
  registered_given_open S h i s T is all = registered_open (outside_of S h) i s T is (registered_outside S h all)

  pub all_registered : {S T : Site} {ss : ResolvedStrategies} {ks : KnownArguments} → AreGivenAt S T ss ks →
      Registered S → Registered T → AllRegistered ks
  all_registered none_given h inside = tt
  all_registered (own_given own range rest) h inside = (inside, all_registered rest h inside)
  all_registered {S} (parameter_given {R = R} {y = y} {s = s} given rest) h inside =
      (registered_given S y.layers_up y.slot s R given h, all_registered rest h inside)

  same_here : (S : Site) (slot label room : ℕ) (ks : KnownArguments) (T : Site) →
      IsSpecialization S slot label room ks T → Registered S →
      IsIn (specialization_at (context T) slot (knowns ks) label room)
  same_here outermost i l r ks T is h = elim is [ ]
  same_here (in_frame m k S) i l r ks T is h = elim is [ ]
  same_here (in_places k offset S) i l r ks T is h = elim is [ ]
  same_here (in_definitions ds label S) i l r ks T is h = elim is [ ]
  same_here (in_specialization slot label room k bs S) i l r ks T is h =
      subst (λ D. IsIn (specialization_at (context D) i (knowns ks) l r)) is.4
      (subst (λ cs. IsIn (specialization_at (context S) i (knowns cs) l r)) is.3
      (subst (λ q. IsIn (specialization_at (context S) i (knowns bs) l q)) is.2
      (subst (λ q. IsIn (specialization_at (context S) i (knowns bs) q room)) is.1
      (subst (λ q. IsIn (specialization_at (context S) q (knowns bs) label room)) is.0 h.0))))
  same_here (in_call bs S) i l r ks T is h = elim is [ ]
  same_here (in_open_call bs S) i l r ks T is h = elim is [ ]
  same_here (without_frames S) i l r ks T is h = same_here S i l r ks T is h

  pub same_registered : (S : Site) (h slot label room : ℕ) (ks : KnownArguments) (T : Site) →
      IsSpecialization (outside_of S h) slot label room ks T → Registered S →
      IsIn (specialization_at (context T) slot (knowns ks) label room)
  same_registered S h slot label room ks T is all =
      same_here (outside_of S h) slot label room ks T is (registered_outside S h all)

-- specializations are in the table of them all
got_at : (xs ys : List Specialization) (z : Specialization) → slice_get (xs ++ z ∷ ys) (length xs) ≡ Some z
got_at [] ys z = refl
got_at (x ∷ xs) ys z = got_at xs ys z

pub all_in : (n : ℕ) (A : List ℕ) (I xs zs : List Specialization) → I ≡ xs ++ map (placed_specialization n A) zs →
    AllIn n A I zs
all_in n A I xs [] is = tt
all_in n A I xs (z ∷ zs) is = (
  (
    length xs,
    ap (λ J. slice_get J (length xs)) is ∙
        got_at xs (map (placed_specialization n A) zs) (placed_specialization n A z),
  ),
  all_in n A I (xs ++ placed_specialization n A z ∷ []) zs (is ∙
      sym (append_assoc xs (placed_specialization n A z ∷ []) (map (placed_specialization n A) zs))),
)

module _ (code : Code) (I : List Specialization) where
  both : {us vs : List Specialization} → Specializations code I us → Specializations code I vs →
      Specializations code I (us ++ vs)
  both no_specializations q = q
  both (more_specializations body range at p) q = more_specializations body range at (both p q)
  both (roomy_specializations body range at p) q = roomy_specializations body range at (both p q)

  pub both_placed : (n : ℕ) (A : List ℕ) (xs ys : List Specialization) →
      Specializations code I (map (placed_specialization n A) xs) →
      Specializations code I (map (placed_specialization n A) ys) →
      Specializations code I (map (placed_specialization n A) (xs ++ ys))
  both_placed n A xs ys p q = subst (λ zs. Specializations code I zs)
      (sym (map-append (placed_specialization n A) xs ys)) (both p q)

  -- the body of a definition in the frame of a call: where its code begins, and for how many places more the frame has
  -- room
  pub data BodyRange (C : Context) (k : ℕ) : ResolvedStrategy → (entry room : ℕ) → Type 0 where
    plain_body : {s : ResolvedStrategy} {entry j : ℕ} → Ranges code I (Some k) C entry 0 s j →
        At code j end_definition → BodyRange C k s entry 0
    roomy_body : {s : ResolvedStrategy} {n entry j : ℕ} → Ranges code I (Some (k + n)) (within n k C) entry 1 s j →
        At code j end_definition → BodyRange C k (scope n s) entry n

  pub body_more : {C : Context} {y : Coordinate} {m k entry room : ℕ} {s : ResolvedStrategy} {ds : ResolvedDefinitions}
      {es : List Entry} →
      BodyRange (framed m k C) k s entry room → Bodies code I C ds es →
      Bodies code I C (more_definitions y m k s ds) (entry_at entry room ∷ es)
  body_more (plain_body range at) rest = more_bodies range at rest
  body_more (roomy_body range at) rest = roomy_bodies range at rest

  pub specialization_more : {C : Context} {ds : ResolvedDefinitions} {es : List Entry} {ks : Knowns}
      {slot m k entry room : ℕ} {s : ResolvedStrategy} {vs : List Specialization} →
      IsBody ds slot m k s → BodyRange (known k ks (defining ds es C)) k s entry room → Specializations code I vs →
      Specializations code I (specialization_at (defining ds es C) slot ks entry room ∷ vs)
  specialization_more body (plain_body range at) rest = more_specializations body range at rest
  specialization_more body (roomy_body range at) rest = roomy_specializations body range at rest
