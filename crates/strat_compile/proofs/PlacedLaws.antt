-- Contexts with addresses in place of labels.
use Rattle.std.proofs.Common.{◌≡◌, ◌<◌, ℕ, zero, suc, Some, List, map, refl, ap, ap₂, sym, ◌∙◌, subst, arith}
use Rattle.std.specs.Prelude.{slice_get}
use Rattle.core_lang.specs.declared.coordinate.Coordinate.{Coordinate}
use Rattle.core_lang.specs.Program.{Pattern, anything, variable, alias, integer, applied, list, like, annotated, Patterns, no_patterns, more_patterns, Elements, no_elements, the_rest, more_elements, id, fail, seq, choice, match, build, scope, all, one, some, with_definitions, call, primitive, no_definitions, more_definitions, strategies_count}
use Rattle.core_lang.specs.Resolved.{ResolvedStrategy, ResolvedStrategies, ResolvedDefinitions}
use Rattle.core_lang.specs.InRange.{Layers, layer_of, layer_of_definitions, outside, IsVariable, IsDefinition, IsCallee, PatternInRange, PatternsInRange, ElementsInRange, StrategyInRange, DefinitionsInRange}
use Rattle.strat_code.specs.Code.{Entry, entry_at}
use Rattle.strat_code.specs.Context.{Context, Specialization, specialization_at, top, framed, within, defining, known, hidden, open_call, Knowns, no_knowns, more_knowns, IsKnown, KnowsParameter, KnowsOpen, Hides, hides_top, hides_framed, hides_within, hides_definitions, keeps_definitions, hides_known, keeps_known, hides_open, hides_hidden, keeps_hidden, layers_of, outer, frames_in, slot_in, by_frames, HasParameter, HasDefinitions, HasOwnCode}
use Rattle.core_lang.specs.Roots.{Root}
use Rattle.strat_code.specs.Ranges.{IsBody, first_body, later_body, AreKnown, none_known, own_known, parameter_known, AreKnownOpen, none_open, own_open, parameter_open, AsksFor, asks_fail, asks_match, asks_seq, asks_choice, asks_scope, asks_let, asks_known, asks_inline}
use Rattle.strat_compile.specs.Layers.{entry_in, entries_of}
use Rattle.strat_compile.specs.Located.{address_if}
use Rattle.strat_compile.specs.Sites.{Site, KnownArguments, AreGivenAt, none_given, own_given, parameter_given, IsUnknown, context, knowns, labelled, number_of_knowns, program_layers, unframed}
use Rattle.strat_compile.proofs.SiteLaws.{given_outside}

-- Each layer of definitions has labels from some label on, and its definitions are in range; so are the strategies that
-- parameters are known to be
abbrev mutual
  pub IsLabelled : Context → Type 0
  IsLabelled top = Unit {0}
  IsLabelled (framed m k C) = IsLabelled C
  IsLabelled (within k offset C) = IsLabelled C
  IsLabelled (defining ds es C) = ((label : ℕ) × (es ≡ labelled label ds)) ×
      DefinitionsInRange (layer_of_definitions ds (program_layers C)) ds × IsLabelled C
  IsLabelled (known k ks C) = AreLabelled ks × IsLabelled C
  IsLabelled (hidden ks C) = AreLabelled ks × IsLabelled C
  IsLabelled (open_call ks C) = AreLabelled ks × IsLabelled C

  pub AreLabelled : Knowns → Type 0
  AreLabelled no_knowns = Unit {0}
  AreLabelled (more_knowns s D ks) = StrategyInRange (program_layers D) s × IsLabelled D × AreLabelled ks

pub labelled_outer : (C : Context) (i : ℕ) → IsLabelled C → IsLabelled (outer C i)
labelled_outer C zero h = h
labelled_outer top (suc i) h = h
labelled_outer (framed m k C) (suc i) h = labelled_outer C i h
labelled_outer (within k offset C) (suc i) h = labelled_outer C i h
labelled_outer (defining ds es C) (suc i) h = labelled_outer C i h.2
labelled_outer (known k ks C) (suc i) h = labelled_outer C i h.1
labelled_outer (hidden ks C) (suc i) h = labelled_outer C i h.1
labelled_outer (open_call ks C) (suc i) h = labelled_outer C i h.1

pub labelled_unframed : (C : Context) → IsLabelled C → IsLabelled (unframed C)
labelled_unframed top h = h
labelled_unframed (framed m k C) h = (tt, labelled_unframed C h)
labelled_unframed (within k offset C) h = (tt, labelled_unframed C h)
labelled_unframed (defining ds es top) h = h
labelled_unframed (defining ds es (framed m k C)) h = (tt, labelled_unframed (framed m k C) h.2)
labelled_unframed (defining ds es (within k offset C)) h = (tt, labelled_unframed (within k offset C) h.2)
labelled_unframed (defining ds es (defining ds1 es1 C)) h = (tt, labelled_unframed (defining ds1 es1 C) h.2)
labelled_unframed (defining ds es (known k ks C)) h = (tt, labelled_unframed (known k ks C) h.2)
labelled_unframed (defining ds es (hidden ks C)) h = (tt, labelled_unframed (hidden ks C) h.2)
labelled_unframed (defining ds es (open_call ks C)) h = (tt, labelled_unframed (open_call ks C) h.2)
labelled_unframed (known k ks C) h = (h.0, labelled_unframed C h.1)
labelled_unframed (hidden ks C) h = (h.0, labelled_unframed C h.1)
labelled_unframed (open_call ks C) h = (tt, labelled_unframed C h.1)

-- what a parameter is known to be is in range
labelled_is_known : (ks : Knowns) (i : ℕ) (s : ResolvedStrategy) (D : Context) → IsKnown ks i s D → AreLabelled ks →
    StrategyInRange (program_layers D) s × IsLabelled D
labelled_is_known no_knowns i s D h whole = elim h [ ]
labelled_is_known (more_knowns other E ks) zero s D h whole = (
  subst (λ F. StrategyInRange (program_layers F) s)
      h.1 (subst (λ r. StrategyInRange (program_layers E) r) h.0 whole.0),
  subst IsLabelled h.1 whole.1,
)
labelled_is_known (more_knowns other E ks) (suc i) s D h whole = labelled_is_known ks i s D h whole.2

pub labelled_knows : (C : Context) (i : ℕ) (s : ResolvedStrategy) (D : Context) → KnowsParameter C i s D →
    IsLabelled C → StrategyInRange (program_layers D) s × IsLabelled D
labelled_knows top i s D h whole = elim h [ ]
labelled_knows (framed m k C) i s D h whole = elim h [ ]
labelled_knows (within k offset C) i s D h whole = elim h [ ]
labelled_knows (defining ds es C) i s D h whole = elim h [ ]
labelled_knows (known k ks C) i s D h whole = labelled_is_known ks i s D h whole.0
labelled_knows (hidden ks C) i s D h whole = labelled_is_known ks i s D h whole.0
labelled_knows (open_call ks C) i s D h whole = elim h [ ]

pub labelled_knows_open : (C : Context) (i : ℕ) (s : ResolvedStrategy) (D : Context) → KnowsOpen C i s D →
    IsLabelled C → StrategyInRange (program_layers D) s × IsLabelled D
labelled_knows_open top i s D h whole = elim h [ ]
labelled_knows_open (framed m k C) i s D h whole = elim h [ ]
labelled_knows_open (within k offset C) i s D h whole = elim h [ ]
labelled_knows_open (defining ds es C) i s D h whole = elim h [ ]
labelled_knows_open (known k ks C) i s D h whole = elim h [ ]
labelled_knows_open (hidden ks C) i s D h whole = elim h [ ]
labelled_knows_open (open_call ks C) i s D h whole = labelled_is_known ks i s D h whole.0

-- the arguments of a call that are given are in range, and as many as the call has
pub labelled_given : {S T : Site} {ss : ResolvedStrategies} {ks : KnownArguments} → AreGivenAt S T ss ks →
    IsLabelled (context S) → IsLabelled (context T) → AreLabelled (knowns ks)
labelled_given none_given h inside = tt
labelled_given (own_given own range rest) h inside = (range, inside, labelled_given rest h inside)
labelled_given {S} (parameter_given {R = R} {y = y} {s = s} given rest) h inside =
    let found = labelled_knows (outer (context S) y.layers_up) y.slot s (context R)
    (given_outside S y.layers_up y.slot s R given) (labelled_outer (context S) y.layers_up h) in
    (found.0, found.1, labelled_given rest h inside)

pub as_many_given : {S T : Site} {ss : ResolvedStrategies} {ks : KnownArguments} → AreGivenAt S T ss ks →
    strategies_count ss ≡ number_of_knowns (knowns ks)
as_many_given none_given = refl
as_many_given (own_given own range rest) = let others = as_many_given rest in omega (arith, others)
as_many_given (parameter_given given rest) = let others = as_many_given rest in omega (arith, others)

-- the body of a definition that is called
pub body_as_called : {ds : ResolvedDefinitions} {i m k : ℕ} {s : ResolvedStrategy} (a b : ℕ) → IsBody ds i m k s →
    IsDefinition ds i a b → (a ≡ m) × (b ≡ k)
body_as_called a b first_body called = called
body_as_called a b (later_body body) called = body_as_called a b body called

pub body_in_range : {ds : ResolvedDefinitions} {i m k : ℕ} {s : ResolvedStrategy} (L : Layers) → IsBody ds i m k s →
    DefinitionsInRange L ds → StrategyInRange (layer_of m k L) s
body_in_range L first_body range = range.0
body_in_range L (later_body body) range = body_in_range L body range.1

pub outer_layers : (C : Context) (i : ℕ) → outside (program_layers C) i ≡ program_layers (outer C i)
outer_layers C zero = refl
outer_layers top (suc i) = refl
outer_layers (framed m k C) (suc i) = outer_layers C i
outer_layers (within k offset C) (suc i) = outer_layers C i
outer_layers (defining ds es C) (suc i) = outer_layers C i
outer_layers (known k ks C) (suc i) = outer_layers C i
outer_layers (hidden ks C) (suc i) = outer_layers C i
outer_layers (open_call ks C) (suc i) = outer_layers C i

-- what is called where there are no definitions and nothing is known is a strategy parameter
known_below : (ks : Knowns) (i : ℕ) → i < number_of_knowns ks → (s : ResolvedStrategy) × (D : Context) ×
    IsKnown ks i s D
known_below no_knowns i h = absurd (omega (arith, h))
known_below (more_knowns s D ks) zero h = (s, D, (refl, refl))
known_below (more_knowns s D ks) (suc i) h = known_below ks i (omega (arith, h))

pub is_parameter : (D : Context) (i m k : ℕ) → IsUnknown D i → IsCallee (program_layers D) i m k → HasParameter D i
is_parameter top i m k none h = h
is_parameter (framed m' k' D) i m k none h = h.0
is_parameter (within k' offset D) i m k none h = absurd (omega (arith, h.0))
is_parameter (defining ds es D) i m k none h = absurd (none.0 tt)
is_parameter (known k' ks D) i m k none h = let found = known_below ks i h.0 in absurd (none.1 found.0 found.1 found.2)
is_parameter (hidden ks D) i m k none h = let found = known_below ks i h.0 in absurd (none.1 found.0 found.1 found.2)
is_parameter (open_call ks D) i m k none h = let found = known_below ks i h.0 in absurd (none.2 found.0 found.1 found.2)

-- patterns look at variables alone, and these are the same whether strategy parameters are known or not
variable_kept : (C : Context) (h i : ℕ) → IsVariable (outside (program_layers C) h) i →
    IsVariable (outside (layers_of C) h) i
variable_kept top zero i r = r
variable_kept top (suc h) i r = r
variable_kept (framed m k C) zero i r = r
variable_kept (framed m k C) (suc h) i r = variable_kept C h i r
variable_kept (within k offset C) zero i r = r
variable_kept (within k offset C) (suc h) i r = variable_kept C h i r
variable_kept (defining ds es C) zero i r = r
variable_kept (defining ds es C) (suc h) i r = variable_kept C h i r
variable_kept (known k ks C) zero i r = r
variable_kept (known k ks C) (suc h) i r = variable_kept C h i r
variable_kept (hidden ks C) zero i r = r
variable_kept (hidden ks C) (suc h) i r = variable_kept C h i r
variable_kept (open_call ks C) zero i r = r
variable_kept (open_call ks C) (suc h) i r = variable_kept C h i r

mutual
  pub pattern_kept : (C : Context) (p : Pattern Coordinate) → PatternInRange (program_layers C) p →
      PatternInRange (layers_of C) p
  pattern_kept C anything r = r
  pattern_kept C (variable y) r = variable_kept C y.layers_up y.slot r
  pattern_kept C (alias y p) r = (variable_kept C y.layers_up y.slot r.0, pattern_kept C p r.1)
  pattern_kept C (integer z) r = r
  pattern_kept C (applied f ps) r = patterns_kept C ps r
  pattern_kept C (list ps) r = elements_kept C ps r
  pattern_kept C (like p y) r = (pattern_kept C p r.0, variable_kept C y.layers_up y.slot r.1)
  pattern_kept C (annotated p qs) r = (pattern_kept C p r.0, patterns_kept C qs r.1)

  pub patterns_kept : (C : Context) (ps : Patterns Coordinate) → PatternsInRange (program_layers C) ps →
      PatternsInRange (layers_of C) ps
  patterns_kept C no_patterns r = r
  patterns_kept C (more_patterns p ps) r = (pattern_kept C p r.0, patterns_kept C ps r.1)

  elements_kept : (C : Context) (ps : Elements Coordinate) → ElementsInRange (program_layers C) ps →
      ElementsInRange (layers_of C) ps
  elements_kept C no_elements r = r
  elements_kept C (the_rest p) r = pattern_kept C p r
  elements_kept C (more_elements p ps) r = (pattern_kept C p r.0, elements_kept C ps r.1)

module _ (n : ℕ) (A : List ℕ) where
  abbrev pub placed_entry : Entry → Entry
  placed_entry (entry_at label room) = entry_at (address_if n (slice_get A label)) room

  abbrev mutual
    pub placed : Context → Context
    placed top = top
    placed (framed m k C) = framed m k (placed C)
    placed (within k offset C) = within k offset (placed C)
    placed (defining ds es C) = defining ds (map placed_entry es) (placed C)
    placed (known k ks C) = known k (placed_knowns ks) (placed C)
    placed (hidden ks C) = hidden (placed_knowns ks) (placed C)
    placed (open_call ks C) = open_call (placed_knowns ks) (placed C)

    pub placed_knowns : Knowns → Knowns
    placed_knowns no_knowns = no_knowns
    placed_knowns (more_knowns s D ks) = more_knowns s (placed D) (placed_knowns ks)

  abbrev pub placed_specialization : Specialization → Specialization
  placed_specialization (specialization_at C slot ks label room) =
      specialization_at (placed C) slot (placed_knowns ks) (address_if n (slice_get A label)) room

  pub placed_layers : (C : Context) → layers_of (placed C) ≡ layers_of C
  placed_layers top = refl
  placed_layers (framed m k C) = ap (λ L. layer_of m k L) (placed_layers C)
  placed_layers (within k offset C) = ap (λ L. layer_of 0 k L) (placed_layers C)
  placed_layers (defining ds es C) = ap (λ L. layer_of_definitions ds L) (placed_layers C)
  placed_layers (known k ks C) = ap (λ L. layer_of 0 k L) (placed_layers C)
  placed_layers (hidden ks C) = ap (λ L. layer_of 0 0 L) (placed_layers C)
  placed_layers (open_call ks C) = ap (λ L. layer_of 0 0 L) (placed_layers C)

  pub placed_outer : (C : Context) (i : ℕ) → outer (placed C) i ≡ placed (outer C i)
  placed_outer C zero = refl
  placed_outer top (suc i) = refl
  placed_outer (framed m k C) (suc i) = placed_outer C i
  placed_outer (within k offset C) (suc i) = placed_outer C i
  placed_outer (defining ds es C) (suc i) = placed_outer C i
  placed_outer (known k ks C) (suc i) = placed_outer C i
  placed_outer (hidden ks C) (suc i) = placed_outer C i
  placed_outer (open_call ks C) (suc i) = placed_outer C i

  pub placed_frames : (C : Context) (i : ℕ) → frames_in (placed C) i ≡ frames_in C i
  placed_frames C zero = refl
  placed_frames top (suc i) = refl
  placed_frames (framed m k C) (suc i) = ap suc (placed_frames C i)
  placed_frames (within k offset C) (suc i) = placed_frames C i
  placed_frames (defining ds es C) (suc i) = placed_frames C i
  placed_frames (known k ks C) (suc i) = ap suc (placed_frames C i)
  placed_frames (hidden ks C) (suc i) = placed_frames C i
  placed_frames (open_call ks C) (suc i) = placed_frames C i

  placed_slot : (C : Context) (i : ℕ) → slot_in (placed C) i ≡ slot_in C i
  placed_slot top i = refl
  placed_slot (framed m k C) i = refl
  placed_slot (within k offset C) i = refl
  placed_slot (defining ds es C) i = refl
  placed_slot (known k ks C) i = refl
  placed_slot (hidden ks C) i = refl
  placed_slot (open_call ks C) i = refl

  placed_coordinate : (C : Context) (y : Coordinate) → by_frames (placed C) y ≡ by_frames C y
  placed_coordinate C y =
      ap₂ (λ h i. record { layers_up = h; slot = i }) (placed_frames C y.layers_up)
      (ap (λ D. slot_in D y.slot) (placed_outer C y.layers_up) ∙ placed_slot (outer C y.layers_up) y.slot)

  pub placed_by_frames : (C : Context) → by_frames (placed C) ≡ by_frames C
  placed_by_frames C = λ i y. placed_coordinate C y i

  placed_parameter_here : (D : Context) (i : ℕ) → HasParameter D i → HasParameter (placed D) i
  placed_parameter_here top i h = h
  placed_parameter_here (framed m k D) i h = h
  placed_parameter_here (within k offset D) i h = h
  placed_parameter_here (defining ds es D) i h = h
  placed_parameter_here (known k ks D) i h = h
  placed_parameter_here (hidden ks D) i h = h
  placed_parameter_here (open_call ks D) i h = h

  pub placed_parameter : (C : Context) (y : Coordinate) (m k : ℕ) → IsUnknown (outer C y.layers_up) y.slot →
      IsCallee (outside (program_layers C) y.layers_up) y.slot m k →
      HasParameter (outer (placed C) y.layers_up) y.slot
  placed_parameter C y m k none h =
      subst (λ D. HasParameter D y.slot) (sym (placed_outer C y.layers_up))
      (placed_parameter_here (outer C y.layers_up)
      y.slot (is_parameter (outer C y.layers_up)
      y.slot m k none (subst (λ L. IsCallee L y.slot m k) (outer_layers C y.layers_up) h)))

  placed_definitions : (D : Context) → HasDefinitions D → HasDefinitions (placed D)
  placed_definitions top h = h
  placed_definitions (framed m k D) h = h
  placed_definitions (within k offset D) h = h
  placed_definitions (defining ds es D) h = h
  placed_definitions (known k ks D) h = h
  placed_definitions (hidden ks D) h = h
  placed_definitions (open_call ks D) h = h

  pub placed_own_code : (C : Context) (s : ResolvedStrategy) → HasOwnCode C s → HasOwnCode (placed C) s
  placed_own_code C id h = tt
  placed_own_code C fail h = tt
  placed_own_code C (seq s1 s2) h = tt
  placed_own_code C (choice s1 s2 s3) h = tt
  placed_own_code C (match p) h = tt
  placed_own_code C (build p) h = tt
  placed_own_code C (scope k s) h = tt
  placed_own_code C (all s) h = tt
  placed_own_code C (one s) h = tt
  placed_own_code C (some s) h = tt
  placed_own_code C (with_definitions ds s) h = tt
  placed_own_code C (call y ss ps) h =
      subst HasDefinitions (sym (placed_outer C y.layers_up)) (placed_definitions (outer C y.layers_up) h)
  placed_own_code C (primitive f ps) h = tt

  -- what a strategy asks for, it asks for with addresses, too
  placed_hides : {C D : Context} → Hides C D → Hides (placed C) (placed D)
  placed_hides hides_top = hides_top
  placed_hides (hides_framed h) = hides_framed (placed_hides h)
  placed_hides (hides_within h) = hides_within (placed_hides h)
  placed_hides (hides_definitions h) = hides_definitions (placed_hides h)
  placed_hides (keeps_definitions h) = keeps_definitions (placed_hides h)
  placed_hides (hides_known h) = hides_known (placed_hides h)
  placed_hides (hides_open h) = hides_open (placed_hides h)
  placed_hides (keeps_known h) = keeps_known (placed_hides h)
  placed_hides (hides_hidden h) = hides_hidden (placed_hides h)
  placed_hides (keeps_hidden h) = keeps_hidden (placed_hides h)

  placed_is_known : (ks : Knowns) (i : ℕ) (s : ResolvedStrategy) (D : Context) → IsKnown ks i s D →
      IsKnown (placed_knowns ks) i s (placed D)
  placed_is_known no_knowns i s D h = h
  placed_is_known (more_knowns other E ks) zero s D h = (h.0, ap placed h.1)
  placed_is_known (more_knowns other E ks) (suc i) s D h = placed_is_known ks i s D h

  placed_knows_here : (C : Context) (i : ℕ) (s : ResolvedStrategy) (D : Context) → KnowsParameter C i s D →
      KnowsParameter (placed C) i s (placed D)
  placed_knows_here top i s D h = h
  placed_knows_here (framed m k C) i s D h = h
  placed_knows_here (within k offset C) i s D h = h
  placed_knows_here (defining ds es C) i s D h = h
  placed_knows_here (known k ks C) i s D h = placed_is_known ks i s D h
  placed_knows_here (hidden ks C) i s D h = placed_is_known ks i s D h
  placed_knows_here (open_call ks C) i s D h = h

  placed_open_here : (C : Context) (i : ℕ) (s : ResolvedStrategy) (D : Context) → KnowsOpen C i s D →
      KnowsOpen (placed C) i s (placed D)
  placed_open_here top i s D h = h
  placed_open_here (framed m k C) i s D h = h
  placed_open_here (within k offset C) i s D h = h
  placed_open_here (defining ds es C) i s D h = h
  placed_open_here (known k ks C) i s D h = h
  placed_open_here (hidden ks C) i s D h = h
  placed_open_here (open_call ks C) i s D h = placed_is_known ks i s D h

  pub placed_knows : (C : Context) (y : Coordinate) (s : ResolvedStrategy) (D : Context) →
      KnowsParameter (outer C y.layers_up) y.slot s D →
      KnowsParameter (outer (placed C) y.layers_up) y.slot s (placed D)
  placed_knows C y s D h = subst (λ E. KnowsParameter E y.slot s (placed D)) (sym (placed_outer C y.layers_up))
      (placed_knows_here (outer C y.layers_up) y.slot s D h)

  pub placed_knows_open : (C : Context) (y : Coordinate) (s : ResolvedStrategy) (D : Context) →
      KnowsOpen (outer C y.layers_up) y.slot s D → KnowsOpen (outer (placed C) y.layers_up) y.slot s (placed D)
  placed_knows_open C y s D h =
      subst (λ E. KnowsOpen E y.slot s (placed D)) (sym (placed_outer C y.layers_up))
      (placed_open_here (outer C y.layers_up) y.slot s D h)

  pub placed_are_known : {C : Context} {ss : ResolvedStrategies} {ks : Knowns} → AreKnown C ss ks →
      AreKnown (placed C) ss (placed_knowns ks)
  placed_are_known none_known = none_known
  placed_are_known (own_known {C = C} {s = s} own h rest) =
      own_known (placed_own_code C s own) (placed_hides h) (placed_are_known rest)
  placed_are_known (parameter_known {C = C} {D = D} {y = y} {s = s} h rest) =
      parameter_known (placed_knows C y s D h) (placed_are_known rest)

  pub placed_are_known_open : {C : Context} {ss : ResolvedStrategies} {ks : Knowns} → AreKnownOpen C ss ks →
      AreKnownOpen (placed C) ss (placed_knowns ks)
  placed_are_known_open none_open = none_open
  placed_are_known_open (own_open {C = C} {s = s} own rest) =
      own_open (placed_own_code C s own) (placed_are_known_open rest)
  placed_are_known_open (parameter_open {C = C} {D = D} {y = y} {s = s} h rest) =
      parameter_open (placed_knows C y s D h) (placed_are_known_open rest)

  pub placed_asks : {C : Context} {s : ResolvedStrategy} {rs : List Root} {n : ℕ} → AsksFor C s rs n →
      AsksFor (placed C) s rs n
  placed_asks asks_fail = asks_fail
  placed_asks asks_match = asks_match
  placed_asks (asks_seq a) = asks_seq (placed_asks a)
  placed_asks (asks_choice a b) = asks_choice (placed_asks a) (placed_asks b)
  placed_asks (asks_scope a) = asks_scope (placed_asks a)
  placed_asks (asks_let a) = asks_let (placed_asks a)
  placed_asks (asks_known {C = C} {D = D} {y = y} {s = s} h a) = asks_known (placed_knows C y s D h) (placed_asks a)
  placed_asks (asks_inline {C = C} {D = D} {y = y} {ds = ds} {es = es} h body knowns a) =
      asks_inline (subst (λ E. Hides E (placed (defining ds es D))) (sym (placed_outer C y.layers_up)) (placed_hides h))
      body (placed_are_known knowns) (placed_asks a)

  got_entry : (ds : ResolvedDefinitions) (label i m k : ℕ) → IsDefinition ds i m k →
      slice_get (map placed_entry (labelled label ds)) i ≡ Some (placed_entry (entry_in (labelled label ds) i))
  got_entry no_definitions label i m k h = elim h [ ]
  got_entry (more_definitions y m' k' s ds) label zero m k h = refl
  got_entry (more_definitions y m' k' s ds) label (suc i) m k h = got_entry ds (suc label) i m k h

  -- the definition that is called, and its entry
  pub record Callee (D : Context) (i m k : ℕ) : Type 0 where
    pub ds : ResolvedDefinitions
    pub es : List Entry
    pub around : Context
    pub is : placed D ≡ defining ds es around
    pub definition : IsDefinition ds i m k
    pub entry : slice_get es i ≡ Some (placed_entry (entry_in (entries_of D) i))

  callee_here : (D : Context) (i m k : ℕ) → HasDefinitions D → IsLabelled D → IsCallee (program_layers D) i m k →
      Callee D i m k
  callee_here top i m k has h callee = elim has [ ]
  callee_here (framed m' k' D) i m k has h callee = elim has [ ]
  callee_here (within k' offset D) i m k has h callee = elim has [ ]
  callee_here (known k' ks D) i m k has h callee = elim has [ ]
  callee_here (hidden ks D) i m k has h callee = elim has [ ]
  callee_here (open_call ks D) i m k has h callee = elim has [ ]
  callee_here (defining ds es D) i m k has h callee =
      record {
        ds = ds;
        es = map placed_entry es;
        around = placed D;
        is = refl;
        definition = callee;
        entry = subst (λ xs. slice_get (map placed_entry xs) i ≡ Some (placed_entry (entry_in xs i))) (sym h.0.1)
            (got_entry ds h.0.0 i m k callee);
      }

  pub callee : (C : Context) (y : Coordinate) (m k : ℕ) → HasDefinitions (outer C y.layers_up) → IsLabelled C →
      IsCallee (outside (program_layers C) y.layers_up) y.slot m k →
      Callee (outer C y.layers_up) y.slot m k
  callee C y m k has h called =
      callee_here (outer C y.layers_up) y.slot m k has (labelled_outer C y.layers_up h)
      (subst (λ L. IsCallee L y.slot m k) (outer_layers C y.layers_up) called)
