-- The headline does not rest on this file.
-- Where code is made: the layers that a strategy stands in, with labels in place of addresses.
use Rattle.std.specs.Prelude.{◌≡◌, ℕ, zero, suc, List, [], ◌∷◌}
use Rattle.core_lang.specs.declared.coordinate.Coordinate.{Coordinate}
use Rattle.core_lang.specs.InRange.{Layers, no_layers, layer_of, layer_of_definitions, StrategyInRange}
use Rattle.core_lang.specs.Program.{call, no_strategies, more_strategies, no_definitions, more_definitions}
use Rattle.core_lang.specs.Program as core
use Rattle.core_lang.specs.Resolved.{ResolvedStrategy, ResolvedStrategies, ResolvedDefinitions}
use Rattle.core_lang.specs.Program.{Patterns}
use Rattle.strat_code.specs.Code.{Entry, entry_at}
use Rattle.strat_code.specs.Context.{Context, top, framed, within, defining, known, hidden, open_call, Knowns, no_knowns, more_knowns, KnowsParameter, KnowsOpen, HasDefinitions, HasOwnCode}

-- for how many places more than the parameters the frame of a definition with this body has room: those of the scope
-- that it is
abbrev pub room_for : ResolvedStrategy → ℕ
room_for core.id = 0
room_for core.fail = 0
room_for (core.seq s1 s2) = 0
room_for (core.choice s1 s2 s3) = 0
room_for (core.match p) = 0
room_for (core.build p) = 0
room_for (core.scope k s) = k
room_for (core.all s) = 0
room_for (core.one s) = 0
room_for (core.some s) = 0
room_for (core.with_definitions ds s) = 0
room_for (core.call y ss ps) = 0
room_for (core.primitive f ps) = 0

-- definitions with labels in place of addresses, from this label on
abbrev pub labelled : ℕ → ResolvedDefinitions → List Entry
labelled label no_definitions = []
labelled label (more_definitions y m k s ds) = entry_at label (room_for s) ∷ labelled (suc label) ds

mutual
  -- the layers around a strategy while its code is made, innermost first
  pub data Site : Type 0 where
    outermost : Site
    -- of a definition, or of a scope that has a frame
    in_frame : (parameters variables : ℕ) → Site → Site
    -- of a scope whose places are in the innermost frame, from an offset on
    in_places : (variables offset : ℕ) → Site → Site
    -- of definitions, which have labels from this one on
    in_definitions : ResolvedDefinitions → (first_label : ℕ) → Site → Site
    -- of a specialization: the definition's position, the label of its code, the room of its frame, its term
    -- parameters, and the strategies that its parameters are
    in_specialization : (slot label room variables : ℕ) → KnownArguments → Site → Site
    -- of a call in place, whose strategy parameters are known, or of anything of which nothing is looked at
    in_call : KnownArguments → Site → Site
    -- of a call in place whose strategy parameters may look at the frame that is the innermost one there
    in_open_call : KnownArguments → Site → Site
    -- the same layers, as a strategy sees them that looks at no frame
    without_frames : Site → Site

  -- strategy arguments that are known, each with the layers that it stands in
  pub data KnownArguments : Type 0 where
    no_known : KnownArguments
    more_known : ResolvedStrategy → Site → KnownArguments → KnownArguments

-- The context without its frames. The program's definitions stay, and so does what is known of parameters
abbrev pub unframed : Context → Context
unframed top = top
unframed (framed m k C) = hidden no_knowns (unframed C)
unframed (within k offset C) = hidden no_knowns (unframed C)
unframed (defining ds es top) = defining ds es top
unframed (defining ds es (framed m k C)) = hidden no_knowns (unframed (framed m k C))
unframed (defining ds es (within k offset C)) = hidden no_knowns (unframed (within k offset C))
unframed (defining ds es (defining ds1 es1 C)) = hidden no_knowns (unframed (defining ds1 es1 C))
unframed (defining ds es (known k ks C)) = hidden no_knowns (unframed (known k ks C))
unframed (defining ds es (hidden ks C)) = hidden no_knowns (unframed (hidden ks C))
unframed (defining ds es (open_call ks C)) = hidden no_knowns (unframed (open_call ks C))
unframed (known k ks C) = hidden ks (unframed C)
unframed (hidden ks C) = hidden ks (unframed C)
unframed (open_call ks C) = hidden no_knowns (unframed C)

abbrev mutual
  pub context : Site → Context
  context outermost = top
  context (in_frame m k S) = framed m k (context S)
  context (in_places k offset S) = within k offset (context S)
  context (in_definitions ds label S) = defining ds (labelled label ds) (context S)
  context (in_specialization slot label room k ks S) = known k (knowns ks) (context S)
  context (in_call ks S) = hidden (knowns ks) (context S)
  context (in_open_call ks S) = open_call (knowns ks) (context S)
  context (without_frames S) = unframed (context S)

  pub knowns : KnownArguments → Knowns
  knowns no_known = no_knowns
  knowns (more_known s S ks) = more_knowns s (context S) (knowns ks)

-- the site without its innermost n layers
abbrev pub outside_of : Site → ℕ → Site
outside_of outermost i = outermost
outside_of (in_frame m k S) zero = in_frame m k S
outside_of (in_frame m k S) (suc i) = outside_of S i
outside_of (in_places k offset S) zero = in_places k offset S
outside_of (in_places k offset S) (suc i) = outside_of S i
outside_of (in_definitions ds label S) zero = in_definitions ds label S
outside_of (in_definitions ds label S) (suc i) = outside_of S i
outside_of (in_specialization slot label room k ks S) zero = in_specialization slot label room k ks S
outside_of (in_specialization slot label room k ks S) (suc i) = outside_of S i
outside_of (in_call ks S) zero = in_call ks S
outside_of (in_call ks S) (suc i) = outside_of S i
outside_of (in_open_call ks S) zero = in_open_call ks S
outside_of (in_open_call ks S) (suc i) = outside_of S i
outside_of (without_frames S) i = without_frames (outside_of S i)

-- the site with the frames of its innermost layers
abbrev pub stripped : Site → Site
stripped outermost = outermost
stripped (in_frame m k S) = in_frame m k S
stripped (in_places k offset S) = in_places k offset S
stripped (in_definitions ds label S) = in_definitions ds label S
stripped (in_specialization slot label room k ks S) = in_specialization slot label room k ks S
stripped (in_call ks S) = in_call ks S
stripped (in_open_call ks S) = in_open_call ks S
stripped (without_frames S) = stripped S

-- the argument at a position, and where it stands
abbrev pub IsArgument : KnownArguments → ℕ → ResolvedStrategy → Site → Type 0
IsArgument no_known i s T = ⊥
IsArgument (more_known other R ks) zero s T = (other ≡ s) × (R ≡ T)
IsArgument (more_known other R ks) (suc i) s T = IsArgument ks i s T

-- the strategy parameter at a position of the innermost layer is known to be this strategy, which stands there
abbrev pub IsGiven : Site → ℕ → ResolvedStrategy → Site → Type 0
IsGiven outermost i s T = ⊥
IsGiven (in_frame m k S) i s T = ⊥
IsGiven (in_places k offset S) i s T = ⊥
IsGiven (in_definitions ds label S) i s T = ⊥
IsGiven (in_specialization slot label room k ks S) i s T = IsArgument ks i s T
IsGiven (in_call ks S) i s T = IsArgument ks i s T
IsGiven (in_open_call ks S) i s T = ⊥
IsGiven (without_frames S) i s T = IsGiven S i s T

-- the same, where it may look at the frame that is the innermost one there
abbrev pub IsGivenOpen : Site → ℕ → ResolvedStrategy → Site → Type 0
IsGivenOpen outermost i s T = ⊥
IsGivenOpen (in_frame m k S) i s T = ⊥
IsGivenOpen (in_places k offset S) i s T = ⊥
IsGivenOpen (in_definitions ds label S) i s T = ⊥
IsGivenOpen (in_specialization slot label room k ks S) i s T = ⊥
IsGivenOpen (in_call ks S) i s T = ⊥
IsGivenOpen (in_open_call ks S) i s T = IsArgument ks i s T
IsGivenOpen (without_frames S) i s T = ⊥

-- the innermost layer is that of the specialization of the definition at this position, with this label and room
abbrev pub IsSpecialization : Site → (slot label room : ℕ) → KnownArguments → Site → Type 0
IsSpecialization outermost i l r ks T = ⊥
IsSpecialization (in_frame m k S) i l r ks T = ⊥
IsSpecialization (in_places k offset S) i l r ks T = ⊥
IsSpecialization (in_definitions ds label S) i l r ks T = ⊥
IsSpecialization (in_specialization slot label room k bs S) i l r ks T = (slot ≡ i) × (label ≡ l) × (room ≡ r) ×
    (bs ≡ ks) × (S ≡ T)
IsSpecialization (in_call bs S) i l r ks T = ⊥
IsSpecialization (in_open_call bs S) i l r ks T = ⊥
IsSpecialization (without_frames S) i l r ks T = IsSpecialization S i l r ks T

-- the layers as they are in the program, where a definition has its strategy parameters, known or not
abbrev pub number_of_knowns : Knowns → ℕ
number_of_knowns no_knowns = 0
number_of_knowns (more_knowns s D ks) = suc (number_of_knowns ks)

abbrev pub program_layers : Context → Layers
program_layers top = no_layers
program_layers (framed m k C) = layer_of m k (program_layers C)
program_layers (within k offset C) = layer_of 0 k (program_layers C)
program_layers (defining ds es C) = layer_of_definitions ds (program_layers C)
program_layers (known k ks C) = layer_of (number_of_knowns ks) k (program_layers C)
program_layers (hidden ks C) = layer_of (number_of_knowns ks) 0 (program_layers C)
program_layers (open_call ks C) = layer_of (number_of_knowns ks) 0 (program_layers C)

-- The strategy arguments of a call at the site S are known: each is a strategy that is in range at the site T, where it
-- stands then, or a strategy parameter that is known
pub data AreGivenAt (S T : Site) : ResolvedStrategies → KnownArguments → Type 0 where
  none_given : AreGivenAt S T no_strategies no_known
  own_given : {s : ResolvedStrategy} {ss : ResolvedStrategies} {ks : KnownArguments} →
      HasOwnCode (context S) s → StrategyInRange (program_layers (context T)) s → AreGivenAt S T ss ks →
      AreGivenAt S T (more_strategies s ss) (more_known s T ks)
  parameter_given : {R : Site} {y : Coordinate} {s : ResolvedStrategy} {vs ss : ResolvedStrategies}
      {ps : Patterns Coordinate} {ks : KnownArguments} →
      IsGiven (outside_of S y.layers_up) y.slot s R → AreGivenAt S T ss ks →
      AreGivenAt S T (more_strategies (call y vs ps) ss) (more_known s R ks)

-- they are known and look at no frame
abbrev pub AreGiven : Site → ResolvedStrategies → KnownArguments → Type 0
AreGiven S ss ks = AreGivenAt S (without_frames S) ss ks

-- they are known and may look at the innermost frame
abbrev pub AreGivenOpen : Site → ResolvedStrategies → KnownArguments → Type 0
AreGivenOpen S ss ks = AreGivenAt S S ss ks

-- the innermost layer has a strategy parameter at this position of which nothing is known, if it has one there
abbrev pub IsUnknown : Context → ℕ → Type 0
IsUnknown C i = ¬ (HasDefinitions C) × ((s : ResolvedStrategy) (D : Context) → KnowsParameter C i s D → ⊥) ×
    ((s : ResolvedStrategy) (D : Context) → KnowsOpen C i s D → ⊥)
