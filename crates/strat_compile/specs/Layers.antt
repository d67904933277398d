-- The headline does not rest on this file.
-- What the layers of the code stand for.
use Rattle.std.specs.Prelude.{◌≡◌, ℕ, zero, suc, Bool, true, false, List, [], ◌∷◌, map, Option, Some, None}
use Rattle.core_lang.specs.declared.coordinate.Coordinate.{Coordinate}
use Rattle.core_lang.specs.Program.{Pattern, id, fail, seq, choice, match, build, scope, all, one, some, with_definitions, call, primitive}
use Rattle.core_lang.specs.Resolved.{ResolvedStrategy}
use Rattle.core_lang.specs.Views.{def_of, definitions_of, strategy_of}
use Rattle.strat_code.specs.Code as code
use Rattle.strat_code.specs.Code.{entry_at}
use Rattle.strat_code.specs.Context.{Context, top, framed, within, defining, known, hidden, open_call, outer, by_frames, HasDefinitions, HasOwnCode}
use Rattle.strat_code.specs.Ranges.{IsBody}
use Rattle.strat_code.specs.Renamed.{renamed}
use Rattle.strat_compile.specs.declared.layers.Entry.{Entry}
use Rattle.strat_compile.specs.declared.layers.Callee.{Callee}
use Rattle.strat_compile.specs.declared.layers.Callee.TheVariants.{Definition, Given, Unknown}
use Rattle.strat_compile.specs.declared.layers.Handing.{Handing}
use Rattle.strat_compile.specs.declared.layers.Handing.TheVariants.{OwnCode, Inlined, Parameter}
use Rattle.strat_compile.specs.declared.layers.Known.{Known}
use Rattle.strat_compile.specs.declared.layers.Layers.{Layers}
use Rattle.strat_compile.specs.declared.layers.ProgramDefinition.{ProgramDefinition}
use Rattle.strat_compile.specs.declared.layers.Reached.{Reached}
use Rattle.strat_compile.specs.declared.layers.Layers.TheOpen.{Layers-F, Known-F, Outermost, Framed, Within, Defining, Specialized, Called, Frameless}
use Rattle.strat_compile.specs.declared.layers.Layers.TheFolds.{fold-Layers, fold-Known}
use Rattle.strat_compile.specs.Sites.{Site, outermost, in_frame, in_places, in_definitions, in_specialization, in_call, without_frames, KnownArguments, no_known, more_known, IsGiven, IsUnknown, context, outside_of, unframed}

-- the entry at a position
abbrev pub entry_in : List code.Entry → ℕ → code.Entry
entry_in [] i = entry_at 0 0
entry_in (e ∷ es) zero = e
entry_in (e ∷ es) (suc i) = entry_in es i

abbrev pub entries_of : Context → List code.Entry
entries_of top = []
entries_of (framed m k C) = []
entries_of (within k offset C) = []
entries_of (defining ds es C) = es
entries_of (known k ks C) = []
entries_of (hidden ks C) = []
entries_of (open_call ks C) = []

abbrev pub entry_of : Entry → code.Entry
entry_of e = entry_at e.label e.room

-- a strategy argument that is known, and the layers that it stands in
pub record KnownArgument : Type 0 where
  pub strategy : ResolvedStrategy
  pub site : Site

abbrev pub arguments_in : List KnownArgument → KnownArguments
arguments_in [] = no_known
arguments_in (a ∷ ks) = more_known a.strategy a.site (arguments_in ks)

abbrev pub layers_step : Layers-F Site KnownArgument → Site
layers_step Outermost = outermost
layers_step (Framed m k up) = in_frame m k up.now
layers_step (Within k offset up) = in_places k offset up.now
layers_step (Defining ds label up) = in_definitions (definitions_of ds.now) label up.now
layers_step (Specialized slot label room k ks up) = in_specialization slot label room k (arguments_in ks.now) up.now
layers_step (Called ks up) = in_call (arguments_in ks.now) up.now
layers_step (Frameless up) = without_frames up.now

abbrev pub known_step : Known-F Site KnownArgument → KnownArgument
known_step k = record { strategy = strategy_of k.strategy.now; site = k.layers.now }

abbrev pub site_of : Layers → Site
site_of = fold-Layers Site KnownArgument layers_step known_step

abbrev pub known_of : Known → KnownArgument
known_of = fold-Known Site KnownArgument layers_step known_step

abbrev pub arguments_of : List Known → KnownArguments
arguments_of ks = arguments_in (map known_of ks)

-- the layers, where each definition's entry has its label in place of its address
abbrev pub context_of : Layers → Context
context_of L = context (site_of L)

-- the pattern of a list's rest by frames, if there is one
abbrev pub renamed_rest : Context → Option (Pattern Coordinate) → Option (Pattern Coordinate)
renamed_rest C None = None
renamed_rest C (Some p) = Some (renamed (by_frames C) p)

-- the argument is a call of a strategy parameter of which nothing is known, which is at this coordinate by frames
abbrev pub HandsOn : Context → ResolvedStrategy → Coordinate → Type 0
HandsOn C id z = ⊥
HandsOn C fail z = ⊥
HandsOn C (seq s1 s2) z = ⊥
HandsOn C (choice s1 s2 s3) z = ⊥
HandsOn C (match p) z = ⊥
HandsOn C (build p) z = ⊥
HandsOn C (scope k s) z = ⊥
HandsOn C (all s) z = ⊥
HandsOn C (one s) z = ⊥
HandsOn C (some s) z = ⊥
HandsOn C (with_definitions ds s) z = ⊥
HandsOn C (call y ss ps) z = IsUnknown (outer C y.layers_up) y.slot × (z ≡ by_frames C y)
HandsOn C (primitive f ps) z = ⊥

-- the argument is a call of a strategy parameter that is known to be this strategy, which stands there
abbrev pub HandsKnown : Site → ResolvedStrategy → ResolvedStrategy → Site → Type 0
HandsKnown S id s T = ⊥
HandsKnown S fail s T = ⊥
HandsKnown S (seq s1 s2) s T = ⊥
HandsKnown S (choice s1 s2 s3) s T = ⊥
HandsKnown S (match p) s T = ⊥
HandsKnown S (build p) s T = ⊥
HandsKnown S (scope k s1) s T = ⊥
HandsKnown S (all s1) s T = ⊥
HandsKnown S (one s1) s T = ⊥
HandsKnown S (some s1) s T = ⊥
HandsKnown S (with_definitions ds s1) s T = ⊥
HandsKnown S (call y ss ps) s T = IsGiven (outside_of S y.layers_up) y.slot s T
HandsKnown S (primitive f ps) s T = ⊥

abbrev pub HasLayer : Context → Type 0
HasLayer top = ⊥
HasLayer (framed m k C) = Unit {0}
HasLayer (within k offset C) = Unit {0}
HasLayer (defining ds es C) = Unit {0}
HasLayer (known k ks C) = Unit {0}
HasLayer (hidden ks C) = Unit {0}
HasLayer (open_call ks C) = Unit {0}

-- the context, with frames or without
abbrev pub seen : Bool → Context → Context
seen false C = C
seen true C = unframed C

-- the context of a layer that was reached
abbrev pub seen_context : Reached → Context
seen_context r = seen r.is_frameless (context_of r.layers.now)

-- what is called at a position of the innermost layer
abbrev pub CallsIn : Context → Site → ℕ → Callee → Type 0
CallsIn C S i (Definition e) = HasDefinitions C × (entry_in (entries_of C) i ≡ entry_of e)
CallsIn C S i (Given k) = IsGiven S i (known_of k).strategy (known_of k).site
CallsIn C S i Unknown = IsUnknown C i

-- what is called at a coordinate
abbrev pub Calls : Site → Coordinate → Callee → Type 0
Calls S y c = CallsIn (outer (context S) y.layers_up) (outside_of S y.layers_up) y.slot c

-- how an argument is handed over
abbrev pub HandsOver : Site → ResolvedStrategy → Handing → Type 0
HandsOver S s OwnCode = HasOwnCode (context S) s
HandsOver S s (Inlined k) = HandsKnown S s (known_of k).strategy (known_of k).site
HandsOver S s (Parameter z) = HandsOn (context S) s z

-- the layer has the definitions of the program, and this one at a position
pub record IsDefined (C : Context) (i : ℕ) (p : ProgramDefinition) : Type 0 where
  pub is : C ≡ context (in_definitions (definitions_of p.defs.now) p.first_label outermost)
  pub layer : site_of p.layer.now ≡ in_definitions (definitions_of p.defs.now) p.first_label outermost
  pub body : IsBody (definitions_of p.defs.now)
      i (def_of p.def.now).strats (def_of p.def.now).terms (def_of p.def.now).body
