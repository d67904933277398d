-- The headline does not rest on this file.
-- What the values of the code stand for: core programs over coordinates.
use Rattle.std.specs.Prelude.{ℕ, List, [], ◌∷◌, map, Option, Some, None, Box}
use Rattle.std.specs.declared.alloc.Global.{Global}
use Rattle.core_lang.specs.declared.coordinate.Coordinate.{Coordinate}
use Rattle.core_lang.specs.declared.program.CorePattern.{CorePattern}
use Rattle.core_lang.specs.declared.program.CorePattern.TheOpen.{CorePattern-F}
use Rattle.core_lang.specs.declared.program.CorePattern.TheOpen as pattern_forms
use Rattle.core_lang.specs.declared.program.CorePattern.TheFolds.{fold-CorePattern}
use Rattle.core_lang.specs.declared.program.CoreStrategy.{CoreStrategy}
use Rattle.core_lang.specs.declared.program.CoreStrategy.TheOpen as forms
use Rattle.core_lang.specs.declared.program.CoreStrategy.TheOpen.{CoreStrategy-F, CoreArm-F, CoreDef-F}
use Rattle.core_lang.specs.declared.program.CoreStrategy.TheFolds.{fold-CoreStrategy, fold-CoreArm, fold-CoreDef}
use Rattle.core_lang.specs.declared.program.CoreArm.{CoreArm}
use Rattle.core_lang.specs.declared.program.CoreDef.{CoreDef}
use Rattle.core_lang.specs.Program.{Pattern, anything, variable, alias, integer, applied, list, like, annotated, Patterns, no_patterns, more_patterns, Elements, no_elements, the_rest, more_elements, Strategy, id, fail, seq, choice, match, build, scope, all, one, some, with_definitions, call, primitive, Strategies, no_strategies, more_strategies, Definitions, no_definitions, more_definitions}
use Rattle.core_lang.specs.Resolved.{here}

abbrev pub patterns_in : List (Pattern Coordinate) → Patterns Coordinate
patterns_in [] = no_patterns
patterns_in (p ∷ ps) = more_patterns p (patterns_in ps)

-- the elements of a list, and the pattern of the rest if there is one
abbrev pub elements_in : List (Pattern Coordinate) → Option (Pattern Coordinate) → Elements Coordinate
elements_in [] None = no_elements
elements_in [] (Some p) = the_rest p
elements_in (p ∷ ps) rest = more_elements p (elements_in ps rest)

abbrev pub unboxed : Option (Box (Pattern Coordinate) Global) → Option (Pattern Coordinate)
unboxed None = None
unboxed (Some p) = Some p.value

abbrev pub pattern_step : CorePattern-F (Pattern Coordinate) → Pattern Coordinate
pattern_step pattern_forms.Anything = anything
pattern_step (pattern_forms.Variable x) = variable x
pattern_step (pattern_forms.Alias x p) = alias x p.value
pattern_step (pattern_forms.Integer z) = integer z
pattern_step (pattern_forms.Applied f ps) = applied f (patterns_in ps.items)
pattern_step (pattern_forms.List ps rest) = list (elements_in ps.items (unboxed rest))
pattern_step (pattern_forms.Like p x) = like p.value x
pattern_step (pattern_forms.Annotated p qs) = annotated p.value (patterns_in qs.items)

abbrev pub pattern_of : CorePattern → Pattern Coordinate
pattern_of = fold-CorePattern (Pattern Coordinate) pattern_step

abbrev pub patterns_of : List CorePattern → Patterns Coordinate
patterns_of ps = patterns_in (map pattern_of ps)

-- the pattern of a rest, if there is one
abbrev pub rest_of : Option (Box CorePattern Global) → Option (Pattern Coordinate)
rest_of None = None
rest_of (Some p) = Some (pattern_of p.value)

-- a chain of sequences, grouped to the right
abbrev pub chain : Strategy Coordinate ℕ → List (Strategy Coordinate ℕ) → Strategy Coordinate ℕ
chain s [] = s
chain s (r ∷ rs) = seq s (chain r rs)

-- a guard and what follows it
pub record Arm : Type 0 where
  pub guard : Strategy Coordinate ℕ
  pub then : Strategy Coordinate ℕ

-- a chain of choices, grouped to the right
abbrev pub first_of : List Arm → Strategy Coordinate ℕ → Strategy Coordinate ℕ
first_of [] otherwise = otherwise
first_of (a ∷ arms) otherwise = choice a.guard a.then (first_of arms otherwise)

-- how many strategy and term parameters a definition has, and its body
pub record Def : Type 0 where
  pub strats : ℕ
  pub terms : ℕ
  pub body : Strategy Coordinate ℕ

abbrev pub definitions_in : List Def → Definitions Coordinate ℕ
definitions_in [] = no_definitions
definitions_in (d ∷ ds) = more_definitions (here 0) d.strats d.terms d.body (definitions_in ds)

abbrev pub strategies_in : List (Strategy Coordinate ℕ) → Strategies Coordinate ℕ
strategies_in [] = no_strategies
strategies_in (s ∷ ss) = more_strategies s (strategies_in ss)

abbrev pub strategy_step : CoreStrategy-F (Strategy Coordinate ℕ) Arm Def → Strategy Coordinate ℕ
strategy_step forms.Id = id
strategy_step forms.Fail = fail
strategy_step (forms.Sequence a b more) = seq a.value (chain b.value more.items)
strategy_step (forms.Choice a more otherwise) = choice a.value.guard a.value.then (first_of more.items otherwise.value)
strategy_step (forms.Match p) = match (pattern_of p)
strategy_step (forms.Build p) = build (pattern_of p)
strategy_step (forms.Scope k s) = scope k s.value
strategy_step (forms.All s) = all s.value
strategy_step (forms.One s) = one s.value
strategy_step (forms.Some s) = some s.value
strategy_step (forms.LetIn ds s) = with_definitions (definitions_in ds.items) s.value
strategy_step (forms.Call x ss ps) = call x (strategies_in ss.items) (patterns_of ps.items)
strategy_step (forms.Primitive f ps) = primitive f.items (patterns_of ps.items)

abbrev pub arm_step : CoreArm-F (Strategy Coordinate ℕ) Arm Def → Arm
arm_step a = record { guard = a.guard; then = a.then }

abbrev pub def_step : CoreDef-F (Strategy Coordinate ℕ) Arm Def → Def
def_step d = record { strats = d.strats; terms = d.terms; body = d.body }

abbrev pub strategy_of : CoreStrategy → Strategy Coordinate ℕ
strategy_of = fold-CoreStrategy (Strategy Coordinate ℕ) Arm Def strategy_step arm_step def_step

abbrev pub arm_of : CoreArm → Arm
arm_of = fold-CoreArm (Strategy Coordinate ℕ) Arm Def strategy_step arm_step def_step

abbrev pub def_of : CoreDef → Def
def_of = fold-CoreDef (Strategy Coordinate ℕ) Arm Def strategy_step arm_step def_step

abbrev pub strategies_of : List CoreStrategy → Strategies Coordinate ℕ
strategies_of ss = strategies_in (map strategy_of ss)

abbrev pub definitions_of : List CoreDef → Definitions Coordinate ℕ
definitions_of ds = definitions_in (map def_of ds)
