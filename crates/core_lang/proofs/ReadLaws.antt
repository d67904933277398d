-- What each form of the code stands for.
use Rattle.std.proofs.Common.{◌≡◌, ℕ, ℤ, map, Option, Some, None, sym, ◌∙◌, ap, Vec, Box, Global}
use Rattle.term_model.specs.Symbol.{Symbol}
use Rattle.core_lang.specs.declared.coordinate.Coordinate.{Coordinate}
use Rattle.core_lang.specs.declared.program.CorePattern.{CorePattern}
use Rattle.core_lang.specs.declared.program.CorePattern.TheVariants as patterns
use Rattle.core_lang.specs.declared.program.CorePattern.TheOpen as pattern_forms
use Rattle.core_lang.specs.declared.program.CorePattern.TheFolds.{fold-roll-CorePattern, map-CorePattern}
use Rattle.core_lang.specs.declared.program.CorePattern.TheViews.{roll-CorePattern}
use Rattle.core_lang.specs.declared.program.CoreStrategy.{CoreStrategy}
use Rattle.core_lang.specs.declared.program.CoreArm.{CoreArm}
use Rattle.core_lang.specs.declared.program.CoreDef.{CoreDef}
use Rattle.core_lang.specs.declared.program.CoreStrategy.TheVariants as strategies
use Rattle.core_lang.specs.declared.program.CoreStrategy.TheOpen as forms
use Rattle.core_lang.specs.declared.program.CoreStrategy.TheFolds.{fold-roll-CoreStrategy, fold_out-CoreArm, fold_out-CoreDef, map-CoreStrategy}
use Rattle.core_lang.specs.declared.program.CoreStrategy.TheViews.{roll-CoreStrategy, out-CoreArm, out-CoreDef}
use Rattle.core_lang.specs.Program.{Pattern, anything, variable, alias, integer, applied, list, like, annotated, Strategy, id, fail, seq, choice, match, build, scope, all, one, some, with_definitions, call, primitive}
use Rattle.core_lang.specs.Views.{pattern_of, pattern_step, patterns_of, elements_in, rest_of, chain, Arm, first_of, strategy_of, strategies_of, strategy_step, arm_of, arm_step, Def, def_of, def_step, definitions_of}

pattern_roll : (x : pattern_forms.CorePattern-F CorePattern) →
    pattern_of (roll-CorePattern x) ≡ pattern_step (map-CorePattern CorePattern (Pattern Coordinate) pattern_of x)
pattern_roll = fold-roll-CorePattern (Pattern Coordinate) pattern_step

pub reads_anything : pattern_of patterns.Anything ≡ anything
reads_anything = ap pattern_of (sym patterns.rolls-Anything) ∙ pattern_roll pattern_forms.Anything

pub reads_variable : (x : Coordinate) → pattern_of (patterns.Variable x) ≡ variable x
reads_variable x = ap pattern_of (sym (patterns.rolls-Variable x)) ∙ pattern_roll (pattern_forms.Variable x)

pub reads_alias : (x : Coordinate) (p : Box CorePattern Global) →
    pattern_of (patterns.Alias x p) ≡ alias x (pattern_of p.value)
reads_alias x p = ap pattern_of (sym (patterns.rolls-Alias x p)) ∙ pattern_roll (pattern_forms.Alias x p)

pub reads_integer : (z : ℤ) → pattern_of (patterns.Integer z) ≡ integer z
reads_integer z = ap pattern_of (sym (patterns.rolls-Integer z)) ∙ pattern_roll (pattern_forms.Integer z)

pub reads_applied : (f : Symbol) (ps : Vec CorePattern Global) →
    pattern_of (patterns.Applied f ps) ≡ applied f (patterns_of ps.items)
reads_applied f ps = ap pattern_of (sym (patterns.rolls-Applied f ps)) ∙ pattern_roll (pattern_forms.Applied f ps)

pub reads_list : (ps : Vec CorePattern Global) (rest : Option (Box CorePattern Global)) →
    pattern_of (patterns.List ps rest) ≡ list (elements_in (map pattern_of ps.items) (rest_of rest))
reads_list ps None = ap pattern_of (sym (patterns.rolls-List ps None)) ∙ pattern_roll (pattern_forms.List ps None)
reads_list ps (Some p) = ap pattern_of (sym (patterns.rolls-List ps (Some p))) ∙
    pattern_roll (pattern_forms.List ps (Some p))

pub reads_like : (p : Box CorePattern Global) (x : Coordinate) →
    pattern_of (patterns.Like p x) ≡ like (pattern_of p.value) x
reads_like p x = ap pattern_of (sym (patterns.rolls-Like p x)) ∙ pattern_roll (pattern_forms.Like p x)

pub reads_annotated : (p : Box CorePattern Global) (qs : Vec CorePattern Global) →
    pattern_of (patterns.Annotated p qs) ≡ annotated (pattern_of p.value) (patterns_of qs.items)
reads_annotated p qs = ap pattern_of (sym (patterns.rolls-Annotated p qs)) ∙ pattern_roll (pattern_forms.Annotated p qs)

strategy_roll : (x : forms.CoreStrategy-F CoreStrategy CoreArm CoreDef) →
    strategy_of (roll-CoreStrategy x) ≡
    strategy_step (map-CoreStrategy CoreStrategy CoreArm CoreDef (Strategy Coordinate ℕ)
    Arm Def strategy_of arm_of def_of x)
strategy_roll = fold-roll-CoreStrategy (Strategy Coordinate ℕ) Arm Def strategy_step arm_step def_step

pub reads_id : strategy_of strategies.Id ≡ id
reads_id = ap strategy_of (sym strategies.rolls-Id) ∙ strategy_roll forms.Id

pub reads_fail : strategy_of strategies.Fail ≡ fail
reads_fail = ap strategy_of (sym strategies.rolls-Fail) ∙ strategy_roll forms.Fail

pub reads_sequence : (a b : Box CoreStrategy Global) (more : Vec CoreStrategy Global) →
    strategy_of (strategies.Sequence a b more) ≡
    seq (strategy_of a.value) (chain (strategy_of b.value) (map strategy_of more.items))
reads_sequence a b more = ap strategy_of (sym (strategies.rolls-Sequence a b more)) ∙
    strategy_roll (forms.Sequence a b more)

pub reads_choice : (a : Box CoreArm Global) (more : Vec CoreArm Global) (otherwise : Box CoreStrategy Global) →
    strategy_of (strategies.Choice a more otherwise) ≡
    choice (arm_of a.value).guard (arm_of a.value).then
    (first_of (map arm_of more.items) (strategy_of otherwise.value))
reads_choice a more otherwise = ap strategy_of (sym (strategies.rolls-Choice a more otherwise)) ∙
    strategy_roll (forms.Choice a more otherwise)

pub reads_match : (p : CorePattern) → strategy_of (strategies.Match p) ≡ match (pattern_of p)
reads_match p = ap strategy_of (sym (strategies.rolls-Match p)) ∙ strategy_roll (forms.Match p)

pub reads_build : (p : CorePattern) → strategy_of (strategies.Build p) ≡ build (pattern_of p)
reads_build p = ap strategy_of (sym (strategies.rolls-Build p)) ∙ strategy_roll (forms.Build p)

pub reads_scope : (k : ℕ) (s : Box CoreStrategy Global) →
    strategy_of (strategies.Scope k s) ≡ scope k (strategy_of s.value)
reads_scope k s = ap strategy_of (sym (strategies.rolls-Scope k s)) ∙ strategy_roll (forms.Scope k s)

pub reads_all : (s : Box CoreStrategy Global) → strategy_of (strategies.All s) ≡ all (strategy_of s.value)
reads_all s = ap strategy_of (sym (strategies.rolls-All s)) ∙ strategy_roll (forms.All s)

pub reads_one : (s : Box CoreStrategy Global) → strategy_of (strategies.One s) ≡ one (strategy_of s.value)
reads_one s = ap strategy_of (sym (strategies.rolls-One s)) ∙ strategy_roll (forms.One s)

pub reads_some : (s : Box CoreStrategy Global) → strategy_of (strategies.Some s) ≡ some (strategy_of s.value)
reads_some s = ap strategy_of (sym (strategies.rolls-Some s)) ∙ strategy_roll (forms.Some s)

pub reads_let : (ds : Vec CoreDef Global) (s : Box CoreStrategy Global) →
    strategy_of (strategies.LetIn ds s) ≡ with_definitions (definitions_of ds.items) (strategy_of s.value)
reads_let ds s = ap strategy_of (sym (strategies.rolls-LetIn ds s)) ∙ strategy_roll (forms.LetIn ds s)

pub reads_call : (x : Coordinate) (ss : Vec CoreStrategy Global) (ps : Vec CorePattern Global) →
    strategy_of (strategies.Call x ss ps) ≡ call x (strategies_of ss.items) (patterns_of ps.items)
reads_call x ss ps = ap strategy_of (sym (strategies.rolls-Call x ss ps)) ∙ strategy_roll (forms.Call x ss ps)

pub reads_primitive : (f : Vec ℕ Global) (ps : Vec CorePattern Global) →
    strategy_of (strategies.Primitive f ps) ≡ primitive f.items (patterns_of ps.items)
reads_primitive f ps = ap strategy_of (sym (strategies.rolls-Primitive f ps)) ∙ strategy_roll (forms.Primitive f ps)

pub reads_arm : (a : CoreArm) →
    arm_of a ≡ record { guard = strategy_of (out-CoreArm a).guard; then = strategy_of (out-CoreArm a).then }
reads_arm a = fold_out-CoreArm (Strategy Coordinate ℕ) Arm Def strategy_step arm_step def_step a

pub reads_def : (d : CoreDef) →
    def_of d ≡ record {
      strats = (out-CoreDef d).strats;
      terms = (out-CoreDef d).terms;
      body =
          strategy_of (out-CoreDef d).body;
    }
reads_def d = fold_out-CoreDef (Strategy Coordinate ℕ) Arm Def strategy_step arm_step def_step d
