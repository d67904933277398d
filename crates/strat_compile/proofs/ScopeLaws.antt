-- A strategy of the code that is no scope.
use Rattle.std.proofs.Common.{◌≡◌, ℕ, subst, sym, ◌∙◌, Box, Global}
use Rattle.core_lang.specs.declared.coordinate.Coordinate.{Coordinate}
use Rattle.core_lang.specs.declared.program.CoreStrategy.{CoreStrategy}
use Rattle.core_lang.specs.declared.program.CoreArm.{CoreArm}
use Rattle.core_lang.specs.declared.program.CoreDef.{CoreDef}
use Rattle.core_lang.specs.declared.program.CoreStrategy.TheVariants as strategies
use Rattle.core_lang.specs.declared.program.CoreStrategy.TheOpen as forms
use Rattle.core_lang.specs.declared.program.CoreStrategy.TheFolds.{fold_out-CoreStrategy, map-CoreStrategy}
use Rattle.core_lang.specs.declared.program.CoreStrategy.TheViews.{roll-CoreStrategy, out-CoreStrategy, roll-out-CoreStrategy}
use Rattle.core_lang.specs.Program.{Strategy}
use Rattle.core_lang.specs.Views.{Arm, Def, strategy_of, arm_of, def_of, strategy_step, arm_step, def_step}
use Rattle.strat_compile.specs.Emission.{IsNoScope}

opened : (d : CoreStrategy) → ((k : ℕ) (b : Box CoreStrategy Global) → d ≡ strategies.Scope k b → ⊥) →
    (f : forms.CoreStrategy-F CoreStrategy CoreArm CoreDef) → roll-CoreStrategy f ≡ d →
    IsNoScope (strategy_step (map-CoreStrategy CoreStrategy CoreArm CoreDef (Strategy Coordinate ℕ)
    Arm Def strategy_of arm_of def_of f))
opened d h forms.Id is = tt
opened d h forms.Fail is = tt
opened d h (forms.Sequence a b more) is = tt
opened d h (forms.Choice a more otherwise) is = tt
opened d h (forms.Match p) is = tt
opened d h (forms.Build p) is = tt
opened d h (forms.Scope k b) is = absurd (h k b (sym is ∙ strategies.rolls-Scope k b))
opened d h (forms.All s) is = tt
opened d h (forms.One s) is = tt
opened d h (forms.Some s) is = tt
opened d h (forms.LetIn ds s) is = tt
opened d h (forms.Call x ss ps) is = tt
opened d h (forms.Primitive f ps) is = tt

pub no_scope : (d : CoreStrategy) → ((k : ℕ) (b : Box CoreStrategy Global) → d ≡ strategies.Scope k b → ⊥) →
    IsNoScope (strategy_of d)
no_scope d h =
    subst IsNoScope (sym (fold_out-CoreStrategy (Strategy Coordinate ℕ) Arm Def strategy_step arm_step def_step d))
    (opened d h (out-CoreStrategy d) (roll-out-CoreStrategy d))
