-- The headline does not rest on this file.
-- Which way a call may be made.
use Rattle.std.specs.Prelude.{◌≡◌, List, length}
use Rattle.core_lang.specs.declared.program.CorePattern.{CorePattern}
use Rattle.core_lang.specs.declared.program.CoreStrategy.TheViews.{out-CoreDef}
use Rattle.strat_compile.specs.declared.ways.Way.{Way}
use Rattle.strat_compile.specs.declared.ways.Way.TheVariants.{InPlace, Specialized, Ordinary}
use Rattle.strat_compile.specs.declared.layers.ProgramDefinition.{ProgramDefinition}

-- in place where there are no term arguments and no term parameters, any other way always
abbrev pub AllowsWay : Way → ProgramDefinition → (terms : List CorePattern) → Type 0
AllowsWay InPlace p ps = (length ps ≡ 0) × ((out-CoreDef p.def.now).terms ≡ 0)
AllowsWay Specialized p ps = Unit {0}
AllowsWay Ordinary p ps = Unit {0}
