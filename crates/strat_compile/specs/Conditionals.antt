-- The headline does not rest on this file.
-- Calls in place of definitions whose body is a conditional of their strategy parameters.
use Rattle.std.specs.Prelude.{◌≡◌, List, length}
use Rattle.core_lang.specs.declared.program.CorePattern.{CorePattern}
use Rattle.core_lang.specs.declared.program.CoreStrategy.TheViews.{out-CoreDef}
use Rattle.core_lang.specs.Program.{id, fail, choice, call, no_strategies, no_patterns}
use Rattle.core_lang.specs.Resolved.{ResolvedStrategies, ResolvedStrategy, here}
use Rattle.core_lang.specs.Views.{strategy_of}
use Rattle.strat_compile.specs.declared.conditional.Conditional.{Conditional}
use Rattle.strat_compile.specs.declared.conditional.Part.{Part}
use Rattle.strat_compile.specs.declared.conditional.Part.TheVariants.{Success, Failure, Argument}
use Rattle.strat_compile.specs.declared.layers.ProgramDefinition.{ProgramDefinition}
use Rattle.strat_compile.specs.Layers.{known_of}
use Rattle.strat_compile.specs.Sites.{AreGivenOpen, IsArgument, KnownArguments, Site}

-- the strategy that a part is in the body
abbrev pub part_strategy : Part → ResolvedStrategy
part_strategy Success = id
part_strategy Failure = fail
part_strategy (Argument slot k) = call (here slot) no_strategies no_patterns

abbrev pub conditional_strategy : Conditional → ResolvedStrategy
conditional_strategy c = choice (part_strategy c.guard) (part_strategy c.then) (part_strategy c.otherwise)

-- the part is what it is known to be, where these are the arguments
abbrev pub IsPart : KnownArguments → Part → Type 0
IsPart ks Success = Unit {0}
IsPart ks Failure = Unit {0}
IsPart ks (Argument slot k) = IsArgument ks slot (known_of k).strategy (known_of k).site

abbrev pub ArePartsOf : KnownArguments → Conditional → Type 0
ArePartsOf ks c = IsPart ks c.guard × IsPart ks c.then × IsPart ks c.otherwise

-- A call with these strategy arguments and without term arguments, of a definition without term parameters, is that of
-- a conditional, whose parts are known where they may look at the innermost frame
pub record IsConditionalCall (S : Site) (ss : ResolvedStrategies) (ts : List CorePattern) (p : ProgramDefinition)
    (c : Conditional) : Type 0 where
  pub arguments : KnownArguments
  pub given : AreGivenOpen S ss arguments
  pub no_terms : length ts ≡ 0
  pub no_parameters : (out-CoreDef p.def.now).terms ≡ 0
  pub body : strategy_of (out-CoreDef p.def.now).body ≡ conditional_strategy c
  pub parts : ArePartsOf arguments c
