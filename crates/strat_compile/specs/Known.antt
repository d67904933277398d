-- The headline does not rest on this file.
-- Which arguments of a call are known, and which calls are those of the specialization that the code is in.
use Rattle.std.specs.Prelude.{◌≡◌, ℕ, suc, List, ◌++◌, map}
use Rattle.core_lang.specs.declared.coordinate.Coordinate.{Coordinate}
use Rattle.core_lang.specs.declared.program.CoreStrategy.{CoreStrategy}
use Rattle.core_lang.specs.Program.{id, fail, seq, choice, match, build, scope, all, one, some, with_definitions, call, primitive, no_strategies, more_strategies}
use Rattle.core_lang.specs.Resolved.{ResolvedDefinitions, ResolvedStrategies, ResolvedStrategy}
use Rattle.core_lang.specs.Views.{strategies_of}
use Rattle.strat_code.specs.Context.{outer}
use Rattle.strat_compile.specs.declared.known.Own.{Own}
use Rattle.strat_compile.specs.declared.layers.Known.{Known}
use Rattle.strat_compile.specs.Layers.{KnownArgument, arguments_in, known_of}
use Rattle.strat_compile.specs.Sites.{AreGiven, AreGivenAt, IsSpecialization, KnownArguments, Site, context, in_definitions, more_known, outermost, outside_of}

-- The argument is known to be this strategy, which stands at the site R: in front of arguments that are known, all are
pub record IsKnownAs (S T : Site) (s r : ResolvedStrategy) (R : Site) : Type 0 where
  pub given : (ss : ResolvedStrategies) (ks : KnownArguments) → AreGivenAt S T ss ks →
      AreGivenAt S T (more_strategies s ss) (more_known r R ks)

-- with whatever is known of the arguments that are left, this is what is known of all
abbrev pub KnownSoFar : (S T : Site) → (whole left : List CoreStrategy) → (made : List Known) → Type 0
KnownSoFar S T whole left made =
    (ks : List KnownArgument) → AreGivenAt S T (strategies_of left) (arguments_in ks) →
    AreGivenAt S T (strategies_of whole) (arguments_in (map known_of made ++ ks))

-- the strategy is a call of the strategy parameter at this position of the layer that is n layers up
abbrev pub IsParameter : ℕ → ℕ → ResolvedStrategy → Type 0
IsParameter n i id = ⊥
IsParameter n i fail = ⊥
IsParameter n i (seq s1 s2) = ⊥
IsParameter n i (choice s1 s2 s3) = ⊥
IsParameter n i (match p) = ⊥
IsParameter n i (build p) = ⊥
IsParameter n i (scope k s) = ⊥
IsParameter n i (all s) = ⊥
IsParameter n i (one s) = ⊥
IsParameter n i (some s) = ⊥
IsParameter n i (with_definitions ds s) = ⊥
IsParameter n i (call y ss ps) = (y.layers_up ≡ n) × (y.slot ≡ i)
IsParameter n i (primitive f ps) = ⊥

-- the strategies are calls of the strategy parameters of a layer, in order, from this position on
abbrev pub AreParameters : ℕ → ℕ → ResolvedStrategies → Type 0
AreParameters n i no_strategies = Unit {0}
AreParameters n i (more_strategies s ss) = IsParameter n i s × AreParameters n (suc i) ss

-- the site is that of the definitions of the program
pub record IsOfProgram (S : Site) : Type 0 where
  pub definitions : ResolvedDefinitions
  pub first_label : ℕ
  pub is : S ≡ in_definitions definitions first_label outermost

-- A call at this coordinate with these arguments is of the definition of the program that a specialization is of, with
-- the parameters of the layer of that specialization, `layers_up` layers up
pub record IsOwn (S : Site) (at : Coordinate) (ss : ResolvedStrategies) (own : Own) : Type 0 where
  pub layers_up : ℕ
  pub arguments : KnownArguments
  pub definitions : ResolvedDefinitions
  pub first_label : ℕ
  pub called : outer (context S) at.layers_up ≡ context (in_definitions definitions first_label outermost)
  pub given : AreGiven S ss arguments
  pub is : IsSpecialization (outside_of S layers_up)
      at.slot own.label own.room arguments (in_definitions definitions first_label outermost)
