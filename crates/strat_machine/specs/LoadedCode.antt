-- The headline does not rest on this file.
-- Code that is loaded in a space.
use Rattle.std.specs.Prelude.{List}
use Rattle.term_model.specs.PrimNames.{NameKey}
use Rattle.term_model.specs.Space.{Space}
use Rattle.strat_code.specs.CodeOf.{CodeParts}
use Rattle.strat_machine.specs.Actions.{IsLoadedProgram}
use Rattle.strat_machine.specs.declared.loaded.Loaded.{Loaded}

-- the code is loaded in a space of this state, with the primitives of these keys
abbrev pub IsLoadedIn : {W R M N : Type 0} → Space W R M N → W → List NameKey → Loaded W R M N →
    CodeParts → Type 0
IsLoadedIn S w keys l code =
    IsLoadedProgram (S.knows w) (S.symbol_of w) keys S.number_of l.program code.tables code.instrs
