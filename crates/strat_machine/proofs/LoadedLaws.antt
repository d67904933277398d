-- Code that is loaded in a space stays so while the space knows its names.
use Rattle.std.proofs.Common.{List}
use Rattle.term_model.specs.PrimNames.{NameKey}
use Rattle.term_model.specs.Space.{Space, GoesBack, Keeps, KeepsNames}
use Rattle.strat_code.specs.CodeOf.{CodeParts}
use Rattle.strat_machine.specs.LoadedCode.{IsLoadedIn}
use Rattle.strat_machine.specs.declared.loaded.Loaded.{Loaded}
use Rattle.strat_machine.proofs.ActionLaws.{program_later}

module _ {W R M N : Type 0} {S : Space W R M N} {w w1 : W} {keys : List NameKey} (l : Loaded W R M N)
    (code : CodeParts) where
  -- after a run
  pub loaded_known : KeepsNames S w w1 → IsLoadedIn S w keys l code → IsLoadedIn S w1 keys l code
  loaded_known names h = program_later names.known names.symbols _ h

  -- after a term came in
  pub loaded_kept : Keeps S w w1 → IsLoadedIn S w keys l code → IsLoadedIn S w1 keys l code
  loaded_kept keeps h = program_later keeps.known keeps.symbols _ h

  -- after the space went back to a mark
  pub loaded_back : {m : M} → GoesBack S w m w1 → IsLoadedIn S w keys l code → IsLoadedIn S w1 keys l code
  loaded_back back h = program_later back.known back.symbols _ h
