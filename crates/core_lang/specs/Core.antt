-- The headline does not rest on this file.
-- What a core is seen as.
use Rattle.std.specs.Prelude.{ℕ, List}
use Rattle.term_model.specs.PrimNames.{NameKey}
use Rattle.core_lang.specs.declared.program.CoreDef.{CoreDef}
use Rattle.core_lang.specs.declared.coordinate.Coordinate.{Coordinate}
use Rattle.core_lang.specs.InRange.{InRange}
use Rattle.core_lang.specs.Primitives.{AreOccurring}
use Rattle.core_lang.specs.Program.{Definitions}
use Rattle.core_lang.specs.Views.{definitions_of}

-- definitions, the position of main among them, and the primitives that occur in them
pub record CoreParts : Type 0 where
  pub defs : List CoreDef
  pub main : ℕ
  pub prims : List NameKey

-- the program over coordinates
abbrev pub program_of : CoreParts → Definitions Coordinate ℕ
program_of core = definitions_of core.defs

-- the program is in range, and the names are those of the primitives that occur in it
pub record IsCore (C : Definitions Coordinate ℕ) (main : ℕ) (prims : List NameKey) : Type 0 where
  pub in_range : InRange C main
  pub occurring : AreOccurring prims C
