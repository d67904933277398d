-- The headline does not rest on this file.
-- What an attempt to match says.
use Rattle.std.specs.Prelude.{◌≡◌, ℕ, Bool, true, false, Option, Some, None, List, []}
use Rattle.core_lang.specs.declared.coordinate.Coordinate.{Coordinate}
use Rattle.core_lang.specs.Environment.{Bindings}
use Rattle.core_lang.specs.Program.{Pattern}
use Rattle.core_lang.specs.Tried.{tried_elements}
use Rattle.core_lang.specs.Views.{elements_in}
use Rattle.term_model.specs.Term.{Trees}

-- yes, and the bindings are those that it ends with, or no, and it ends with none
abbrev pub Found : Option Bindings → Bool → Bindings → Type 0
Found o true e = o ≡ Some e
Found o false e = o ≡ None

-- the first elements of a list: yes, and whatever rest the pattern has decides on the terms following them, or no, and
-- with no rest the pattern matches
abbrev pub FirstFound : (Coordinate → Option ℕ) → List (Pattern Coordinate) → Trees → Bindings → Bool → Trees →
    Bindings → Type 0 → Type 0
FirstFound place ps ts e true us f enough =
    ((rest : Option (Pattern Coordinate)) →
    tried_elements place (elements_in ps rest) ts e ≡ tried_elements place (elements_in [] rest) us f) × enough
FirstFound place ps ts e false us f enough = (rest : Option (Pattern Coordinate)) →
    tried_elements place (elements_in ps rest) ts e ≡ None
