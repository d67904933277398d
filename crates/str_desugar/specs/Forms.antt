-- The headline does not rest on this file.
-- What the rules and definitions at top level in the code stand for.
use Rattle.std.specs.Prelude.{ℕ, Bool, List, map}
use Rattle.std.specs.Borrow.{Bor}
use Rattle.str_syntax.specs.declared.definition.DefinitionForm.{DefinitionForm}
use Rattle.str_syntax.specs.Trees.{Bytes, FormTree}
use Rattle.str_syntax.specs.Views.{form_of}
use Rattle.str_desugar.specs.Alternatives.{Alternative}
use Rattle.str_desugar.specs.Equations.{top_core}

-- the forms that are pointed at
abbrev pub read_forms : List (Bor DefinitionForm) → List FormTree
read_forms forms = map (λ f. form_of f.now) forms

-- their alternatives
abbrev pub tops_at : (Bytes → ℕ → Bool) → List FormTree → List Alternative
tops_at declared forms = map (top_core declared) forms
