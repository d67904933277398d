-- The headline does not rest on this file.
-- The primitives of the program: the standard ones, and no others.
use Rattle.std.specs.Prelude.{List, ℕ, map}
use Rattle.term_model.specs.PrimNames.{NameKey}
use Rattle.prim_registry.specs.Standard.{standard}
use Rattle.prim_registry.specs.StandardPrimitives.{standard_entries}
use Rattle.str_pipeline.specs.declared.status.Options.{Options}
use Rattle.str_pipeline.specs.Setting.{Setting, setting_with}

abbrev pub names_of : List NameKey → List (List ℕ)
names_of keys = map (λ key. key.0) keys

-- with these options, the standard primitives and what they mean
abbrev pub standard_setting : Options → Setting
standard_setting options = setting_with standard standard_entries options
