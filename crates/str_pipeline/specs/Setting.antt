-- What a transformation is done with.
use Rattle.std.specs.Prelude.{ℕ, Bool, List}
use Rattle.term_model.specs.Flat.{Meaning}
use Rattle.term_model.specs.PrimNames.{NameKey}
use Rattle.prim_registry.specs.declared.registry.Registry.{Registry}
use Rattle.prim_registry.specs.Entries.{entries_of}
use Rattle.str_syntax.specs.Trees.{Bytes}
use Rattle.scope_check.specs.Primitives.{holds}
use Rattle.str_pipeline.specs.declared.status.Options.{Options}

-- the options, which primitives there are, and what they mean
pub record Setting : Type 0 where
  pub options : Options
  pub has_primitive : Bytes → ℕ → Bool
  pub meaning : Meaning

-- the primitives are those of these names
abbrev pub setting_with : Meaning → List NameKey → Options → Setting
setting_with M names options = record { options = options; has_primitive = holds names; meaning = M }

-- the primitives are those of the registry
abbrev pub setting_of : {M X Y : Type 0} {F : X → Type 0} {G : Y → Type 0} {g : _} {h : _} → Meaning →
    Registry M X Y F G g h → Options → Setting
setting_of M r options = setting_with M (entries_of r) options
