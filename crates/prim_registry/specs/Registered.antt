-- The headline does not rest on this file.
-- What primitives mean where only those of a registry return anything.
use Rattle.std.specs.Prelude.{Bool, List, None, ◌&&◌, ◌==◌, length, if◌then◌else◌}
use Rattle.std.specs.List.{list_any}
use Rattle.std.specs.Str.{bytes_eq}
use Rattle.term_model.specs.Flat.{Meaning}
use Rattle.term_model.specs.PrimNames.{NameKey}
use Rattle.prim_registry.specs.declared.registry.Registry.{Registry}
use Rattle.prim_registry.specs.Entries.{entries_of}

-- the same name with the same number of arguments
abbrev pub same_key : NameKey → NameKey → Bool
same_key a b = bytes_eq a.0 b.0 && (a.1 == b.1)

-- the meaning, for names that are registered with as many arguments; for any other call, none
abbrev pub registered : List NameKey → Meaning → Meaning
registered keys M f vs = if list_any (same_key (f, length vs)) keys then M f vs else None

-- what the primitives of a registry mean
abbrev pub meaning_of : {M X Y : Type 0} {F : X → Type 0} {G : Y → Type 0} {g : _} {h : _} → Meaning →
    Registry M X Y F G g h → Meaning
meaning_of answer r = registered (entries_of r) answer
