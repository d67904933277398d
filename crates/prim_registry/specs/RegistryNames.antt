-- The headline does not rest on this file.
-- Which names a registry has.
use Rattle.std.specs.Prelude.{◌↔◌, ◌<◌, ℕ, List, Contains, length, map}
use Rattle.term_model.specs.PrimNames.{NameKey}
use Rattle.term_model.specs.NameSet.{key_at}
use Rattle.prim_registry.specs.declared.primitive.Primitive.{Primitive}
use Rattle.prim_registry.specs.declared.registry.Registry.{Registry}
use Rattle.prim_registry.specs.Entries.{entries_of, primitives_of}

abbrev pub name_of : {M X Y : Type 0} {F : X → Type 0} {G : Y → Type 0} {g : _} {h : _} → Primitive M X Y F G g h →
    List ℕ
name_of p = p.name

abbrev pub entry_at : {M X Y : Type 0} {F : X → Type 0} {G : Y → Type 0} {g : _} {h : _} → Registry M X Y F G g h → ℕ →
    NameKey
entry_at r index = key_at (entries_of r) index

-- a primitive has this name, whatever its number of arguments
abbrev pub HasName : {M X Y : Type 0} {F : X → Type 0} {G : Y → Type 0} {g : _} {h : _} → Registry M X Y F G g h →
    List ℕ → Type 0
HasName r name = Contains (map name_of (primitives_of r)) name

-- each of the names is that of a primitive with this number of arguments
abbrev pub Covers : {M X Y : Type 0} {F : X → Type 0} {G : Y → Type 0} {g : _} {h : _} → Registry M X Y F G g h →
    List NameKey → Type 0
Covers r names = (i : ℕ) → i < length names → Contains (entries_of r) (key_at names i)

-- the lists have the same elements
abbrev pub HaveSame : List NameKey → List NameKey → Type 0
HaveSame xs ys = (key : NameKey) → Contains xs key ↔ Contains ys key

-- the names are those of the primitives, with their numbers of arguments
abbrev pub AreNamesOf : {M X Y : Type 0} {F : X → Type 0} {G : Y → Type 0} {g : _} {h : _} → Registry M X Y F G g h →
    List NameKey → Type 0
AreNamesOf r names = HaveSame names (entries_of r)

-- how many arguments it takes
abbrev pub arity_of : {M X Y : Type 0} {F : X → Type 0} {G : Y → Type 0} {g : _} {h : _} → Primitive M X Y F G g h → ℕ
arity_of p = p.arity
