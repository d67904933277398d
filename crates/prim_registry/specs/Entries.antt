-- What primitives and a registry of them hold.
use Rattle.std.specs.Prelude.{ℕ, List, All, IfSome, map}
use Rattle.term_model.specs.Flat.{Meaning}
use Rattle.term_model.specs.PrimNames.{NameKey}
use Rattle.prim_registry.specs.declared.primitive.Primitive.{Primitive}
use Rattle.prim_registry.specs.declared.registry.Registry.{Registry}
use Rattle.prim_registry.specs.Answers.{AnswersBy, CalculatesBy}

-- where the primitive has a function on two integers, that returns what the meaning has for the name and them
abbrev pub CalculatesAs : {M X Y : Type 0} {F : X → Type 0} {G : Y → Type 0} {g : _} {h : _} → Meaning →
    Primitive M X Y F G g h → Type 0
CalculatesAs {h = h} answer p =
    IfSome p.calculator (λ c. CalculatesBy
    (λ left right r. h.post (c.calculation.vtable, c.calculation.value) (left, (right, tt)) r) (answer p.name))

-- whenever a function of the primitive returns a value or none, that is what the meaning has for the name
abbrev pub AnswersAs : {M X Y : Type 0} {F : X → Type 0} {G : Y → Type 0} {g : _} {h : _} → Meaning →
    Primitive M X Y F G g h → Type 0
AnswersAs {g = g} answer p = AnswersBy (λ args r. g.post (p.action.vtable, p.action.value) (args, tt) r)
    p.arity (answer p.name) × CalculatesAs answer p

abbrev pub entry_of : {M X Y : Type 0} {F : X → Type 0} {G : Y → Type 0} {g : _} {h : _} → Primitive M X Y F G g h →
    NameKey
entry_of p = (p.name, p.arity)

-- the primitives, in the order in which they were registered
abbrev pub primitives_of : {M X Y : Type 0} {F : X → Type 0} {G : Y → Type 0} {g : _} {h : _} → Registry M X Y F G g h →
    List (Primitive M X Y F G g h)
primitives_of r = r.primitives.items

-- their names and numbers of arguments
abbrev pub entries_of : {M X Y : Type 0} {F : X → Type 0} {G : Y → Type 0} {g : _} {h : _} → Registry M X Y F G g h →
    List NameKey
entries_of r = map entry_of (primitives_of r)

-- each primitive returns what the meaning has for its name
abbrev pub IsHonest : {M X Y : Type 0} {F : X → Type 0} {G : Y → Type 0} {g : _} {h : _} → Meaning →
    Registry M X Y F G g h → Type 0
IsHonest answer r = All (AnswersAs answer) (primitives_of r)
