-- The headline does not rest on this file.
-- The standard primitives by their names and numbers of arguments.
use Rattle.std.specs.Prelude.{Bool, true, false, List, [], ◌∷◌, codes, map}
use Rattle.term_model.specs.PrimNames.{NameKey}
use Rattle.prim_registry.specs.declared.standard_primitive.StandardPrimitive.{StandardPrimitive}
use Rattle.prim_registry.specs.declared.standard_primitive.StandardPrimitive.TheVariants.{Add, Sub, Mul, Div, Mod, Less, Concat, Length, Explode, Implode, IntText, TextInt}

-- name and number of arguments
abbrev pub key_of : StandardPrimitive → NameKey
key_of Add = (codes "add", 2)
key_of Sub = (codes "sub", 2)
key_of Mul = (codes "mul", 2)
key_of Div = (codes "div", 2)
key_of Mod = (codes "mod", 2)
key_of Less = (codes "less", 2)
key_of Concat = (codes "concat", 2)
key_of Length = (codes "length", 1)
key_of Explode = (codes "explode", 1)
key_of Implode = (codes "implode", 1)
key_of IntText = (codes "int_text", 1)
key_of TextInt = (codes "text_int", 1)

-- takes two integers, and returns an integer or none
abbrev pub is_arithmetic : StandardPrimitive → Bool
is_arithmetic Add = true
is_arithmetic Sub = true
is_arithmetic Mul = true
is_arithmetic Div = true
is_arithmetic Mod = true
is_arithmetic Less = true
is_arithmetic Concat = false
is_arithmetic Length = false
is_arithmetic Explode = false
is_arithmetic Implode = false
is_arithmetic IntText = false
is_arithmetic TextInt = false

-- in the order in which they are registered
abbrev pub standard_primitives : List StandardPrimitive
standard_primitives = Add ∷ Sub ∷ Mul ∷ Div ∷ Mod ∷ Less ∷ Concat ∷ Length ∷ Explode ∷ Implode ∷ IntText ∷ TextInt ∷ []

abbrev pub standard_entries : List NameKey
standard_entries = map key_of standard_primitives
