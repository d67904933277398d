-- Which flat values the crate's own are.
use Rattle.std.specs.Prelude.{List, map, Option}
use Rattle.std.specs.Option.{option_map}
use Rattle.term_model.specs.Flat.{FlatValue, number, text, numbers}
use Rattle.prim_registry.specs.declared.flat.Flat.{Flat}
use Rattle.prim_registry.specs.declared.flat.Flat.TheVariants.{Int, Str, Ints}

abbrev pub value_of : Flat → FlatValue
value_of (Int z) = number z
value_of (Str bytes) = text bytes
value_of (Ints zs) = numbers zs

abbrev pub values_of : List Flat → List FlatValue
values_of flats = map value_of flats

-- the value, or none
abbrev pub answer_of : Option Flat → Option FlatValue
answer_of answer = option_map value_of answer
