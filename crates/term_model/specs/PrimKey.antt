-- The headline does not rest on this file.
-- Which names with numbers of arguments the entries of a set are.
use Rattle.std.specs.Prelude.{List, map}
use Rattle.term_model.specs.PrimNames.{NameKey}
use Rattle.term_model.specs.declared.prim_names.Entry.{Entry}

abbrev pub key_of : Entry → NameKey
key_of e = (e.name.items, e.arity)

abbrev pub keys_of : List Entry → List NameKey
keys_of entries = map key_of entries
