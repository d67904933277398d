-- The headline does not rest on this file.
-- What a name and sorts in memory declare.
use Rattle.std.specs.Prelude.{List}
use Rattle.str_syntax.specs.declared.sort.Sort.{Sort}
use Rattle.str_syntax.specs.Trees.{Bytes}
use Rattle.str_syntax.specs.Views.{sort_tree_of, sorts_of}
use Rattle.signature_core.specs.Signature.{Declared}

-- the constructor of this name, these sorts of arguments and this sort of result
abbrev pub declaration : Bytes → List Sort → Sort → Declared
declaration name arguments to = record { name = name; arguments = sorts_of arguments; result = sort_tree_of to }
