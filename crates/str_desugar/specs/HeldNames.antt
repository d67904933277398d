-- The headline does not rest on this file.
-- The names that a table holds.
use Rattle.std.specs.Prelude.{ℕ, List, [], Option, Some, None, Box}
use Rattle.std.specs.declared.alloc.Global.{Global}
use Rattle.str_syntax.specs.Trees.{Bytes}
use Rattle.str_desugar.specs.declared.names.Held.{Held}
use Rattle.str_desugar.specs.declared.names.Held.TheVariants.{Few, Many}

abbrev pub held_names : Held → List (List ℕ)
held_names (Few names) = names.items
held_names (Many names) = names

-- and those of a table that may not have been made yet
abbrev pub names_among : Option (Box (List Bytes) Global) → List Bytes
names_among None = []
names_among (Some table) = table.value
