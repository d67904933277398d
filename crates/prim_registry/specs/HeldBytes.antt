-- The headline does not rest on this file.
-- The bytes of a string, whatever holds them.
use Rattle.std.specs.Prelude.{ℕ, List}
use Rattle.term_model.specs.Symbol.{bytes_of}
use Rattle.prim_registry.specs.declared.flat.Holder.{Holder}
use Rattle.prim_registry.specs.declared.flat.Holder.TheVariants.{Vector, Symbol}

abbrev pub held_bytes : Holder → List ℕ
held_bytes (Vector bytes) = bytes.items
held_bytes (Symbol symbol) = bytes_of symbol
