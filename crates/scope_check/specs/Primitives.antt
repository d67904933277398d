-- Which primitives there are, where their names are a set.
use Rattle.std.specs.Prelude.{ℕ, Bool, ◌&&◌, ◌==◌, List}
use Rattle.std.specs.List.{list_any}
use Rattle.term_model.specs.PrimNames.{NameKey}
use Rattle.str_syntax.specs.SameName.{same_name}
use Rattle.str_syntax.specs.Trees.{Bytes}

-- the same name with the same number of terms
abbrev pub same_primitive : NameKey → NameKey → Bool
same_primitive k l = same_name k.0 l.0 && k.1 == l.1

-- the name with this number of terms is among these
abbrev pub holds : List NameKey → Bytes → ℕ → Bool
holds names f n = list_any (same_primitive (f, n)) names
