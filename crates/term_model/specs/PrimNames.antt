-- Names with numbers of arguments.
use Rattle.std.specs.Prelude.{ℕ, List}

-- a name with a number of arguments
abbrev pub NameKey : Type 0
NameKey = List ℕ × ℕ
