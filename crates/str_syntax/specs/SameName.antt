-- Whether two names are the same, as a test.
use Rattle.std.specs.Prelude.{ℕ, List, Bool, nat_eq}
use Rattle.std.specs.Cmp.Lexicographic.{pointwise}

-- the bytes are equal
abbrev pub same_name : List ℕ → List ℕ → Bool
same_name xs ys = pointwise nat_eq xs ys
