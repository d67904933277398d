-- The greatest sizes of the texts that strc takes.
use Rattle.std.specs.Prelude.{ℕ}

-- the most bytes of definitions, and of the text of a term
abbrev pub max_definitions : ℕ
max_definitions = 1_048_576

abbrev pub max_term : ℕ
max_term = 16_777_216
