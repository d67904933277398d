-- The headline does not rest on this file.
-- What reading a text into a space returns.
use Rattle.std.specs.Prelude.{Result, Ok, Err}

-- the result with a value in place of what stands for it
abbrev pub map_ok : {X Y E : Type 0} → (X → Y) → Result X E → Result Y E
map_ok f (Ok x) = Ok (f x)
map_ok f (Err e) = Err e
