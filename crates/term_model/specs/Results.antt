-- The headline does not rest on this file.
-- What calls return, in a word.
use Rattle.std.specs.Prelude.{◌≡◌, Result, IfOk}

-- the call returns this value, unless it fails
abbrev pub Returns : {A E : Type 0} → Result A E → A → Type 0
Returns result value = IfOk result (λ found. found ≡ value)
