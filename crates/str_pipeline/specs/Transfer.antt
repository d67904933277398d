-- The headline does not rest on this file.
-- What a call of a device does to the bytes that it shows.
use Rattle.std.specs.Prelude.{◌≡◌, ◌<◌, ℕ, Bool, true, nat_lt, ◌==◌, ◌&&◌, List, [], ◌++◌, length, take, ⊤, Option, None, Some}
use Rattle.str_pipeline.specs.Device.{Gains}

-- bytes that are shown stay as they are
abbrev pub Stays : Option (List ℕ) → Option (List ℕ) → Type 0
Stays None new = ⊤
Stays (Some xs) new = new ≡ Some xs

-- bytes that are shown begin with bs, and lose them
abbrev pub Loses : Option (List ℕ) → Option (List ℕ) → List ℕ → Type 0
Loses None new bs = ⊤
Loses (Some xs) None bs = ⊥
Loses (Some xs) (Some ys) bs = xs ≡ bs ++ ys

-- nothing is left to come, where the device shows it
abbrev pub IsDry : Option (List ℕ) → Type 0
IsDry None = ⊤
IsDry (Some xs) = xs ≡ []

-- a read that left this content in a slice took what it gave from the front. It gave nothing only at the end or without
-- room. One that failed took nothing
abbrev pub ReadsFront : Option (List ℕ) → Option (List ℕ) → Option ℕ → List ℕ → Type 0
ReadsFront old new None piece = Stays old new
ReadsFront old new (Some n) piece = Loses old new (take n piece) × (n ≡ 0 → 0 < length piece → IsDry new)

-- a write of this text took its first bytes, as many as it says. One that failed took nothing
abbrev pub WritesFront : Option (List ℕ) → Option (List ℕ) → Option ℕ → List ℕ → Type 0
WritesFront old new None text = Stays old new
WritesFront old new (Some n) text = Gains old new (take n text)

-- a write failed, or took no byte of a text that is not empty
abbrev pub is_failed_write : Option ℕ → List ℕ → Bool
is_failed_write None text = true
is_failed_write (Some n) text = n == 0 && nat_lt 0 (length text)
