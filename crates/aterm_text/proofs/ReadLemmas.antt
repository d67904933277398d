-- The rest of a text from an index on.
use Rattle.std.proofs.Common.{◌≡◌, ℕ, ◌+◌, ◌<◌, List, ◌∷◌, length, drop}
use Rattle.std.proofs.lemmas.List.{drop_more as more}
use Rattle.std.specs.Prelude.{slice_index}

pub drop_more : (text : List ℕ) (at : ℕ) → at < length text → drop at text ≡ slice_index text at ∷ drop (at + 1) text
drop_more text at h = more text at 0 h
