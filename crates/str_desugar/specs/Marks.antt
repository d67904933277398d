-- The headline does not rest on this file.
-- Marks of names. Under the same keys, equal names have equal marks: without its mark, a table has no such name.
use Rattle.std.specs.Prelude.{◌≡◌, ◌%◌, ◌/◌, ◌==◌, ℕ, Bool, true, List, [], ◌∷◌, slice_index}
use Rattle.std.specs.Int.{bit_at}
use Rattle.keyed_hash.specs.Folding.{first_hasher, write, finish}
use Rattle.keyed_hash.specs.declared.keys.HashKeys.{HashKeys}
use Rattle.str_desugar.specs.declared.marks.Marks.{Marks}
use Rattle.str_syntax.specs.Trees.{Bytes}

-- one of 512 marks, by the keys of a table
unfoldable pub mark_of : HashKeys → Bytes → ℕ
mark_of hashing name = finish (write (first_hasher hashing.state hashing.multiplier) name) % 512

-- whether the bit of this mark is set in words of 64 bits
abbrev pub has_mark : List ℕ → ℕ → Bool
has_mark words mark = bit_at (slice_index words (mark / 64)) (mark % 64) == 1

-- whether the mark of the name is set
abbrev pub is_marked : Marks → Bytes → Bool
is_marked marks x = has_mark marks.words (mark_of marks.hashing x)

-- the marks of all these names are set
abbrev pub AreMarked : Marks → List Bytes → Type 0
AreMarked marks [] = Unit {0}
AreMarked marks (x ∷ xs) = (is_marked marks x ≡ true) × AreMarked marks xs

-- names that were marked stay so
abbrev pub AreKept : Marks → Marks → Type 0
AreKept old new = (x : Bytes) → is_marked old x ≡ true → is_marked new x ≡ true
