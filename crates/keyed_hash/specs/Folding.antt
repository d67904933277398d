-- The headline does not rest on this file.
-- What a keyed hasher computes: that of `FoldHasher` of std, with the hasher's multiplier in place of a constant.
use Rattle.std.specs.Prelude.{ℕ, zero, suc, ◌+◌, ◌-◌, ◌*◌, ◌/◌, ◌%◌, ◌^◌, List, length, if◌then◌else◌, nat_le, bit_xor}
use Rattle.std.specs.Hash.FoldHasher.{folded_multiply, read_short, read_u64}
use Rattle.keyed_hash.specs.declared.hasher.KeyedHasher.{KeyedHasher}

abbrev pub first_hasher : ℕ → ℕ → KeyedHasher
first_hasher first odd = record { state = first; multiplier = odd }

-- the state after the words at i and at j
abbrev pub mix : List ℕ → ℕ → ℕ → ℕ → ℕ → ℕ
mix bytes multiplier state i j =
    folded_multiply (bit_xor (read_u64 bytes i) state) (bit_xor (read_u64 bytes j) multiplier)

-- the state after the first n blocks of 16 bytes
unfoldable pub mix_blocks : List ℕ → ℕ → ℕ → ℕ → ℕ
mix_blocks bytes multiplier state zero = state
mix_blocks bytes multiplier state (suc n) =
    mix bytes multiplier (mix_blocks bytes multiplier state n) (16 * n) (16 * n + 8)

-- the state after at most eight bytes
abbrev pub after_few : KeyedHasher → List ℕ → ℕ
after_few h bytes = folded_multiply (bit_xor h.state (read_short bytes)) (bit_xor h.multiplier (2 * length bytes))

-- the state after more bytes: their blocks, and then the last 16 of them
abbrev pub after_many : KeyedHasher → List ℕ → ℕ
after_many h bytes =
    let n = length bytes in
    let before = mix_blocks bytes h.multiplier ((h.state + n) % 2 ^ 64) ((n - 1) / 16) in
    mix bytes h.multiplier before (n - 16) (n - 8)

-- the hasher after the bytes
unfoldable pub write : KeyedHasher → List ℕ → KeyedHasher
write h bytes = record {
  state = if nat_le (length bytes) 8 then after_few h bytes else after_many h bytes;
  multiplier = h.multiplier;
}

abbrev pub finish : KeyedHasher → ℕ
finish h = h.state
