-- The headline does not rest on this file.
-- What a block of numbers feeds to a hasher: pairs of numbers, and a rest that is in no pair where it is not 0.
use Rattle.std.specs.Prelude.{ℕ, [], ◌==◌, if◌then◌else◌, ◌++◌, ◌+◌, ◌*◌}
use Rattle.std.specs.Hash as fed
use Rattle.term_model.specs.declared.parts.Front.{Front}
use Rattle.term_model.specs.declared.parts.Front.TheVariants as fronts
use Rattle.term_model.specs.declared.parts.Block.{Block}

abbrev pub rest_writes : ℕ → fed.HashWrites
rest_writes rest = if rest == 0 then [] else fed.u32 rest

abbrev pub front_writes : Front ℕ → ℕ → fed.HashWrites
front_writes fronts.Zero rest = rest_writes rest
front_writes (fronts.One a) rest = fed.u64 (a * 4_294_967_296 + rest)
front_writes (fronts.Two a b) rest = fed.u64 (a * 4_294_967_296 + b) ++ rest_writes rest
front_writes (fronts.Three a b c) rest = fed.u64 (a * 4_294_967_296 + b) ++ fed.u64 (c * 4_294_967_296 + rest)

abbrev pub block_writes : Block ℕ → fed.HashWrites
block_writes b = front_writes b.front b.rest
