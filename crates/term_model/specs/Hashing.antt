-- The headline does not rest on this file.
-- What symbols and heads feed to a hasher.
use Rattle.std.specs.Prelude.{◌≡◌, true, [], ◌∷◌, ◌++◌}
use Rattle.std.specs.Hash as fed
use Rattle.std.proofs.Common.{ap}
use Rattle.term_model.specs.declared.term.Head.{Head}
use Rattle.term_model.specs.declared.term.Head.TheVariants as heads
use Rattle.term_model.specs.Same.{same_symbol, same_symbol-true, same_head, same_head-true}
use Rattle.term_model.specs.Symbol.{Symbol, bytes_of}

-- the bytes alone, in one write: symbols of two kinds seldom have the same bytes
abbrev pub symbol_writes : Symbol → fed.HashWrites
symbol_writes s = bytes_of s ∷ []

-- the variant, and what it holds
abbrev pub head_writes : Head → fed.HashWrites
head_writes (heads.Int n) = fed.u8 0 ++ fed.i64 n
head_writes (heads.App s) = fed.u8 1 ++ symbol_writes s
head_writes heads.List = fed.u8 2

-- equal values are fed alike
pub symbol_writes-same : (s t : Symbol) → same_symbol s t ≡ true → symbol_writes s ≡ symbol_writes t
symbol_writes-same s t e = ap symbol_writes (same_symbol-true s t e)

pub head_writes-same : (h k : Head) → same_head h k ≡ true → head_writes h ≡ head_writes k
head_writes-same h k e = ap head_writes (same_head-true h k e)
