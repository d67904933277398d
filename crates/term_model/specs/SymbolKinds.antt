-- The headline does not rest on this file.
-- Symbols by their kinds and bytes.
use Rattle.std.specs.Prelude.{◌≡◌, ℕ, true, List, []}
use Rattle.term_model.specs.declared.symbol.Kind.{Kind}
use Rattle.term_model.specs.declared.symbol.Kind.TheVariants as kinds
use Rattle.term_model.specs.Symbol.{Symbol, Plain, Quoted, Tuple, is_name}

-- which kind a symbol is of
abbrev pub kind_of : Symbol → Kind
kind_of (Plain _) = kinds.Plain
kind_of (Quoted _) = kinds.Quoted
kind_of Tuple = kinds.Tuple

-- the symbol of this kind and these bytes
abbrev pub symbol_spelled : Kind → List ℕ → Symbol
symbol_spelled kinds.Plain bs = Plain bs
symbol_spelled kinds.Quoted bs = Quoted bs
symbol_spelled kinds.Tuple bs = Tuple

-- some symbol has this kind and these bytes: a plain one has a name, the symbol of tuples has no bytes
abbrev pub IsSpelling : Kind → List ℕ → Type 0
IsSpelling kinds.Plain bs = is_name bs ≡ true
IsSpelling kinds.Quoted bs = Unit {0}
IsSpelling kinds.Tuple bs = bs ≡ []
