-- The kinds and the bytes of symbols.
use Rattle.std.proofs.Common.{◌≡◌, ℕ, List, get_or, refl, sym}
use Rattle.std.specs.Prelude.{Some, position}
use Rattle.std.proofs.lemmas.List.Quantifiers.{position-Some}
use Rattle.term_model.specs.declared.symbol.Kind.{Kind}
use Rattle.term_model.specs.declared.symbol.Kind.TheVariants as kinds
use Rattle.term_model.specs.Same.{same_symbol, same_symbol-true}
use Rattle.term_model.specs.Symbol.{Symbol, Plain, Quoted, Tuple, bytes_of, IsSymbol}
use Rattle.term_model.specs.SymbolKinds.{kind_of, symbol_spelled, IsSpelling}

-- a symbol is spelled by its kind and its bytes
pub spelled_so : (s : Symbol) → symbol_spelled (kind_of s) (bytes_of s) ≡ s
spelled_so (Plain bs) = refl
spelled_so (Quoted bs) = refl
spelled_so Tuple = refl

pub is_spelling : (s : Symbol) → IsSymbol s → IsSpelling (kind_of s) (bytes_of s)
is_spelling (Plain bs) is = is
is_spelling (Quoted bs) is = tt
is_spelling Tuple is = refl

pub bytes_spelled : (k : Kind) (bs : List ℕ) → IsSpelling k bs → bytes_of (symbol_spelled k bs) ≡ bs
bytes_spelled kinds.Plain bs is = refl
bytes_spelled kinds.Quoted bs is = refl
bytes_spelled kinds.Tuple bs is = sym is

pub kind_spelled : (k : Kind) (bs : List ℕ) → kind_of (symbol_spelled k bs) ≡ k
kind_spelled kinds.Plain bs = refl
kind_spelled kinds.Quoted bs = refl
kind_spelled kinds.Tuple bs = refl

pub ruleset spelled = (spelled_so, is_spelling, bytes_spelled, kind_spelled)

-- the symbol that is found is the one that is looked for
pub found_at : (keys : List Symbol) (s : Symbol) (i : ℕ) → position (same_symbol s) keys ≡ Some i →
    get_or keys i Tuple ≡ s
found_at keys s i e = sym (same_symbol-true s (get_or keys i Tuple) (position-Some (same_symbol s) keys i Tuple e).1)
