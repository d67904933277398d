-- The headline does not rest on this file.
-- What a symbol's bytes in memory are seen as.
use Rattle.std.specs.Rc.{rc_slice_items}
use Rattle.term_model.specs.Symbol.{Symbol, Plain, Quoted, Tuple}
use Rattle.term_model.specs.declared.symbol.Spelling.{Spelling}
use Rattle.term_model.specs.declared.symbol.Spelling.TheVariants as parts

-- the symbol that is spelled so
abbrev pub symbol_of : Spelling → Symbol
symbol_of (parts.ShortPlain text) = Plain text
symbol_of (parts.Plain text) = Plain (rc_slice_items text)
symbol_of (parts.ShortQuoted text) = Quoted text
symbol_of (parts.Quoted text) = Quoted (rc_slice_items text)
symbol_of parts.Tuple = Tuple
