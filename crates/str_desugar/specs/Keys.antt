-- The headline does not rest on this file.
-- What keys in the code stand for.
use Rattle.core_lang.specs.Named.{written}
use Rattle.std.specs.Prelude.{List, map}
use Rattle.str_desugar.specs.Frames.{NamedKey}
use Rattle.str_desugar.specs.Marks.{AreMarked}
use Rattle.str_desugar.specs.declared.marks.Marks.{Marks}
use Rattle.str_syntax.specs.Key.{Key}

abbrev pub named_key : Key → NamedKey
named_key k = record { name = written k.name; strategies = k.strategies; terms = k.terms }

-- the marks of the names of all these keys were set
abbrev pub AreKeysMarked : Marks → List Key → Type 0
AreKeysMarked marks ks = AreMarked marks (map (λ k. k.name) ks)
