-- The headline does not rest on this file.
-- Tokens whose texts lie in a text of this size.
use Rattle.std.specs.Prelude.{ℕ, ◌≤◌, List, [], ◌∷◌}
use Rattle.str_lexer.specs.declared.token.Token.{Token}

abbrev pub AreWithin : ℕ → List Token → Type 0
AreWithin size [] = Unit {0}
AreWithin size (t ∷ ts) = (t.from ≤ t.to) × (t.to ≤ size) × AreWithin size ts
