-- Tokens with their texts.
use Rattle.std.proofs.Common.{◌≡◌, ◌==◌, ◌↔◌, IsTrue, ℕ, List, [], ◌∷◌, length, refl, rules}
use Rattle.str_lexer.specs.declared.token.Token.{Token}
use Rattle.str_parser.specs.Lexemes.{lexemes}

-- only no tokens are no tokens with texts
pub none_left : (text : List ℕ) (ts : List Token) → IsTrue (length ts == 0) ↔ (lexemes text ts ≡ [])
none_left text [] = (λ h. refl, λ h. search rules)
none_left text (t ∷ ts) = (λ h. search rules, λ h. cc)
