-- Whether tokens hold a word of a left-out part.
use Rattle.std.proofs.Common.{◌≡◌, true, false, ◌||◌, List, [], ◌∷◌, ◌++◌, refl, ◌∙◌, ap}
use Rattle.std.proofs.lemmas.Bool.{or_right}
use Rattle.std.proofs.lemmas.List.Recursion.{or_push}
use Rattle.str_lexer.specs.declared.token.Token.{Token}
use Rattle.str_lexer.specs.Lexes.{left_out, holds_left_out}

-- tokens and one after them
held_after : (ts : List Token) (t : Token) → holds_left_out (ts ++ (t ∷ [])) ≡ (holds_left_out ts || left_out t)
held_after = or_push holds_left_out left_out refl (λ u us. refl)

pub held_before : (ts : List Token) (t : Token) → holds_left_out ts ≡ true → holds_left_out (ts ++ (t ∷ [])) ≡ true
held_before ts t h = held_after ts t ∙ ap (λ b. b || left_out t) h

pub held_last : (ts : List Token) (t : Token) → left_out t ≡ true → holds_left_out (ts ++ (t ∷ [])) ≡ true
held_last ts t h = held_after ts t ∙ or_right (holds_left_out ts) (left_out t) h

pub none_held : (ts : List Token) (t : Token) → holds_left_out ts ≡ false → left_out t ≡ false →
    holds_left_out (ts ++ (t ∷ [])) ≡ false
none_held ts t h g = held_after ts t ∙ ap (λ b. b || left_out t) h ∙ g
