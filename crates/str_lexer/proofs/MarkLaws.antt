-- The mark that bytes begin with.
use Rattle.std.proofs.Common.{◌≡◌, ℕ, false, if◌then◌else◌, List, [], ◌∷◌, ◌++◌, refl, sym, ◌∙◌, ap}
use Rattle.std.specs.Bool.{◌==◌}
use Rattle.str_lexer.specs.declared.token.Mark.{Mark}
use Rattle.str_lexer.specs.declared.token.Mark.TheVariants.{OpenParenthesis, CloseParenthesis, OpenBracket, CloseBracket, OpenBrace, CloseBrace, Bar, Comma, Colon, Semicolon, Equals, Question, Exclamation, At, Star, Plus, Backslash, Less, Greater, Arrow, DoubleArrow, LeftChoice}
use Rattle.str_lexer.specs.Words.{mark_bytes}
use Rattle.str_lexer.specs.Tokens.{first_is, mark_goes_on}

-- the mark that begins with this byte, before these bytes
mark_of : ℕ → List ℕ → Mark
mark_of b bs =
    if b == 40 then OpenParenthesis else
    if b == 41 then CloseParenthesis else
    if b == 91 then OpenBracket else
    if b == 93 then CloseBracket else
    if b == 123 then OpenBrace else
    if b == 125 then CloseBrace else
    if b == 124 then Bar else
    if b == 44 then Comma else
    if b == 58 then Colon else
    if b == 59 then Semicolon else
    if b == 63 then Question else
    if b == 33 then Exclamation else
    if b == 64 then At else
    if b == 42 then Star else
    if b == 43 then Plus else
    if b == 92 then Backslash else
    if b == 62 then Greater else
    if b == 61 then (if first_is (λ c. c == 62) bs then DoubleArrow else Equals) else
    if b == 60 then (if first_is (λ c. c == 43) bs then LeftChoice else Less) else
    Arrow

mark_at : List ℕ → Mark
mark_at [] = Arrow
mark_at (b ∷ bs) = mark_of b bs

mark_again : (m : Mark) (rest : List ℕ) → mark_goes_on m rest ≡ false → mark_at (mark_bytes m ++ rest) ≡ m
unfolding mark_at mark_of
mark_again OpenParenthesis rest e = refl
mark_again CloseParenthesis rest e = refl
mark_again OpenBracket rest e = refl
mark_again CloseBracket rest e = refl
mark_again OpenBrace rest e = refl
mark_again CloseBrace rest e = refl
mark_again Bar rest e = refl
mark_again Comma rest e = refl
mark_again Colon rest e = refl
mark_again Semicolon rest e = refl
mark_again Equals rest e = rw e refl
mark_again Question rest e = refl
mark_again Exclamation rest e = refl
mark_again At rest e = refl
mark_again Star rest e = refl
mark_again Plus rest e = refl
mark_again Backslash rest e = refl
mark_again Less rest e = rw e refl
mark_again Greater rest e = refl
mark_again Arrow rest e = refl
mark_again DoubleArrow rest e = refl
mark_again LeftChoice rest e = refl

same_rest : (m : Mark) (r s : List ℕ) → mark_bytes m ++ r ≡ mark_bytes m ++ s → r ≡ s
same_rest OpenParenthesis r s e = cc
same_rest CloseParenthesis r s e = cc
same_rest OpenBracket r s e = cc
same_rest CloseBracket r s e = cc
same_rest OpenBrace r s e = cc
same_rest CloseBrace r s e = cc
same_rest Bar r s e = cc
same_rest Comma r s e = cc
same_rest Colon r s e = cc
same_rest Semicolon r s e = cc
same_rest Equals r s e = cc
same_rest Question r s e = cc
same_rest Exclamation r s e = cc
same_rest At r s e = cc
same_rest Star r s e = cc
same_rest Plus r s e = cc
same_rest Backslash r s e = cc
same_rest Less r s e = cc
same_rest Greater r s e = cc
same_rest Arrow r s e = cc
same_rest DoubleArrow r s e = cc
same_rest LeftChoice r s e = cc

-- the bytes begin with one mark alone
pub mark_once : (m j : Mark) (bs r s : List ℕ) → bs ≡ mark_bytes m ++ r → mark_goes_on m r ≡ false →
    bs ≡ mark_bytes j ++ s → mark_goes_on j s ≡ false → (j ≡ m) × (s ≡ r)
mark_once m j bs r s e f g h =
    let k : j ≡ m = sym (mark_again j s h) ∙ ap mark_at (sym g ∙ e) ∙ mark_again m r f in
    (k, sym (same_rest m r s (sym e ∙ g ∙ ap (λ i. mark_bytes i ++ s) k)))
