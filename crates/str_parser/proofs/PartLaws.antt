-- Parts at a level that is allowed, and at the first that is not.
use Rattle.std.proofs.Common.{◌≡◌, inl, inr, ℕ, ◌≤◌, List, [], ◌∷◌, refl, arith}
use Rattle.str_lexer.specs.declared.token.Mark.{Mark}
use Rattle.str_lexer.specs.declared.token.Mark.TheVariants as M
use Rattle.str_parser.specs.Lexemes.{Lexeme, mark, Part}
use Rattle.str_parser.specs.Items.{Item, token, part, no_build, only, Way, whole, too_deep, either, Runs}
use Rattle.str_parser.specs.Readings.{mark_strength, lexeme_strength, strength}

-- ---- a part at level 200 or below

pub passes : (way : Way) (p : Part) (k : ℕ) (is : List Item) (ts : List Lexeme) → k ≤ 200 → Runs way is ts →
    Runs way (part p k ∷ is) ts
passes whole p k is ts h r = (h, r)
passes too_deep p k is ts h r = inr r
passes either p k is ts h r = inr r

pub passed : (p : Part) (k : ℕ) (is : List Item) (ts : List Lexeme) → k ≤ 200 → Runs either (part p k ∷ is) ts →
    Runs either is ts
passed p k is ts h (inl b) = absurd (omega (arith, b.0, h))
passed p k is ts h (inr r) = r

-- ---- tokens in front of items that stop there

mark_at_most : (m : Mark) → mark_strength m ≤ 5
mark_at_most M.OpenParenthesis = omega arith
mark_at_most _ = omega arith

pub lexeme_at_most : (t : Lexeme) → lexeme_strength t ≤ 5
lexeme_at_most (mark m) = mark_at_most m
lexeme_at_most _ = omega arith

-- a token that items run along binds no stronger than they say
pub binds_less : (is : List Item) (t : Lexeme) (ts : List Lexeme) → Runs either is (t ∷ ts) →
    lexeme_strength t ≤ strength is
binds_less [] t ts r = cc
binds_less (token u ∷ is) t ts r = rw r.0 (omega arith)
binds_less (part p k ∷ is) t ts r = lexeme_at_most t
binds_less (no_build ∷ is) t ts r = lexeme_at_most t
binds_less (only b ∷ is) t ts r = binds_less is t ts r.1

-- tokens that do not begin with a token run along no items that do
pub not_at_runs : (t : Lexeme) (is : List Item) (ts : List Lexeme) → ((rest : List Lexeme) → ts ≡ t ∷ rest → ⊥) →
    Runs either (token t ∷ is) ts → ⊥
not_at_runs t is [] n r = r
not_at_runs t is (u ∷ ts) n r = n ts (rw r.0 refl)
