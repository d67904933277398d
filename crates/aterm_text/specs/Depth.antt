-- Texts in which a term begins at depth 1,001.
use Rattle.std.specs.Prelude.{◌≡◌, ℕ, Bool, true, ◌||◌, ◌==◌, List, [], ◌∷◌}
use Rattle.std.proofs.Common.{suc, zero}
use Rattle.term_model.specs.Bytes.{is_digit}
use Rattle.term_model.specs.QuotedText.{Joined}
use Rattle.term_model.specs.declared.term.Head.{Head}
use Rattle.term_model.specs.Symbol.{Symbol, Tuple, begins_name}
use Rattle.term_model.specs.Limits.{max_depth}
use Rattle.term_model.specs.Term.{Tree, Trees}
use Rattle.aterm_text.specs.Tokens.{AreBlanks, Token, Mark, IsSymbolText}
use Rattle.aterm_text.specs.Grammar.{SpellsBare, Spells, SpellsAll}

-- what a bracket opens: the parts of an application, of a tuple or of a list, or the annotations of a term
pub data Opening : Type 0 where
  Applied : Symbol → Opening
  Elements : Opening
  Annotations : Head → Trees → Opening

-- a bracket that is open, and the terms that follow it already
pub record Open : Type 0 where
  pub opening : Opening
  pub earlier : List Tree

-- up to the bracket, and blanks
abbrev pub IsOpening : Opening → List ℕ → Type 0
IsOpening (Applied Tuple) bs = Mark 40 bs
IsOpening (Applied symbol) bs = Joined (Token (IsSymbolText symbol)) (Mark 40) bs
IsOpening Elements bs = Mark 91 bs
IsOpening (Annotations h ps) bs = Joined (SpellsBare h ps (SpellsAll ps)) (Mark 123) bs

-- complete terms, with a comma after each
abbrev pub SpellsEarlier : List Tree → List ℕ → Type 0
SpellsEarlier [] bs = bs ≡ []
SpellsEarlier (t ∷ ts) bs = Joined (Spells t) (Joined (Mark 44) (SpellsEarlier ts)) bs

abbrev pub Begins : Open → List ℕ → Type 0
Begins o = Joined (IsOpening o.opening) (SpellsEarlier o.earlier)

-- the bytes lead to the first token of a term inside this number of brackets
unfoldable pub Opens : ℕ → List ℕ → Type 0
Opens zero bs = AreBlanks bs
Opens (suc k) bs = (o : Open) × Joined (Opens k) (Begins o) bs

abbrev pub begins_term : ℕ → Bool
begins_term c = (((begins_name c || is_digit c) || c == 45) || c == 34) || (c == 40 || c == 91)

abbrev pub StartsTerm : List ℕ → Type 0
StartsTerm [] = ⊥
StartsTerm (c ∷ _) = begins_term c ≡ true

-- a term at depth 1,001 begins
unfoldable pub TooDeep : List ℕ → Type 0
TooDeep = Joined (Opens max_depth) StartsTerm
