-- The textual format of terms: which bytes spell which term.
use Rattle.std.specs.Prelude.{◌≡◌, ℕ, List, [], ◌⊎◌}
use Rattle.term_model.specs.QuotedText.{Joined}
use Rattle.term_model.specs.declared.term.Head.{Head}
use Rattle.term_model.specs.declared.term.Head.TheVariants as heads
use Rattle.term_model.specs.Symbol.{Tuple}
use Rattle.term_model.specs.Term.{Tree, node, Trees, end, more}
use Rattle.aterm_text.specs.Tokens.{AreBlanks, Token, Mark, IsInteger, IsSymbolText}

-- between brackets
abbrev pub Between : ℕ → ℕ → (List ℕ → Type 0) → List ℕ → Type 0
Between left right P = Joined (Mark left) (Joined P (Mark right))

-- between brackets, or nothing where there is nothing to spell
abbrev pub Optional : Trees → ℕ → ℕ → (List ℕ → Type 0) → List ℕ → Type 0
Optional ts left right P bs = ((ts ≡ end) × (bs ≡ [])) ⊎ Between left right P bs

-- a term's head and its parts, where P says what spells these
abbrev pub SpellsBare : Head → Trees → (List ℕ → Type 0) → List ℕ → Type 0
SpellsBare (heads.Int z) ps P bs = (ps ≡ end) × Token (IsInteger z) bs
SpellsBare (heads.App Tuple) ps P bs = Between 40 41 P bs
SpellsBare (heads.App symbol) ps P bs = Joined (Token (IsSymbolText symbol)) (Optional ps 40 41 P) bs
SpellsBare heads.List ps P bs = Between 91 93 P bs

abbrev mutual
  -- the bytes spell the term, then blanks
  pub Spells : Tree → List ℕ → Type 0
  Spells (node h ps xs) bs = Joined (SpellsBare h ps (SpellsAll ps)) (Optional xs 123 125 (SpellsAll xs)) bs

  -- the terms, with commas between
  pub SpellsAll : Trees → List ℕ → Type 0
  SpellsAll end bs = bs ≡ []
  SpellsAll (more t ts) bs = Joined (Spells t) (SpellsRest ts) bs

  -- the terms, with a comma before each
  pub SpellsRest : Trees → List ℕ → Type 0
  SpellsRest end bs = bs ≡ []
  SpellsRest (more t ts) bs = Joined (Mark 44) (Joined (Spells t) (SpellsRest ts)) bs

-- the bytes spell the term, with blanks round it
abbrev pub IsText : Tree → List ℕ → Type 0
IsText t = Joined AreBlanks (Spells t)
