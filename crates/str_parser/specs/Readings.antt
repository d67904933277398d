-- The headline does not rest on this file.
-- What reading from the front of tokens returns.
use Rattle.std.specs.Prelude.{◌≡◌, ℕ, ◌<◌, ◌≤◌, length, List, [], ◌∷◌, Option, Some, None, Result, Ok, Err}
use Rattle.std.specs.declared.vec.Vec.{Vec}
use Rattle.std.specs.declared.alloc.Global.{Global}
use Rattle.str_lexer.specs.declared.token.Mark.{Mark}
use Rattle.str_lexer.specs.declared.token.Mark.TheVariants as M
use Rattle.str_lexer.specs.declared.token.Keyword.{Keyword}
use Rattle.str_parser.specs.declared.refusal.ParseRefusal.{ParseRefusal}
use Rattle.str_parser.specs.declared.refusal.ParseRefusal.TheVariants as refusals
use Rattle.str_parser.specs.Lexemes.{Lexeme, name, wildcard, integer, quoted, mark, keyword, left_out}
use Rattle.str_parser.specs.Items.{Item, token, part, no_build, only, Way, too_deep, either, Runs}
use Rattle.str_parser.specs.declared.input.Lexeme.{Lexeme as CodeLexeme}
use Rattle.str_parser.specs.declared.input.Lexeme.TheVariants as C

-- ---- tokens

-- what a token in the code stands for
abbrev pub lexeme_in : CodeLexeme → Lexeme
lexeme_in (C.Name text) = name text.now
lexeme_in C.Wildcard = wildcard
lexeme_in (C.Integer z) = integer z
lexeme_in (C.Quoted text) = quoted text.now
lexeme_in (C.Mark m) = mark m
lexeme_in (C.Keyword k) = keyword k
lexeme_in C.LeftOut = left_out

-- the tokens do not begin with this one
abbrev pub NotAt : Lexeme → List Lexeme → Type 0
NotAt t ts = (rest : List Lexeme) → ts ≡ t ∷ rest → ⊥

-- the first token and the rest
abbrev pub IsFirst : List Lexeme → Option (CodeLexeme × List Lexeme) → Type 0
IsFirst ts (Some (t, rest)) = ts ≡ lexeme_in t ∷ rest
IsFirst ts None = ts ≡ []

-- the tokens after the one that they begin with
abbrev pub IsBehind : Lexeme → List Lexeme → Option (List Lexeme) → Type 0
IsBehind t ts (Some rest) = ts ≡ t ∷ rest
IsBehind t ts None = NotAt t ts

abbrev pub IsAfter : Mark → List Lexeme → Option (List Lexeme) → Type 0
IsAfter m = IsBehind (mark m)

abbrev pub IsAfterKeyword : Keyword → List Lexeme → Option (List Lexeme) → Type 0
IsAfterKeyword k = IsBehind (keyword k)

abbrev pub IsSyntax : ParseRefusal → Type 0
IsSyntax (refusals.Syntax _ _) = Unit {0}
IsSyntax _ = ⊥

-- ---- trees

-- How strongly a token binds what stands before it: a ( or @ a name, a { a pattern, a => a primary, a ; a step, a <+ or
-- < a sequence.
abbrev pub mark_strength : Mark → ℕ
mark_strength M.OpenParenthesis = 5
mark_strength M.At = 5
mark_strength M.OpenBrace = 4
mark_strength M.DoubleArrow = 3
mark_strength M.Semicolon = 2
mark_strength M.LeftChoice = 1
mark_strength M.Less = 1
mark_strength _ = 0

abbrev pub lexeme_strength : Lexeme → ℕ
lexeme_strength (mark m) = mark_strength m
lexeme_strength _ = 0

-- how strongly the first token of the items binds what stands before them
abbrev pub strength : List Item → ℕ
strength [] = 0
strength (token t ∷ is) = lexeme_strength t
strength (only b ∷ is) = strength is
strength (part p k ∷ is) = 5
strength (no_build ∷ is) = 5

-- the first token binds no stronger than this
abbrev pub AtMost : ℕ → List Item → Type 0
AtMost most is = strength is ≤ most

-- The tokens begin with the tree, written so, and the rest comes after it. No other tree runs along them, in front of
-- items that stop it.
pub record Found {T : Type 0} (write : T → List Item → List Item) (Stops : List Item →
    Type 0) (ts : List Lexeme) (t : T) (rest : List Lexeme) : Type 0 where
  pub sound : (way : Way) (is : List Item) → Runs way is rest → Runs way (write t is) ts
  pub only_one : (u : T) (is : List Item) → Stops is → Runs either (write u is) ts → (u ≡ t) × Runs either is rest
  pub shorter : length rest < length ts

-- the tokens run along no such tree
pub record Missing {T : Type 0} (write : T → List Item → List Item) (Stops : List Item →
    Type 0) (ts : List Lexeme) : Type 0 where
  pub none : (u : T) (is : List Item) → Stops is → Runs either (write u is) ts → ⊥

-- the tokens run along a tree up to a part at level 201
pub record Nested {T : Type 0} (write : T → List Item → List Item) (ts : List Lexeme) : Type 0 where
  pub tree : T
  pub runs : (is : List Item) → Runs too_deep (write tree is) ts

-- a fault: Syntax where there is no tree, Nesting where one is too deep
abbrev pub IsFault : {T : Type 0} → (T → List Item → List Item) → (List Item → Type 0) → List Lexeme → ParseRefusal →
    Type 0
IsFault write Stops ts refusals.Memory = Unit {0}
IsFault write Stops ts (refusals.Syntax _ _) = Missing write Stops ts
IsFault write Stops ts (refusals.Nesting _) = Nested write ts

-- the tree and the rest, or a fault
abbrev pub IsReading : {T X : Type 0} → (T → List Item → List Item) → (List Item → Type 0) → (X → T) → List Lexeme →
    Result (X × List Lexeme) ParseRefusal → Type 0
IsReading write Stops tree_of ts (Ok (x, rest)) = Found write Stops ts (tree_of x) rest
IsReading write Stops tree_of ts (Err e) = IsFault write Stops ts e

-- ---- names

abbrev pub one_name : List ℕ → List Item → List Item
one_name x is = token (name x) ∷ is

abbrev pub itself : List ℕ → List ℕ
itself x = x

abbrev pub names_of : Vec (List ℕ) Global → List (List ℕ)
names_of xs = xs.items
