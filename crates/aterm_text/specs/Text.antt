-- The canonical text of a term.
use Rattle.std.specs.Prelude.{ℕ, ◌+◌, ◌/◌, ◌%◌, ◌||◌, ◌==◌, nat_lt, if◌then◌else◌, List, [], ◌∷◌, ◌++◌}
use Rattle.std.specs.Fmt.{signed_decimal}
use Rattle.term_model.specs.declared.term.Head.{Head}
use Rattle.term_model.specs.declared.term.Head.TheVariants as heads
use Rattle.term_model.specs.Symbol.{Plain, Quoted, Tuple}
use Rattle.term_model.specs.Term.{Tree, node, Trees, end, more}

-- a byte in three octal digits
abbrev pub octal_text : ℕ → List ℕ
octal_text b = (48 + b / 64) ∷ (48 + b / 8 % 8) ∷ (48 + b % 8) ∷ []

-- a byte in quoted text: `"`, `\`, LF, TAB and CR by their letters, others below 32 and the byte 127 by their octal
-- digits, the rest raw
abbrev pub item_text : ℕ → List ℕ
item_text b =
    if b == 34 then 92 ∷ 34 ∷ []
    else if b == 92 then 92 ∷ 92 ∷ []
    else if b == 10 then 92 ∷ 110 ∷ []
    else if b == 9 then 92 ∷ 116 ∷ []
    else if b == 13 then 92 ∷ 114 ∷ []
    else if nat_lt b 32 || b == 127 then 92 ∷ octal_text b
    else b ∷ []

abbrev pub items_text : List ℕ → List ℕ
items_text [] = []
items_text (b ∷ bs) = item_text b ++ items_text bs

abbrev pub quoted_text : List ℕ → List ℕ
quoted_text bs = 34 ∷ (items_text bs ++ 34 ∷ [])

-- in brackets, or nothing where there is nothing
abbrev pub enclosed : Trees → ℕ → ℕ → List ℕ → List ℕ
enclosed end left right inner = []
enclosed (more _ _) left right inner = left ∷ (inner ++ right ∷ [])

-- a head and its parts, where `inner` is the text of these
abbrev pub bare_text : Head → Trees → List ℕ → List ℕ
bare_text (heads.Int z) ps inner = signed_decimal z
bare_text (heads.App (Plain name)) ps inner = name ++ enclosed ps 40 41 inner
bare_text (heads.App (Quoted bs)) ps inner = quoted_text bs ++ enclosed ps 40 41 inner
bare_text (heads.App Tuple) ps inner = 40 ∷ (inner ++ 41 ∷ [])
bare_text heads.List ps inner = 91 ∷ (inner ++ 93 ∷ [])

abbrev mutual
  pub text : Tree → List ℕ
  text (node h ps xs) = bare_text h ps (texts ps) ++ enclosed xs 123 125 (texts xs)

  -- the terms with commas between
  pub texts : Trees → List ℕ
  texts end = []
  texts (more t ts) = text t ++ rest_texts ts

  -- the terms with a comma before each
  pub rest_texts : Trees → List ℕ
  rest_texts end = []
  rest_texts (more t ts) = 44 ∷ (text t ++ rest_texts ts)
