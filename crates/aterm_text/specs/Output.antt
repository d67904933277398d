-- The headline does not rest on this file.
-- Bytes that are written after others, and the terms that are written.
use Rattle.std.specs.Prelude.{◌≡◌, ℕ, List, ◌++◌, map}
use Rattle.term_model.specs.Term.{Tree, Trees, trees_of}
use Rattle.term_model.specs.TermParts.{head_of, parts_of}
use Rattle.aterm_text.specs.Text.{texts, bare_text, enclosed}

-- the second begins with the first
pub record Extends (old new : List ℕ) : Type 0 where
  pub rest : List ℕ
  pub grown : new ≡ old ++ rest

-- the text of the term without its annotations
abbrev pub bare_text_of : Tree → List ℕ
bare_text_of t = bare_text (head_of t) (trees_of (parts_of t)) (texts (trees_of (parts_of t)))

-- the terms of references of a space
abbrev pub trees_in : {S R : Type 0} → (S → R → Tree) → S → List R → Trees
trees_in term_of space references = trees_of (map (term_of space) references)

-- the texts of these terms with commas between
abbrev pub texts_in : {S R : Type 0} → (S → R → Tree) → S → List R → List ℕ
texts_in term_of space references = texts (trees_in term_of space references)

-- the same in brackets, or nothing where there are no terms
abbrev pub enclosed_in : {S R : Type 0} → (S → R → Tree) → S → List R → ℕ → ℕ → List ℕ
enclosed_in term_of space references left right =
    enclosed (trees_in term_of space references) left right (texts_in term_of space references)
