-- The headline does not rest on this file.
-- The text of definitions that come from several files.
use Rattle.std.specs.Prelude.{◌≡◌, ◌≢◌, ℕ, List, [], ◌∷◌, ◌++◌, map, codes, Option, None, Some, IfSome}
use Rattle.str_pipeline.specs.Joined.{OfJoined}
use Rattle.strc_command.specs.declared.definition_files.DefinitionFiles.{DefinitionFiles}
use Rattle.strc_command.specs.declared.library_files.LibraryFiles.{LibraryFiles}
use Rattle.strc_command.specs.declared.opening.Library.{Library}

-- a text, a line feed, and what comes next; nothing where one of the two is not known
abbrev pub with_next : Option (List ℕ) → Option (List ℕ) → Option (List ℕ)
with_next (Some text) (Some next) = Some (text ++ 10 ∷ next)
with_next text next = None

-- the texts of files one after another, each but the last followed by a line feed; nothing where one of them is not
-- known
abbrev pub whole_text : List (Option (List ℕ)) → Option (List ℕ)
whole_text [] = Some []
whole_text (text ∷ []) = text
whole_text (text ∷ next ∷ rest) = with_next text (whole_text (next ∷ rest))

-- the texts of files one after another, each followed by a line feed; nothing where one of them is not known
abbrev pub text_in_front : List (Option (List ℕ)) → Option (List ℕ)
text_in_front [] = Some []
text_in_front (text ∷ rest) = with_next text (text_in_front rest)

-- the readers of the files that are not read to their ends
abbrev pub readers_of : {R : Type 0} → DefinitionFiles R → List R
readers_of f = f.current ∷ f.waiting.items

-- its calls
abbrev pub calls_of : {R : Type 0} → DefinitionFiles R → ℕ
calls_of f = f.calls.number

-- those of them that failed
abbrev pub failures_of : {R : Type 0} → DefinitionFiles R → ℕ
failures_of f = f.failed.number

-- the same of files that are read in front of other definitions
abbrev pub libraries_left : {R : Type 0} → LibraryFiles R → List R
libraries_left f = f.waiting.items

abbrev pub library_calls : {R : Type 0} → LibraryFiles R → ℕ
library_calls f = f.calls.number

abbrev pub library_failures : {R : Type 0} → LibraryFiles R → ℕ
library_failures f = f.failed.number

-- the path of a file in front of the definitions
abbrev pub path_of : Library → List ℕ
path_of library = library.path.bytes.items

-- the file that a word of `--with` names: the one with this path, but for the word of the installed prelude
abbrev pub IsNamed : List ℕ → List ℕ → Type 0
IsNamed word path = word ≢ codes "prelude" → path ≡ word

-- the paths of the files that words name, in their order
pub data AreNamed : List (List ℕ) → List (List ℕ) → Type 0 where
  none_named : AreNamed [] []
  one_more_named : {words paths : List (List ℕ)} (word path : List ℕ) → AreNamed words paths → IsNamed word path →
      AreNamed (words ++ word ∷ []) (paths ++ path ∷ [])

-- the texts at the paths of the libraries, and then that at the path of the definitions, where a path leads to such a
-- text
abbrev pub texts_at : (List ℕ → Option (List ℕ)) → List (List ℕ) → List ℕ → List (Option (List ℕ))
texts_at text_at libraries definitions = map text_at libraries ++ text_at definitions ∷ []

-- a relation of the whole text of the definitions at this path and of the files in front of them that words name
abbrev pub OfFiles : (List ℕ → Option (List ℕ)) → List (List ℕ) → List ℕ → (List ℕ → Type 0) → Type 0
OfFiles text_at libraries definitions relates = (files : List (List ℕ)) × AreNamed libraries files
    × IfSome (whole_text (texts_at text_at files definitions)) relates

-- a relation of the definitions and of the term where the input has both in the joined form: the definitions are one
-- text, those of the files that words name, each followed by a line feed, and those of the input
abbrev pub OfJoinedFiles : (List ℕ → Option (List ℕ)) → Option (List ℕ) → List (List ℕ) →
    (List ℕ → List ℕ → Type 0) → Type 0
OfJoinedFiles text_at coming libraries relates = (files : List (List ℕ)) × AreNamed libraries files
    × OfJoined coming (λ d t. IfSome (whole_text (map text_at files ++ Some d ∷ [])) (λ whole. relates whole t))

-- a relation of the text of the definitions by the paths that are named: without one the input has them in the joined
-- form
abbrev pub OfDefinitions : (List ℕ → Option (List ℕ)) → Option (List ℕ) → List (List ℕ) → List (List ℕ) →
    (List ℕ → Type 0) → Type 0
OfDefinitions text_at coming libraries [] relates = OfJoinedFiles text_at coming libraries (λ d t. relates d)
OfDefinitions text_at coming libraries (definitions ∷ term) relates = OfFiles text_at libraries definitions relates

-- a relation of the texts of the definitions and of the term by the paths that are named: without one the input has
-- both in the joined form, and with one it has the term
abbrev pub OfTexts : (List ℕ → Option (List ℕ)) → Option (List ℕ) → List (List ℕ) → List (List ℕ) →
    (List ℕ → List ℕ → Type 0) → Type 0
OfTexts text_at coming libraries [] relates = OfJoinedFiles text_at coming libraries relates
OfTexts text_at coming libraries (definitions ∷ []) relates =
    OfFiles text_at libraries definitions (λ d. IfSome coming (relates d))
OfTexts text_at coming libraries (definitions ∷ term ∷ more) relates =
    OfFiles text_at libraries definitions (λ d. IfSome (text_at term) (relates d))
