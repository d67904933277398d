-- The headline does not rest on this file.
-- What reading the parts of files, and whole files, returns.
use Rattle.std.specs.Prelude.{◌≡◌, Bool, true, false, map, if◌then◌else◌, List, [], ◌∷◌, Result, Ok, Err}
use Rattle.std.specs.declared.vec.Vec.{Vec}
use Rattle.std.specs.declared.alloc.Global.{Global}
use Rattle.str_parser.specs.declared.refusal.ParseRefusal.{ParseRefusal}
use Rattle.term_model.specs.declared.fault.Fault.{Fault}
use Rattle.term_model.specs.declared.fault.Fault.TheVariants as faults
use Rattle.str_lexer.specs.declared.token.Keyword.{Keyword}
use Rattle.str_lexer.specs.declared.token.Keyword.TheVariants as K
use Rattle.str_syntax.specs.declared.definition.Definition.{Definition}
use Rattle.str_syntax.specs.declared.definition.Section.{Section}
use Rattle.str_syntax.specs.declared.definition.File.{File}
use Rattle.str_syntax.specs.Trees.{TopTree, SectionTree, FileTree}
use Rattle.str_syntax.specs.Views.{top_of, section_of, file_of}
use Rattle.str_parser.specs.Lexemes.{Lexeme, name, keyword}
use Rattle.str_parser.specs.Items.{Item, only}
use Rattle.str_parser.specs.Phrases.{form, from_file, IsPhrase, OnlyPhrase, TooNested}
use Rattle.str_parser.specs.Readings.{AtMost, IsFault}
use Rattle.str_parser.specs.Runs.{NoneOf, FoundAny}

-- ---- what comes after a phrase

abbrev pub is_where : Lexeme → Bool
is_where (keyword K.Where) = true
is_where _ = false

abbrev pub is_name : Lexeme → Bool
is_name (name _) = true
is_name _ = false

-- whether the first of the tokens is a name
abbrev pub begins_name : List Lexeme → Bool
begins_name [] = false
begins_name (t ∷ ts) = is_name t

abbrev pub keyword_begins_section : Keyword → Bool
keyword_begins_section K.Signature = true
keyword_begins_section K.Rules = true
keyword_begins_section K.Strategies = true
keyword_begins_section _ = false

-- anything but a keyword with which a section begins
abbrev pub is_inside : Lexeme → Bool
is_inside (keyword k) = if keyword_begins_section k then false else true
is_inside _ = true

-- after a rule no operator and no where comes
abbrev pub EndsRule : List Item → Type 0
EndsRule is = AtMost 0 is × NoneOf is_where is

-- after the rules and definitions of a section no name comes either
abbrev pub EndsForms : List Item → Type 0
EndsForms is = EndsRule is × NoneOf is_name is

-- after a section comes another one or the end
abbrev pub EndsSection : List Item → Type 0
EndsSection is = AtMost 0 is × NoneOf is_inside is

abbrev pub AtEnd : List Item → Type 0
AtEnd is = is ≡ []

-- ---- all of the tokens

-- the tree that all of the tokens are, or a fault
abbrev pub IsReadingAll : {T X : Type 0} → (T → List Item → List Item) → (X → T) → List Lexeme → Result X ParseRefusal →
    Type 0
IsReadingAll write tree_of ts (Ok x) = FoundAny write AtEnd ts (tree_of x) []
IsReadingAll write tree_of ts (Err e) = IsFault write AtEnd ts e

-- ---- the parts of files

-- a rule or a definition of a section, which is the file's
abbrev pub one_top : TopTree → List Item → List Item
one_top d is = only (from_file d.origin) ∷ form d.form is

abbrev pub tops_of : Vec Definition Global → List TopTree
tops_of ds = map top_of ds.items

abbrev pub sections_of : Vec Section Global → List SectionTree
sections_of parts = map section_of parts.items

-- ---- files

-- What reading a file returns: the file; Syntax where the tokens are no phrase, and none up to a part at level 201;
-- Nesting where they are one up to such a part.
abbrev pub IsParsing : List Lexeme → Result File Fault → Type 0
IsParsing ts (Ok f) = OnlyPhrase ts (file_of f) × (TooNested ts → ⊥)
IsParsing ts (Err faults.Memory) = Unit {0}
IsParsing ts (Err (faults.Nesting _)) = TooNested ts
IsParsing ts (Err (faults.Syntax _)) = ((f : FileTree) → IsPhrase ts f → ⊥) × (TooNested ts → ⊥)
IsParsing ts (Err _) = ⊥
