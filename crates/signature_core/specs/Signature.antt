-- Declarations of constructors: which ones a file has, and what can be asked of them.
use Rattle.std.specs.Prelude.{ℕ, suc, Bool, ◌&&◌, ◌==◌, List, [], ◌∷◌, ◌++◌}
use Rattle.std.specs.List.{list_any}
use Rattle.str_syntax.specs.SameName.{same_name}
use Rattle.str_syntax.specs.SameSort.{same_sort, same_sorts}
use Rattle.str_syntax.specs.Trees.{Bytes, SortTree, SortTrees, no_sorts, more_sorts, DeclarationTree, constant, constructor, injection, SignatureTree, sorts, constructors, SectionTree, signature, rules, strategies, FileTree}

-- a declared constructor: its name, the sorts of its arguments, and the sort of what it makes
pub record Declared : Type 0 where
  pub name : Bytes
  pub arguments : SortTrees
  pub result : SortTree

-- how many sorts there are
abbrev pub number_of_sorts : SortTrees → ℕ
number_of_sorts no_sorts = 0
number_of_sorts (more_sorts _ more) = suc (number_of_sorts more)

-- with how many arguments the constructor is declared
abbrev pub arity_of : Declared → ℕ
arity_of d = number_of_sorts d.arguments

-- the names, the sorts of the arguments and the results are the same
abbrev pub same_declaration : Declared → Declared → Bool
same_declaration d e = (same_name d.name e.name && same_sorts d.arguments e.arguments) && same_sort d.result e.result

-- the declaration is among these
abbrev pub is_declared : List Declared → Declared → Bool
is_declared ds d = list_any (same_declaration d) ds

-- one of the declarations has this name
abbrev pub is_declared_name : List Declared → Bytes → Bool
is_declared_name ds f = list_any (λ d. same_name f d.name) ds

-- one of the declarations has this name and this number of arguments
abbrev pub arity_known : List Declared → Bytes → ℕ → Bool
arity_known ds f n = list_any (λ d. same_name f d.name && n == arity_of d) ds

-- what a declaration declares: a constant has no arguments, and an injection declares nothing
abbrev pub declarations_of_part : DeclarationTree → List Declared
declarations_of_part (constant c result) = record { name = c; arguments = no_sorts; result = result } ∷ []
declarations_of_part (constructor c arguments result) = record { name = c; arguments = arguments; result = result } ∷ []
declarations_of_part (injection _ _) = []

abbrev pub declarations_of_parts : List DeclarationTree → List Declared
declarations_of_parts [] = []
declarations_of_parts (part ∷ parts) = declarations_of_part part ++ declarations_of_parts parts

-- what the parts of signatures declare, in order
abbrev pub declarations_of_signature : List SignatureTree → List Declared
declarations_of_signature [] = []
declarations_of_signature (sorts _ ∷ parts) = declarations_of_signature parts
declarations_of_signature (constructors all ∷ parts) = declarations_of_parts all ++ declarations_of_signature parts

-- what the sections of a file declare, in order
abbrev pub declarations_of_sections : List SectionTree → List Declared
declarations_of_sections [] = []
declarations_of_sections (signature parts ∷ sections) =
    declarations_of_signature parts ++ declarations_of_sections sections
declarations_of_sections (rules _ ∷ sections) = declarations_of_sections sections
declarations_of_sections (strategies _ ∷ sections) = declarations_of_sections sections

abbrev pub declarations_of : FileTree → List Declared
declarations_of file = declarations_of_sections file.sections
