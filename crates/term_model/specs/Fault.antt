-- The refusals, with their numbers and words.
use Rattle.std.specs.Prelude.{ℕ, List, codes}
use Rattle.term_model.specs.declared.fault.Fault.{Fault}
use Rattle.term_model.specs.declared.fault.Fault.TheVariants.{Memory, Read, Write, DefsTooLong, Lexical, ReservedWord, Syntax, Nesting, DuplicateDeclaration, Undeclared, Parameters, Clash, UnknownStrategy, NotBuildable, UnknownPrimitive, NoMain, TermTooLong, TermSyntax, TermOversize, TermUndeclared}

-- each refusal has a number, from 1 to 20
abbrev pub number_of : Fault → ℕ
number_of Memory = 1
number_of Read = 2
number_of Write = 3
number_of DefsTooLong = 4
number_of (Lexical _) = 5
number_of (ReservedWord _) = 6
number_of (Syntax _) = 7
number_of (Nesting _) = 8
number_of DuplicateDeclaration = 9
number_of Undeclared = 10
number_of Parameters = 11
number_of Clash = 12
number_of UnknownStrategy = 13
number_of NotBuildable = 14
number_of UnknownPrimitive = 15
number_of NoMain = 16
number_of TermTooLong = 17
number_of (TermSyntax _) = 18
number_of (TermOversize _) = 19
number_of TermUndeclared = 20

-- and a word
abbrev pub word_of : Fault → List ℕ
word_of Memory = codes "Memory"
word_of Read = codes "Read"
word_of Write = codes "Write"
word_of DefsTooLong = codes "DefsTooLong"
word_of (Lexical _) = codes "Lexical"
word_of (ReservedWord _) = codes "ReservedWord"
word_of (Syntax _) = codes "Syntax"
word_of (Nesting _) = codes "Nesting"
word_of DuplicateDeclaration = codes "DuplicateDeclaration"
word_of Undeclared = codes "Undeclared"
word_of Parameters = codes "Parameters"
word_of Clash = codes "Clash"
word_of UnknownStrategy = codes "UnknownStrategy"
word_of NotBuildable = codes "NotBuildable"
word_of UnknownPrimitive = codes "UnknownPrimitive"
word_of NoMain = codes "NoMain"
word_of TermTooLong = codes "TermTooLong"
word_of (TermSyntax _) = codes "TermSyntax"
word_of (TermOversize _) = codes "TermOversize"
word_of TermUndeclared = codes "TermUndeclared"
