-- The program over names that a definition file is, by the constructors that the file itself declares.
use Rattle.core_lang.specs.Named.{NamedDefinitions}
use Rattle.signature_core.specs.Signature.{arity_known, declarations_of}
use Rattle.str_syntax.specs.Trees.{FileTree}
use Rattle.str_desugar.specs.Equations.{program_core}

abbrev pub program_of_file : FileTree → NamedDefinitions
program_of_file f = program_core (arity_known (declarations_of f)) f
