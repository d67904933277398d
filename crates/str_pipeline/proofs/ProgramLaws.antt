-- What lexing, parsing and the checks say of definitions.
use Rattle.std.proofs.Common.{◌≡◌, ◌⊎◌, List, ℕ, Vec, Global, Ok, Err, Some, None, inl, inr, arith, subst}
use Rattle.term_model.specs.declared.fault.Fault.{Fault}
use Rattle.term_model.specs.declared.fault.Fault.TheVariants as faults
use Rattle.core_lang.specs.Core.{CoreParts, program_of}
use Rattle.core_lang.specs.Named.{written}
use Rattle.core_lang.specs.Resolution.{ResolvesProgram}
use Rattle.str_lexer.specs.declared.token.Token.{Token}
use Rattle.str_lexer.specs.Lexing.{IsLexing}
use Rattle.str_syntax.specs.declared.definition.File.{File}
use Rattle.str_syntax.specs.Trees.{Bytes, FileTree}
use Rattle.str_syntax.specs.Views.{file_of}
use Rattle.str_parser.specs.Lexemes.{lexemes}
use Rattle.str_parser.specs.Parsing.{IsParsing}
use Rattle.str_parser.specs.Refusals.{fault_of}
use Rattle.str_parser.specs.declared.refusal.ParseRefusal.{ParseRefusal}
use Rattle.str_parser.specs.declared.refusal.ParseRefusal.TheVariants as refusals
use Rattle.scope_check.specs.Complaint.{first_fault}
use Rattle.str_desugar.specs.FileProgram.{program_of_file}
use Rattle.strategy_lib.specs.Library.{with_library}
use Rattle.str_pipeline.specs.Judged.{AreTokens, IsFile, FailsChecks, PassesChecks}
use Rattle.str_pipeline.specs.Setting.{Setting}
use Rattle.str_pipeline.specs.Steps.{IsCompiled}
use Rattle.str_pipeline.proofs.CheckLaws.{no_check_fault}

-- the tokens that were read
read_tokens : (text : List ℕ) (ts : Vec Token Global) → IsLexing text (Ok ts) → AreTokens text ts.items
read_tokens text ts (only, none) = record { only = only; none_left_out = none }

-- the file that they are
pub read_file : (text : List ℕ) (ts : Vec Token Global) (file : File) → IsLexing text (Ok ts) →
    IsParsing (lexemes text ts.items) (Ok file) →
    IsFile text (file_of file)
read_file text ts file lexed parsed = record {
  tokens = ts.items;
  are_tokens = read_tokens text ts lexed;
  not_nested = parsed.1;
  only_phrase = parsed.0;
}

-- bytes that are no tokens, or hold a word of a part that is left out
pub no_tokens : (S : Setting) (text : List ℕ) (fault : Fault) → IsLexing text (Err fault) →
    IsCompiled S text (Err fault)
no_tokens S text faults.Memory lexed = tt
no_tokens S text (faults.Lexical at) lexed = lexed
no_tokens S text (faults.ReservedWord at) lexed = lexed
no_tokens S text _ lexed = absurd lexed

-- tokens that are no file
pub no_file : (S : Setting) (text : List ℕ) (ts : Vec Token Global) (refusal : ParseRefusal) → IsLexing text (Ok ts) →
    IsParsing (lexemes text ts.items) (Err (fault_of refusal)) → IsCompiled S text (Err (fault_of refusal))
no_file S text ts refusals.Memory lexed parsed = tt
no_file S text ts (refusals.Syntax at _) lexed parsed =
    record { tokens = ts.items; are_tokens = read_tokens text ts lexed; not_nested = parsed.1; none = parsed.0 }
no_file S text ts (refusals.Nesting at) lexed parsed =
    record { tokens = ts.items; are_tokens = read_tokens text ts lexed; nested = parsed }

-- a file in which something is wrong with the library after it
fails : (S : Setting) (text : List ℕ) (file whole : File) (fault : Fault) → IsFile text (file_of file) →
    file_of whole ≡ with_library (file_of file) →
    first_fault S.has_primitive (file_of whole) S.options.main.items ≡ Some fault → FailsChecks S text fault
fails S text file whole fault is extended found = record {
  file = file_of file;
  is_file = is;
  fails = subst (λ (f : FileTree). first_fault S.has_primitive f S.options.main.items ≡ Some fault) extended found;
}

-- there is no program of it
refused : (S : Setting) (text : List ℕ) (fault : Fault) → FailsChecks S text fault → IsCompiled S text (Err fault)
refused S text faults.Memory bad = tt
refused S text (faults.Lexical at) bad = absurd (no_check_fault (faults.Lexical at) bad (λ numbered. omega arith))
refused S text (faults.ReservedWord at) bad =
    absurd (no_check_fault (faults.ReservedWord at) bad (λ numbered. omega arith))
refused S text (faults.Syntax at) bad = absurd (no_check_fault (faults.Syntax at) bad (λ numbered. omega arith))
refused S text (faults.Nesting at) bad = absurd (no_check_fault (faults.Nesting at) bad (λ numbered. omega arith))
refused S text _ bad = bad

no_memory : (S : Setting) (text : List ℕ) (fault : Fault) → fault ≡ faults.Memory → IsCompiled S text (Err fault)
no_memory S text fault is = rw is tt

-- what the checks refuse
pub not_passed : (S : Setting) (text : List ℕ) (ts : Vec Token Global) (file whole : File) (fault : Fault) →
    IsLexing text (Ok ts)
    → IsParsing (lexemes text ts.items) (Ok file) → file_of whole ≡ with_library (file_of file)
    → ((fault ≡ faults.Memory) ⊎ (first_fault S.has_primitive (file_of whole) S.options.main.items ≡ Some fault)) →
    IsCompiled S text (Err fault)
not_passed S text ts file whole fault lexed parsed extended (inl is) = no_memory S text fault is
not_passed S text ts file whole fault lexed parsed extended (inr found) =
    refused S text fault (fails S text file whole fault (read_file text ts file lexed parsed) extended found)

-- what they let pass
pub passed_file : (S : Setting) (text : List ℕ) (ts : Vec Token Global) (file whole : File) → IsLexing text (Ok ts)
    → IsParsing (lexemes text ts.items) (Ok file) → file_of whole ≡ with_library (file_of file)
    → first_fault S.has_primitive (file_of whole) S.options.main.items ≡ None → PassesChecks S text (file_of whole)
passed_file S text ts file whole lexed parsed extended none =
    record { file = file_of file; is_file = read_file text ts file lexed parsed; extended = extended; passes = none }

-- the program of a file that is this one, with the name of what is run
pub same_program : (checked file : File) (asked main : Bytes) (core : CoreParts) → checked ≡ file → asked ≡ main →
    ResolvesProgram (program_of_file (file_of checked)) (written asked) (program_of core) core.main →
    ResolvesProgram (program_of_file (file_of file)) (written main) (program_of core) core.main
same_program checked file asked main core is named resolved =
    let of_file = subst (λ (f : File). ResolvesProgram (program_of_file (file_of f)) (written asked) (program_of core)
    core.main) is resolved in
    subst (λ (x : Bytes). ResolvesProgram (program_of_file (file_of file)) (written x) (program_of core) core.main)
    named of_file
