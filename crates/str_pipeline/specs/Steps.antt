-- The headline does not rest on this file.
-- What the steps of a transformation return.
use Rattle.std.specs.Prelude.{◌≡◌, ◌⊎◌, ℕ, Bool, true, false, List, codes, Result, Ok, Err, Vec}
use Rattle.std.specs.Global.{Global}
use Rattle.term_model.specs.declared.fault.Fault.{Fault}
use Rattle.term_model.specs.declared.fault.Fault.TheVariants.{Memory, Read, Lexical, ReservedWord, Syntax, Nesting, TermUndeclared}
use Rattle.term_model.specs.Flat.{Meaning}
use Rattle.term_model.specs.PrimNames.{NameKey}
use Rattle.term_model.specs.Term.{Tree}
use Rattle.aterm_text.specs.Text.{text}
use Rattle.aterm_text.specs.ReadTerm.{IsReading}
use Rattle.core_lang.specs.Named.{Name, written}
use Rattle.core_lang.specs.Primitives.{AreOccurring}
use Rattle.core_lang.specs.Program.{Definitions}
use Rattle.core_lang.specs.Resolution.{ResolvesProgram}
use Rattle.core_lang.specs.Resolved.{ResolvedDefinitions}
use Rattle.core_lang.specs.Run.{IsOutcome}
use Rattle.core_lang.specs.declared.run.Outcome.{Outcome}
use Rattle.core_lang.specs.declared.run.Outcome.TheVariants as outcomes
use Rattle.str_lexer.specs.Lexes.{HoldsLeftOut}
use Rattle.str_syntax.specs.Trees.{FileTree}
use Rattle.signature_core.specs.Signature.{Declared, declarations_of}
use Rattle.signature_core.specs.DeclaredTerm.{term_is_declared}
use Rattle.strat_code.specs.CodeOf.{CodeParts, code_of}
use Rattle.strat_code.specs.StandsFor.{StandsFor}
use Rattle.strat_machine.specs.LoadedCode.{IsLoadedIn}
use Rattle.term_store.specs.StoredTerms.{stored_terms}
use Rattle.str_desugar.specs.FileProgram.{program_of_file}
use Rattle.str_pipeline.specs.Judged.{AreRefused, HasNoTokens, AreTooNested, HasNoPhrase, FailsChecks, PassesChecks}
use Rattle.str_pipeline.specs.Faults.{IsReadingFault, IsRefusal}
use Rattle.str_pipeline.specs.Setting.{Setting}
use Rattle.str_pipeline.specs.Written.{line_of, IsFirstFault, IsWritten}
use Rattle.str_pipeline.specs.declared.compiled.CompiledFile.{CompiledFile}
use Rattle.str_pipeline.specs.declared.program.Program.{Program}
use Rattle.str_pipeline.specs.declared.status.Status.{Status}
use Rattle.str_pipeline.specs.declared.status.Status.TheVariants.{Rewritten, Failed, Oversize, Spent}

-- a fault before anything is written: of memory, of reading, or a refusal
abbrev pub IsStop : Fault → Type 0
IsStop fault = IsReadingFault fault ⊎ IsRefusal fault

-- the code stands for a program over coordinates that the program of the file is resolved to, with the definition that
-- the options name as the one that is run, and its primitives are those that occur in that program
pub record IsCodeOf (S : Setting) (f : FileTree) (code : CodeParts) : Type 0 where
  pub core : ResolvedDefinitions
  pub main : ℕ
  pub stands : StandsFor (code_of code.tables code.instrs) core main
  pub occurring : AreOccurring code.prims core
  pub resolved : ResolvesProgram (program_of_file f) (written S.options.main.items) core main

-- the declarations and the code that were made are those of the file
pub record IsCompiledOf (S : Setting) (f : FileTree) (compiled : CompiledFile) : Type 0 where
  pub declared : compiled.checked.declarations ≡ declarations_of f
  pub code : IsCodeOf S f compiled.code

-- what compiling definitions returns
abbrev pub IsCompiled : Setting → List ℕ → Result CompiledFile Fault → Type 0
IsCompiled S defs (Ok compiled) = (f : FileTree) × PassesChecks S defs f × IsCompiledOf S f compiled
IsCompiled S defs (Err Memory) = Unit {0}
IsCompiled S defs (Err (Lexical at)) = HasNoTokens defs
IsCompiled S defs (Err (ReservedWord at)) = HoldsLeftOut defs
IsCompiled S defs (Err (Nesting at)) = AreTooNested defs
IsCompiled S defs (Err (Syntax at)) = HasNoPhrase defs
IsCompiled S defs (Err fault) = FailsChecks S defs fault

-- the declarations and the code of the program are those of the file
pub record IsProgramOf (S : Setting) (f : FileTree) (program : Program) : Type 0 where
  pub declared : program.signature ≡ declarations_of f
  pub code : IsCodeOf S f program.code

-- what making the program of definitions returns
abbrev pub IsProgram : Setting → List ℕ → Result Program Fault → Type 0
IsProgram S defs (Ok program) = (f : FileTree) × PassesChecks S defs f × IsProgramOf S f program
IsProgram S defs (Err fault) = IsCompiled S defs (Err fault)

-- the code of the program is loaded in its store, with the primitives of these keys
pub record IsReady (keys : List NameKey) (program : Program) : Type 0 where
  pub loaded : IsLoadedIn stored_terms program.space keys program.loaded program.code

-- what reading a term returns: in strict mode, one whose applications are among these declarations
abbrev pub IsTermRead : Bool → List Declared → List ℕ → Result Tree Fault → Type 0
IsTermRead strict ds text (Ok t) = IsReading text (Ok t) × (strict ≡ true → term_is_declared ds t ≡ true)
IsTermRead strict ds text (Err TermUndeclared) = (strict ≡ true) ×
    ((t : Tree) × IsReading text (Ok t) × (term_is_declared ds t ≡ false))
IsTermRead strict ds text (Err fault) = IsReading text (Err fault)

-- the outcome is that of each program that the code stands for
pub record IsOutcomeOf (M : Meaning) (code : CodeParts) (t : Tree) (budget : ℕ) (outcome : Outcome Tree) : Type 0 where
  pub each : (P : Definitions Name (List Name)) (main : Name) (C : ResolvedDefinitions) (i : ℕ) →
      StandsFor (code_of code.tables code.instrs) C i →
      AreOccurring code.prims C → ResolvesProgram P main C i → (n : ℕ) × IsOutcome M P main t budget outcome n

abbrev pub status_of : {R : Type 0} → Outcome R → Status
status_of (outcomes.Rewritten u) = Rewritten
status_of outcomes.Failed = Failed
status_of outcomes.Oversize = Oversize
status_of outcomes.Spent = Spent

abbrev pub outcome_line : Outcome Tree → List ℕ
outcome_line (outcomes.Rewritten u) = line_of (text u)
outcome_line outcomes.Failed = line_of (codes "#failed")
outcome_line outcomes.Oversize = line_of (codes "#oversize")
outcome_line outcomes.Spent = line_of (codes "#spent")

-- the line of an outcome that has the text of the term
abbrev pub text_line : Outcome (Vec ℕ Global) → List ℕ
text_line (outcomes.Rewritten bytes) = line_of bytes.items
text_line outcomes.Failed = line_of (codes "#failed")
text_line outcomes.Oversize = line_of (codes "#oversize")
text_line outcomes.Spent = line_of (codes "#spent")

-- the outcome has the text of the term in place of the term
pub record IsTextOf (told : Outcome (Vec ℕ Global)) (outcome : Outcome Tree) : Type 0 where
  pub status : status_of told ≡ status_of outcome
  pub line : text_line told ≡ outcome_line outcome

-- the outcome of each program that the code stands for, with the text of the term
pub record IsTextOfRun (M : Meaning) (code : CodeParts) (t : Tree) (budget : ℕ)
    (told : Outcome (Vec ℕ Global)) : Type 0 where
  pub outcome : Outcome Tree
  pub is_outcome : IsOutcomeOf M code t budget outcome
  pub is_text : IsTextOf told outcome

-- the outcome of each program that the code stands for, with the text of the term, comes in this number of rules
pub record IsRulesOfRun (M : Meaning) (code : CodeParts) (t : Tree) (budget : ℕ)
    (told : Outcome (Vec ℕ Global)) (rules : ℕ) : Type 0 where
  pub outcome : Outcome Tree
  pub each : (P : Definitions Name (List Name)) (main : Name) (C : ResolvedDefinitions) (i : ℕ) →
      StandsFor (code_of code.tables code.instrs) C i →
      AreOccurring code.prims C → ResolvesProgram P main C i → IsOutcome M P main t budget outcome rules
  pub is_text : IsTextOf told outcome

-- what is known of the definitions and the term by the outcome of a run, or by the fault in place of one
abbrev pub IsResult : List ℕ → List ℕ → Setting → Result (Outcome Tree) Fault → Type 0
IsResult defs term S (Ok outcome) = IsWritten defs term S (status_of outcome) (outcome_line outcome)
IsResult defs term S (Err Memory) = Unit {0}
IsResult defs term S (Err Read) = Unit {0}
IsResult defs term S (Err fault) = IsFirstFault defs term S fault

-- the same by an outcome that has the text of the term
abbrev pub IsTextResult : List ℕ → List ℕ → Setting → Result (Outcome (Vec ℕ Global)) Fault → Type 0
IsTextResult defs term S (Ok told) = IsWritten defs term S (status_of told) (text_line told)
IsTextResult defs term S (Err fault) = IsResult defs term S (Err fault)

-- if the definitions are refused, the result is the same whatever the text of the term is
abbrev pub DecidesResult : Setting → List ℕ → Result (Outcome (Vec ℕ Global)) Fault → Type 0
DecidesResult S defs result = (fault : Fault) → AreRefused S defs fault → (term : List ℕ) →
    IsTextResult defs term S result
