-- What is written follows from the run of a program.
use Rattle.std.proofs.Common.{◌≡◌, ℕ, List, length, Vec, Global, ◌<◌, ◌≤◌, refl, Ok, inl, inr, ap, subst, arith}
use Rattle.term_model.specs.Term.{Tree}
use Rattle.core_lang.specs.declared.run.Outcome.{Outcome}
use Rattle.core_lang.specs.declared.run.Outcome.TheVariants.{Rewritten, Failed, Oversize, Spent}
use Rattle.core_lang.specs.Run.{IsOutcome}
use Rattle.str_syntax.specs.Trees.{FileTree}
use Rattle.str_desugar.specs.FileProgram.{program_of_file}
use Rattle.signature_core.specs.Signature.{Declared, declarations_of}
use Rattle.signature_core.specs.DeclaredTerm.{term_is_declared}
use Rattle.core_lang.specs.Named.{written}
use Rattle.std.specs.Prelude.{Option, None, Some, IfSome, IsErrAnd, Result, Err}
use Rattle.term_model.specs.declared.fault.Fault.{Fault}
use Rattle.term_model.specs.declared.fault.Fault.TheVariants as faults
use Rattle.str_pipeline.specs.declared.status.Status.TheVariants.{Refused}
use Rattle.str_pipeline.specs.Device.{Gains, GainsPrefix}
use Rattle.str_pipeline.specs.Limits.{max_definitions, max_term}
use Rattle.str_pipeline.specs.Setting.{Setting}
use Rattle.str_pipeline.specs.Judged.{AreAccepted, IsAccepted}
use Rattle.str_pipeline.specs.Faults.{IsReadingFault, IsRefusal, is_read_fault}
use Rattle.str_pipeline.specs.Steps.{IsCompiled, IsProgramOf, IsTextOfRun, IsTermRead, IsResult, IsTextResult, status_of, outcome_line, text_line}
use Rattle.str_pipeline.specs.declared.program.Program.{Program}
use Rattle.str_pipeline.specs.declared.status.Status.{Status}
use Rattle.std.specs.Prelude.{IfOk, OnOk, IsErrOf}
use Rattle.std.specs.Prelude.{true, false}
use Rattle.str_pipeline.specs.Written.{IsWritten, refusal_line, IsFirstFault, HasWritten, HasBegun}
use Rattle.str_pipeline.proofs.FaultLaws.{no_low_refusal}
use Rattle.str_pipeline.proofs.CheckLaws.{no_check_fault}

-- the line and the status of a run
pub run_written : (defs term : List ℕ) (S : Setting) (f : FileTree) (t : Tree) (outcome : Outcome Tree) (rules : ℕ)
    → AreAccepted S defs f → IsAccepted S.options.strict f term t
    → IsOutcome S.meaning (program_of_file f) (written S.options.main.items) t S.options.budget outcome rules
    → IsWritten defs term S (status_of outcome) (outcome_line outcome)
run_written defs term S f t (Rewritten u) rules file spelled (e, ending) =
    (f, t, file, spelled, (u, e, rules, ending.derived, ending.within, refl))
run_written defs term S f t Failed rules file spelled ending =
    (f, t, file, spelled, (rules, ending.derived, ending.within, refl))
run_written defs term S f t Oversize rules file spelled ending =
    (f, t, file, spelled, (rules, ending.derived, ending.within, refl))
run_written defs term S f t Spent rules file spelled (none, all) = (f, t, file, spelled, (none, refl))

-- what a run says of each file that the program is of
pub run_result : (S : Setting) (program : Program) (term : List ℕ) (t : Tree) (told : Outcome (Vec ℕ Global)) →
    length term ≤ max_term
    → IsTermRead S.options.strict program.signature term (Ok t)
    → IsTextOfRun S.meaning program.code t S.options.budget told
    → (defs : List ℕ) (f : FileTree) → AreAccepted S defs f → IsProgramOf S f program
    → IsTextResult defs term S (Ok told)
run_result S program term t told short (reading, declared) run defs f file of_file =
    let known : S.options.strict ≡ true → term_is_declared (declarations_of f) t ≡ true =
    λ strict. subst (λ (ds : List Declared). term_is_declared ds t ≡ true) of_file.declared (declared strict) in
    let code = of_file.code in
    let ended = run.is_outcome.each (program_of_file f) (written S.options.main.items)
    code.core code.main code.stands code.occurring code.resolved in
    rw (run.is_text.status, run.is_text.line)
    (run_written defs term S f t run.outcome ended.0 file ((short, reading), known) ended.1)

-- what a term that is refused says of each file that the program is of
pub term_fault : (S : Setting) (program : Program) (term : List ℕ) (fault : Fault) → length term ≤ max_term
    → IsTermRead S.options.strict program.signature term (Err fault)
    → (defs : List ℕ) (f : FileTree) → AreAccepted S defs f → IsProgramOf S f program
    → IsResult defs term S (Err fault)
term_fault S program term faults.Memory short reading defs f file of_file = tt
term_fault S program term (faults.TermOversize at) short reading defs f file of_file = inr (f, file, (short, reading))
term_fault S program term (faults.TermSyntax at) short reading defs f file of_file = inr (f, file, (short, reading))
term_fault S program term faults.TermUndeclared short (strict, (t, reading, undeclared)) defs f file of_file =
    let missing : term_is_declared (declarations_of f) t ≡ false =
    subst (λ (ds : List Declared). term_is_declared ds t ≡ false) of_file.declared undeclared in
    inr (f, file, (strict, record { tree = t; is_term = (short, reading); undeclared = missing }))
term_fault S program term _ short reading defs f file of_file = absurd reading

pub outcome_has_written : (old new : Option (List ℕ)) (o : Outcome (Vec ℕ Global)) (d t : List ℕ) (S : Setting) →
    Gains old new (text_line o)
    → IsTextResult d t S (Ok o) → HasWritten d t S (status_of o) old new
outcome_has_written old new o d t S gained result = record { line = text_line o; gained = gained; is_written = result }

pub outcome_has_begun : (old new : Option (List ℕ)) (o : Outcome (Vec ℕ Global)) (d t : List ℕ) (S : Setting) →
    GainsPrefix old new (text_line o)
    → IsTextResult d t S (Ok o) → HasBegun d t S old new
outcome_has_begun old new o d t S gained result =
    record { status = status_of o; line = text_line o; gained = gained; is_written = result }

first_fault : (d t : List ℕ) (S : Setting) (fault : Fault) → IsRefusal fault → IsResult d t S (Err fault) →
    IsFirstFault d t S fault
first_fault d t S faults.Memory refusal result = absurd (no_low_refusal faults.Memory refusal (omega arith))
first_fault d t S faults.Read refusal result = absurd (no_low_refusal faults.Read refusal (omega arith))
first_fault d t S _ refusal result = result

pub refusal_has_written : (old new : Option (List ℕ)) (fault : Fault) (d t : List ℕ) (S : Setting) →
    Gains old new (refusal_line fault) → IsRefusal fault
    → IsResult d t S (Err fault) → HasWritten d t S (Refused fault) old new
refusal_has_written old new fault d t S gained refusal result =
    record { line = refusal_line fault; gained = gained; is_written = (first_fault d t S fault refusal result, refl) }

pub refusal_has_begun : (old new : Option (List ℕ)) (fault : Fault) (d t : List ℕ) (S : Setting) →
    GainsPrefix old new (refusal_line fault) → IsRefusal fault
    → IsResult d t S (Err fault) → HasBegun d t S old new
refusal_has_begun old new fault d t S gained refusal result =
    record {
      status = Refused fault;
      line = refusal_line fault;
      gained = gained;
      is_written =
          (first_fault d t S fault refusal result, refl);
    }

-- what is known of the bytes that were read holds of the bytes that the readers show
pub of_told : (defs term : Option (List ℕ)) (d t : List ℕ) (X : List ℕ → List ℕ → Type 0) →
    IfSome defs (λ told. d ≡ told) → IfSome term (λ told. t ≡ told)
    → X d t → IfSome defs (λ d. IfSome term (λ t. X d t))
of_told None term d t X same_defs same_term known = tt
of_told (Some told) None d t X same_defs same_term known = tt
of_told (Some told) (Some text) d t X same_defs same_term known = rw (← same_defs, ← same_term) known

pub of_definitions : (defs : Option (List ℕ)) (d : List ℕ) (X : List ℕ → Type 0) →
    IfSome defs (λ told. d ≡ told) → X d → IfSome defs X
of_definitions None d X same known = tt
of_definitions (Some told) d X same known = rw (← same) known

-- the same where it holds whatever the term is
pub of_told_each : (defs term : Option (List ℕ)) (d : List ℕ) (X : List ℕ → List ℕ → Type 0) →
    IfSome defs (λ told. d ≡ told) → ((t : List ℕ) → X d t)
    → IfSome defs (λ d. IfSome term (λ t. X d t))
of_told_each None term d X same_defs known = tt
of_told_each (Some told) None d X same_defs known = tt
of_told_each (Some told) (Some text) d X same_defs known = rw (← same_defs) (known text)

-- the same where of the term only its length is known
pub of_told_long : (defs term : Option (List ℕ)) (d : List ℕ) (most : ℕ) (X : List ℕ → List ℕ → Type 0) →
    IfSome defs (λ told. d ≡ told)
    → IfSome term (λ told. most < length told) → ((t : List ℕ) → most < length t → X d t) →
    IfSome defs (λ d. IfSome term (λ t. X d t))
of_told_long None term d most X same_defs long known = tt
of_told_long (Some told) None d most X same_defs long known = tt
of_told_long (Some told) (Some text) d most X same_defs long known = rw (← same_defs) (known text long)

pub for_each_told : (told : Option (List ℕ)) (X : List ℕ → Type 0) → ((bytes : List ℕ) → X bytes) → IfSome told X
for_each_told None X known = tt
for_each_told (Some bytes) X known = known bytes

pub told_then : (told : Option (List ℕ)) (X Y : List ℕ → Type 0) → IfSome told X →
    ((bytes : List ℕ) → X bytes → Y bytes) → IfSome told Y
told_then None X Y known then = tt
told_then (Some bytes) X Y known then = then bytes known

-- a fault of the definitions is the first
pub program_fault : (defs term : List ℕ) (S : Setting) (fault : Fault) → length defs ≤ max_definitions →
    IsCompiled S defs (Err fault)
    → IsResult defs term S (Err fault)
program_fault defs term S faults.Memory short made = tt
program_fault defs term S (faults.Lexical at) short made = inl (short, made)
program_fault defs term S (faults.ReservedWord at) short made = inl (short, made)
program_fault defs term S (faults.Syntax at) short made = inl (short, made)
program_fault defs term S (faults.Nesting at) short made = inl (short, made)
program_fault defs term S faults.Read short made = tt
program_fault defs term S faults.DefsTooLong short made =
    absurd (no_check_fault faults.DefsTooLong made (λ numbered. omega arith))
program_fault defs term S _ short made = inl (short, made)

-- a fault of memory or of reading says nothing of definitions and term
pub reading_result : (d t : List ℕ) (S : Setting) (fault : Fault) → IsReadingFault fault → IsResult d t S (Err fault)
reading_result d t S faults.Memory reading = tt
reading_result d t S faults.Read reading = tt
reading_result d t S faults.Write reading = absurd (omega arith)
reading_result d t S faults.DefsTooLong reading = absurd (omega arith)
reading_result d t S (faults.Lexical at) reading = absurd (omega arith)
reading_result d t S (faults.ReservedWord at) reading = absurd (omega arith)
reading_result d t S (faults.Syntax at) reading = absurd (omega arith)
reading_result d t S (faults.Nesting at) reading = absurd (omega arith)
reading_result d t S faults.DuplicateDeclaration reading = absurd (omega arith)
reading_result d t S faults.Undeclared reading = absurd (omega arith)
reading_result d t S faults.Parameters reading = absurd (omega arith)
reading_result d t S faults.Clash reading = absurd (omega arith)
reading_result d t S faults.UnknownStrategy reading = absurd (omega arith)
reading_result d t S faults.NotBuildable reading = absurd (omega arith)
reading_result d t S faults.UnknownPrimitive reading = absurd (omega arith)
reading_result d t S faults.NoMain reading = absurd (omega arith)
reading_result d t S faults.TermTooLong reading = absurd (omega arith)
reading_result d t S (faults.TermSyntax at) reading = absurd (omega arith)
reading_result d t S (faults.TermOversize at) reading = absurd (omega arith)
reading_result d t S faults.TermUndeclared reading = absurd (omega arith)

-- a result that is this fault
pub passed : {A : Type 0} (result : Result A Fault) (fault : Fault) → IsErrAnd result (λ e. e ≡ fault) →
    result ≡ Err fault
passed (Ok x) fault is = absurd is
passed (Err e) fault is = ap (λ (f : Fault). Err f) is

-- what writing the line of a refusal returns
pub refusal_written : (r : Result Status Fault) (old new : Option (List ℕ)) (fault : Fault) →
    IfOk r (λ s. s ≡ Refused fault)
    → OnOk r (Gains old new (refusal_line fault)) → IsRefusal fault
    → IfOk r (λ s. (d t : List ℕ) (S : Setting) → IsResult d t S (Err fault) → HasWritten d t S s old new)
refusal_written (Ok s) old new fault is gained refusal =
    λ d t S known. rw is (refusal_has_written old new fault d t S gained refusal known)
refusal_written (Err e) old new fault is gained refusal = tt

pub refusal_status : (r : Result Status Fault) (fault : Fault) → IfOk r (λ s. s ≡ Refused fault) → IsRefusal fault
    → IfOk r (λ s. (s ≡ Refused fault) × IsRefusal fault)
refusal_status (Ok s) fault is refusal = (is, refusal)
refusal_status (Err e) fault is refusal = tt

-- what reads nothing ends with no fault of reading
pub writes_not_read : (r : Result Status Fault) → is_read_fault r ≡ false → IsErrOf r faults.Read → ⊥
writes_not_read r none is = let wrong : true ≡ false =
    subst (λ (x : Result Status Fault). is_read_fault x ≡ false) is none in cc
