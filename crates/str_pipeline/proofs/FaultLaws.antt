-- Groups of faults, by their numbers.
use Rattle.std.proofs.Common.{◌≡◌, ◌<◌, ◌≤◌, ℕ, Bool, List, Option, None, Some, Result, Ok, Err, arith, inl, inr, length, refl, subst, false}
use Rattle.std.specs.Prelude.{IfOk, IfSome}
use Rattle.term_model.specs.declared.fault.Fault.{Fault}
use Rattle.term_model.specs.declared.fault.Fault.TheVariants as faults
use Rattle.term_model.specs.Fault.{number_of}
use Rattle.signature_core.specs.Signature.{Declared}
use Rattle.str_pipeline.specs.Faults.{IsOfDefinitions, IsReadingFault, IsRefusal, is_read}
use Rattle.str_pipeline.specs.Judged.{AreRefused}
use Rattle.str_pipeline.specs.Verdict.{IsVerdict}
use Rattle.str_pipeline.specs.Limits.{max_definitions}
use Rattle.str_pipeline.specs.Setting.{Setting}
use Rattle.str_pipeline.specs.Steps.{IsStop, IsCompiled, IsTermRead}
use Rattle.str_pipeline.proofs.CheckLaws.{no_check_fault, check_fault_refuses}

-- a refusal is no fault of memory, reading or writing
pub no_low_refusal : (fault : Fault) → IsRefusal fault → number_of fault ≤ 3 → ⊥
no_low_refusal fault refusal low = omega arith

-- a stop of a greater number than those of memory and reading
pub is_refusal : (fault : Fault) → IsStop fault → 2 < number_of fault → IsRefusal fault
is_refusal fault (inl reading) high = absurd (omega arith)
is_refusal fault (inr refusal) high = refusal

-- one of those numbers
pub is_reading : (fault : Fault) → IsStop fault → number_of fault ≤ 2 → IsReadingFault fault
is_reading fault (inl reading) low = reading
is_reading fault (inr refusal) low = absurd (no_low_refusal fault refusal (omega arith))

pub is_no_read : (fault : Fault) → 2 < number_of fault → is_read fault ≡ false
is_no_read faults.Read high = absurd (omega arith)
is_no_read _ high = refl

-- the faults of reading a term
pub text_stops : (strict : Bool) (ds : List Declared) (text : List ℕ) (fault : Fault) →
    IsTermRead strict ds text (Err fault) → IsStop fault
text_stops strict ds text faults.Memory reading = inl (omega arith, omega arith)
text_stops strict ds text (faults.TermOversize at) reading = inr (omega arith, omega arith)
text_stops strict ds text (faults.TermSyntax at) reading = inr (omega arith, omega arith)
text_stops strict ds text faults.TermUndeclared reading = inr (omega arith, omega arith)
text_stops strict ds text _ reading = absurd reading

pub text_apart : (strict : Bool) (ds : List Declared) (text : List ℕ) (fault : Fault) →
    IsTermRead strict ds text (Err fault) → IsOfDefinitions fault → ⊥
text_apart strict ds text faults.Memory reading of_definitions = omega arith
text_apart strict ds text (faults.TermOversize at) reading of_definitions = omega arith
text_apart strict ds text (faults.TermSyntax at) reading of_definitions = omega arith
text_apart strict ds text faults.TermUndeclared reading of_definitions = omega arith
text_apart strict ds text _ reading of_definitions = absurd reading

pub text_no_read : (strict : Bool) (ds : List Declared) (text : List ℕ) (fault : Fault) →
    IsTermRead strict ds text (Err fault) → is_read fault ≡ false
text_no_read strict ds text faults.Read reading = absurd reading
text_no_read strict ds text _ reading = refl

-- those of reading the bytes of a device
pub reading_stops : (fault : Fault) → IsReadingFault fault → IsStop fault
reading_stops fault reading = inl reading

pub reading_apart : (fault : Fault) → IsReadingFault fault → IsOfDefinitions fault → ⊥
reading_apart fault reading of_definitions = omega arith

-- those of making a program of definitions
pub program_stops : (S : Setting) (defs : List ℕ) (fault : Fault) → IsCompiled S defs (Err fault) → IsStop fault
program_stops S defs faults.Memory made = inl (omega arith, omega arith)
program_stops S defs (faults.Lexical at) made = inr (omega arith, omega arith)
program_stops S defs (faults.ReservedWord at) made = inr (omega arith, omega arith)
program_stops S defs (faults.Syntax at) made = inr (omega arith, omega arith)
program_stops S defs (faults.Nesting at) made = inr (omega arith, omega arith)
program_stops S defs fault made = inr (check_fault_refuses fault made)

pub program_no_read : (S : Setting) (defs : List ℕ) (fault : Fault) → IsCompiled S defs (Err fault) →
    is_read fault ≡ false
program_no_read S defs faults.Read made = absurd (no_check_fault faults.Read made (λ numbered. omega arith))
program_no_read S defs _ made = refl

-- with such a fault, if it is not one of memory, definitions of this length are refused
pub program_refused : (S : Setting) (defs : List ℕ) (fault : Fault) → length defs ≤ max_definitions →
    2 < number_of fault → IsCompiled S defs (Err fault) → AreRefused S defs fault
program_refused S defs faults.Memory short high made = absurd (omega arith)
program_refused S defs faults.DefsTooLong short high made =
    absurd (no_check_fault faults.DefsTooLong made (λ numbered. omega arith))
program_refused S defs (faults.Lexical at) short high made = (short, made)
program_refused S defs (faults.ReservedWord at) short high made = (short, made)
program_refused S defs (faults.Syntax at) short high made = (short, made)
program_refused S defs (faults.Nesting at) short high made = (short, made)
program_refused S defs _ short high made = (short, made)

-- what is judged of a text is judged of what a reader told
pub verdict_told : (S : Setting) (told : Option (List ℕ)) (text : List ℕ) (verdict : Result (Option Fault) Fault) →
    IfSome told (λ bytes. text ≡ bytes) → IfOk verdict (IsVerdict S text) →
    IfOk verdict (λ v. IfSome told (λ bytes. IsVerdict S bytes v))
verdict_told S told text (Err fault) same judged = tt
verdict_told S None text (Ok v) same judged = tt
verdict_told S (Some bytes) text (Ok v) same judged = subst (λ (b : List ℕ). IsVerdict S b v) same judged

-- those of texts that are too long
pub long_definitions_stop : IsStop faults.DefsTooLong
long_definitions_stop = inr (omega arith, omega arith)

pub long_term_stops : IsStop faults.TermTooLong
long_term_stops = inr (omega arith, omega arith)

pub long_term_apart : IsOfDefinitions faults.TermTooLong → ⊥
long_term_apart of_definitions = omega arith
